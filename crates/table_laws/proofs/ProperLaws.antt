-- Every action keeps a vlan_tci that is 0 or that of a tag.
use Rattle.std.proofs.Common.{◌≡◌, ℕ, zero, suc, ◌+◌, ◌-◌, ◌*◌, ◌^◌, ◌<◌, ◌≤◌, Bool, true, false, ◌&&◌, ◌||◌, ◌==◌, nat_le, if◌then◌else◌, List, [], ◌∷◌, map, length, set, Option, Some, None, IsTrue, ◌⊎◌, inl, inr, refl, sym, ap, ap₂, ◌∙◌, arith, eqb-true, eq-eqb, length-set, get_or-set_same, get_or-set_other}
use Rattle.std.proofs.lemmas.Bool.{and_parts}
use Rattle.std.proofs.lemmas.List.{get_or_past}
use Rattle.spec_keys.specs.declared.field_id.FieldId.{FieldId}
use Rattle.spec_keys.specs.declared.field_id.FieldId.TheVariants as field
use Rattle.spec_keys.specs.Fields.{place_of}
use Rattle.spec_keys.specs.Keys.{number_at, value_of}
use Rattle.spec_actions.specs.declared.named_field.NamedField.{NamedField}
use Rattle.spec_actions.specs.declared.named_field.Prerequisite.TheVariants as needs
use Rattle.spec_actions.specs.declared.action.OfAction.{OfAction}
use Rattle.spec_actions.specs.declared.action.OfAction.TheVariants.{Output, OutputField, InPort, All, Flood, Resubmit, Goto, Set, Move, DecTtl, PushVlan, PopVlan, SetVid, SetPcp}
use Rattle.spec_actions.specs.declared.action.DpAction.{DpAction}
use Rattle.spec_actions.specs.declared.action.DpAction.TheVariants as datapath
use Rattle.spec_actions.specs.Named.{named}
use Rattle.spec_tables.specs.Rules.{Rule, winner}
use Rattle.spec_keys.specs.Protocols.{tag_bit}
use Rattle.spec_xlate.specs.Tags.{VlanTag, is_tag, is_tag_field, outer_tag, inner_tag, no_tag, is_same_tag, with_tags, popped, pushed, type_of_written, tagged, is_full}
use Rattle.spec_xlate.specs.Needs.{is_met}
use Rattle.spec_xlate.specs.Commit.{commit}
use Rattle.spec_base.specs.Bits.{merged}
use Rattle.spec_xlate.specs.Translation.{Switch, State, Mode, action_limit, emit, emit_all, committed, in_port_of, is_other_port, other_ports, output, output_all, slice_bits, slice_of, written, in_field, written_bits, write, vid_bits, pcp_bits, pcp_unit, write_tag, lower_ttl, act, in_mode, run, visited, follow, with_lookups_left, enter, look}
use Rattle.spec_xlate.specs.Translation.Mode.{Going, ListEnded, Stopped}
use Rattle.table_laws.specs.Applied.{is_tag_or_none, is_proper, HasProperTags}
use Rattle.table_laws.proofs.KeysAlike.{is_tag_place, set-beyond, eqb-false}
use Rattle.table_laws.proofs.ActLaws.{IsWritable, writable}

-- ---- keys

-- whether an outer and an inner tag are those of a proper key
abbrev are_proper : VlanTag → VlanTag → Bool
are_proper outer inner = if is_tag outer.tci then is_tag_or_none inner else is_same_tag outer no_tag && is_same_tag inner no_tag

abbrev tag : (tpid tci : ℕ) → VlanTag
tag tpid tci = record { tpid = tpid; tci = tci }

zero_tag : {tpid tci : ℕ} → tpid ≡ 0 → tci ≡ 0 → tag tpid tci ≡ no_tag
zero_tag e f = ap₂ tag e f

is_no_tag : (t : VlanTag) → is_same_tag t no_tag ≡ true → (t.tci ≡ 0) × (t.tpid ≡ 0)
is_no_tag t h = let parts = and_parts (t.tci == 0) (t.tpid == 0) h in (eqb-true t.tci 0 parts.0, eqb-true t.tpid 0 parts.1)

-- a number that was written, or 0 where there is no place for it
abbrev IsWrittenOr0 : ℕ → ℕ → Type 0
IsWrittenOr0 number written = (number ≡ written) ⊎ (number ≡ 0)

zero_or_0 : {number written : ℕ} → IsWrittenOr0 number written → written ≡ 0 → number ≡ 0
zero_or_0 (inl e) z = e ∙ z
zero_or_0 (inr e) z = e

-- tags of which the contents, and the types beside them, were written as far as there are places
written_tags-proper : (o i : VlanTag) (tpid tci tpid2 tci2 : ℕ) → are_proper o i ≡ true
    → ((tci ≡ o.tci) × IsWrittenOr0 tpid o.tpid) ⊎ (((tci ≡ 0) × (tpid ≡ 0)) × ((tci2 ≡ 0) × (tpid2 ≡ 0)))
    → ((tci2 ≡ i.tci) × IsWrittenOr0 tpid2 i.tpid) ⊎ ((tci2 ≡ 0) × (tpid2 ≡ 0))
    → are_proper (tag tpid tci) (tag tpid2 tci2) ≡ true
written_tags-proper o i tpid tci tpid2 tci2 ok (inr none) inner = ap₂ are_proper (zero_tag none.0.1 none.0.0) (zero_tag none.1.1 none.1.0)
written_tags-proper o i tpid tci tpid2 tci2 ok (inl outer) inner = at (is_tag o.tci) refl ok inner
  where
    inner_zero : ((tci2 ≡ i.tci) × IsWrittenOr0 tpid2 i.tpid) ⊎ ((tci2 ≡ 0) × (tpid2 ≡ 0)) → (i.tci ≡ 0) × (i.tpid ≡ 0) → tag tpid2 tci2 ≡ no_tag
    inner_zero (inl h) z = zero_tag (zero_or_0 h.1 z.1) (h.0 ∙ z.0)
    inner_zero (inr h) z = zero_tag h.1 h.0

    of_inner : (u : Bool) → is_tag i.tci ≡ u → (u || is_same_tag i no_tag) ≡ true → ((tci2 ≡ i.tci) × IsWrittenOr0 tpid2 i.tpid) ⊎ ((tci2 ≡ 0) × (tpid2 ≡ 0))
        → is_tag_or_none (tag tpid2 tci2) ≡ true
    of_inner true e h (inl w) = ap (λ (t : Bool). t || is_same_tag (tag tpid2 tci2) no_tag) (ap is_tag w.0 ∙ e)
    of_inner true e h (inr w) = ap is_tag_or_none (zero_tag w.1 w.0)
    of_inner false e h w = ap is_tag_or_none (inner_zero w (is_no_tag i h))

    at : (u : Bool) → is_tag o.tci ≡ u → (if u then is_tag_or_none i else is_same_tag o no_tag && is_same_tag i no_tag) ≡ true
        → ((tci2 ≡ i.tci) × IsWrittenOr0 tpid2 i.tpid) ⊎ ((tci2 ≡ 0) × (tpid2 ≡ 0)) → are_proper (tag tpid tci) (tag tpid2 tci2) ≡ true
    at true e h w =
        ap (λ (t : Bool). if t then is_tag_or_none (tag tpid2 tci2) else is_same_tag (tag tpid tci) no_tag && is_same_tag (tag tpid2 tci2) no_tag) (ap is_tag outer.0 ∙ e)
        ∙ of_inner (is_tag i.tci) refl h w
    at false e h w =
        let parts = and_parts (is_same_tag o no_tag) (is_same_tag i no_tag) h in
        let none = is_no_tag o parts.0 in
        ap₂ are_proper (zero_tag (zero_or_0 outer.1 none.1) (outer.0 ∙ none.0)) (inner_zero w (is_no_tag i parts.1))

-- a place after a write to it
written_at : (key : List ℕ) (p x : ℕ) → (number_at (set key p x) p ≡ x) ⊎ ((number_at (set key p x) p ≡ 0) × (length key ≤ p))
written_at key p x = at (either p (length key))
  where
    either : (m n : ℕ) → (m < n) ⊎ (n ≤ m)
    either m n = grind arith

    at : (p < length key) ⊎ (length key ≤ p) → (number_at (set key p x) p ≡ x) ⊎ ((number_at (set key p x) p ≡ 0) × (length key ≤ p))
    at (inl l) = inl (get_or-set_same key p x 0 l)
    at (inr l) = inr (ap (λ (z : List ℕ). number_at z p) (set-beyond key p x l) ∙ get_or_past key p 0 l, l)

with_tags-proper : (o i : VlanTag) (key : List ℕ) → are_proper o i ≡ true → IsTrue (is_proper (with_tags o i key))
with_tags-proper o i key ok = written_tags-proper o i _ _ _ _ ok (of_outer (written_at key (place_of field.VlanTci) o.tci)) of_inner
  where
    k1 : List ℕ
    k1 = set key (place_of field.VlanTci) o.tci

    k2 : List ℕ
    k2 = set k1 (place_of field.VlanTpid) o.tpid

    k3 : List ℕ
    k3 = set k2 (place_of field.VlanTci2) i.tci

    all : List ℕ
    all = with_tags o i key

    l1 : length k1 ≡ length key
    l1 = length-set key (place_of field.VlanTci) o.tci

    l2 : length k2 ≡ length key
    l2 = length-set k1 (place_of field.VlanTpid) o.tpid ∙ l1

    l3 : length k3 ≡ length key
    l3 = length-set k2 (place_of field.VlanTci2) i.tci ∙ l2

    apart : (l : List ℕ) (f g : FieldId) (x : ℕ) → (place_of g == place_of f) ≡ false → number_at (set l (place_of f) x) (place_of g) ≡ number_at l (place_of g)
    apart l f g x ne = get_or-set_other l (place_of f) (place_of g) x 0 (eqb-false _ _ ne)

    tci_is : value_of all field.VlanTci ≡ value_of k1 field.VlanTci
    tci_is = apart k3 field.VlanTpid2 field.VlanTci i.tpid refl ∙ (apart k2 field.VlanTci2 field.VlanTci i.tci refl ∙ apart k1 field.VlanTpid field.VlanTci o.tpid refl)

    tpid_is : value_of all field.VlanTpid ≡ value_of k2 field.VlanTpid
    tpid_is = apart k3 field.VlanTpid2 field.VlanTpid i.tpid refl ∙ apart k2 field.VlanTci2 field.VlanTpid i.tci refl

    tci2_is : value_of all field.VlanTci2 ≡ value_of k3 field.VlanTci2
    tci2_is = apart k3 field.VlanTpid2 field.VlanTci2 i.tpid refl

    past : (f : FieldId) → length key ≤ place_of f → value_of all f ≡ 0
    past f l = get_or_past all (place_of f) 0 (omega (arith, l, l3, length-set k3 (place_of field.VlanTpid2) i.tpid))

    of_tpid : (number_at k2 (place_of field.VlanTpid) ≡ o.tpid) ⊎ ((number_at k2 (place_of field.VlanTpid) ≡ 0) × (length k1 ≤ place_of field.VlanTpid)) → IsWrittenOr0 (value_of all field.VlanTpid) o.tpid
    of_tpid (inl h) = inl (tpid_is ∙ h)
    of_tpid (inr h) = inr (tpid_is ∙ h.0)

    of_tpid2 : (number_at all (place_of field.VlanTpid2) ≡ i.tpid) ⊎ ((number_at all (place_of field.VlanTpid2) ≡ 0) × (length k3 ≤ place_of field.VlanTpid2)) → IsWrittenOr0 (value_of all field.VlanTpid2) i.tpid
    of_tpid2 (inl h) = inl h
    of_tpid2 (inr h) = inr h.0

    of_outer : (number_at k1 (place_of field.VlanTci) ≡ o.tci) ⊎ ((number_at k1 (place_of field.VlanTci) ≡ 0) × (length key ≤ place_of field.VlanTci))
        → ((value_of all field.VlanTci ≡ o.tci) × IsWrittenOr0 (value_of all field.VlanTpid) o.tpid)
        ⊎ (((value_of all field.VlanTci ≡ 0) × (value_of all field.VlanTpid ≡ 0)) × ((value_of all field.VlanTci2 ≡ 0) × (value_of all field.VlanTpid2 ≡ 0)))
    of_outer (inl h) = inl (tci_is ∙ h, of_tpid (written_at k1 (place_of field.VlanTpid) o.tpid))
    of_outer (inr h) =
        inr ((past field.VlanTci h.1, past field.VlanTpid (omega (arith, h.1))), (past field.VlanTci2 (omega (arith, h.1)), past field.VlanTpid2 (omega (arith, h.1))))

    of_inner : ((value_of all field.VlanTci2 ≡ i.tci) × IsWrittenOr0 (value_of all field.VlanTpid2) i.tpid)
        ⊎ ((value_of all field.VlanTci2 ≡ 0) × (value_of all field.VlanTpid2 ≡ 0))
    of_inner = at (written_at k2 (place_of field.VlanTci2) i.tci)
      where
        at : (number_at k3 (place_of field.VlanTci2) ≡ i.tci) ⊎ ((number_at k3 (place_of field.VlanTci2) ≡ 0) × (length k2 ≤ place_of field.VlanTci2))
            → ((value_of all field.VlanTci2 ≡ i.tci) × IsWrittenOr0 (value_of all field.VlanTpid2) i.tpid)
            ⊎ ((value_of all field.VlanTci2 ≡ 0) × (value_of all field.VlanTpid2 ≡ 0))
        at (inl h) = inl (tci2_is ∙ h, of_tpid2 (written_at k3 (place_of field.VlanTpid2) i.tpid))
        at (inr h) = inr (tci2_is ∙ h.0, past field.VlanTpid2 (omega (arith, h.1, l2)))

-- either tag of a proper key is one, or all of it is 0
outer-proper : (o i : VlanTag) → are_proper o i ≡ true → is_tag_or_none o ≡ true
outer-proper o i = at (is_tag o.tci)
  where
    at : (u : Bool) → (if u then is_tag_or_none i else is_same_tag o no_tag && is_same_tag i no_tag) ≡ true → (u || is_same_tag o no_tag) ≡ true
    at true h = refl
    at false h = (and_parts (is_same_tag o no_tag) (is_same_tag i no_tag) h).0

inner-proper : (o i : VlanTag) → are_proper o i ≡ true → is_tag_or_none i ≡ true
inner-proper o i = at (is_tag o.tci)
  where
    none : (t : Bool) → is_same_tag i no_tag ≡ true → (t || is_same_tag i no_tag) ≡ true
    none true h = refl
    none false h = h

    at : (u : Bool) → (if u then is_tag_or_none i else is_same_tag o no_tag && is_same_tag i no_tag) ≡ true → is_tag_or_none i ≡ true
    at true h = h
    at false h = none (is_tag i.tci) (and_parts (is_same_tag o no_tag) (is_same_tag i no_tag) h).1

-- a tag that is one, around what may be one
around-proper : (o i : VlanTag) → is_tag o.tci ≡ true → is_tag_or_none i ≡ true → are_proper o i ≡ true
around-proper o i e h = ap (λ (t : Bool). if t then is_tag_or_none i else is_same_tag o no_tag && is_same_tag i no_tag) e ∙ h

popped-proper : (key : List ℕ) → IsTrue (is_proper key) → IsTrue (is_proper (popped key))
popped-proper key h = with_tags-proper (inner_tag key) no_tag key (at (is_tag (inner_tag key).tci) (inner-proper (outer_tag key) (inner_tag key) h))
  where
    at : (u : Bool) → (u || is_same_tag (inner_tag key) no_tag) ≡ true → (if u then true else is_same_tag (inner_tag key) no_tag && true) ≡ true
    at true h = refl
    at false h = ap (λ (t : Bool). t && true) h

pushed-proper : (tpid : ℕ) (key : List ℕ) → IsTrue (is_proper key) → IsTrue (is_proper (pushed tpid key))
pushed-proper tpid key h =
    with_tags-proper (tag tpid tag_bit) (outer_tag key) key (around-proper (tag tpid tag_bit) (outer_tag key) refl (outer-proper (outer_tag key) (inner_tag key) h))

tagged-proper : (tci : ℕ) (key : List ℕ) → IsTrue (is_proper key) → IsTrue (is_proper (tagged tci key))
tagged-proper tci key h = at (is_tag tci) refl
  where
    at : (u : Bool) → is_tag tci ≡ u
        → IsTrue (is_proper (if u then with_tags (record { tpid = type_of_written (outer_tag key).tpid; tci = tci }) (inner_tag key) key else popped key))
    at true e =
        with_tags-proper (tag (type_of_written (outer_tag key).tpid) tci) (inner_tag key) key
        (around-proper (tag (type_of_written (outer_tag key).tpid) tci) (inner_tag key) e (inner-proper (outer_tag key) (inner_tag key) h))
    at false e = popped-proper key h

-- a write elsewhere
beside-proper : (q x : ℕ) (key : List ℕ) → is_tag_place q ≡ false → IsTrue (is_proper key) → IsTrue (is_proper (set key q x))
beside-proper q x key away h =
    ap₂ are_proper (ap₂ tag (kept field.VlanTpid refl) (kept field.VlanTci refl)) (ap₂ tag (kept field.VlanTpid2 refl) (kept field.VlanTci2 refl)) ∙ h
  where
    kept : (f : FieldId) → is_tag_place (place_of f) ≡ true → value_of (set key q x) f ≡ value_of key f
    kept f there = get_or-set_other key q (place_of f) x 0 (λ e. let c : true ≡ false = sym there ∙ ap is_tag_place e ∙ away in absurd (cc))

written-proper : (f : FieldId) (v m : ℕ) (key : List ℕ) → IsWritable f m → IsTrue (is_proper key) → IsTrue (is_proper (written f v m key))
written-proper f v m key ok h = at (m == 0) refl (is_tag_field f) refl ok
  where
    at : (z : Bool) → (m == 0) ≡ z → (u : Bool) → is_tag_field f ≡ u → IsWritable f m
        → IsTrue (is_proper (if z then key else (if u then tagged (merged (value_of key f) v m) key else set key (place_of f) (merged (value_of key f) v m))))
    at true z u e ok = h
    at false z u e (inl none) = absurd (let n : false ≡ true = sym z ∙ eq-eqb m 0 none in cc)
    at false z true e (inr place) = tagged-proper (merged (value_of key f) v m) key h
    at false z false e (inr place) = beside-proper (place_of f) (merged (value_of key f) v m) key (sym place ∙ e) h

-- ---- states

if-proper : (t : Bool) (s s' : State) → HasProperTags s → HasProperTags s' → HasProperTags (if t then s else s')
if-proper true s s' h k = h
if-proper false s s' h k = k

emit-proper : (x : DpAction) (s : State) → HasProperTags s → HasProperTags (emit x s)
unfolding emit
emit-proper x s h = if-proper (length s.actions == action_limit) _ _ (record { current = h.current; base = h.base }) (record { current = h.current; base = h.base })

emit_all-proper : (xs : List DpAction) (s : State) → HasProperTags s → HasProperTags (emit_all xs s)
unfolding emit_all
emit_all-proper [] s h = h
emit_all-proper (x ∷ xs) s h = emit_all-proper xs (emit x s) (emit-proper x s h)

committed-proper : (s : State) → HasProperTags s → HasProperTags (committed s)
unfolding committed
committed-proper s h = let k = emit_all-proper (commit s.base s.current) s h in record { current = k.current; base = k.current }

output-proper : (sw : Switch) (n : ℕ) (s : State) → HasProperTags s → HasProperTags (output sw n s)
unfolding output
output-proper sw n s h = if-proper (is_other_port sw s.current n) _ _ (emit-proper (datapath.Output n) _ (committed-proper s h)) h

output_all-proper : (ps : List ℕ) (s : State) → HasProperTags s → HasProperTags (output_all ps s)
unfolding output_all
output_all-proper [] s h = h
output_all-proper (p ∷ ps) s h = emit_all-proper (map datapath.Output (p ∷ ps)) _ (committed-proper s h)

write-proper : (name : NamedField) (v bits : ℕ) (s : State) → HasProperTags s → HasProperTags (write name v bits s)
unfolding write
write-proper name v bits s h =
    if-proper (is_met (named name).write_needs s.current) _ _ (record { current = written-proper (named name).field (in_field name v) (written_bits name bits) s.current (writable name bits) h.current; base = h.base }) h

write_tag-proper : (v bits : ℕ) (s : State) → HasProperTags s → HasProperTags (write_tag v bits s)
write_tag-proper v bits s h = record { current = written-proper field.VlanTci (v + tag_bit) (bits + tag_bit) s.current (inr refl) h.current; base = h.base }

-- A lookup keeps them.
unfoldable pub LookKeepsTags : (ℕ → State → State) → Type 0
LookKeepsTags sub = (table : ℕ) (s : State) → HasProperTags s → HasProperTags (sub table s)

pub act-proper : (sw : Switch) (sub : ℕ → State → State) → LookKeepsTags sub → (action : OfAction) (s : State) → HasProperTags s
    → HasProperTags (act sw sub action s)
unfolding act LookKeepsTags
act-proper sw sub keeps (Output n) s h = output-proper sw n s h
act-proper sw sub keeps (OutputField slice) s h = output-proper sw (slice_of s.current slice) s h
act-proper sw sub keeps InPort s h = emit-proper (datapath.Output (in_port_of s.current)) _ (committed-proper s h)
act-proper sw sub keeps All s h = output_all-proper (other_ports sw s.current) s h
act-proper sw sub keeps Flood s h = output_all-proper (other_ports sw s.current) s h
act-proper sw sub keeps (Resubmit table) s h = keeps table s h
act-proper sw sub keeps (Goto table) s h = keeps table s h
act-proper sw sub keeps (Set name value mask) s h = write-proper name value mask s h
act-proper sw sub keeps (Move source target) s h = write-proper target.name (slice_of s.current source * 2 ^ target.low) (slice_bits target) s h
act-proper sw sub keeps DecTtl s h =
    if-proper (is_met needs.Ip s.current) (lower_ttl s) s
    (if-proper (nat_le (value_of s.current field.NwTtl) 1) _ _ (record { current = h.current; base = h.base })
    (record { current = beside-proper (place_of field.NwTtl) (value_of s.current field.NwTtl - 1) s.current refl h.current; base = h.base }))
    h
act-proper sw sub keeps (PushVlan tpid) s h =
    if-proper (is_full s.current) _ _ (record { current = h.current; base = h.base }) (record { current = pushed-proper tpid s.current h.current; base = h.base })
act-proper sw sub keeps PopVlan s h = record { current = popped-proper s.current h.current; base = h.base }
act-proper sw sub keeps (SetVid vid) s h = write_tag-proper vid vid_bits s h
act-proper sw sub keeps (SetPcp pcp) s h = write_tag-proper (pcp * pcp_unit) pcp_bits s h

in_mode-proper : (m : Mode) (rest : State → State) (s : State) → HasProperTags (rest s) → HasProperTags s → HasProperTags (in_mode m rest s)
in_mode-proper Going rest s k h = k
in_mode-proper ListEnded rest s k h = h
in_mode-proper Stopped rest s k h = h

run-proper : (sw : Switch) (sub : ℕ → State → State) → LookKeepsTags sub → (actions : List OfAction) (s : State) → HasProperTags s
    → HasProperTags (run sw sub actions s)
unfolding run
run-proper sw sub keeps [] s h = h
run-proper sw sub keeps (x ∷ actions) s h =
    let one = act-proper sw sub keeps x s h in
    in_mode-proper (act sw sub x s).mode (run sw sub actions) (act sw sub x s) (run-proper sw sub keeps actions (act sw sub x s) one) one

follow-proper : (sw : Switch) (sub : ℕ → State → State) → LookKeepsTags sub → (w : Option Rule) (s : State) → HasProperTags s
    → HasProperTags (follow sw sub w s)
follow-proper sw sub keeps None s h = h
follow-proper sw sub keeps (Some r) s h =
    let k = run-proper sw sub keeps r.actions (visited r s) (record { current = h.current; base = h.base }) in
    record { current = k.current; base = k.base }

enter-proper : (sw : Switch) (sub : ℕ → State → State) → LookKeepsTags sub → (table n : ℕ) (s : State) → HasProperTags s
    → HasProperTags (enter sw sub table n s)
enter-proper sw sub keeps table zero s h = record { current = h.current; base = h.base }
enter-proper sw sub keeps table (suc n) s h = follow-proper sw sub keeps (winner (sw.tables table) s.current) (with_lookups_left n s) (record { current = h.current; base = h.base })

pub look-proper : (sw : Switch) (depths : ℕ) → LookKeepsTags (look sw depths)
unfolding look LookKeepsTags
look-proper sw zero = λ table s h. record { current = h.current; base = h.base }
look-proper sw (suc depths) = λ table s h. enter-proper sw (look sw depths) (look-proper sw depths) table s.lookups_left s h
