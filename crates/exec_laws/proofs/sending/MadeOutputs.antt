-- Each current key of a translation is made of the packet's, and each of its outputs goes out at a port: what every action
-- and every lookup keeps.
use Rattle.std.proofs.Common.{◌≡◌, ℕ, zero, suc, ◌+◌, ◌-◌, ◌*◌, ◌<◌, Bool, true, false, ◌==◌, nat_le, nat_lt, not, if◌then◌else◌, IsTrue, List, [], ◌∷◌, map, set, length, All, IfSome, Option, Some, None, ◌⊎◌, inl, inr, refl, sym, ◌∙◌, subst, arith}
use Rattle.std.specs.List.{list_all, list_any}
use Rattle.std.proofs.lemmas.Bool.{eq-eqb, and_parts, and_from}
use Rattle.std.proofs.lemmas.List.Elements.{All-nil, All-cons, All-append, All-contains, All-head, All-tail}
use Rattle.spec_keys.specs.declared.field_id.FieldId.{FieldId}
use Rattle.spec_keys.specs.declared.field_id.FieldId.TheVariants as field
use Rattle.spec_keys.specs.Fields.{place_of, field_count}
use Rattle.spec_keys.specs.Keys.{value_of, IsKey}
use Rattle.spec_actions.specs.declared.named_field.NamedField.{NamedField}
use Rattle.spec_actions.specs.declared.named_field.Prerequisite.TheVariants as needs
use Rattle.spec_actions.specs.declared.action.OfAction.{OfAction}
use Rattle.spec_actions.specs.declared.action.OfAction.TheVariants as of
use Rattle.spec_actions.specs.declared.action.DpAction.{DpAction}
use Rattle.spec_actions.specs.declared.action.DpAction.TheVariants as datapath
use Rattle.spec_actions.specs.Named.{named}
use Rattle.spec_actions.specs.Sound.{is_sound, AreSound}
use Rattle.spec_tables.specs.Rules.{Rule, winner}
use Rattle.spec_keys.specs.Protocols.{tag_bit, is_tag_type}
use Rattle.spec_xlate.specs.Tags.{pushed, is_full}
use Rattle.spec_xlate.specs.Needs.{is_met}
use Rattle.spec_xlate.specs.Commit.{commit}
use Rattle.spec_xlate.specs.Translation.{Switch, State, Mode, deepest, stopped, emit_all, committed, in_port_of, rising, is_other_port, other_ports, output, output_all, slice_of, slice_bits, with_current, in_field, written, written_bits, write, vid_bits, pcp_bits, pcp_unit, write_tag, lower_ttl, act, in_mode, run, visited, follow, with_lookups_left, enter, look, start, last_state}
use Rattle.spec_xlate.specs.Translation.Mode.{Going, ListEnded, Stopped}
use Rattle.table_laws.specs.Applied.{is_proper, HasProperTags}
use Rattle.table_laws.proofs.ProperLaws.{LookKeepsTags, act-proper, look-proper}
use Rattle.table_laws.proofs.MemberLaws.{Among, Among-filter, Among-sort_by, list_any_from-Among}
use Rattle.exec_laws.specs.Become.{HasTagTypes, KeyedOutput}
use Rattle.exec_laws.proofs.Tags.{either-tag}
use Rattle.table_laws.proofs.ActLaws.{writable}
use Rattle.table_laws.proofs.WinnerLaws.{winner-best}
use Rattle.table_laws.specs.Best.{IsBest}
use Rattle.exec_laws.proofs.sending.TagTypes.{AreTyped, to-HasTagTypes, of-HasTagTypes, popped-typed, pushed-typed, beside-typed, written-typed}
use Rattle.exec_laws.specs.Outputs.{outputs_at, output_at, act_outputs, in_mode_outputs, run_outputs, follow_outputs, enter_outputs, look_outputs, kept_outputs, translation_outputs}
use Rattle.exec_laws.specs.Made.{can_change, IsMadeOf, pushes_tags, PushTags, is_way_out}
use Rattle.exec_laws.proofs.sending.Emitted.{emit_all-keys}
use Rattle.exec_laws.proofs.sending.MadeKeys.{or-left, or-right, Fits, popped-fits, pushed-fits, written-fits, write-fits, ttl-fits}

-- An output at a port, of a key that is made of a packet's.
record IsSent (P : Type 0) (sw : Switch) (packet : List ℕ) (o : KeyedOutput) : Type 0 where
  key : P → IsMadeOf packet o.key
  proper : is_proper o.key ≡ true
  stays : (f : FieldId) → can_change packet f ≡ false → value_of o.key f ≡ value_of packet f
  port : is_way_out sw packet o.port ≡ true

-- A state whose keys have proper tags, the current one made of a packet's, under a premise: that what is pushed are tags.
record IsGood (P : Type 0) (packet : List ℕ) (s : State) : Type 0 where
  fits : Fits P packet s.current
  typed : P → AreTyped s.current
  proper : HasProperTags s

made : (P : Type 0) (packet : List ℕ) (s : State) → IsGood P packet s → P → IsMadeOf packet s.current
made P packet s h p = record {
  is_key = h.fits.is_key p;
  has_proper_tags = h.proper.current;
  has_tag_types = to-HasTagTypes s.current (h.typed p);
  others_stay = h.fits.others_stay;
}

-- the rule that is found is one of the rules
winner-All : (Q : Rule → Type 0) (rules : List Rule) (key : List ℕ) → All Q rules → IfSome (winner rules key) Q
winner-All Q rules key all = by (winner rules key) (winner-best rules key)
  where
    by : (w : Option Rule) → IfSome w (λ w. IsBest rules key w) → IfSome w Q
    by None best = tt
    by (Some w) best = All-contains Q rules w all best.is_rule

tag_type-lt : (number : ℕ) → is_tag_type number ≡ true → number < 65536
tag_type-lt number e = elim (either-tag number e) [ inl c ↦ omega arith | inr s ↦ omega arith ]

-- ---- ports

module _ (P : Type 0) (sw : Switch) (packet : List ℕ) where
  -- the ports of a list are ways out
  abbrev AreWaysOut : List ℕ → Type 0
  AreWaysOut ports = (n : ℕ) → Among n ports → is_way_out sw packet n ≡ true

  other-out : (key : List ℕ) (n : ℕ) → is_other_port sw key n ≡ true → is_way_out sw packet n ≡ true
  other-out key n e = or-right (n == in_port_of packet) (list_any (λ p. n == p) sw.ports) (and_parts (list_any (λ p. n == p) sw.ports) (not (n == in_port_of key)) e).0

  others-out : (key : List ℕ) → AreWaysOut (other_ports sw key)
  others-out key n m =
      let listed = Among-sort_by nat_lt n sw.ports (Among-filter (λ p. not (p == in_port_of key)) n (rising sw.ports) m).0 in
      or-right (n == in_port_of packet) (list_any (λ p. n == p) sw.ports) (list_any_from-Among (λ p. n == p) n sw.ports listed (eq-eqb n n refl))

  back-out : (s : State) → IsGood P packet s → AreWaysOut (in_port_of s.current ∷ [])
  back-out s h n (inl e) = or-left (n == in_port_of packet) (list_any (λ p. n == p) sw.ports) (eq-eqb n (in_port_of packet) (e ∙ h.fits.others_stay field.InPort refl))
  back-out s h n (inr m) = absurd m

  -- ---- outputs

  abbrev AreSent : List KeyedOutput → Type 0
  AreSent outputs = All (IsSent P sw packet) outputs

  none-sent : AreSent []
  none-sent = All-nil (IsSent P sw packet)

  ports-sent : (ports : List ℕ) (s : State) → IsGood P packet s → AreWaysOut ports → AreSent (outputs_at ports s)
  ports-sent [] s h out = none-sent
  ports-sent (p ∷ ports) s h out =
      All-cons (IsSent P sw packet) (record { key = s.current; port = p }) (outputs_at ports s) (record { key = made P packet s h; proper = h.proper.current; stays = h.fits.others_stay; port = out p (inl refl) })
      (ports-sent ports s h (λ n m. out n (inr m)))

  output-sent : (n : ℕ) (s : State) → IsGood P packet s → AreSent (output_at sw n s)
  output-sent n s h = at (is_other_port sw s.current n) refl
    where
      one : is_other_port sw s.current n ≡ true → AreWaysOut (n ∷ [])
      one e q (inl i) = subst (λ (z : ℕ). is_way_out sw packet z ≡ true) (sym i) (other-out s.current n e)
      one e q (inr m) = absurd m

      at : (t : Bool) → is_other_port sw s.current n ≡ t → AreSent (if t then outputs_at (n ∷ []) s else [])
      at true e = ports-sent (n ∷ []) s h (one e)
      at false e = none-sent

-- ---- the current key

emitted-current : (xs : List DpAction) (s : State) → (emit_all xs (committed s)).current ≡ s.current
unfolding committed
emitted-current xs s = (emit_all-keys xs (committed s)).0 ∙ (emit_all-keys (commit s.base s.current) s).0

output-current : (sw : Switch) (n : ℕ) (s : State) → (output sw n s).current ≡ s.current
unfolding output emit_all
output-current sw n s = at (is_other_port sw s.current n)
  where
    at : (t : Bool) → (if t then emit_all (map datapath.Output (n ∷ [])) (committed s) else s).current ≡ s.current
    at true = emitted-current (map datapath.Output (n ∷ [])) s
    at false = refl

output_all-current : (ports : List ℕ) (s : State) → (output_all ports s).current ≡ s.current
unfolding output_all
output_all-current [] s = refl
output_all-current (p ∷ ports) s = emitted-current (map datapath.Output (p ∷ ports)) s

module _ (P : Type 0) (packet : List ℕ) where
  stays : (s t : State) → t.current ≡ s.current → Fits P packet s.current → Fits P packet t.current
  stays s t e h = subst (Fits P packet) (sym e) h

  by : (t : Bool) (x y : State) → (t ≡ true → Fits P packet x.current) → Fits P packet y.current → Fits P packet (if t then x else y).current
  by true x y h k = h refl
  by false x y h k = k

  write-current : (n : NamedField) (v bits : ℕ) (s : State) → Fits P packet s.current → Fits P packet (write n v bits s).current
  unfolding write
  write-current n v bits s h =
      by (is_met (named n).write_needs s.current) (with_current (written (named n).field (in_field n v) (written_bits n bits) s.current) s) s
      (λ met. write-fits P packet n v bits s.current met h) h

  write_tag-current : (v bits : ℕ) (s : State) → bits + tag_bit < 65536 → Fits P packet s.current → Fits P packet (write_tag v bits s).current
  write_tag-current v bits s l h = written-fits P packet field.VlanTci (v + tag_bit) (bits + tag_bit) s.current refl l h

  ttl-current : (s : State) → is_met needs.Ip s.current ≡ true → Fits P packet s.current → Fits P packet (lower_ttl s).current
  ttl-current s met h =
      by (nat_le (value_of s.current field.NwTtl) 1) (record s { mode = ListEnded }) (with_current (set s.current (place_of field.NwTtl) (value_of s.current field.NwTtl - 1)) s)
      (λ e. h) (ttl-fits P packet s.current (value_of s.current field.NwTtl - 1) met (omega arith) h)

  -- ---- the types of tags

  module _ (s : State) (h : IsGood P packet s) where
    len : P → length s.current ≡ field_count
    len p = (h.fits.is_key p).fields

    typed-by : (t : Bool) (x y : State) → AreTyped x.current → AreTyped y.current → AreTyped (if t then x else y).current
    typed-by true x y a b = a
    typed-by false x y a b = b

    write-typed : (n : NamedField) (v bits : ℕ) → P → AreTyped (write n v bits s).current
    unfolding write
    write-typed n v bits p =
        typed-by (is_met (named n).write_needs s.current) (with_current (written (named n).field (in_field n v) (written_bits n bits) s.current) s) s
        (written-typed s.current (len p) (h.typed p) h.proper.current (named n).field (in_field n v) (written_bits n bits) (writable n bits)) (h.typed p)

    write_tag-typed : (v bits : ℕ) → P → AreTyped (write_tag v bits s).current
    write_tag-typed v bits p = written-typed s.current (len p) (h.typed p) h.proper.current field.VlanTci (v + tag_bit) (bits + tag_bit) (inr refl)

    ttl-typed : P → AreTyped (lower_ttl s).current
    ttl-typed p =
        typed-by (nat_le (value_of s.current field.NwTtl) 1) (record s { mode = ListEnded }) (with_current (set s.current (place_of field.NwTtl) (value_of s.current field.NwTtl - 1)) s)
        (h.typed p) (beside-typed s.current (len p) (h.typed p) (place_of field.NwTtl) (value_of s.current field.NwTtl - 1) refl)
    -- ---- actions and lookups

module _ (P : Type 0) (packet : List ℕ) where
  -- A lookup makes keys of the packet's, and puts them out at ports.
  unfoldable LookMakes : Switch → (ℕ → State → State) → (ℕ → State → List KeyedOutput) → Type 0
  LookMakes sw sub below = (table : ℕ) (s : State) → IsGood P packet s → IsGood P packet (sub table s) × AreSent P sw packet (below table s)

  module _ (sw : Switch) (sub : ℕ → State → State) (below : ℕ → State → List KeyedOutput) (keeps : LookKeepsTags sub) (makes : LookMakes sw sub below) (push : P → PushTags sw) where
    act-fits : (action : OfAction) (s : State) → (P → pushes_tags action ≡ true) → IsGood P packet s → Fits P packet (act sw sub action s).current
    unfolding act LookMakes emit_all
    act-fits (of.Output n) s pushes h = stays P packet s (output sw n s) (output-current sw n s) h.fits
    act-fits (of.OutputField slice) s pushes h = stays P packet s (output sw (slice_of s.current slice) s) (output-current sw (slice_of s.current slice) s) h.fits
    act-fits of.InPort s pushes h =
        let ports = map datapath.Output (in_port_of s.current ∷ []) in stays P packet s (emit_all ports (committed s)) (emitted-current ports s) h.fits
    act-fits of.All s pushes h = stays P packet s (output_all (other_ports sw s.current) s) (output_all-current (other_ports sw s.current) s) h.fits
    act-fits of.Flood s pushes h = stays P packet s (output_all (other_ports sw s.current) s) (output_all-current (other_ports sw s.current) s) h.fits
    act-fits (of.Resubmit table) s pushes h = (makes table s h).0.fits
    act-fits (of.Goto table) s pushes h = (makes table s h).0.fits
    act-fits (of.Set n value mask) s pushes h = write-current P packet n value mask s h.fits
    act-fits (of.Move source target) s pushes h = write-current P packet target.name _ (slice_bits target) s h.fits
    act-fits of.DecTtl s pushes h = by P packet (is_met needs.Ip s.current) (lower_ttl s) s (λ met. ttl-current P packet s met h.fits) h.fits
    act-fits (of.PushVlan tpid) s pushes h =
        by P packet (is_full s.current) (stopped s) (with_current (pushed tpid s.current) s) (λ e. h.fits) (pushed-fits P packet tpid s.current (λ p. tag_type-lt tpid (pushes p)) h.fits)
    act-fits of.PopVlan s pushes h = popped-fits P packet s.current h.fits
    act-fits (of.SetVid vid) s pushes h = write_tag-current P packet vid vid_bits s (omega arith) h.fits
    act-fits (of.SetPcp pcp) s pushes h = write_tag-current P packet (pcp * pcp_unit) pcp_bits s (omega arith) h.fits

    kept-typed : (s t : State) → t.current ≡ s.current → AreTyped s.current → AreTyped t.current
    kept-typed s t e h = subst AreTyped (sym e) h

    act-typed : (action : OfAction) (s : State) → (P → pushes_tags action ≡ true) → IsGood P packet s → P → AreTyped (act sw sub action s).current
    unfolding act LookMakes emit_all
    act-typed (of.Output n) s pushes h p = kept-typed s (output sw n s) (output-current sw n s) (h.typed p)
    act-typed (of.OutputField slice) s pushes h p = kept-typed s (output sw (slice_of s.current slice) s) (output-current sw (slice_of s.current slice) s) (h.typed p)
    act-typed of.InPort s pushes h p =
        let ports = map datapath.Output (in_port_of s.current ∷ []) in kept-typed s (emit_all ports (committed s)) (emitted-current ports s) (h.typed p)
    act-typed of.All s pushes h p = kept-typed s (output_all (other_ports sw s.current) s) (output_all-current (other_ports sw s.current) s) (h.typed p)
    act-typed of.Flood s pushes h p = kept-typed s (output_all (other_ports sw s.current) s) (output_all-current (other_ports sw s.current) s) (h.typed p)
    act-typed (of.Resubmit table) s pushes h p = (makes table s h).0.typed p
    act-typed (of.Goto table) s pushes h p = (makes table s h).0.typed p
    act-typed (of.Set n value mask) s pushes h p = write-typed P packet s h n value mask p
    act-typed (of.Move source target) s pushes h p = write-typed P packet s h target.name _ (slice_bits target) p
    act-typed of.DecTtl s pushes h p = typed-by P packet s h (is_met needs.Ip s.current) (lower_ttl s) s (ttl-typed P packet s h p) (h.typed p)
    act-typed (of.PushVlan tpid) s pushes h p =
        typed-by P packet s h (is_full s.current) (stopped s) (with_current (pushed tpid s.current) s) (h.typed p) (pushed-typed s.current (len P packet s h p) (h.typed p) tpid (pushes p))
    act-typed of.PopVlan s pushes h p = popped-typed s.current (len P packet s h p) (h.typed p)
    act-typed (of.SetVid vid) s pushes h p = write_tag-typed P packet s h vid vid_bits p
    act-typed (of.SetPcp pcp) s pushes h p = write_tag-typed P packet s h (pcp * pcp_unit) pcp_bits p

    act-good : (action : OfAction) (s : State) → (P → pushes_tags action ≡ true) → IsGood P packet s → IsGood P packet (act sw sub action s)
    act-good action s pushes h = record { fits = act-fits action s pushes h; typed = act-typed action s pushes h; proper = act-proper sw sub keeps action s h.proper }

    act-sent : (action : OfAction) (s : State) → IsGood P packet s → AreSent P sw packet (act_outputs sw below action s)
    unfolding act_outputs LookMakes
    act-sent (of.Output n) s h = output-sent P sw packet n s h
    act-sent (of.OutputField slice) s h = output-sent P sw packet (slice_of s.current slice) s h
    act-sent of.InPort s h = ports-sent P sw packet (in_port_of s.current ∷ []) s h (back-out P sw packet s h)
    act-sent of.All s h = ports-sent P sw packet (other_ports sw s.current) s h (others-out P sw packet s.current)
    act-sent of.Flood s h = ports-sent P sw packet (other_ports sw s.current) s h (others-out P sw packet s.current)
    act-sent (of.Resubmit table) s h = (makes table s h).1
    act-sent (of.Goto table) s h = (makes table s h).1
    act-sent (of.Set n value mask) s h = none-sent P sw packet
    act-sent (of.Move source target) s h = none-sent P sw packet
    act-sent of.DecTtl s h = none-sent P sw packet
    act-sent (of.PushVlan tpid) s h = none-sent P sw packet
    act-sent of.PopVlan s h = none-sent P sw packet
    act-sent (of.SetVid vid) s h = none-sent P sw packet
    act-sent (of.SetPcp pcp) s h = none-sent P sw packet

    run-makes : (actions : List OfAction) (s : State) → (P → list_all pushes_tags actions ≡ true) → IsGood P packet s → IsGood P packet (run sw sub actions s) × AreSent P sw packet (run_outputs sw sub below actions s)
    unfolding run run_outputs
    run-makes [] s pushes h = (h, none-sent P sw packet)
    run-makes (x ∷ actions) s pushes h =
        let good = act-good x s (λ p. (and_parts (pushes_tags x) (list_all pushes_tags actions) (pushes p)).0) h in
        let rest = at (act sw sub x s).mode (run-makes actions one (λ p. (and_parts (pushes_tags x) (list_all pushes_tags actions) (pushes p)).1) good) good in
        (rest.0, All-append (IsSent P sw packet) (act_outputs sw below x s) _ (act-sent x s h) rest.1)
      where
        one : State
        one = act sw sub x s

        at : (m : Mode) → IsGood P packet (run sw sub actions one) × AreSent P sw packet (run_outputs sw sub below actions one) → IsGood P packet one
            → IsGood P packet (in_mode m (run sw sub actions) one) × AreSent P sw packet (in_mode_outputs m (run_outputs sw sub below actions) one)
        at Going both good = both
        at ListEnded both good = (good, none-sent P sw packet)
        at Stopped both good = (good, none-sent P sw packet)

    follow-makes : (w : Option Rule) (s : State) → (P → IfSome w (λ r. IsTrue (list_all pushes_tags r.actions))) → IsGood P packet s → IsGood P packet (follow sw sub w s) × AreSent P sw packet (follow_outputs sw sub below w s)
    follow-makes None s pushes h = (h, none-sent P sw packet)
    follow-makes (Some r) s pushes h =
        let ran = run-makes r.actions (visited r s) pushes (record { fits = h.fits; typed = h.typed; proper = record { current = h.proper.current; base = h.proper.base } }) in
        (record { fits = ran.0.fits; typed = ran.0.typed; proper = record { current = ran.0.proper.current; base = ran.0.proper.base } }, ran.1)

    enter-makes : (table n : ℕ) (s : State) → IsGood P packet s → IsGood P packet (enter sw sub table n s) × AreSent P sw packet (enter_outputs sw sub below table n s)
    enter-makes table zero s h = (record { fits = h.fits; typed = h.typed; proper = record { current = h.proper.current; base = h.proper.base } }, none-sent P sw packet)
    enter-makes table (suc n) s h =
        follow-makes (winner (sw.tables table) s.current) (with_lookups_left n s) (λ p. winner-All (λ r. IsTrue (list_all pushes_tags r.actions)) (sw.tables table) s.current (push p table)) (record { fits = h.fits; typed = h.typed; proper = record { current = h.proper.current; base = h.proper.base } })

  look-makes : (sw : Switch) (push : P → PushTags sw) (depths : ℕ) → LookMakes sw (look sw depths) (look_outputs sw depths)
  unfolding look look_outputs LookMakes
  look-makes sw push zero = λ table s h. (record { fits = h.fits; typed = h.typed; proper = record { current = h.proper.current; base = h.proper.base } }, none-sent P sw packet)
  look-makes sw push (suc depths) =
      λ table s h. enter-makes sw (look sw depths) (look_outputs sw depths) (look-proper sw depths) (look-makes sw push depths) push table s.lookups_left s h

-- each output of a translation
outputs-sent : (P : Type 0) (sw : Switch) (key : List ℕ) → (P → PushTags sw) → (P → HasTagTypes key) → IsKey key → IsTrue (is_proper key) → AreSent P sw key (translation_outputs sw key)
unfolding translation_outputs LookMakes
outputs-sent P sw key push typed is proper = at (last_state sw key).mode
  where
    good : IsGood P key (start key)
    good = record { fits = record { is_key = λ p. is; others_stay = λ f no. refl }; typed = λ p. of-HasTagTypes key proper (typed p); proper = record { current = proper; base = proper } }

    both : AreSent P sw key (look_outputs sw (deepest + 1) 0 (start key))
    both = (look-makes P key sw push (deepest + 1) 0 (start key) good).1

    at : (m : Mode) → AreSent P sw key (kept_outputs m (look_outputs sw (deepest + 1) 0 (start key)))
    at Going = both
    at ListEnded = both
    at Stopped = none-sent P sw key

pub outputs-keys : (sw : Switch) (key : List ℕ) → PushTags sw → IsKey key → IsTrue (is_proper key) → HasTagTypes key → All (λ o. IsMadeOf key o.key) (translation_outputs sw key)
outputs-keys sw key push is proper typed = λ k d l. (outputs-sent (PushTags sw) sw key (λ p. p) (λ p. typed) is proper k d l).key push

pub outputs-proper : (sw : Switch) (key : List ℕ) → IsKey key → IsTrue (is_proper key) → All (λ o. IsTrue (is_proper o.key)) (translation_outputs sw key)
outputs-proper sw key is proper = λ k d l. (outputs-sent ⊥ sw key (λ p. absurd p) (λ p. absurd p) is proper k d l).proper

pub outputs-stay : (sw : Switch) (key : List ℕ) → IsKey key → IsTrue (is_proper key)
    → All (λ o. (f : FieldId) → can_change key f ≡ false → value_of o.key f ≡ value_of key f) (translation_outputs sw key)
outputs-stay sw key is proper = λ k d l. (outputs-sent ⊥ sw key (λ p. absurd p) (λ p. absurd p) is proper k d l).stays

pub outputs-ways : (sw : Switch) (key : List ℕ) → IsKey key → IsTrue (is_proper key) → All (λ o. IsTrue (is_way_out sw key o.port)) (translation_outputs sw key)
outputs-ways sw key is proper = λ k d l. (outputs-sent ⊥ sw key (λ p. absurd p) (λ p. absurd p) is proper k d l).port

-- ---- sound rules push tags

sound-pushes : (action : OfAction) → is_sound action ≡ true → pushes_tags action ≡ true
sound-pushes (of.PushVlan tpid) sound = sound
sound-pushes (of.Output n) sound = refl
sound-pushes action sound = refl

all-push : (actions : List OfAction) → list_all is_sound actions ≡ true → list_all pushes_tags actions ≡ true
all-push [] sound = refl
all-push (a ∷ actions) sound =
    let parts = and_parts (is_sound a) (list_all is_sound actions) sound in
    and_from (pushes_tags a) (list_all pushes_tags actions) (sound-pushes a parts.0) (all-push actions parts.1)

pub rules-push : (sw : Switch) → ((table : ℕ) → All (λ r. AreSound r.actions) (sw.tables table)) → PushTags sw
rules-push sw sound table = all-rules (sw.tables table) (sound table)
  where
    all-rules : (rules : List Rule) → All (λ r. AreSound r.actions) rules → All (λ r. IsTrue (list_all pushes_tags r.actions)) rules
    all-rules [] all = All-nil (λ (r : Rule). IsTrue (list_all pushes_tags r.actions))
    all-rules (r ∷ rules) all =
        All-cons (λ (r : Rule). IsTrue (list_all pushes_tags r.actions)) r rules (all-push r.actions (All-head (λ (r : Rule). AreSound r.actions) r rules all))
        (all-rules rules (All-tail (λ (r : Rule). AreSound r.actions) r rules all))
