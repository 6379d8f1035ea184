-- The bits that a translation consults are within the widths of the fields.
use Rattle.std.proofs.Common.{◌≡◌, ℕ, zero, suc, ◌+◌, ◌-◌, ◌^◌, ◌<◌, ◌≤◌, max, Bool, not, true, false, ◌&&◌, ◌||◌, ◌==◌, nat_le, nat_lt, if◌then◌else◌, List, [], ◌∷◌, ◌++◌, map, length, replicate, set, bit_and, Option, Some, None, ◌⊎◌, inl, inr, refl, sym, ap, ◌∙◌, subst, arith, eqb-true, lt_of_lt_of_le, lt_of_le_of_lt, le_trans, length-set, get_or-set_same, get_or-set_other}
use Rattle.std.specs.List.{list_all, list_any}
use Rattle.std.proofs.lemmas.Nat.{or_lt, pow_pos, and_le_l, pow-add}
use Rattle.std.proofs.Math.Pow.{pow-sub-lt}
use Rattle.std.proofs.Math.Nat.{pow-le-pow_right, mul-lt-mul_of_pos_right}
use Rattle.std.proofs.lemmas.Bool.Decides.{nat_tests}
use Rattle.spec_base.specs.Bits.{all_bits, leading_bits}
use Rattle.spec_keys.specs.declared.field_id.FieldId.{FieldId}
use Rattle.spec_keys.specs.declared.field_id.FieldId.TheVariants as field
use Rattle.spec_keys.specs.Fields.{place_of, width_of, widths, stages, field_count, register_fields}
use Rattle.spec_keys.specs.Keys.{number_at, value_of, joined, none, only_at, IsKey}
use Rattle.spec_actions.specs.declared.named_field.NamedField.{NamedField}
use Rattle.spec_actions.specs.declared.named_field.NamedField.TheVariants as name
use Rattle.spec_actions.specs.declared.named_field.Prerequisite.{Prerequisite}
use Rattle.spec_actions.specs.declared.named_field.Prerequisite.TheVariants as needs
use Rattle.spec_actions.specs.declared.action.Slice.{Slice}
use Rattle.spec_actions.specs.declared.action.OfAction.{OfAction}
use Rattle.spec_actions.specs.declared.action.OfAction.TheVariants.{Output, OutputField, InPort, All, Flood, Resubmit, Goto, Set, Move, DecTtl, PushVlan, PopVlan, SetVid, SetPcp}
use Rattle.spec_actions.specs.Named.{named, is_printed_alone}
use Rattle.spec_actions.specs.Sound.{is_sound, is_sound_slice, is_written, fits_name}
use Rattle.spec_tables.specs.Rules.{Rule, winner}
use Rattle.spec_xlate.specs.Tags.{tag_fields, is_tag_field}
use Rattle.spec_xlate.specs.Needs.{is_ip, is_met, fields_needed}
use Rattle.spec_xlate.specs.Translation.{Switch, State, Mode, deepest, in_field, slice_bits, written_bits, act, visited, with_lookups_left, look, start}
use Rattle.spec_xlate.specs.Translation.Mode.{Going, ListEnded, Stopped}
use Rattle.spec_keys.specs.Stages.{through, staged, metadata_stage, ethernet_stage, network_stage}
use Rattle.spec_xlate.specs.Lookup.{added, union, when, stage_test, some_agrees, prefix_test, prefix_tests, prefixes, prefix_length, some_begins, leading, tracked_fields, probe, priority_to_beat, rules_from, consults}
use Rattle.spec_xlate.specs.Consulted.{whole, bits_read, bits_written, slice_read, under, write_bits, act_bits, in_mode_bits, run_bits, follow_bits, enter_bits, look_bits, start_bits, without, consulted}
use Rattle.table_laws.proofs.KeyLaws.{number_at-joined}
use Rattle.table_laws.proofs.MemberLaws.{Among, Among-append, Among-filter, Among-flat_map}
use Rattle.table_laws.proofs.KeysAlike.{eqb-false, set-beyond}

-- ---- masks within the widths

pub record Fits (m : List ℕ) : Type 0 where
  pub short : length m ≤ field_count
  pub fit : (q : ℕ) → number_at m q < 2 ^ number_at widths q

abbrev AllFit : List (List ℕ) → Type 0
AllFit ms = (m : List ℕ) → Among m ms → Fits m

fits-zero : (q : ℕ) → 0 < 2 ^ number_at widths q
fits-zero q = pow_pos (number_at widths q)

length-joined : (m n : List ℕ) → length (joined m n) ≡ max (length m) (length n)
unfolding joined
length-joined [] n = omega arith
length-joined (a ∷ m) [] = omega arith
length-joined (a ∷ m) (b ∷ n) = let ih = length-joined m n in omega arith

joined-Fits : (m n : List ℕ) → Fits m → Fits n → Fits (joined m n)
joined-Fits m n h k = record {
  short = let l = length-joined m n in let x = h.short in let y = k.short in omega arith;
  fit = λ q. subst (λ (z : ℕ). z < 2 ^ number_at widths q) (sym (number_at-joined m n q)) (or_lt (number_at widths q) (number_at m q) (number_at n q) (h.fit q) (k.fit q));
}

added-Fits : (m : List ℕ) (ms : List (List ℕ)) → Fits m → AllFit ms → Fits (added m ms)
added-Fits m [] h k = h
added-Fits m (n ∷ ns) h k = added-Fits (joined m n) ns (joined-Fits m n h (k n (inl refl))) (λ x a. k x (inr a))

length-added : (m : List ℕ) (ms : List (List ℕ)) → length m ≤ length (added m ms)
length-added m [] = omega arith
length-added m (n ∷ ns) = let l = length-joined m n in let ih = length-added (joined m n) ns in omega arith

number_at-zeros : (n q : ℕ) → number_at (replicate n 0) q ≡ 0
number_at-zeros zero q = refl
number_at-zeros (suc n) zero = refl
number_at-zeros (suc n) (suc q) = number_at-zeros n q

none-Fits : Fits none
unfolding none
none-Fits = record { short = omega arith; fit = λ q. subst (λ (z : ℕ). z < 2 ^ number_at widths q) (sym (number_at-zeros field_count q)) (fits-zero q) }

union-IsKey : (ms : List (List ℕ)) → AllFit ms → IsKey (union ms)
unfolding none
union-IsKey ms h =
    let f = added-Fits none ms none-Fits h in
    let l : field_count ≤ length (union ms) = length-added none ms in
    record { fields = (let s = f.short in omega arith); fit = f.fit }

-- ---- the bits of one field

-- its width as its place has it
width-place : (f : FieldId) → width_of f ≡ number_at widths (place_of f)
unfolding widths
width-place field.InPort = refl
width-place f = refl

place-short : (f : FieldId) → suc (place_of f) ≤ field_count
place-short field.InPort = omega arith
place-short f = omega arith

length-only_at : (q bits : ℕ) → length (only_at q bits) ≡ suc q
unfolding only_at
length-only_at zero bits = refl
length-only_at (suc q) bits = ap suc (length-only_at q bits)

pub elsewhere_zero : (p q bits : ℕ) → (q ≡ p → ⊥) → number_at (only_at p bits) q ≡ 0
unfolding only_at
elsewhere_zero zero zero bits ne = absurd (ne refl)
elsewhere_zero zero (suc q) bits ne = refl
elsewhere_zero (suc p) zero bits ne = refl
elsewhere_zero (suc p) (suc q) bits ne = elsewhere_zero p q bits (λ e. ne (ap suc e))

number_at-only_at : (p bits : ℕ) → number_at (only_at p bits) p ≡ bits
unfolding only_at
number_at-only_at zero bits = refl
number_at-only_at (suc p) bits = number_at-only_at p bits

pub only_at-Fits : (f : FieldId) (bits : ℕ) → bits < 2 ^ width_of f → Fits (only_at (place_of f) bits)
only_at-Fits f bits l = record {
  short = subst (λ (z : ℕ). z ≤ field_count) (sym (length-only_at (place_of f) bits)) (place-short f);
  fit = λ q. at q (q == place_of f) refl;
}
  where
    at : (q : ℕ) (t : Bool) → (q == place_of f) ≡ t → number_at (only_at (place_of f) bits) q < 2 ^ number_at widths q
    at q true e =
        let i = eqb-true q (place_of f) e in
        subst (λ (z : ℕ). number_at (only_at (place_of f) bits) z < 2 ^ number_at widths z) (sym i)
        (subst (λ (z : ℕ). z < 2 ^ number_at widths (place_of f)) (sym (number_at-only_at (place_of f) bits)) (subst (λ (w : ℕ). bits < 2 ^ w) (width-place f) l))
    at q false e = subst (λ (z : ℕ). z < 2 ^ number_at widths q) (sym (elsewhere_zero (place_of f) q bits (eqb-false q (place_of f) e))) (fits-zero q)

whole-Fits : (f : FieldId) → Fits (whole f)
whole-Fits f = only_at-Fits f (all_bits (width_of f)) (pow-sub-lt (width_of f) (omega arith))

leading-Fits : (f : FieldId) (n : ℕ) → Fits (leading f n)
leading-Fits f n = only_at-Fits f (leading_bits (width_of f) n) (pow-sub-lt (width_of f) (pow_pos (width_of f - n)))

-- ---- lists of masks

none-AllFit : AllFit []
none-AllFit m h = absurd h

one-AllFit : (m : List ℕ) → Fits m → AllFit (m ∷ [])
one-AllFit m h n (inl e) = subst Fits (sym e) h
one-AllFit m h n (inr a) = absurd a

more-AllFit : (m : List ℕ) (ms : List (List ℕ)) → Fits m → AllFit ms → AllFit (m ∷ ms)
more-AllFit m ms h k n (inl e) = subst Fits (sym e) h
more-AllFit m ms h k n (inr a) = k n a

append-AllFit : (ms ns : List (List ℕ)) → AllFit ms → AllFit ns → AllFit (ms ++ ns)
append-AllFit ms ns h k m a = at (Among-append m ms ns a)
  where
    at : Among m ms ⊎ Among m ns → Fits m
    at (inl x) = h m x
    at (inr x) = k m x

when-AllFit : (t : Bool) (ms : List (List ℕ)) → AllFit ms → AllFit (when t ms)
when-AllFit true ms h = h
when-AllFit false ms h = none-AllFit

if-AllFit : (t : Bool) (ms ns : List (List ℕ)) → AllFit ms → AllFit ns → AllFit (if t then ms else ns)
if-AllFit true ms ns h k = h
if-AllFit false ms ns h k = k

wholes-AllFit : (fs : List FieldId) → AllFit (map whole fs)
wholes-AllFit [] = none-AllFit
wholes-AllFit (f ∷ fs) = more-AllFit (whole f) (map whole fs) (whole-Fits f) (wholes-AllFit fs)

-- ---- one lookup

length-through : (s : ℕ) (ts m : List ℕ) → length (through s ts m) ≤ length m
unfolding through
length-through s [] [] = omega arith
length-through s (t ∷ ts) [] = omega arith
length-through s [] (b ∷ bs) = omega arith
length-through s (t ∷ ts) (b ∷ bs) = let ih = length-through s ts bs in omega arith

number_at-through : (s : ℕ) (ts m : List ℕ) (q : ℕ) → number_at (through s ts m) q ≤ number_at m q
unfolding through
number_at-through s [] [] q = omega arith
number_at-through s (t ∷ ts) [] q = omega arith
number_at-through s [] (b ∷ bs) q = omega arith
number_at-through s (t ∷ ts) (b ∷ bs) zero = at (nat_le t s)
  where
    at : (u : Bool) → (if u then b else 0) ≤ b
    at true = omega arith
    at false = omega arith
number_at-through s (t ∷ ts) (b ∷ bs) (suc q) = number_at-through s ts bs q

staged-Fits : (s : ℕ) (m : List ℕ) → Fits m → Fits (staged s m)
staged-Fits s m h = record { short = le_trans (length-through s stages m) h.short; fit = λ q. lt_of_le_of_lt (number_at-through s stages m q) (h.fit q) }

stage-AllFit : (rules : List Rule) (key m : List ℕ) (s : ℕ) (further : List (List ℕ)) → Fits m → AllFit further
    → AllFit (stage_test rules key m s further)
stage-AllFit rules key m s further h k = more-AllFit (staged s m) _ (staged-Fits s m h) (when-AllFit (some_agrees rules key m (staged s m)) further k)

prefix-AllFit : (rules : List Rule) (key m : List ℕ) (f : FieldId) (further : List (List ℕ)) → AllFit further
    → AllFit (prefix_test rules key m f further)
prefix-AllFit rules key m f further k =
    if-AllFit (prefix_length (width_of f) (value_of m f) == 0) _ _ k
    (if-AllFit (some_begins (width_of f) (value_of key f) (prefix_length (width_of f) (value_of m f)) (prefixes f rules)) _ _
    (more-AllFit _ further (leading-Fits f (prefix_length (width_of f) (value_of m f))) k)
    (one-AllFit _ (leading-Fits f _)))

prefixes-AllFit : (rules : List Rule) (key m : List ℕ) (fs : List FieldId) (further : List (List ℕ)) → AllFit further
    → AllFit (prefix_tests rules key m fs further)
prefixes-AllFit rules key m [] further k = k
prefixes-AllFit rules key m (f ∷ fs) further k = prefix-AllFit rules key m f _ (prefixes-AllFit rules key m fs further k)

probe-AllFit : (rules : List Rule) (key m : List ℕ) → Fits m → AllFit (probe rules key m)
unfolding probe
probe-AllFit rules key m h =
    stage-AllFit rules key m metadata_stage _ h
    (stage-AllFit rules key m ethernet_stage _ h
    (prefixes-AllFit rules key m tracked_fields _
    (stage-AllFit rules key m network_stage _ h
    (one-AllFit m h))))

consults-AllFit : (rules : List Rule) (key : List ℕ) → ((r : Rule) → Among r rules → Fits r.matching.mask) → AllFit (consults rules key)
unfolding consults
consults-AllFit rules key h m a =
    let r = Among-flat_map (λ s. probe rules key s.matching.mask) m (rules_from (priority_to_beat (winner rules key)) rules) a in
    let in_rules = Among-filter (λ s. nat_le (priority_to_beat (winner rules key)) s.priority) r.0 rules r.1 in
    probe-AllFit rules key r.0.matching.mask (h r.0 in_rules.0) m r.2

-- ---- actions

-- the bits of a name lie within its field
names-fit : (n : NamedField) → (named n).bits + (named n).low ≤ width_of (named n).field
names-fit name.InPort = omega arith
names-fit n = omega arith

in_field-lt : (n : NamedField) (x : ℕ) → x < 2 ^ (named n).bits → in_field n x < 2 ^ width_of (named n).field
in_field-lt n x l =
    lt_of_lt_of_le (mul-lt-mul_of_pos_right l (pow_pos (named n).low))
    (subst (λ (z : ℕ). z ≤ 2 ^ width_of (named n).field) (pow-add 2 (named n).bits (named n).low) (pow-le-pow_right (omega arith) (names-fit n)))

and-true : (t u : Bool) → (t && u) ≡ true → (t ≡ true) × (u ≡ true)
and-true true u h = (refl, h)
and-true false u h = absurd (cc)

slice_bits-lt : (s : Slice) → is_sound_slice s ≡ true → slice_bits s < 2 ^ (named s.name).bits
slice_bits-lt s h =
    let parts = and-true (nat_le s.low s.high) (nat_lt s.high (named s.name).bits) (and-true (not (is_printed_alone s.name)) _ h).1 in
    let below : s.high + 1 ≤ (named s.name).bits = lt-le s.high (named s.name).bits parts.1 in
    lt_of_lt_of_le (pow-less (s.high + 1) s.low) (pow-le-pow_right (omega arith) below)
  where
    lt-le : (x y : ℕ) → nat_lt x y ≡ true → x + 1 ≤ y
    lt-le x y h = grind (arith, nat_tests)

    pow-less : (i j : ℕ) → 2 ^ i - 2 ^ j < 2 ^ i
    pow-less i j = pow-sub-lt i (pow_pos j)

bits_read-AllFit : (f : FieldId) (bits : ℕ) → bits < 2 ^ width_of f → AllFit (bits_read f bits)
bits_read-AllFit f bits l = if-AllFit (bits == 0) _ _ none-AllFit (at (is_tag_field f))
  where
    at : (t : Bool) → AllFit ((if t then whole f else only_at (place_of f) bits) ∷ [])
    at true = one-AllFit _ (whole-Fits f)
    at false = one-AllFit _ (only_at-Fits f bits l)

bits_written-AllFit : (f : FieldId) (bits : ℕ) → bits < 2 ^ width_of f → AllFit (bits_written f bits)
bits_written-AllFit f bits l = if-AllFit (bits == 0) _ _ none-AllFit (if-AllFit (is_tag_field f) _ _ (wholes-AllFit tag_fields) (one-AllFit _ (only_at-Fits f bits l)))

slice_read-AllFit : (s : Slice) → is_sound_slice s ≡ true → AllFit (slice_read s)
slice_read-AllFit s h = bits_read-AllFit (named s.name).field (in_field s.name (slice_bits s)) (in_field-lt s.name (slice_bits s) (slice_bits-lt s h))

under-AllFit : (need : Prerequisite) (key : List ℕ) (ms : List (List ℕ)) → AllFit ms → AllFit (under need key ms)
under-AllFit need key ms h = append-AllFit (map whole (fields_needed need)) _ (wholes-AllFit (fields_needed need)) (when-AllFit (is_met need key) ms h)

write_bits-AllFit : (n : NamedField) (bits : ℕ) (from : List (List ℕ)) (key : List ℕ) → bits < 2 ^ (named n).bits → AllFit from
    → AllFit (write_bits n bits from key)
write_bits-AllFit n bits from key l h =
    under-AllFit (named n).write_needs key (from ++ bits_written (named n).field (written_bits n bits))
    (append-AllFit from _ h (bits_written-AllFit (named n).field (written_bits n bits) (in_field-lt n (bit_and bits (named n).writable) (lt_of_le_of_lt (and_le_l bits (named n).writable) l))))

-- What a lookup consults is within the widths.
unfoldable LookFits : (ℕ → State → List (List ℕ)) → Type 0
LookFits bits = (table : ℕ) (s : State) → AllFit (bits table s)

act-AllFit : (bits : ℕ → State → List (List ℕ)) → LookFits bits → (x : OfAction) (s : State) → is_sound x ≡ true
    → AllFit (act_bits bits x s)
unfolding act_bits LookFits
act-AllFit bits fits (Output n) s h = none-AllFit
act-AllFit bits fits (OutputField slice) s h = slice_read-AllFit slice h
act-AllFit bits fits InPort s h = none-AllFit
act-AllFit bits fits All s h = none-AllFit
act-AllFit bits fits Flood s h = none-AllFit
act-AllFit bits fits (Resubmit table) s h = fits table s
act-AllFit bits fits (Goto table) s h = fits table s
act-AllFit bits fits (Set n value mask) s h =
    let parts = and-true (fits_name n value) (fits_name n mask) (and-true (is_written n) (fits_name n value && fits_name n mask) h).1 in
    write_bits-AllFit n mask [] s.current (lt mask (2 ^ (named n).bits) parts.1) none-AllFit
  where
    lt : (x y : ℕ) → nat_lt x y ≡ true → x < y
    lt x y h = grind (arith, nat_tests)
act-AllFit bits fits (Move source target) s h =
    let parts = and-true (is_sound_slice source) _ h in
    let more = and-true (is_sound_slice target) _ parts.1 in
    write_bits-AllFit target.name (slice_bits target) (slice_read source) s.current (slice_bits-lt target more.0) (slice_read-AllFit source parts.0)
act-AllFit bits fits DecTtl s h = under-AllFit needs.Ip s.current (whole field.NwTtl ∷ []) (one-AllFit _ (whole-Fits field.NwTtl))
act-AllFit bits fits (PushVlan tpid) s h = wholes-AllFit tag_fields
act-AllFit bits fits PopVlan s h = wholes-AllFit tag_fields
act-AllFit bits fits (SetVid vid) s h = wholes-AllFit tag_fields
act-AllFit bits fits (SetPcp pcp) s h = wholes-AllFit tag_fields

in_mode-AllFit : (m : Mode) (rest : State → List (List ℕ)) (s : State) → AllFit (rest s) → AllFit (in_mode_bits m rest s)
in_mode-AllFit Going rest s h = h
in_mode-AllFit ListEnded rest s h = none-AllFit
in_mode-AllFit Stopped rest s h = none-AllFit

run-AllFit : (sw : Switch) (sub : ℕ → State → State) (bits : ℕ → State → List (List ℕ)) → LookFits bits
    → (actions : List OfAction) (s : State) → list_all is_sound actions ≡ true → AllFit (run_bits sw sub bits actions s)
unfolding run_bits
run-AllFit sw sub bits fits [] s h = none-AllFit
run-AllFit sw sub bits fits (x ∷ actions) s h =
    let parts = and-true (is_sound x) (list_all is_sound actions) h in
    append-AllFit (act_bits bits x s) _ (act-AllFit bits fits x s parts.0) (in_mode-AllFit (act sw sub x s).mode (run_bits sw sub bits actions) (act sw sub x s) (run-AllFit sw sub bits fits actions (act sw sub x s) parts.1))

-- ---- a whole translation

module _ (sw : Switch) (masks : (table : ℕ) (r : Rule) → Among r (sw.tables table) → Fits r.matching.mask) (actions : (table : ℕ) (r : Rule) → Among r (sw.tables table) → list_all is_sound r.actions ≡ true)
    (is_rule : (table : ℕ) (key : List ℕ) (w : Rule) → winner (sw.tables table) key ≡ Some w → Among w (sw.tables table)) where
  enter-AllFit : (sub : ℕ → State → State) (bits : ℕ → State → List (List ℕ)) → LookFits bits → (table n : ℕ) (s : State)
      → AllFit (enter_bits sw sub bits table n s)
  enter-AllFit sub bits fits table zero s = none-AllFit
  enter-AllFit sub bits fits table (suc n) s =
      append-AllFit (consults (sw.tables table) s.current) _ (consults-AllFit (sw.tables table) s.current (masks table)) (follow (winner (sw.tables table) s.current) refl)
    where
      follow : (w : Option Rule) → winner (sw.tables table) s.current ≡ w → AllFit (follow_bits sw sub bits w (with_lookups_left n s))
      follow None e = none-AllFit
      follow (Some r) e = run-AllFit sw sub bits fits r.actions (visited r (with_lookups_left n s)) (actions table r (is_rule table s.current r e))

  look-AllFit : (depths : ℕ) → LookFits (look_bits sw depths)
  unfolding look_bits LookFits
  look-AllFit zero = λ table s. none-AllFit
  look-AllFit (suc depths) = λ table s. enter-AllFit (look sw depths) (look_bits sw depths) (look-AllFit depths) table s.lookups_left s

  all-AllFit : (key : List ℕ) → AllFit (start_bits key ++ look_bits sw (deepest + 1) 0 (start key))
  unfolding LookFits
  all-AllFit key = append-AllFit (start_bits key) _
      (more-AllFit (whole field.InPort) (whole field.DlType ∷ when (is_ip key) (whole field.IpFrag ∷ [])) (whole-Fits field.InPort)
      (more-AllFit (whole field.DlType) (when (is_ip key) (whole field.IpFrag ∷ [])) (whole-Fits field.DlType) (when-AllFit (is_ip key) (whole field.IpFrag ∷ []) (one-AllFit (whole field.IpFrag) (whole-Fits field.IpFrag)))))
      (look-AllFit (deepest + 1) 0 (start key))

-- ---- without the registers

set_zero : (m : List ℕ) (p q : ℕ) → number_at (set m p 0) q ≤ number_at m q
set_zero m p q = at (q == p) refl (either p (length m))
  where
    either : (x y : ℕ) → (x < y) ⊎ (y ≤ x)
    either x y = grind arith

    at : (t : Bool) → (q == p) ≡ t → (p < length m) ⊎ (length m ≤ p) → number_at (set m p 0) q ≤ number_at m q
    at true e (inl l) = let i = eqb-true q p e in let z = ap (number_at (set m p 0)) i ∙ get_or-set_same m p 0 0 l in omega arith
    at true e (inr l) = let z = ap (λ (y : List ℕ). number_at y q) (set-beyond m p 0 l) in omega arith
    at false e l = let z = get_or-set_other m p q 0 0 (eqb-false q p e) in omega arith

without-le : (fs : List FieldId) (m : List ℕ) (q : ℕ) → number_at (without fs m) q ≤ number_at m q
without-le [] m q = omega arith
without-le (f ∷ fs) m q = le_trans (without-le fs (set m (place_of f) 0) q) (set_zero m (place_of f) q)

length-without : (fs : List FieldId) (m : List ℕ) → length (without fs m) ≡ length m
length-without [] m = refl
length-without (f ∷ fs) m = length-without fs (set m (place_of f) 0) ∙ length-set m (place_of f) 0

set_zero-same : (m : List ℕ) (p : ℕ) → number_at (set m p 0) p ≡ 0
set_zero-same [] p = refl
set_zero-same (x ∷ m) zero = refl
set_zero-same (x ∷ m) (suc p) = set_zero-same m p

-- the fields that are taken away have no bits
pub without-none : (fs : List FieldId) (m : List ℕ) (q : ℕ) → list_any (λ f. q == place_of f) fs ≡ true → number_at (without fs m) q ≡ 0
without-none [] m q h = absurd (cc)
without-none (f ∷ fs) m q h = at (q == place_of f) refl h (without-none fs (set m (place_of f) 0) q)
  where
    at : (t : Bool) → (q == place_of f) ≡ t → (t || list_any (λ g. q == place_of g) fs) ≡ true
        → (list_any (λ g. q == place_of g) fs ≡ true → number_at (without fs (set m (place_of f) 0)) q ≡ 0)
        → number_at (without fs (set m (place_of f) 0)) q ≡ 0
    at true e h ih =
        let le = without-le fs (set m (place_of f) 0) q in
        let z = ap (number_at (set m (place_of f) 0)) (eqb-true q (place_of f) e) ∙ set_zero-same m (place_of f) in
        omega arith
    at false e h ih = ih h

pub without-IsKey : (fs : List FieldId) (m : List ℕ) → IsKey m → IsKey (without fs m)
without-IsKey fs m k = record { fields = length-without fs m ∙ k.fields; fit = λ q. lt_of_le_of_lt (without-le fs m q) (k.fit q) }

pub consulted-IsKey : (sw : Switch) (key : List ℕ) → ((table : ℕ) (r : Rule) → Among r (sw.tables table) → IsKey r.matching.mask)
    → ((table : ℕ) (r : Rule) → Among r (sw.tables table) → list_all is_sound r.actions ≡ true)
    → ((table : ℕ) (k : List ℕ) (w : Rule) → winner (sw.tables table) k ≡ Some w → Among w (sw.tables table)) → IsKey (consulted sw key)
unfolding consulted
consulted-IsKey sw key masks actions is_rule =
    without-IsKey register_fields _ (union-IsKey (start_bits key ++ look_bits sw (deepest + 1) 0 (start key)) (all-AllFit sw (λ table r a. let k = masks table r a in record { short = (let l = k.fields in omega arith); fit = k.fit }) actions is_rule key))
