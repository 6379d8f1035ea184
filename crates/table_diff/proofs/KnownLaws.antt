-- What is known of all packets that agree on a mask, after an action on each of them.
use Rattle.std.proofs.Common.{◌≡◌, ◌≢◌, ℕ, zero, suc, ◌+◌, ◌*◌, ◌%◌, ◌<◌, ◌≤◌, ◌^◌, min, Bool, true, false, ◌&&◌, not, ◌==◌, if◌then◌else◌, List, [], ◌∷◌, ◌++◌, length, map, set, bit_and, bit_or, ◌⊎◌, inl, inr, refl, sym, ap, ap₂, ◌∙◌, subst, arith, eq-eqb, eqb-true, length-set, get_or-set_same, get_or-set_other}
use Rattle.std.specs.Int.{bit_at}
use Rattle.std.specs.List.{list_all}
use Rattle.std.proofs.lemmas.Bool.{and_parts, cases_eq, cases_lt}
use Rattle.std.proofs.lemmas.Nat.{or_comm, and_or_self}
use Rattle.std.proofs.lemmas.Nat.Bits.{bit_at_and, bit_at-lt, bit_at-pow_same, same_from_bits}
use Rattle.spec_base.specs.Bits.{all_bits, merged}
use Rattle.spec_keys.specs.declared.field_id.FieldId.{FieldId}
use Rattle.spec_keys.specs.declared.field_id.FieldId.TheVariants as field
use Rattle.spec_keys.specs.Fields.{place_of, width_of, fields}
use Rattle.spec_keys.specs.Keys.{number_at, value_of, none, masked, joined, only_at, are_zero}
use Rattle.spec_actions.specs.declared.named_field.NamedField.{NamedField}
use Rattle.spec_actions.specs.declared.action.OfAction.{OfAction}
use Rattle.spec_actions.specs.declared.action.OfAction.TheVariants.{Set}
use Rattle.spec_actions.specs.Named.{named}
use Rattle.spec_xlate.specs.Needs.{is_met, fields_needed}
use Rattle.spec_xlate.specs.Tags.{tag_fields, is_tag_field, tagged}
use Rattle.spec_xlate.specs.Translation.{Switch, State, in_field, with_current, with_value, written, written_bits, write, act}
use Rattle.spec_xlate.specs.Lookup.{added, union, when}
use Rattle.spec_xlate.specs.Consulted.{whole, bits_written, act_bits}
use Rattle.table_laws.specs.Members.{Among}
use Rattle.table_laws.proofs.KeyLaws.{SameBits, and_zero, masked_from-places, places_from-masked, length_from-masked, number_at-only_at, number_at-joined, joined-left, joined-right}
use Rattle.table_laws.proofs.KeysAlike.{bit_at-merged, set-beyond, eqb-false}
use Rattle.xlate_pipeline.specs.Steps.{step_bits}
use Rattle.rule_changes.specs.Lockstep.{written_by, keeps}
use Rattle.rule_changes.proofs.KeptLaws.{number_at-none}
use Rattle.rule_changes.proofs.LockstepLaws.{act-kept}
use Rattle.spec_tools.specs.Classes.{leads}
use Rattle.table_diff.specs.Following.{writes, with_left, forgotten}
use Rattle.table_diff.proofs.BitLaws.{number_at-only_at_other, same-only_at, joined-both}

-- ---- bits of either of two numbers

or_zero : (x y : ℕ) → bit_or x y ≡ 0 → (x ≡ 0) × (y ≡ 0)
or_zero x y e = (left x y e, left y x (or_comm y x ∙ e))
  where
    left : (u v : ℕ) → bit_or u v ≡ 0 → u ≡ 0
    left u v h = sym (and_or_self u v) ∙ ap (λ (z : ℕ). bit_and z u) (or_comm v u ∙ h)

-- a bit of a number by itself
bit_from-pow : (x y i : ℕ) → bit_and x (2 ^ i) ≡ bit_and y (2 ^ i) → bit_at x i ≡ bit_at y i
bit_from-pow x y i e = alone x ∙ ap (λ (z : ℕ). bit_at z i) e ∙ sym (alone y)
  where
    least : (b : ℕ) → b < 2 → min b 1 ≡ b
    least b l = omega arith

    alone : (z : ℕ) → bit_at z i ≡ bit_at (bit_and z (2 ^ i)) i
    alone z = sym (bit_at_and z (2 ^ i) i ∙ ap (min (bit_at z i)) (bit_at-pow_same i) ∙ least (bit_at z i) (bit_at-lt z i))

-- ---- fields that masks have whole

whole-some : (f : FieldId) → (all_bits (width_of f) == 0) ≡ false
whole-some field.InPort = refl
whole-some f = refl

-- a mask with fields added has these, and what it had
pub added-none : (m : List ℕ) (fs : List FieldId) (q : ℕ) → number_at (added m (map whole fs)) q ≡ 0
    → (number_at m q ≡ 0) × ((f : FieldId) → Among f fs → place_of f ≢ q)
added-none m [] q none_ = (none_, λ f among same. absurd among)
added-none m (f ∷ fs) q none_ =
    let rest = added-none (joined m (whole f)) fs q none_ in
    let parts = or_zero (number_at m q) (number_at (whole f) q) (sym (number_at-joined m (whole f) q) ∙ rest.0) in
    (parts.0, λ g among same. elsewhere rest.1 parts.1 g among same)
  where
    elsewhere : ((g : FieldId) → Among g fs → place_of g ≢ q) → number_at (whole f) q ≡ 0 → (g : FieldId) → Among g (f ∷ fs) → place_of g ≢ q
    elsewhere rest here g (inr among) same = rest g among same
    elsewhere rest here g (inl is) same =
        let at : place_of f ≡ q = ap place_of (sym is) ∙ same in
        let zero_ : all_bits (width_of f) ≡ 0 =
        sym (number_at-only_at (place_of f) (all_bits (width_of f))) ∙ ap (number_at (whole f)) at ∙ here in
        let clash : false ≡ true = sym (whole-some f) ∙ eq-eqb (all_bits (width_of f)) 0 zero_ in
        cc

-- ---- what is left of what is known

-- keys that agree on what is known agree on what is left of it
left-same : (a b known written : List ℕ) → length b ≡ length a → masked a known ≡ masked b known → (fs : List FieldId) (part : List ℕ)
    → masked a part ≡ masked b part → masked a (with_left known written fs part) ≡ masked b (with_left known written fs part)
unfolding with_left
left-same a b known written l e [] part h = h
left-same a b known written l e (f ∷ fs) part h =
    left-same a b known written l e fs (if value_of written f == 0 then joined part (only_at (place_of f) (value_of known f)) else part) (at (value_of written f == 0))
  where
    more : masked a (joined part (only_at (place_of f) (value_of known f))) ≡ masked b (joined part (only_at (place_of f) (value_of known f)))
    more = joined-both a b part (only_at (place_of f) (value_of known f)) l h (same-only_at a b (place_of f) (value_of known f) l (places_from-masked a b known (place_of f) e))

    at : (t : Bool) → masked a (if t then joined part (only_at (place_of f) (value_of known f)) else part) ≡ masked b (if t then joined part (only_at (place_of f) (value_of known f)) else part)
    at true = more
    at false = h

-- nothing is left where something was written
left-none : (known written : List ℕ) (q : ℕ) → number_at written q ≢ 0 → (fs : List FieldId) (part : List ℕ)
    → number_at (with_left known written fs part) q ≡ number_at part q
unfolding with_left
left-none known written q some [] part = refl
left-none known written q some (f ∷ fs) part =
    left-none known written q some fs (if value_of written f == 0 then joined part (only_at (place_of f) (value_of known f)) else part) ∙ at (value_of written f == 0) refl
  where
    at : (t : Bool) → (value_of written f == 0) ≡ t → number_at (if t then joined part (only_at (place_of f) (value_of known f)) else part) q ≡ number_at part q
    at true e =
        let elsewhere : q ≢ place_of f = λ (same : q ≡ place_of f). some (ap (number_at written) same ∙ eqb-true (value_of written f) 0 e) in
        number_at-joined part (only_at (place_of f) (value_of known f)) q
        ∙ ap (bit_or (number_at part q)) (number_at-only_at_other (place_of f) (value_of known f) q elsewhere)
        ∙ sym (or_comm 0 (number_at part q))
    at false e = refl

-- the fields that an action writes are forgotten
pub forgotten-zero : (action : OfAction) (known : List ℕ) → keeps (forgotten action known) action ≡ true
forgotten-zero action known = all (written_by action) (λ f among. among)
  where
    here : (f : FieldId) → Among f (written_by action) → (value_of (forgotten action known) f == 0) ≡ true
    here f among =
        let written = union (writes action) in
        let some : number_at written (place_of f) ≢ 0 =
        λ (z : number_at written (place_of f) ≡ 0). (added-none none (written_by action) (place_of f) z).1 f among refl in
        eq-eqb (value_of (forgotten action known) f) 0 (left-none known written (place_of f) some fields none ∙ number_at-none (place_of f))

    all : (fs : List FieldId) → ((f : FieldId) → Among f fs → Among f (written_by action)) → are_zero fs (forgotten action known) ≡ true
    all [] among = refl
    all (f ∷ fs) among = ap₂ (λ (x y : Bool). x && y) (here f (among f (inl refl))) (all fs (λ g m. among g (inr m)))

none-same : (a b : List ℕ) → length b ≡ length a → masked a none ≡ masked b none
none-same a b l = masked_from-places a b none l (λ q. ap (bit_and (number_at a q)) (number_at-none q) ∙ zeros (number_at a q) (number_at b q) ∙ sym (ap (bit_and (number_at b q)) (number_at-none q)))
  where
    zeros : (x y : ℕ) → bit_and x 0 ≡ bit_and y 0
    zeros x y = and_zero x ∙ sym (and_zero y)

-- what is left of what was known is known after an action
pub forgotten-known : (sw : Switch) (sub : ℕ → State → State) (action : OfAction) → leads action ≡ false → (s t : State) (known : List ℕ)
    → masked s.current known ≡ masked t.current known
    → masked (act sw sub action s).current (forgotten action known) ≡ masked (act sw sub action t).current (forgotten action known)
forgotten-known sw sub action plain s t known e =
    let left = forgotten action known in
    let l = length_from-masked s.current t.current known e in
    act-kept left sw sub action plain (forgotten-zero action known) s
    ∙ left-same s.current t.current known (union (writes action)) l e fields none (none-same s.current t.current l)
    ∙ sym (act-kept left sw sub action plain (forgotten-zero action known) t)

-- ---- fields that no action wrote

-- a number of a key stays where no action wrote
pub untouched-stays : (sw : Switch) (sub : ℕ → State → State) (action : OfAction) → leads action ≡ false → (s : State) (touched : List ℕ) (q : ℕ)
    → number_at (added touched (writes action)) q ≡ 0 → (number_at touched q ≡ 0) × (number_at (act sw sub action s).current q ≡ number_at s.current q)
untouched-stays sw sub action plain s touched q none_ = (parts.0, same_from_bits _ _ bit)
  where
    parts : (number_at touched q ≡ 0) × ((f : FieldId) → Among f (written_by action) → place_of f ≢ q)
    parts = added-none touched (written_by action) q none_

    apart : (i : ℕ) (fs : List FieldId) → ((f : FieldId) → Among f fs → place_of f ≢ q) → are_zero fs (only_at q (2 ^ i)) ≡ true
    apart i [] other = refl
    apart i (f ∷ fs) other =
        ap₂ (λ (x y : Bool). x && y) (eq-eqb (value_of (only_at q (2 ^ i)) f) 0 (number_at-only_at_other q (2 ^ i) (place_of f) (other f (inl refl))))
        (apart i fs (λ g m. other g (inr m)))

    one : (i : ℕ) → bit_and (number_at (act sw sub action s).current q) (2 ^ i) ≡ bit_and (number_at s.current q) (2 ^ i)
    one i =
        let kept = only_at q (2 ^ i) in
        let e = places_from-masked (act sw sub action s).current s.current kept q (act-kept kept sw sub action plain (apart i (written_by action) parts.1) s) in
        ap (bit_and (number_at (act sw sub action s).current q)) (sym (number_at-only_at q (2 ^ i))) ∙ e ∙ ap (bit_and (number_at s.current q)) (number_at-only_at q (2 ^ i))

    bit : (i : ℕ) → bit_at (number_at (act sw sub action s).current q) i ≡ bit_at (number_at s.current q) i
    bit i = bit_from-pow _ _ i (one i)

-- ---- a write that is the same for all

zero_or_one : (m : ℕ) → m < 2 → (m ≡ 0) ⊎ (m ≡ 1)
zero_or_one m h = grind arith

abbrev merged_bit : ℕ → ℕ → ℕ → ℕ
merged_bit o v m = (o + min ((o + v) % 2) m) % 2

kept_bit : (x y v w k : ℕ) → x < 2 → y < 2 → v < 2 → (w ≡ 0) ⊎ (w ≡ 1) → min x k ≡ min y k → min (merged_bit x v w) k ≡ min (merged_bit y v w) k
kept_bit x y v w k lx ly lv (inl none_) e = let a : merged_bit x v w ≡ x = omega arith in let b : merged_bit y v w ≡ y = omega arith in ap (λ (z : ℕ). min z k) a ∙ e ∙ sym (ap (λ (z : ℕ). min z k) b)
kept_bit x y v w k lx ly lv (inr all) e = let a : merged_bit x v w ≡ v = omega arith in let b : merged_bit y v w ≡ v = omega arith in ap (λ (z : ℕ). min z k) (a ∙ sym b)

new_bit : (x y v w : ℕ) → x < 2 → y < 2 → v < 2 → (w ≡ 0) ⊎ (w ≡ 1) → min (merged_bit x v w) w ≡ min (merged_bit y v w) w
new_bit x y v w lx ly lv (inl none_) = omega arith
new_bit x y v w lx ly lv (inr all) = let a : merged_bit x v w ≡ v = omega arith in let b : merged_bit y v w ≡ v = omega arith in ap (λ (z : ℕ). min z w) (a ∙ sym b)

module _ (x y v w : ℕ) where
  bit_of_merged : (z k i : ℕ) → bit_at (bit_and (merged z v w) k) i ≡ min (merged_bit (bit_at z i) (bit_at v i) (bit_at w i)) (bit_at k i)
  bit_of_merged z k i = bit_at_and (merged z v w) k i ∙ ap (λ (b : ℕ). min b (bit_at k i)) (bit_at-merged z v w i)

  -- bits that were the same stay so
  merged-kept : (k : ℕ) → bit_and x k ≡ bit_and y k → bit_and (merged x v w) k ≡ bit_and (merged y v w) k
  merged-kept k e = same_from_bits _ _ (λ i.
      bit_of_merged x k i
      ∙ kept_bit (bit_at x i) (bit_at y i) (bit_at v i) (bit_at w i) (bit_at k i) (bit_at-lt x i) (bit_at-lt y i) (bit_at-lt v i) (zero_or_one (bit_at w i) (bit_at-lt w i))
      (sym (bit_at_and x k i) ∙ ap (λ (z : ℕ). bit_at z i) e ∙ bit_at_and y k i)
      ∙ sym (bit_of_merged y k i))

  -- those that are written are the same
  merged-new : bit_and (merged x v w) w ≡ bit_and (merged y v w) w
  merged-new = same_from_bits _ _ (λ i.
      bit_of_merged x w i
      ∙ new_bit (bit_at x i) (bit_at y i) (bit_at v i) (bit_at w i) (bit_at-lt x i) (bit_at-lt y i) (bit_at-lt v i) (zero_or_one (bit_at w i) (bit_at-lt w i))
      ∙ sym (bit_of_merged y w i))

module _ (a b known : List ℕ) (e : masked a known ≡ masked b known) where
  lengths : length b ≡ length a
  lengths = length_from-masked a b known e

  module _ (p v w : ℕ) (within : p < length a) where
    abbrev new : List ℕ → List ℕ
    new key = set key p (merged (number_at key p) v w)

    new-lengths : length (new b) ≡ length (new a)
    new-lengths = length-set b p _ ∙ lengths ∙ sym (length-set a p _)

    here_a : number_at (new a) p ≡ merged (number_at a p) v w
    here_a = get_or-set_same a p _ 0 within

    here_b : number_at (new b) p ≡ merged (number_at b p) v w
    here_b = get_or-set_same b p _ 0 (let l = lengths in omega arith)

    old_bits : masked (new a) known ≡ masked (new b) known
    old_bits = masked_from-places (new a) (new b) known new-lengths (λ q. at q (cases_eq q p))
      where
        at : (q : ℕ) → (q ≡ p) ⊎ (q ≢ p) → bit_and (number_at (new a) q) (number_at known q) ≡ bit_and (number_at (new b) q) (number_at known q)
        at q (inl is) =
            subst (λ (z : ℕ). bit_and (number_at (new a) z) (number_at known z) ≡ bit_and (number_at (new b) z) (number_at known z)) (sym is)
            (ap (λ (z : ℕ). bit_and z (number_at known p)) here_a
            ∙ merged-kept (number_at a p) (number_at b p) v w (number_at known p) (places_from-masked a b known p e)
            ∙ sym (ap (λ (z : ℕ). bit_and z (number_at known p)) here_b))
        at q (inr other) =
            ap (λ (z : ℕ). bit_and z (number_at known q)) (get_or-set_other a p q _ 0 other)
            ∙ places_from-masked a b known q e
            ∙ sym (ap (λ (z : ℕ). bit_and z (number_at known q)) (get_or-set_other b p q _ 0 other))

    pub written_bits-known : masked (new a) (joined known (only_at p w)) ≡ masked (new b) (joined known (only_at p w))
    written_bits-known =
        joined-both (new a) (new b) known (only_at p w) new-lengths old_bits
        (same-only_at (new a) (new b) p w new-lengths
        (ap (λ (z : ℕ). bit_and z w) here_a ∙ merged-new (number_at a p) (number_at b p) v w ∙ sym (ap (λ (z : ℕ). bit_and z w) here_b)))

  none_written : (p w : ℕ) → w ≡ 0 → masked a (joined known (only_at p w)) ≡ masked b (joined known (only_at p w))
  none_written p w none_ =
      joined-both a b known (only_at p w) lengths e
      (same-only_at a b p w lengths (subst (λ (z : ℕ). bit_and (number_at a p) z ≡ bit_and (number_at b p) z) (sym none_) (and_zero (number_at a p) ∙ sym (and_zero (number_at b p)))))

  -- a field that holds no tag is written
  pub written-known : (f : FieldId) (v w : ℕ) → is_tag_field f ≡ false → place_of f < length a
      → masked (written f v w a) (joined known (only_at (place_of f) w)) ≡ masked (written f v w b) (joined known (only_at (place_of f) w))
  written-known f v w plain within = at (w == 0) refl
    where
      as_set : (key : List ℕ) → with_value f (merged (value_of key f) v w) key ≡ set key (place_of f) (merged (value_of key f) v w)
      as_set key = ap (λ (t : Bool). if t then tagged (merged (value_of key f) v w) key else set key (place_of f) (merged (value_of key f) v w)) plain

      at : (t : Bool) → (w == 0) ≡ t
          → masked (if t then a else with_value f (merged (value_of a f) v w) a) (joined known (only_at (place_of f) w))
          ≡ masked (if t then b else with_value f (merged (value_of b f) v w) b) (joined known (only_at (place_of f) w))
      at true z = none_written (place_of f) w (eqb-true w 0 z)
      at false z =
          ap (λ (key : List ℕ). masked key (joined known (only_at (place_of f) w))) (as_set a)
          ∙ written_bits-known (place_of f) v w within
          ∙ sym (ap (λ (key : List ℕ). masked key (joined known (only_at (place_of f) w))) (as_set b))

-- keys that agree on a mask and on further ones agree on all of them together
pub added-same : (a b : List ℕ) → length b ≡ length a → (m : List ℕ) → masked a m ≡ masked b m → (ms : List (List ℕ)) → SameBits a b ms → masked a (added m ms) ≡ masked b (added m ms)
added-same a b l m e [] same = e
added-same a b l m e (n ∷ ms) same = added-same a b l (joined m n) (joined-both a b m n l e same.0) ms same.1

both-append : (a b : List ℕ) (ms ns : List (List ℕ)) → SameBits a b ms → SameBits a b ns → SameBits a b (ms ++ ns)
both-append a b [] ns first second = second
both-append a b (m ∷ ms) ns first second = (first.0, both-append a b ms ns first.1 second)

abbrev pub AreSame : List FieldId → List ℕ → List ℕ → Type 0
AreSame fs a b = (f : FieldId) → Among f fs → value_of a f ≡ value_of b f

pub fields-same : (a b : List ℕ) → length b ≡ length a → (fs : List FieldId) → AreSame fs a b → SameBits a b (map whole fs)
fields-same a b l [] same = tt
fields-same a b l (f ∷ fs) same = (
  same-only_at a b (place_of f) (all_bits (width_of f)) l (ap (λ (z : ℕ). bit_and z (all_bits (width_of f))) (same f (inl refl))),
  fields-same a b l fs (λ g among. same g (inr among)),
)

-- a write keeps numbers the same that were
written-same : (f : FieldId) (v w : ℕ) → is_tag_field f ≡ false → (a b : List ℕ) → length b ≡ length a → (q : ℕ) → number_at a q ≡ number_at b q
    → number_at (written f v w a) q ≡ number_at (written f v w b) q
written-same f v w plain a b l q same = at (w == 0)
  where
    as_set : (key : List ℕ) → with_value f (merged (value_of key f) v w) key ≡ set key (place_of f) (merged (value_of key f) v w)
    as_set key = ap (λ (t : Bool). if t then tagged (merged (value_of key f) v w) key else set key (place_of f) (merged (value_of key f) v w)) plain

    at_place : (q ≡ place_of f) ⊎ (q ≢ place_of f) → (place_of f < length a) ⊎ (length a ≤ place_of f)
        → number_at (set a (place_of f) (merged (value_of a f) v w)) q ≡ number_at (set b (place_of f) (merged (value_of b f) v w)) q
    at_place (inl is) (inl within) =
        ap (number_at (set a (place_of f) (merged (value_of a f) v w))) is ∙ get_or-set_same a (place_of f) _ 0 within
        ∙ ap (λ (z : ℕ). merged z v w) (ap (number_at a) (sym is) ∙ same ∙ ap (number_at b) is)
        ∙ sym (ap (number_at (set b (place_of f) (merged (value_of b f) v w))) is ∙ get_or-set_same b (place_of f) _ 0 (omega arith))
    at_place (inl is) (inr beyond) =
        ap (λ (z : List ℕ). number_at z q) (set-beyond a (place_of f) _ beyond) ∙ same ∙ sym (ap (λ (z : List ℕ). number_at z q) (set-beyond b (place_of f) _ (omega arith)))
    at_place (inr other) within = get_or-set_other a (place_of f) q _ 0 other ∙ same ∙ sym (get_or-set_other b (place_of f) q _ 0 other)

    at : (t : Bool) → number_at (if t then a else with_value f (merged (value_of a f) v w) a) q ≡ number_at (if t then b else with_value f (merged (value_of b f) v w) b) q
    at true = same
    at false =
        ap (λ (z : List ℕ). number_at z q) (as_set a) ∙ at_place (cases_eq q (place_of f)) (cases_lt (place_of f) (length a))
        ∙ sym (ap (λ (z : List ℕ). number_at z q) (as_set b))

-- a write that is the same for all, with what it consults
pub set-known : (name : NamedField) (value bits : ℕ) (s t : State) (known : List ℕ) → is_tag_field (named name).field ≡ false
    → place_of (named name).field < length s.current
    → AreSame (fields_needed (named name).write_needs) s.current t.current
    → is_met (named name).write_needs t.current ≡ is_met (named name).write_needs s.current
    → masked s.current known ≡ masked t.current known
    → masked (write name value bits s).current (added known (step_bits (Set name value bits) s.current)) ≡ masked (write name value bits t).current (added known (step_bits (Set name value bits) s.current))
unfolding write act_bits
set-known name value bits s t known plain within needed met e = at (is_met (named name).write_needs s.current) (is_met (named name).write_needs t.current) met
  where
    lengths_ : length t.current ≡ length s.current
    lengths_ = length_from-masked s.current t.current known e

    new_bits : (a b : List ℕ) → masked a (only_at (place_of (named name).field) (written_bits name bits)) ≡ masked b (only_at (place_of (named name).field) (written_bits name bits))
        → SameBits a b (bits_written (named name).field (written_bits name bits))
    new_bits a b same = either (written_bits name bits == 0) (is_tag_field (named name).field) plain
      where
        either : (z u : Bool) → u ≡ false → SameBits a b (if z then [] else (if u then map whole tag_fields else only_at (place_of (named name).field) (written_bits name bits) ∷ []))
        either true u is = tt
        either false true is = absurd (cc is)
        either false false is = (same, tt)

    at : (m n : Bool) → n ≡ m
        → masked (if m then with_current (written (named name).field (in_field name value) (written_bits name bits) s.current) s else s).current
        (added known (map whole (fields_needed (named name).write_needs) ++ when m (bits_written (named name).field (written_bits name bits))))
        ≡ masked (if n then with_current (written (named name).field (in_field name value) (written_bits name bits) t.current) t else t).current
        (added known (map whole (fields_needed (named name).write_needs) ++ when m (bits_written (named name).field (written_bits name bits))))
    at true true same =
        let f = (named name).field in
        let w = written_bits name bits in
        let a = written f (in_field name value) w s.current in
        let b = written f (in_field name value) w t.current in
        let both = written-known s.current t.current known e f (in_field name value) w plain within in
        let l = length_from-masked a b (joined known (only_at (place_of f) w)) both in
        added-same a b l known (joined-left a b known (only_at (place_of f) w) both) _
        (both-append a b (map whole (fields_needed (named name).write_needs)) (bits_written f w)
        (fields-same a b l (fields_needed (named name).write_needs) (λ g among. written-same f (in_field name value) w plain s.current t.current lengths_ (place_of g) (needed g among)))
        (new_bits a b (joined-right a b known (only_at (place_of f) w) both)))
    at true false same = absurd (cc same)
    at false true same = absurd (cc same)
    at false false same =
        added-same s.current t.current lengths_ known e _
        (both-append s.current t.current (map whole (fields_needed (named name).write_needs)) []
        (fields-same s.current t.current lengths_ (fields_needed (named name).write_needs) needed) tt)
