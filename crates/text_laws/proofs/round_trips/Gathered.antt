-- What parts state of one field together.
use Rattle.std.proofs.Common.{◌≡◌, ℕ, ◌<◌, ◌≤◌, ◌^◌, ◌⊎◌, inl, inr, min, max, Bool, true, false, cond, List, [], ◌∷◌, ◌++◌, filter, refl, sym, ap, ◌∙◌, arith, bit_and, bit_or, Some, eqb-true, pow_pos}
use Rattle.std.specs.Prelude.{◌||◌, ◌==◌, not, is_some}
use Rattle.std.specs.List.{list_all, list_any}
use Rattle.std.specs.Int.{bit_at}
use Rattle.std.specs.Int.Bits.{or_zero_l}
use Rattle.std.proofs.lemmas.Bool.{and_parts, and_from, both_ways, not-true}
use Rattle.std.proofs.lemmas.Nat.{or_lt}
use Rattle.std.proofs.lemmas.Nat.Bits.{bit_at_and, bit_at_or, same_from_bits}
use Rattle.std.proofs.lemmas.List.Folds.{list_any-append}
use Rattle.spec_base.specs.Bits.{all_bits}
use Rattle.spec_keys.specs.declared.field_id.FieldId.{FieldId}
use Rattle.spec_keys.specs.Fields.{place_of}
use Rattle.spec_flow_text.specs.declared.part.Part.{Part}
use Rattle.spec_flow_text.specs.declared.part.TagPart.TheVariants as tag
use Rattle.spec_flow_text.specs.Values.{Bits, bits}
use Rattle.spec_flow_text.specs.Items.{share_tag_bit, repeats}
use Rattle.spec_flow_text.specs.Matches.{number_of}
use Rattle.spec_flow_text.specs.Printed.{fragment_word}
use Rattle.text_laws.proofs.matches.ItemsBack.{FollowEachOther}
use Rattle.text_laws.proofs.matches.PartsAt.{same_place, stated_at, the_value, the_mask, are_off, stated-off}
use Rattle.text_laws.proofs.matches.NamesBack.{fragment_bits}

-- a fact of each part
abbrev pub AllOf : (Part → Type 0) → List Part → Type 0
AllOf G [] = Unit {0}
AllOf G (p ∷ ps) = G p × AllOf G ps

pub all_in_filter : (G : Part → Type 0) (q : Part → Bool) (ps : List Part) → AllOf G ps → AllOf (λ p. G p × (q p ≡ true)) (filter q ps)
all_in_filter G q [] h = tt
all_in_filter G q (p ∷ ps) h = by_test (q p) refl (all_in_filter G q ps h.1)
  where
    by_test : (t : Bool) → q p ≡ t → AllOf (λ x. G x × (q x ≡ true)) (filter q ps) → AllOf (λ x. G x × (q x ≡ true)) (cond t (p ∷ filter q ps) (filter q ps))
    by_test true e rest = ((h.0, e), rest)
    by_test false e rest = rest

-- ---- parts that repeat no bit

-- none repeats a bit of one before it
abbrev pub AreApart : List Part → Type 0
AreApart [] = Unit {0}
AreApart (p ∷ ps) = (list_all (λ q. not (repeats q p)) ps ≡ true) × AreApart ps

neither : (a b : Bool) → not (a || (b || false)) ≡ true → (not a ≡ true) × (not b ≡ true)
neither false false h = (refl, refl)
neither false true h = absurd (both_ways false refl h)
neither true b h = absurd (both_ways false refl h)

new_apart : (before : List Part) (p : Part) (qs : List Part) → list_all (λ q. not (list_any (repeats q) (before ++ p ∷ []))) qs ≡ true
    → (list_all (λ q. not (list_any (repeats q) before)) qs ≡ true) × (list_all (λ q. not (repeats q p)) qs ≡ true)
new_apart before p [] h = (refl, refl)
new_apart before p (q ∷ qs) h =
    let k = and_parts (not (list_any (repeats q) (before ++ p ∷ []))) (list_all (λ x. not (list_any (repeats x) (before ++ p ∷ []))) qs) h in
    let n = neither (list_any (repeats q) before) (repeats q p) (ap not (sym (list_any-append (repeats q) before (p ∷ []))) ∙ k.0) in
    let rest = new_apart before p qs k.1 in (
      and_from (not (list_any (repeats q) before)) (list_all (λ x. not (list_any (repeats x) before)) qs) n.0 rest.0,
      and_from (not (repeats q p)) (list_all (λ x. not (repeats x p)) qs) n.1 rest.1,
    )

apart_from : (before ps : List Part) → FollowEachOther before ps → (list_all (λ q. not (list_any (repeats q) before)) ps ≡ true) × AreApart ps
apart_from before [] f = (refl, tt)
apart_from before (p ∷ ps) f =
    let rest = apart_from (before ++ p ∷ []) ps f.1 in
    let new = new_apart before p ps rest.0 in
    (and_from (not (list_any (repeats p) before)) (list_all (λ q. not (list_any (repeats q) before)) ps) (ap not f.0) new.0, (new.1, rest.1))

pub follow_apart : (ps : List Part) → FollowEachOther [] ps → AreApart ps
follow_apart ps f = (apart_from [] ps f).1

passes_filter : (r q : Part → Bool) (ps : List Part) → list_all r ps ≡ true → list_all r (filter q ps) ≡ true
passes_filter r q [] h = refl
passes_filter r q (p ∷ ps) h =
    let k = and_parts (r p) (list_all r ps) h in
    by_test (q p) k.0 (passes_filter r q ps k.1)
  where
    by_test : (t : Bool) → r p ≡ true → list_all r (filter q ps) ≡ true → list_all r (cond t (p ∷ filter q ps) (filter q ps)) ≡ true
    by_test true h k = and_from (r p) (list_all r (filter q ps)) h k
    by_test false h k = k

pub apart_filter : (q : Part → Bool) (ps : List Part) → AreApart ps → AreApart (filter q ps)
apart_filter q [] h = tt
apart_filter q (p ∷ ps) h = by_test (q p) (passes_filter (λ x. not (repeats x p)) q ps h.0) (apart_filter q ps h.1)
  where
    by_test : (t : Bool) → list_all (λ x. not (repeats x p)) (filter q ps) ≡ true → AreApart (filter q ps) → AreApart (cond t (p ∷ filter q ps) (filter q ps))
    by_test true h k = (h, k)
    by_test false h k = k

-- ---- a field that is stated whole

-- all of a field, by a part that has nothing to do with tags
abbrev pub IsWholePart : ℕ → Part → Type 0
IsWholePart full p = (p.mask ≡ full) × (p.tag ≡ tag.Neither)

no_tag : (q p : Part) → q.tag ≡ tag.Neither → share_tag_bit q p ≡ false
no_tag q p e = rw e refl

repeated : (full : ℕ) (q p : Part) → (full == 0) ≡ false → bit_and full full ≡ full → IsWholePart full q → IsWholePart full p → (place_of q.field == place_of p.field) ≡ true → repeats q p ≡ true
repeated full q p some again hq hp here =
    let both : bit_and q.mask p.mask ≡ full = rw (hq.0, hp.0) again in
    rw (no_tag q p hq.1, here, both, some) refl

others_off : (f : FieldId) (full : ℕ) (G : Part → Type 0) (p : Part) (qs : List Part) → (full == 0) ≡ false → bit_and full full ≡ full → ((q : Part) → G q → q.field ≡ f → IsWholePart full q)
    → p.field ≡ f → IsWholePart full p → AllOf G qs → list_all (λ q. not (repeats q p)) qs ≡ true → are_off (place_of f) qs ≡ true
others_off f full G p [] some again whole e hp all h = refl
others_off f full G p (q ∷ qs) some again whole e hp all h =
    let k = and_parts (not (repeats q p)) (list_all (λ x. not (repeats x p)) qs) h in
    and_from (not (place_of q.field == place_of f)) (are_off (place_of f) qs) (by_test (place_of q.field == place_of f) refl k.0) (others_off f full G p qs some again whole e hp all.1 k.1)
  where
    by_test : (t : Bool) → (place_of q.field == place_of f) ≡ t → not (repeats q p) ≡ true → not t ≡ true
    by_test false is new = refl
    by_test true is new =
        let field = same_place q.field f (eqb-true (place_of q.field) (place_of f) is) in
        let here : (place_of q.field == place_of p.field) ≡ true = ap (λ x. place_of q.field == place_of x) e ∙ is in
        absurd (both_ways (repeats q p) (not-true (repeats q p) new) (repeated full q p some again (whole q all.0 field) hp here))

-- one part alone states a field
pub record IsOne (f : FieldId) (G : Part → Type 0) (qs : List Part) (p : Part) : Type 0 where
  pub fact : G p
  pub field : p.field ≡ f
  pub number : number_of f qs ≡ Some p.value
  pub value : stated_at the_value (place_of f) 0 qs ≡ p.value
  pub mask : stated_at the_mask (place_of f) 0 qs ≡ p.mask

pub one_or_none : (f : FieldId) (full : ℕ) (G : Part → Type 0) (qs : List Part) → (full == 0) ≡ false → bit_and full full ≡ full → ((q : Part) → G q → q.field ≡ f → IsWholePart full q) → AllOf G qs → AreApart qs
    → (are_off (place_of f) qs ≡ true) ⊎ ((p : Part) × IsOne f G qs p)
one_or_none f full G [] some again whole all apart = inl refl
one_or_none f full G (q ∷ qs) some again whole all apart = by_test (place_of q.field == place_of f) refl (one_or_none f full G qs some again whole all.1 apart.1)
  where
    by_test : (t : Bool) → (place_of q.field == place_of f) ≡ t → (are_off (place_of f) qs ≡ true) ⊎ ((p : Part) × IsOne f G qs p) → (are_off (place_of f) (q ∷ qs) ≡ true) ⊎ ((p : Part) × IsOne f G (q ∷ qs) p)
    by_test false is (inl off) = inl (rw is off)
    by_test false is (inr one) =
        let o = one.1 in
        inr (one.0, record { fact = o.fact; field = o.field; number = rw is o.number; value = rw is o.value; mask = rw is o.mask })
    by_test true is rest =
        let field = same_place q.field f (eqb-true (place_of q.field) (place_of f) is) in
        let off = others_off f full G q qs some again whole field (whole q all.0 field) all.1 apart.0 in
        inr (
          q,
          record {
            fact = all.0;
            field = field;
            number = rw is refl;
            value = rw is (stated-off the_value (place_of f) (bit_or 0 q.value) qs off ∙ or_zero_l q.value);
            mask = rw is (stated-off the_mask (place_of f) (bit_or 0 q.mask) qs off ∙ or_zero_l q.mask);
          },
        )

-- ---- a field that parts state together

pub gather : (R : ℕ → ℕ → Type 0) (f : FieldId) (G : Part → Type 0) → ((v k : ℕ) (q : Part) → G q → q.field ≡ f → R v k → R (bit_or v q.value) (bit_or k q.mask))
    → (qs : List Part) → AllOf G qs → (v k : ℕ) → R v k → R (stated_at the_value (place_of f) v qs) (stated_at the_mask (place_of f) k qs)
gather R f G step [] all v k r = r
gather R f G step (q ∷ qs) all v k r = by_test (place_of q.field == place_of f) refl (gather R f G step qs all.1)
  where
    by_test : (t : Bool) → (place_of q.field == place_of f) ≡ t → ((v k : ℕ) → R v k → R (stated_at the_value (place_of f) v qs) (stated_at the_mask (place_of f) k qs))
        → R (stated_at the_value (place_of f) (cond t (bit_or v q.value) v) qs) (stated_at the_mask (place_of f) (cond t (bit_or k q.mask) k) qs)
    by_test true is rest = rest (bit_or v q.value) (bit_or k q.mask) (step v k q all.0 (same_place q.field f (eqb-true (place_of q.field) (place_of f) is)) r)
    by_test false is rest = rest v k r

pub or_within : (v k p m : ℕ) → bit_and v k ≡ v → bit_and p m ≡ p → bit_and (bit_or v p) (bit_or k m) ≡ bit_or v p
or_within v k p m h j = same_from_bits (bit_and (bit_or v p) (bit_or k m)) (bit_or v p) at
  where
    least : (a b c d : ℕ) → min a c ≡ a → min b d ≡ b → min (max a b) (max c d) ≡ max a b
    least a b c d x y = omega arith

    at : (i : ℕ) → bit_at (bit_and (bit_or v p) (bit_or k m)) i ≡ bit_at (bit_or v p) i
    at i =
        let x : min (bit_at v i) (bit_at k i) ≡ bit_at v i = sym (bit_at_and v k i) ∙ ap (λ n. bit_at n i) h in
        let y : min (bit_at p i) (bit_at m i) ≡ bit_at p i = sym (bit_at_and p m i) ∙ ap (λ n. bit_at n i) j in
        bit_at_and (bit_or v p) (bit_or k m) i
        ∙ (rw (bit_at_or v p i, bit_at_or k m i) (least (bit_at v i) (bit_at p i) (bit_at k i) (bit_at m i) x y))

pub or_room : (w a b : ℕ) → a ≤ all_bits w → b ≤ all_bits w → bit_or a b ≤ all_bits w
or_room w a b x y =
    let p = pow_pos w in
    let less : bit_or a b < 2 ^ w = or_lt w a b (omega arith) (omega arith) in
    omega arith

-- kinds of fragments, or nothing
abbrev pub IsFragment : ℕ → ℕ → Type 0
IsFragment v k = ((v ≡ 0) × (k ≡ 0)) ⊎ (is_some (fragment_word (bits v k)) ≡ true)

pub more_fragment : (v k p m : ℕ) → IsFragment v k → is_some (fragment_word (bits p m)) ≡ true → IsFragment (bit_or v p) (bit_or k m)
more_fragment v k p m (inl none) h =
    let value : bit_or v p ≡ p = ap (λ n. bit_or n p) none.0 ∙ or_zero_l p in
    let mask : bit_or k m ≡ m = ap (λ n. bit_or n m) none.1 ∙ or_zero_l m in
    inr (rw (value, mask) h)
more_fragment v k p m (inr some) h = inr (fragment_bits (λ (b : Bits). is_some (fragment_word (bits (bit_or b.value p) (bit_or b.mask m))) ≡ true) (beside 0 3 refl refl refl refl refl) (beside 1 3 refl refl refl refl refl) (beside 3 3 refl refl refl refl refl) (beside 1 1 refl refl refl refl refl) (beside 0 2 refl refl refl refl refl) v k some)
  where
    beside : (a b : ℕ) → is_some (fragment_word (bits (bit_or a 0) (bit_or b 3))) ≡ true → is_some (fragment_word (bits (bit_or a 1) (bit_or b 3))) ≡ true
        → is_some (fragment_word (bits (bit_or a 3) (bit_or b 3))) ≡ true → is_some (fragment_word (bits (bit_or a 1) (bit_or b 1))) ≡ true
        → is_some (fragment_word (bits (bit_or a 0) (bit_or b 2))) ≡ true → is_some (fragment_word (bits (bit_or a p) (bit_or b m))) ≡ true
    beside a b e1 e2 e3 e4 e5 = fragment_bits (λ (c : Bits). is_some (fragment_word (bits (bit_or a c.value) (bit_or b c.mask))) ≡ true) e1 e2 e3 e4 e5 p m h
