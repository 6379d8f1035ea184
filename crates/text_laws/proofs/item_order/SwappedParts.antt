-- Parts in another order make the same match.
use Rattle.std.proofs.Common.{◌≡◌, ℕ, max, ◌⊎◌, inl, inr, Bool, true, false, cond, List, [], ◌∷◌, ◌++◌, filter, refl, sym, subst, ap, ◌∙◌, arith, append_assoc, append-nil, bit_and, bit_or, Some, None}
use Rattle.std.specs.Prelude.{not, ◌&&◌, ◌||◌, ◌==◌}
use Rattle.std.specs.List.{list_any, list_all}
use Rattle.std.specs.Int.{bit_at}
use Rattle.std.specs.Int.Bits.{or_zero_l, or_zero_r}
use Rattle.std.proofs.lemmas.Nat.{or_comm}
use Rattle.std.proofs.lemmas.Nat.Bits.{bit_at_or, same_from_bits}
use Rattle.std.proofs.lemmas.List.Elements.{filter-append}
use Rattle.std.proofs.lemmas.List.Folds.{list_any-append, list_all-append}
use Rattle.spec_base.specs.Bits.{all_bits}
use Rattle.spec_keys.specs.declared.field_id.FieldId.{FieldId}
use Rattle.spec_keys.specs.declared.field_id.FieldId.TheVariants as key
use Rattle.spec_keys.specs.Fields.{place_of}
use Rattle.spec_flow_text.specs.declared.part.Part.{Part}
use Rattle.spec_flow_text.specs.declared.part.TagPart.TheVariants as tag
use Rattle.spec_flow_text.specs.Values.{type_meets, is_met}
use Rattle.spec_flow_text.specs.Matches.{number_of, kept_by_type, kept, match_of}
use Rattle.text_laws.proofs.matches.PartsAt.{stated_at, the_value, the_mask, are_off, stated-append, same_match, match_key_length, match_mask_length, match_key, match_mask}
use Rattle.text_laws.proofs.matches.Together.{find_off}
use Rattle.text_laws.proofs.round_trips.PartsRead.{Suits, IsTagged, IsStatable}
use Rattle.text_laws.proofs.round_trips.Gathered.{AllOf, AreApart, apart_filter, IsWholePart, IsOne, one_or_none}

-- two stretches of a list that stand side by side have changed places
pub record IsSwapped (ps qs : List Part) : Type 0 where
  pub front : List Part
  pub one : List Part
  pub other : List Part
  pub back : List Part
  pub first : ps ≡ front ++ (one ++ (other ++ back))
  pub second : qs ≡ front ++ (other ++ (one ++ back))

pub unswapped : (ps : List Part) → IsSwapped ps ps
unswapped ps = record { front = ps; one = []; other = []; back = []; first = sym (append-nil ps); second = sym (append-nil ps) }

pub swapped_more : (ps qs rs : List Part) → IsSwapped ps qs → IsSwapped (ps ++ rs) (qs ++ rs)
swapped_more ps qs rs s = record {
  front = s.front;
  one = s.one;
  other = s.other;
  back = s.back ++ rs;
  first = ap (λ xs. xs ++ rs) s.first ∙ longer s.front s.one s.other s.back;
  second = ap (λ xs. xs ++ rs) s.second ∙ longer s.front s.other s.one s.back;
}
  where
    longer : (x a b y : List Part) → (x ++ (a ++ (b ++ y))) ++ rs ≡ x ++ (a ++ (b ++ (y ++ rs)))
    longer x a b y = append_assoc x (a ++ (b ++ y)) rs ∙ ap (λ t. x ++ t) (append_assoc a (b ++ y) rs ∙ ap (λ t. a ++ t) (append_assoc b y rs))

-- ---- tests

or_swap : (x a b y : Bool) → (x || (a || (b || y))) ≡ (x || (b || (a || y)))
or_swap true a b y = refl
or_swap false true true y = refl
or_swap false true false y = refl
or_swap false false b y = refl

and_swap : (x a b y : Bool) → (x && (a && (b && y))) ≡ (x && (b && (a && y)))
and_swap false a b y = refl
and_swap true true b y = refl
and_swap true false true y = refl
and_swap true false false y = refl

any_of : (r : Part → Bool) (x a b y : List Part) → list_any r (x ++ (a ++ (b ++ y))) ≡ (list_any r x || (list_any r a || (list_any r b || list_any r y)))
any_of r x a b y =
    list_any-append r x (a ++ (b ++ y))
    ∙ ap (λ t. list_any r x || t) (list_any-append r a (b ++ y) ∙ ap (λ t. list_any r a || t) (list_any-append r b y))

all_of : (r : Part → Bool) (x a b y : List Part) → list_all r (x ++ (a ++ (b ++ y))) ≡ (list_all r x && (list_all r a && (list_all r b && list_all r y)))
all_of r x a b y =
    list_all-append r x (a ++ (b ++ y))
    ∙ ap (λ t. list_all r x && t) (list_all-append r a (b ++ y) ∙ ap (λ t. list_all r a && t) (list_all-append r b y))

pub any_swapped : (r : Part → Bool) (ps qs : List Part) → IsSwapped ps qs → list_any r ps ≡ list_any r qs
any_swapped r ps qs s =
    ap (list_any r) s.first ∙ any_of r s.front s.one s.other s.back ∙ or_swap (list_any r s.front) (list_any r s.one) (list_any r s.other) (list_any r s.back)
    ∙ sym (ap (list_any r) s.second ∙ any_of r s.front s.other s.one s.back)

all_swapped : (r : Part → Bool) (ps qs : List Part) → IsSwapped ps qs → list_all r ps ≡ list_all r qs
all_swapped r ps qs s =
    ap (list_all r) s.first ∙ all_of r s.front s.one s.other s.back ∙ and_swap (list_all r s.front) (list_all r s.one) (list_all r s.other) (list_all r s.back)
    ∙ sym (ap (list_all r) s.second ∙ all_of r s.front s.other s.one s.back)

filter_of : (r : Part → Bool) (x a b y : List Part) → filter r (x ++ (a ++ (b ++ y))) ≡ filter r x ++ (filter r a ++ (filter r b ++ filter r y))
filter_of r x a b y =
    filter-append r x (a ++ (b ++ y))
    ∙ ap (λ t. filter r x ++ t) (filter-append r a (b ++ y) ∙ ap (λ t. filter r a ++ t) (filter-append r b y))

filter_swapped : (r : Part → Bool) (ps qs : List Part) → IsSwapped ps qs → IsSwapped (filter r ps) (filter r qs)
filter_swapped r ps qs s = record {
  front = filter r s.front;
  one = filter r s.one;
  other = filter r s.other;
  back = filter r s.back;
  first = ap (filter r) s.first ∙ filter_of r s.front s.one s.other s.back;
  second = ap (filter r) s.second ∙ filter_of r s.front s.other s.one s.back;
}

-- ---- numbers

or_assoc : (a b c : ℕ) → bit_or (bit_or a b) c ≡ bit_or a (bit_or b c)
or_assoc a b c =
    same_from_bits (bit_or (bit_or a b) c) (bit_or a (bit_or b c)) (λ i. bit_at_or (bit_or a b) c i ∙ ap (λ (z : ℕ). max z (bit_at c i)) (bit_at_or a b i) ∙ three (bit_at a i) (bit_at b i) (bit_at c i) ∙ sym (bit_at_or a (bit_or b c) i ∙ ap (max (bit_at a i)) (bit_at_or b c i)))
  where
    three : (x y z : ℕ) → max (max x y) z ≡ max x (max y z)
    three x y z = omega arith

stated_or : (number : Part → ℕ) (n v : ℕ) (ps : List Part) → stated_at number n v ps ≡ bit_or v (stated_at number n 0 ps)
stated_or number n v [] = sym (or_zero_r v)
stated_or number n v (p ∷ ps) =
    stated_or number n (cond (place_of p.field == n) (bit_or v (number p)) v) ps
    ∙ by_test (place_of p.field == n) (stated_at number n 0 ps)
    ∙ sym (ap (bit_or v) (stated_or number n (cond (place_of p.field == n) (bit_or 0 (number p)) 0) ps))
  where
    by_test : (t : Bool) (rest : ℕ) → bit_or (cond t (bit_or v (number p)) v) rest ≡ bit_or v (bit_or (cond t (bit_or 0 (number p)) 0) rest)
    by_test true rest = or_assoc v (number p) rest ∙ ap (λ x. bit_or v (bit_or x rest)) (sym (or_zero_l (number p)))
    by_test false rest = ap (bit_or v) (sym (or_zero_l rest))

stated_both : (number : Part → ℕ) (n v : ℕ) (a b : List Part) → stated_at number n (stated_at number n v a) b ≡ stated_at number n (stated_at number n v b) a
stated_both number n v a b =
    let x = stated_at number n 0 a in
    let y = stated_at number n 0 b in
    stated_or number n (stated_at number n v a) b ∙ ap (λ z. bit_or z y) (stated_or number n v a)
    ∙ (or_assoc v x y ∙ ap (bit_or v) (or_comm x y) ∙ sym (or_assoc v y x))
    ∙ sym (stated_or number n (stated_at number n v b) a ∙ ap (λ z. bit_or z x) (stated_or number n v b))

stated_of : (number : Part → ℕ) (n : ℕ) (x a b y : List Part) → stated_at number n 0 (x ++ (a ++ (b ++ y))) ≡ stated_at number n (stated_at number n (stated_at number n (stated_at number n 0 x) a) b) y
stated_of number n x a b y =
    stated-append number n 0 x (a ++ (b ++ y))
    ∙ stated-append number n (stated_at number n 0 x) a (b ++ y)
    ∙ stated-append number n (stated_at number n (stated_at number n 0 x) a) b y

stated_swapped : (number : Part → ℕ) (n : ℕ) (ps qs : List Part) → IsSwapped ps qs → stated_at number n 0 ps ≡ stated_at number n 0 qs
stated_swapped number n ps qs s =
    ap (stated_at number n 0) s.first
    ∙ stated_of number n s.front s.one s.other s.back
    ∙ ap (λ v. stated_at number n v s.back) (stated_both number n (stated_at number n 0 s.front) s.one s.other)
    ∙ sym (ap (stated_at number n 0) s.second ∙ stated_of number n s.front s.other s.one s.back)

-- ---- matches

-- the number of a field of which one part states all
only_number : (f : FieldId) (full : ℕ) (ps : List Part) → (full == 0) ≡ false → bit_and full full ≡ full → ((q : Part) → IsStatable q → q.field ≡ f → IsWholePart full q) → AllOf IsStatable ps → AreApart ps
    → number_of f ps ≡ cond (are_off (place_of f) ps) None (Some (stated_at the_value (place_of f) 0 ps))
only_number f full ps some again whole all apart = by_count (one_or_none f full IsStatable ps some again whole all apart)
  where
    by_off : (t : Bool) (q : Part) → are_off (place_of f) ps ≡ t → IsOne f IsStatable ps q → number_of f ps ≡ cond t None (Some (stated_at the_value (place_of f) 0 ps))
    by_off true q e one = find_off f ps e
    by_off false q e one = one.number ∙ ap Some (sym one.value)

    by_count : (are_off (place_of f) ps ≡ true) ⊎ ((q : Part) × IsOne f IsStatable ps q) → number_of f ps ≡ cond (are_off (place_of f) ps) None (Some (stated_at the_value (place_of f) 0 ps))
    by_count (inl off) = rw off (find_off f ps off)
    by_count (inr one) = by_off (are_off (place_of f) ps) one.0 refl one.1

number_swapped : (f : FieldId) (full : ℕ) (ps qs : List Part) → (full == 0) ≡ false → bit_and full full ≡ full → ((q : Part) → IsStatable q → q.field ≡ f → IsWholePart full q)
    → AllOf IsStatable ps → AreApart ps → AllOf IsStatable qs → AreApart qs → IsSwapped ps qs → number_of f ps ≡ number_of f qs
number_swapped f full ps qs some again whole all apart too also s =
    only_number f full ps some again whole all apart
    ∙ ap (λ t. cond t None (Some (stated_at the_value (place_of f) 0 ps))) (all_swapped (λ (p : Part). not (place_of p.field == place_of f)) ps qs s)
    ∙ ap (λ v. cond (are_off (place_of f) qs) None (Some v)) (stated_swapped the_value (place_of f) ps qs s)
    ∙ sym (only_number f full qs some again whole too also)

whole_part : (f : FieldId) (full : ℕ) → ((q : Part) → Suits f q.needs q.value q.mask → q.mask ≡ full) → ((q : Part) → IsTagged f q.tag → q.tag ≡ tag.Neither) → (q : Part) → IsStatable q → q.field ≡ f → IsWholePart full q
whole_part f full mask untagged q s e =
    (mask q (subst (λ x. Suits x q.needs q.value q.mask) e s.suits), untagged q (subst (λ x. IsTagged x q.tag) e s.tagged))

match_swapped : (ps qs : List Part) → IsSwapped ps qs → match_of ps ≡ match_of qs
match_swapped ps qs s =
    same_match (match_of qs) ps (match_key_length qs) (match_mask_length qs) (λ f. stated_swapped the_value (place_of f) ps qs s ∙ sym (match_key qs (place_of f))) (λ f. stated_swapped the_mask (place_of f) ps qs s ∙ sym (match_mask qs (place_of f)))

all_filter : (r : Part → Bool) (ps : List Part) → AllOf IsStatable ps → AllOf IsStatable (filter r ps)
all_filter r [] h = tt
all_filter r (p ∷ ps) h = by_test (r p) (all_filter r ps h.1)
  where
    by_test : (t : Bool) → AllOf IsStatable (filter r ps) → AllOf IsStatable (cond t (p ∷ filter r ps) (filter r ps))
    by_test true rest = (h.0, rest)
    by_test false rest = rest

pub kept_swapped : (ps qs : List Part) → AllOf IsStatable ps → AreApart ps → AllOf IsStatable qs → AreApart qs → IsSwapped ps qs → match_of (kept ps) ≡ match_of (kept qs)
unfolding kept
kept_swapped ps qs all apart too also s =
    let type : number_of key.DlType ps ≡ number_of key.DlType qs =
    number_swapped key.DlType (all_bits 16) ps qs refl refl (whole_part key.DlType (all_bits 16) (λ q h. h) (λ q h. h)) all apart too also s in
    let r : Part → Bool = λ p. type_meets p.needs (number_of key.DlType ps) in
    let by_type : kept_by_type qs ≡ filter r qs = ap (λ t. filter (λ (p : Part). type_meets p.needs t) qs) (sym type) in
    let protocol : number_of key.NwProto (kept_by_type ps) ≡ number_of key.NwProto (kept_by_type qs) =
    number_swapped key.NwProto (all_bits 8) (filter r ps) (filter r qs) refl refl (whole_part key.NwProto (all_bits 8) (λ q h. h) (λ q h. h)) (all_filter r ps all) (apart_filter r ps apart) (all_filter r qs too) (apart_filter r qs also) (filter_swapped r ps qs s)
    ∙ ap (number_of key.NwProto) (sym by_type) in
    let q : Part → Bool = λ p. is_met p.needs (number_of key.DlType ps) (number_of key.NwProto (kept_by_type ps)) in
    match_swapped (filter q ps) (filter q qs) (filter_swapped q ps qs s)
    ∙ ap (λ t. match_of (filter (λ (p : Part). is_met p.needs t (number_of key.NwProto (kept_by_type ps))) qs)) type
    ∙ ap (λ t. match_of (filter (λ (p : Part). is_met p.needs (number_of key.DlType qs) t) qs)) protocol
