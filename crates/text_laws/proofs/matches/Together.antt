-- The parts of a match, field by field: none states a bit again, all are kept, and together they state the match.
use Rattle.std.proofs.Common.{◌≡◌, ℕ, Bool, true, false, cond, List, [], ◌∷◌, ◌++◌, length, filter, refl, sym, subst, ap, ◌∙◌, append_assoc, append-nil, Option, Some, None, eqb-true, eq-eqb}
use Rattle.std.specs.Prelude.{not, ◌&&◌, ◌||◌, ◌==◌}
use Rattle.std.specs.List.{list_all, list_any, flat_map, find}
use Rattle.std.specs.Option.{option_map, option_or}
use Rattle.std.proofs.lemmas.Bool.{and_parts, and_from, not-true, both_ways}
use Rattle.std.proofs.lemmas.List.Folds.{list_any-append, list_all-append, find-append}
use Rattle.spec_keys.specs.declared.field_id.FieldId.{FieldId}
use Rattle.spec_keys.specs.declared.field_id.FieldId.TheVariants as key
use Rattle.spec_keys.specs.Fields.{place_of, field_count}
use Rattle.spec_keys.specs.Keys.{value_of, number_at}
use Rattle.spec_keys.specs.Protocols.{ipv4_type, ipv6_type, icmp_protocol, icmp6_protocol}
use Rattle.spec_tables.specs.Rules.{Match}
use Rattle.spec_flow_text.specs.declared.part.Part.{Part}
use Rattle.spec_flow_text.specs.declared.part.MatchPrerequisite.{MatchPrerequisite}
use Rattle.spec_flow_text.specs.declared.part.MatchPrerequisite.TheVariants as needs
use Rattle.spec_flow_text.specs.Values.{is, type_meets, is_met}
use Rattle.spec_flow_text.specs.Items.{repeats}
use Rattle.spec_flow_text.specs.Matches.{is_of, number_of, kept, match_of}
use Rattle.text_laws.specs.SpelledMatches.{number_stated}
use Rattle.text_laws.proofs.matches.ItemsBack.{FollowEachOther}
use Rattle.text_laws.proofs.matches.PartsAt.{same_place, stated_at, the_value, the_mask, stated-append, are_off, are_at, stated-off, at_off, same_match}

-- the fields on whose number prerequisites stand
abbrev pub IsExact : FieldId → Type 0
IsExact key.DlType = Unit {0}
IsExact key.NwProto = Unit {0}
IsExact f = ⊥

abbrev pub AreMet : Match → List Part → Type 0
AreMet m ps = list_all (λ (p : Part). is_met p.needs (number_stated m key.DlType) (number_stated m key.NwProto)) ps ≡ true

-- the parts of one field of a match
pub record IsBlock (m : Match) (f : FieldId) (ps : List Part) : Type 0 where
  pub here : are_at (place_of f) ps ≡ true
  pub apart : FollowEachOther [] ps
  pub value : stated_at the_value (place_of f) 0 ps ≡ value_of m.key f
  pub mask : stated_at the_mask (place_of f) 0 ps ≡ value_of m.mask f
  pub number : IsExact f → number_of f ps ≡ number_stated m f
  pub met : AreMet m ps

abbrev pub is_in : ℕ → List ℕ → Bool
is_in n places = list_any (λ k. k == n) places

-- those of the fields at some places
record IsTogether (m : Match) (seen : List ℕ) (ps : List Part) : Type 0 where
  places : list_all (λ (p : Part). is_in (place_of p.field) seen) ps ≡ true
  value : (n : ℕ) → stated_at the_value n 0 ps ≡ cond (is_in n seen) (number_at m.key n) 0
  mask : (n : ℕ) → stated_at the_mask n 0 ps ≡ cond (is_in n seen) (number_at m.mask n) 0
  number : (f : FieldId) → IsExact f → number_of f ps ≡ cond (is_in (place_of f) seen) (number_stated m f) None
  met : AreMet m ps

-- ---- one field more

off_by : (k : ℕ) (seen : List ℕ) (ps : List Part) → is_in k seen ≡ false → list_all (λ (p : Part). is_in (place_of p.field) seen) ps ≡ true → are_off k ps ≡ true
off_by k seen [] new h = refl
off_by k seen (p ∷ ps) new h =
    let q = and_parts (is_in (place_of p.field) seen) (list_all (λ (x : Part). is_in (place_of x.field) seen) ps) h in
    and_from (not (place_of p.field == k)) (are_off k ps) (by_test (place_of p.field == k) refl q.0) (off_by k seen ps new q.1)
  where
    by_test : (t : Bool) → (place_of p.field == k) ≡ t → is_in (place_of p.field) seen ≡ true → not t ≡ true
    by_test false is there = refl
    by_test true is there = absurd (both_ways (is_in k seen) new (subst (λ n. is_in n seen ≡ true) (eqb-true (place_of p.field) k is) there))

elsewhere : (k : ℕ) (p : Part) (ps : List Part) → (place_of p.field == k) ≡ true → are_off k ps ≡ true → list_any (repeats p) ps ≡ false
elsewhere k p [] e h = refl
elsewhere k p (q ∷ ps) e h =
    let off = and_parts (not (place_of q.field == k)) (are_off k ps) h in
    let other : (place_of p.field == place_of q.field) ≡ false = by_test (place_of p.field == place_of q.field) refl off.0 in
    rw other (elsewhere k p ps e off.1)
  where
    by_test : (t : Bool) → (place_of p.field == place_of q.field) ≡ t → not (place_of q.field == k) ≡ true → t ≡ false
    by_test false is away = refl
    by_test true is away =
        let here : place_of q.field ≡ k = sym (eqb-true (place_of p.field) (place_of q.field) is) ∙ eqb-true (place_of p.field) k e in
        absurd (both_ways (place_of q.field == k) (not-true (place_of q.field == k) away) (eq-eqb (place_of q.field) k here))

follow_apart : (k : ℕ) (ps before qs : List Part) → are_off k ps ≡ true → are_at k qs ≡ true → FollowEachOther before qs → FollowEachOther (ps ++ before) qs
follow_apart k ps before [] off here f = tt
follow_apart k ps before (p ∷ qs) off here f =
    let h = and_parts (place_of p.field == k) (are_at k qs) here in
    let new : list_any (repeats p) (ps ++ before) ≡ false = list_any-append (repeats p) ps before ∙ (rw (elsewhere k p ps h.0 off) f.0) in
    (new, rw (append_assoc ps before (p ∷ [])) (follow_apart k ps (before ++ p ∷ []) qs off h.1 f.1))

pub follow_join : (before ps qs : List Part) → FollowEachOther before ps → FollowEachOther (before ++ ps) qs → FollowEachOther before (ps ++ qs)
follow_join before [] qs f g = rw (append-nil before) at g
follow_join before (p ∷ ps) qs f g = (f.0, follow_join (before ++ p ∷ []) ps qs f.1 (rw (append_assoc before (p ∷ []) ps) g))

seen_more : (m : Match) (numbers : List ℕ) (number : Part → ℕ) (f : FieldId) (seen : List ℕ) (ps qs : List Part) → is_in (place_of f) seen ≡ false
    → ((n : ℕ) → stated_at number n 0 ps ≡ cond (is_in n seen) (number_at numbers n) 0) → are_at (place_of f) qs ≡ true → stated_at number (place_of f) 0 qs ≡ value_of numbers f
    → (n : ℕ) → stated_at number n 0 (ps ++ qs) ≡ cond (is_in n (place_of f ∷ seen)) (number_at numbers n) 0
seen_more m numbers number f seen ps qs new h here e n = stated-append number n 0 ps qs ∙ by_test (place_of f == n) refl
  where
    by_test : (t : Bool) → (place_of f == n) ≡ t → stated_at number n (stated_at number n 0 ps) qs ≡ cond (t || is_in n seen) (number_at numbers n) 0
    by_test true is =
        let nothing : stated_at number (place_of f) 0 ps ≡ 0 = h (place_of f) ∙ rw new refl in
        subst (λ k. stated_at number k (stated_at number k 0 ps) qs ≡ number_at numbers k) (eqb-true (place_of f) n is) (rw nothing e)
    by_test false is = stated-off number n (stated_at number n 0 ps) qs (at_off (place_of f) n qs is here) ∙ h n

pub find_off : (g : FieldId) (ps : List Part) → are_off (place_of g) ps ≡ true → number_of g ps ≡ None
find_off g [] h = refl
find_off g (p ∷ ps) h =
    let q = and_parts (not (place_of p.field == place_of g)) (are_off (place_of g) ps) h in
    rw (not-true (place_of p.field == place_of g) q.0) (find_off g ps q.1)

mapped_or : (a b : Option Part) → option_map (λ (p : Part). p.value) (option_or a b) ≡ option_or (option_map (λ (p : Part). p.value) a) (option_map (λ (p : Part). p.value) b)
mapped_or None b = refl
mapped_or (Some p) b = refl

number-append : (g : FieldId) (ps qs : List Part) → number_of g (ps ++ qs) ≡ option_or (number_of g ps) (number_of g qs)
number-append g ps qs = ap (option_map (λ (p : Part). p.value)) (find-append (is_of g) ps qs) ∙ mapped_or (find (is_of g) ps) (find (is_of g) qs)

or_none : (o : Option ℕ) → option_or o None ≡ o
or_none None = refl
or_none (Some n) = refl

number_more : (m : Match) (f : FieldId) (seen : List ℕ) (ps qs : List Part) → is_in (place_of f) seen ≡ false
    → ((g : FieldId) → IsExact g → number_of g ps ≡ cond (is_in (place_of g) seen) (number_stated m g) None) → are_at (place_of f) qs ≡ true → (IsExact f → number_of f qs ≡ number_stated m f)
    → (g : FieldId) → IsExact g → number_of g (ps ++ qs) ≡ cond (is_in (place_of g) (place_of f ∷ seen)) (number_stated m g) None
number_more m f seen ps qs new h here own g exact = number-append g ps qs ∙ by_test (place_of f == place_of g) refl
  where
    by_test : (t : Bool) → (place_of f == place_of g) ≡ t → option_or (number_of g ps) (number_of g qs) ≡ cond (t || is_in (place_of g) seen) (number_stated m g) None
    by_test true is =
        let place = eqb-true (place_of f) (place_of g) is in
        let same : f ≡ g = same_place f g place in
        let found : number_of g qs ≡ number_stated m g = subst (λ x. IsExact x → number_of x qs ≡ number_stated m x) same own exact in
        let none : number_of g ps ≡ None = h g exact ∙ ap (λ t. cond t (number_stated m g) None) (ap (λ n. is_in n seen) (sym place) ∙ new) in
        rw none found
    by_test false is = ap (option_or (number_of g ps)) (find_off g qs (at_off (place_of f) (place_of g) qs is here)) ∙ or_none (number_of g ps) ∙ h g exact

here_in : (k : ℕ) (seen : List ℕ) (qs : List Part) → are_at k qs ≡ true → list_all (λ (p : Part). is_in (place_of p.field) (k ∷ seen)) qs ≡ true
here_in k seen [] h = refl
here_in k seen (p ∷ qs) h =
    let q = and_parts (place_of p.field == k) (are_at k qs) h in
    let there : (k == place_of p.field) ≡ true = eq-eqb k (place_of p.field) (sym (eqb-true (place_of p.field) k q.0)) in
    and_from (is_in (place_of p.field) (k ∷ seen)) (list_all (λ (x : Part). is_in (place_of x.field) (k ∷ seen)) qs) (rw there refl) (here_in k seen qs q.1)

still_in : (k : ℕ) (seen : List ℕ) (ps : List Part) → list_all (λ (p : Part). is_in (place_of p.field) seen) ps ≡ true → list_all (λ (p : Part). is_in (place_of p.field) (k ∷ seen)) ps ≡ true
still_in k seen [] h = refl
still_in k seen (p ∷ ps) h =
    let q = and_parts (is_in (place_of p.field) seen) (list_all (λ (x : Part). is_in (place_of x.field) seen) ps) h in
    and_from (is_in (place_of p.field) (k ∷ seen)) (list_all (λ (x : Part). is_in (place_of x.field) (k ∷ seen)) ps) (by_test (k == place_of p.field) q.0) (still_in k seen ps q.1)
  where
    by_test : (t : Bool) → is_in (place_of p.field) seen ≡ true → (t || is_in (place_of p.field) seen) ≡ true
    by_test true h = refl
    by_test false h = h

one_more : (m : Match) (f : FieldId) (seen : List ℕ) (ps qs : List Part) → is_in (place_of f) seen ≡ false → IsTogether m seen ps → IsBlock m f qs
    → FollowEachOther ps qs × IsTogether m (place_of f ∷ seen) (ps ++ qs)
one_more m f seen ps qs new t b =
    let off = off_by (place_of f) seen ps new t.places in
    let both = λ (q : Part → Bool) (h : list_all q ps ≡ true) (k : list_all q qs ≡ true). list_all-append q ps qs ∙ and_from (list_all q ps) (list_all q qs) h k in (
      subst (λ before. FollowEachOther before qs) (append-nil ps) (follow_apart (place_of f) ps [] qs off b.here b.apart),
      record {
        places = both (λ p. is_in (place_of p.field) (place_of f ∷ seen)) (still_in (place_of f) seen ps t.places) (here_in (place_of f) seen qs b.here);
        value = seen_more m m.key the_value f seen ps qs new t.value b.here b.value;
        mask = seen_more m m.mask the_mask f seen ps qs new t.mask b.here b.mask;
        number = number_more m f seen ps qs new t.number b.here b.number;
        met = both (λ p. is_met p.needs (number_stated m key.DlType) (number_stated m key.NwProto)) t.met b.met;
      },
    )

-- ---- all fields

abbrev pub are_new : List ℕ → List FieldId → Bool
are_new seen [] = true
are_new seen (f ∷ fs) = not (is_in (place_of f) seen) && are_new (place_of f ∷ seen) fs

abbrev pub seen_after : List ℕ → List FieldId → List ℕ
seen_after seen [] = seen
seen_after seen (f ∷ fs) = seen_after (place_of f ∷ seen) fs

all_more : (m : Match) (block : FieldId → List Part) (blocks : (f : FieldId) → IsBlock m f (block f)) (fs : List FieldId) (seen : List ℕ) (ps : List Part) → are_new seen fs ≡ true → IsTogether m seen ps
    → FollowEachOther ps (flat_map block fs) × IsTogether m (seen_after seen fs) (ps ++ flat_map block fs)
all_more m block blocks [] seen ps new t = (tt, rw (append-nil ps) t)
all_more m block blocks (f ∷ fs) seen ps new t =
    let h = and_parts (not (is_in (place_of f) seen)) (are_new (place_of f ∷ seen) fs) new in
    let one = one_more m f seen ps (block f) (not-true (is_in (place_of f) seen) h.0) t (blocks f) in
    let more = all_more m block blocks fs (place_of f ∷ seen) (ps ++ block f) h.1 one.1 in
    (follow_join ps (block f) (flat_map block fs) one.0 more.0, rw (← append_assoc ps (block f) (flat_map block fs)) more.1)

nothing_together : (m : Match) → IsTogether m [] []
nothing_together m = record { places = refl; value = λ n. refl; mask = λ n. refl; number = λ f exact. refl; met = refl }

-- ---- what is kept

pub all_kept : (q : Part → Bool) (ps : List Part) → list_all q ps ≡ true → filter q ps ≡ ps
all_kept q [] h = refl
all_kept q (p ∷ ps) h = let k = and_parts (q p) (list_all q ps) h in rw k.0 (ap (λ xs. p ∷ xs) (all_kept q ps k.1))

left_of : (a b : Bool) → (a && b) ≡ true → a ≡ true
left_of a b h = (and_parts a b h).0

icmp_type : (a b c d : Bool) → ((a && b) || (c && d)) ≡ true → (a || c) ≡ true
icmp_type true b c d h = refl
icmp_type false b true d h = refl
icmp_type false b false d h = h

met_by_type : (n : MatchPrerequisite) (t p : Option ℕ) → is_met n t p ≡ true → type_meets n t ≡ true
met_by_type needs.Tcp t p h = left_of _ _ h
met_by_type needs.Udp t p h = left_of _ _ h
met_by_type needs.TcpOrUdp t p h = left_of _ _ h
met_by_type needs.AnyIcmp t p h = icmp_type (is ipv4_type t) (is icmp_protocol p) (is ipv6_type t) (is icmp6_protocol p) h
met_by_type needs.Icmp6 t p h = left_of _ _ h
met_by_type n t p h = h

types_met : (t p : Option ℕ) (ps : List Part) → list_all (λ (x : Part). is_met x.needs t p) ps ≡ true → list_all (λ (x : Part). type_meets x.needs t) ps ≡ true
types_met t p [] h = refl
types_met t p (x ∷ ps) h =
    let k = and_parts (is_met x.needs t p) (list_all (λ (y : Part). is_met y.needs t p) ps) h in
    and_from (type_meets x.needs t) (list_all (λ (y : Part). type_meets y.needs t) ps) (met_by_type x.needs t p k.0) (types_met t p ps k.1)

kept_all : (t p : Option ℕ) (ps : List Part) → number_of key.DlType ps ≡ t → number_of key.NwProto ps ≡ p → list_all (λ (x : Part). is_met x.needs t p) ps ≡ true → kept ps ≡ ps
unfolding kept
kept_all t p ps type protocol h =
    rw (type, all_kept (λ (x : Part). type_meets x.needs t) ps (types_met t p ps h), protocol) (all_kept (λ (x : Part). is_met x.needs t p) ps h)

-- ---- the match

-- the parts of all fields, each stated once: none repeats a bit, and they make up the match
pub all_together : (m : Match) (block : FieldId → List Part) (fs : List FieldId) → length m.key ≡ field_count → length m.mask ≡ field_count
    → ((f : FieldId) → IsBlock m f (block f)) → are_new [] fs ≡ true → ((f : FieldId) → is_in (place_of f) (seen_after [] fs) ≡ true)
    → FollowEachOther [] (flat_map block fs) × (match_of (kept (flat_map block fs)) ≡ m)
all_together m block fs key_fields mask_fields blocks new all =
    let ps = flat_map block fs in
    let t = all_more m block blocks fs [] [] new (nothing_together m) in
    let number : (f : FieldId) → IsExact f → number_of f ps ≡ number_stated m f = λ f exact. t.1.number f exact ∙ ap (λ t. cond t (number_stated m f) None) (all f) in
    let value : (f : FieldId) → stated_at the_value (place_of f) 0 ps ≡ value_of m.key f = λ f. t.1.value (place_of f) ∙ ap (λ t. cond t (value_of m.key f) 0) (all f) in
    let mask : (f : FieldId) → stated_at the_mask (place_of f) 0 ps ≡ value_of m.mask f = λ f. t.1.mask (place_of f) ∙ ap (λ t. cond t (value_of m.mask f) 0) (all f) in (
      t.0,
      ap match_of (kept_all (number_stated m key.DlType) (number_stated m key.NwProto) ps (number key.DlType tt) (number key.NwProto tt) t.1.met)
          ∙ same_match m ps key_fields mask_fields value mask,
    )
