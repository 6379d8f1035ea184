-- The Ethernet type and the protocol by which parts are kept are those of the match that they make.
use Rattle.std.proofs.Common.{◌≡◌, ℕ, ◌⊎◌, inl, inr, Bool, true, false, cond, List, [], ◌∷◌, filter, refl, sym, subst, ap, ◌∙◌, Option, eqb-true, eq-eqb}
use Rattle.std.specs.Prelude.{◌==◌}
use Rattle.std.proofs.lemmas.Bool.{both_ways}
use Rattle.spec_base.specs.Bits.{all_bits}
use Rattle.spec_keys.specs.declared.field_id.FieldId.{FieldId}
use Rattle.spec_keys.specs.declared.field_id.FieldId.TheVariants as key
use Rattle.spec_keys.specs.Fields.{place_of, width_of}
use Rattle.spec_keys.specs.Keys.{value_of}
use Rattle.spec_flow_text.specs.declared.part.MatchPrerequisite.{MatchPrerequisite}
use Rattle.spec_flow_text.specs.declared.part.MatchPrerequisite.TheVariants as needs
use Rattle.spec_flow_text.specs.declared.part.Part.{Part}
use Rattle.spec_flow_text.specs.Values.{type_meets, is_met}
use Rattle.spec_flow_text.specs.Matches.{number_of, match_of}
use Rattle.spec_flow_text.specs.Printed.{bits_of, is_whole}
use Rattle.text_laws.specs.SpelledMatches.{number_stated}
use Rattle.text_laws.proofs.matches.PartsAt.{same_place, the_mask, are_off, stated-off, match_key, match_mask}
use Rattle.text_laws.proofs.matches.Together.{find_off}
use Rattle.text_laws.proofs.round_trips.PartsRead.{IsProtocolNeed, MayNeed, IsStatable}
use Rattle.text_laws.proofs.round_trips.LinesRead.{AreStatable}
use Rattle.text_laws.proofs.round_trips.Gathered.{IsOne}

-- ---- the numbers that prerequisites stand on

abbrev FirstIs : FieldId → List Part → List Part → Type 0
FirstIs f ps qs = number_of f ps ≡ number_of f qs

skipped : (f : FieldId) (p : Part) (ps : List Part) (t : Bool) → (place_of p.field == place_of f) ≡ false → FirstIs f (cond t (p ∷ ps) ps) ps
skipped f p ps true other = rw other refl
skipped f p ps false other = refl

met_both : (f : FieldId) (p : Part) (ps qs : List Part) (t u h : Bool) → (place_of p.field == place_of f) ≡ h → (h ≡ true → t ≡ u) → FirstIs f ps qs → FirstIs f (cond t (p ∷ ps) ps) (cond u (p ∷ qs) qs)
met_both f p ps qs t u false is same rest = skipped f p ps t is ∙ rest ∙ sym (skipped f p qs u is)
met_both f p ps qs true true true is same rest = rw is refl
met_both f p ps qs false false true is same rest = rest
met_both f p ps qs true false true is same rest = absurd (both_ways true (same refl) refl)
met_both f p ps qs false true true is same rest = absurd (both_ways false refl (same refl))

-- what is first of a field in what two tests let through that agree on that field
first_of_both : (f : FieldId) (q r : Part → Bool) (ps : List Part) → AreStatable ps → ((p : Part) → IsStatable p → p.field ≡ f → q p ≡ r p) → FirstIs f (filter q ps) (filter r ps)
first_of_both f q r [] all same = refl
first_of_both f q r (p ∷ ps) all same =
    met_both f p (filter q ps) (filter r ps) (q p) (r p) (place_of p.field == place_of f) refl (λ is. same p all.0 (same_place p.field f (eqb-true (place_of p.field) (place_of f) is))) (first_of_both f q r ps all.1 same)

everything : (ps : List Part) → filter (λ (p : Part). true) ps ≡ ps
everything [] = refl
everything (p ∷ ps) = ap (λ qs. p ∷ qs) (everything ps)

-- parts that are kept for a type and a protocol
abbrev pub IsKept : Option ℕ → Option ℕ → Part → Type 0
IsKept t p q = IsStatable q × (is_met q.needs t p ≡ true)

abbrev pub for_both : Option ℕ → Option ℕ → Part → Bool
for_both t p q = is_met q.needs t p

pub type_first : (t p : Option ℕ) (ps : List Part) → AreStatable ps → number_of key.DlType (filter (for_both t p) ps) ≡ number_of key.DlType ps
type_first t p ps all = first_of_both key.DlType (for_both t p) (λ q. true) ps all type_kept ∙ ap (number_of key.DlType) (everything ps)
  where
    type_kept : (q : Part) → IsStatable q → q.field ≡ key.DlType → is_met q.needs t p ≡ true
    type_kept q s e = ap (λ n. is_met n t p) (subst (λ f. MayNeed f q.needs) e s.needed)

protocol_by_type : (n : MatchPrerequisite) (t p : Option ℕ) → IsProtocolNeed n → is_met n t p ≡ type_meets n t
protocol_by_type needs.Ip t p a = refl
protocol_by_type needs.IpOrArp t p a = refl
protocol_by_type needs.Arp t p a = refl
protocol_by_type n t p a = absurd a

pub protocol_first : (t p : Option ℕ) (ps : List Part) → AreStatable ps → number_of key.NwProto (filter (for_both t p) ps) ≡ number_of key.NwProto (filter (λ (q : Part). type_meets q.needs t) ps)
protocol_first t p ps all =
    first_of_both key.NwProto (for_both t p) (λ q. type_meets q.needs t) ps all (λ q s e. protocol_by_type q.needs t p (subst (λ f. MayNeed f q.needs) e s.needed))

-- ---- a field that is stated whole

pub exact_stated : (f : FieldId) (full : ℕ) (G : Part → Type 0) (ps : List Part) → all_bits (width_of f) ≡ full → (0 == full) ≡ false
    → (are_off (place_of f) ps ≡ true) ⊎ ((p : Part) × IsOne f G ps p) → ((p : Part) → G p → p.field ≡ f → p.mask ≡ full) → number_stated (match_of ps) f ≡ number_of f ps
exact_stated f full G ps w some (inl off) whole =
    let mask : value_of (match_of ps).mask f ≡ 0 = match_mask ps (place_of f) ∙ stated-off the_mask (place_of f) 0 ps off in
    let part : is_whole f (bits_of (match_of ps) f) ≡ false = rw (mask, w) some in
    rw (part, find_off f ps off) refl
exact_stated f full G ps w some (inr one) whole =
    let o = one.1 in
    let mask : value_of (match_of ps).mask f ≡ full = match_mask ps (place_of f) ∙ o.mask ∙ whole one.0 o.fact o.field in
    let value : value_of (match_of ps).key f ≡ one.0.value = match_key ps (place_of f) ∙ o.value in
    let all : is_whole f (bits_of (match_of ps) f) ≡ true = rw (mask, w) (eq-eqb full full refl) in
    rw (all, value) (sym o.number)
