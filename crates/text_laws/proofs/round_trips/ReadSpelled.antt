-- A match that is read can be spelled.
use Rattle.std.proofs.Common.{◌≡◌, ℕ, ◌⊎◌, inl, inr, Bool, true, false, List, [], ◌∷◌, filter, refl, sym, subst, ap, ◌∙◌, Option, Ok, eqb-true}
use Rattle.std.specs.Prelude.{◌&&◌, ◌||◌, ◌==◌}
use Rattle.std.proofs.lemmas.Bool.{and_from}
use Rattle.spec_base.specs.Bits.{all_bits}
use Rattle.spec_keys.specs.declared.field_id.FieldId.{FieldId}
use Rattle.spec_keys.specs.declared.field_id.FieldId.TheVariants as key
use Rattle.spec_keys.specs.Fields.{place_of}
use Rattle.spec_tables.specs.declared.edit_word.EditWord.{EditWord}
use Rattle.spec_flow_text.specs.declared.part.Part.{Part}
use Rattle.spec_flow_text.specs.Values.{bits, needs_of, is_met}
use Rattle.spec_flow_text.specs.Matches.{number_of, kept_by_type, kept, match_of, MatchText, read_match}
use Rattle.spec_flow_text.specs.Printed.{bits_of, shorthand_of, name_after}
use Rattle.text_laws.specs.SpelledMatches.{is_stated, number_stated, has_needed, is_field_spelled, IsSpellable}
use Rattle.text_laws.proofs.matches.PartsAt.{same_place, the_mask, are_off, stated-off, match_key_length, match_mask_length, match_key, match_mask}
use Rattle.text_laws.proofs.round_trips.PartsRead.{ReadRanges, MayNeed, Suits, IsTagged, IsStatable}
use Rattle.text_laws.proofs.round_trips.LinesRead.{AreStatable, match_read}
use Rattle.text_laws.proofs.round_trips.Gathered.{AllOf, all_in_filter, AreApart, follow_apart, apart_filter, one_or_none}
use Rattle.text_laws.proofs.round_trips.KeptNumbers.{IsKept, for_both, type_first, protocol_first, exact_stated}
use Rattle.text_laws.proofs.round_trips.Needs.{short_for, short_of_numbers, short_said, carried}
use Rattle.text_laws.proofs.round_trips.FieldsSpelled.{value_by, mask_by, stated_together}

-- ---- what is needed

some_or_off : (f : FieldId) (G : Part → Type 0) (ps : List Part) → AllOf G ps → (are_off (place_of f) ps ≡ true) ⊎ ((q : Part) × G q × (q.field ≡ f))
some_or_off f G [] all = inl refl
some_or_off f G (q ∷ ps) all = by_test (place_of q.field == place_of f) refl (some_or_off f G ps all.1)
  where
    by_test : (t : Bool) → (place_of q.field == place_of f) ≡ t → (are_off (place_of f) ps ≡ true) ⊎ ((x : Part) × G x × (x.field ≡ f)) → (are_off (place_of f) (q ∷ ps) ≡ true) ⊎ ((x : Part) × G x × (x.field ≡ f))
    by_test true is rest = inr (q, all.0, same_place q.field f (eqb-true (place_of q.field) (place_of f) is))
    by_test false is (inl off) = inl (rw is off)
    by_test false is (inr some) = inr some

needed_together : (t p : Option ℕ) (ps : List Part) → AllOf (IsKept t p) ps → (f : FieldId) → ((mask_by f ps == 0) || is_met (needs_of (name_after (short_for t p) f)) t p) ≡ true
needed_together t p ps all f = by_count (some_or_off f (IsKept t p) ps all)
  where
    anyway : (b : Bool) → (b || true) ≡ true
    anyway true = refl
    anyway false = refl

    by_count : (are_off (place_of f) ps ≡ true) ⊎ ((q : Part) × IsKept t p q × (q.field ≡ f)) → ((mask_by f ps == 0) || is_met (needs_of (name_after (short_for t p) f)) t p) ≡ true
    by_count (inl off) = rw (stated-off the_mask (place_of f) 0 ps off) refl
    by_count (inr some) =
        let met = carried f some.0.needs t p (subst (λ x. MayNeed x some.0.needs) some.2 some.1.0.needed) some.1.1 in
        rw met (anyway (mask_by f ps == 0))

-- ---- the match

numbers_same : (t p : Option ℕ) (ps : List Part) → AllOf (IsKept t p) ps → AreApart ps → (number_stated (match_of ps) key.DlType ≡ number_of key.DlType ps) × (number_stated (match_of ps) key.NwProto ≡ number_of key.NwProto ps)
numbers_same t p ps all apart = (
  exact_stated key.DlType (all_bits 16) (IsKept t p) ps refl refl
      (one_or_none key.DlType (all_bits 16) (IsKept t p) ps refl refl (λ q g e. (suits key.DlType q g e, tagged key.DlType q g e)) all apart) (suits key.DlType),
  exact_stated key.NwProto (all_bits 8) (IsKept t p) ps refl refl
      (one_or_none key.NwProto (all_bits 8) (IsKept t p) ps refl refl (λ q g e. (suits key.NwProto q g e, tagged key.NwProto q g e)) all apart) (suits key.NwProto),
)
  where
    suits : (f : FieldId) (q : Part) → IsKept t p q → q.field ≡ f → Suits f q.needs q.value q.mask
    suits f q g e = subst (λ x. Suits x q.needs q.value q.mask) e g.0.suits

    tagged : (f : FieldId) (q : Part) → IsKept t p q → q.field ≡ f → IsTagged f q.tag
    tagged f q g e = subst (λ x. IsTagged x q.tag) e g.0.tagged

-- parts that are kept for a type and a protocol which they themselves state
spelled_together : (t p : Option ℕ) (ps : List Part) → AllOf (IsKept t p) ps → AreApart ps → number_of key.DlType ps ≡ t → number_of key.NwProto ps ≡ p → IsSpellable (match_of ps)
spelled_together t p ps all apart type protocol =
    let m = match_of ps in
    let numbers = numbers_same t p ps all apart in
    let kind : number_stated m key.DlType ≡ t = numbers.0 ∙ type in
    let carried_by : number_stated m key.NwProto ≡ p = numbers.1 ∙ protocol in
    let short : shorthand_of m ≡ short_for t p = short_of_numbers m ∙ (rw (kind, carried_by) refl) in
    record { key_fields = match_key_length ps; mask_fields = match_mask_length ps; fields = λ f. field f short kind carried_by }
  where
    same_bits : (f : FieldId) → bits_of (match_of ps) f ≡ bits (value_by f ps) (mask_by f ps)
    same_bits f = rw (match_key ps (place_of f), match_mask ps (place_of f)) refl

    field : (f : FieldId) → shorthand_of (match_of ps) ≡ short_for t p → number_stated (match_of ps) key.DlType ≡ t → number_stated (match_of ps) key.NwProto ≡ p → is_field_spelled (match_of ps) f ≡ true
    field f short kind protocol =
        let n = name_after (short_for t p) f in
        let b = bits (value_by f ps) (mask_by f ps) in
        let stated = stated_together (short_for t p) t p ps (short_said t p) all apart f in
        let needed : ((b.mask == 0) || is_met (needs_of n) (number_stated (match_of ps) key.DlType) (number_stated (match_of ps) key.NwProto)) ≡ true =
        ap (λ x. (b.mask == 0) || is_met (needs_of n) x (number_stated (match_of ps) key.NwProto)) kind
        ∙ ap (λ x. (b.mask == 0) || is_met (needs_of n) t x) protocol
        ∙ needed_together t p ps all f in
        ap (λ s. is_stated (name_after s f) (bits_of (match_of ps) f) && has_needed (match_of ps) (name_after s f) (bits_of (match_of ps) f)) short
        ∙ ap (λ c. is_stated n c && has_needed (match_of ps) n c) (same_bits f)
        ∙ and_from (is_stated n b) (has_needed (match_of ps) n b) stated needed

pub all_of : (ps : List Part) → AreStatable ps → AllOf IsStatable ps
all_of [] h = tt
all_of (p ∷ ps) h = (h.0, all_of ps h.1)

kept_spelled : (ps : List Part) → AreStatable ps → AreApart ps → IsSpellable (match_of (kept ps))
unfolding kept
kept_spelled ps all apart =
    let t = number_of key.DlType ps in
    let p = number_of key.NwProto (kept_by_type ps) in
    spelled_together t p (filter (for_both t p) ps) (all_in_filter IsStatable (for_both t p) ps (all_of ps all)) (apart_filter (for_both t p) ps apart) (type_first t p ps all) (protocol_first t p ps all)

pub read_spelled : ReadRanges → (word : EditWord) (at : ℕ) (line : List ℕ) (t : MatchText) → read_match word at line ≡ Ok t → IsSpellable t.matching
read_spelled k word at line t h =
    let s = match_read k word at line t h in
    subst IsSpellable (sym s.2) (kept_spelled s.0.parts s.1.each (follow_apart s.0.parts s.1.apart))
