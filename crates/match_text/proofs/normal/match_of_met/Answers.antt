use Rattle.std.proofs.Common.{◌≡◌, ℕ, List, Bool, true, false, filter, fold, get_or, ap, ap₂, sym, ◌∙◌}
use Rattle.std.proofs.lemmas.Nat.{or_lt}
use Rattle.std.proofs.lemmas.List.Elements.{All-get_or}
use Rattle.spec_keys.specs.Fields.{place_of, width_of}
use Rattle.field_text.specs.Views.{IsWithin}
use Rattle.spec_keys.specs.declared.field_id.FieldId.TheVariants.{InPort}
use Rattle.spec_tables.specs.Rules as tables
use Rattle.spec_flow_text.specs.declared.part.Part.{Part}
use Rattle.spec_flow_text.specs.declared.part.MatchPrerequisite.TheVariants.{Nothing}
use Rattle.spec_flow_text.specs.declared.part.TagPart.TheVariants.{Neither}
use Rattle.spec_flow_text.specs.Values.{is_met}
use Rattle.spec_flow_text.specs.Matches.{with_key_bits, with_mask_bits, match_of}
use Rattle.ovs_fields.specs.Packed.{numbers, bits}
use Rattle.match_text.proofs.Bits.{more_is_normalised, nothing_is_normalised}
use Rattle.match_text.proofs.Filters.{folds, passes_over, folded}
use Rattle.match_text.proofs.normal.match_of_met.Goals as goal

-- what stands where no part does
abbrev blank : Part
blank = record { field = InPort; value = 0; mask = 0; needs = Nothing; tag = Neither }

pub parts-init : goal.parts-init
parts-init c = record {
  key = ap (λ (k : List ℕ). fold with_key_bits k (filter (λ (q : Part). is_met q.needs c.args.ethernet_type c.args.protocol) c.args.parts.now)) c.zero-key.ensures;
  mask = ap (λ (m : List ℕ). fold with_mask_bits m (filter (λ (q : Part). is_met q.needs c.args.ethernet_type c.args.protocol) c.args.parts.now)) c.none-mask.ensures;
  normalised = rw (c.zero-key.ensures, c.none-mask.ensures) nothing_is_normalised;
}

-- each part is within its field
pub set-requires : goal.set-requires
set-requires c =
    let part : Part = get_or c.args.parts.now c.parts.part-index blank in
    let within : IsWithin part = All-get_or IsWithin c.args.parts.now c.parts.part-index blank c.parts-test.true c.requires in
    or_lt (width_of part.field) c.get.result part.value c.get.ensures.within within.0

pub add-requires : goal.add-requires
add-requires c =
    let part : Part = get_or c.args.parts.now c.parts.part-index blank in
    let within : IsWithin part = All-get_or IsWithin c.args.parts.now c.parts.part-index blank c.parts-test.true c.requires in
    within.1

pub parts-preserved-then-not-is_met : goal.parts-preserved-then-not-is_met
parts-preserved-then-not-is_met c =
    let q : Part → Bool = λ (part : Part). is_met part.needs c.args.ethernet_type c.args.protocol in
    let unmet : q (get_or c.args.parts.now c.parts.part-index blank) ≡ false = sym c.is_met.ensures ∙ c.if-not-is_met.true in
    record {
      key = sym (passes_over with_key_bits q (numbers c.parts.key) c.args.parts.now c.parts.part-index blank c.parts-test.true unmet) ∙ c.parts.invariant.key;
      mask = sym (passes_over with_mask_bits q (bits c.parts.mask) c.args.parts.now c.parts.part-index blank c.parts-test.true unmet) ∙ c.parts.invariant.mask;
      normalised = c.parts.invariant.normalised;
    }

pub parts-preserved : goal.parts-preserved
parts-preserved c =
    let q : Part → Bool = λ (part : Part). is_met part.needs c.args.ethernet_type c.args.protocol in
    let part : Part = get_or c.args.parts.now c.parts.part-index blank in
    let met : q part ≡ true = sym c.is_met.ensures ∙ c.if-not-is_met.false in
    let within : IsWithin part = All-get_or IsWithin c.args.parts.now c.parts.part-index blank c.parts-test.true c.requires in
    record {
      key = rw (c.set.ensures, c.get.ensures.value) (sym (folds with_key_bits q (numbers c.parts.key) c.args.parts.now c.parts.part-index blank c.parts-test.true met) ∙ c.parts.invariant.key);
      mask = rw c.add.ensures (sym (folds with_mask_bits q (bits c.parts.mask) c.args.parts.now c.parts.part-index blank c.parts-test.true met) ∙ c.parts.invariant.mask);
      normalised = rw (c.set.ensures, c.add.ensures, c.get.ensures.value)
          (more_is_normalised (numbers c.parts.key) (bits c.parts.mask) (place_of part.field) part.value part.mask within.2 c.parts.invariant.normalised);
    }

pub invariant_of-result : goal.invariant_of-result
invariant_of-result c = record { normalised = c.parts.invariant.normalised }

pub returns : goal.returns
unfolding match_of
returns c =
    let q : Part → Bool = λ (part : Part). is_met part.needs c.args.ethernet_type c.args.protocol in
    let made : List ℕ → List ℕ → tables.Match = λ k m. record { key = k; mask = m } in
    ap₂ made
    (sym (folded with_key_bits q (numbers c.parts.key) c.args.parts.now c.parts.part-index c.parts-test.false) ∙ c.parts.invariant.key)
    (sym (folded with_mask_bits q (bits c.parts.mask) c.args.parts.now c.parts.part-index c.parts-test.false) ∙ c.parts.invariant.mask)
