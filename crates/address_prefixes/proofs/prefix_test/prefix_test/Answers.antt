use Rattle.std.proofs.Common.{◌≡◌, ℕ, ◌<◌, min, List, refl, sym, ap, ◌∙◌, arith, eq-eqb}
use Rattle.spec_keys.specs.declared.field_id.FieldId.{FieldId}
use Rattle.spec_keys.specs.Fields.{width_of}
use Rattle.spec_keys.specs.Keys.{value_of}
use Rattle.spec_xlate.specs.Lookup.{prefix_length, prefixes}
use Rattle.ovs_fields.specs.Packed.{numbers, bits}
use Rattle.address_prefixes.specs.declared.field_prefix.FieldPrefix.{FieldPrefix}
use Rattle.address_prefixes.specs.OfField.{IsPrefixOf}
use Rattle.address_prefixes.proofs.Lengths.{not_zero}
use Rattle.address_prefixes.proofs.MatchLaws.{none_begins}
use Rattle.address_prefixes.proofs.PrefixTests.{test_none, test_through, test_ended}
use Rattle.address_prefixes.proofs.TrieLaws.{begins_told}
use Rattle.address_prefixes.proofs.prefix_test.prefix_test.Goals as goal

-- a prefix is no longer than its field
own_length : (p : FieldPrefix) (f : FieldId) (mask : List ℕ) (n w : ℕ) → IsPrefixOf p f mask → n ≡ min p.length w → w ≡ width_of f → n ≡ prefix_length (width_of f) (value_of mask f)
own_length p f mask n w of least wide =
    let within = p.within in
    let same_width = ap width_of of.field_is in
    let own : n ≡ p.length = omega (arith, least, wide, within, same_width) in
    own ∙ of.length_is

pub returns-then-length-eq0-clause-consulted : goal.returns-then-length-eq0-clause-consulted
returns-then-length-eq0-clause-consulted c rs mask is known of =
    test_none c.args.field c.args.field rs (bits c.args.consulted.now) (numbers c.args.key.now) mask c.args.alive c.min-length.result c.if-not-alive.false refl (own_length c.args.prefix.now c.args.field mask c.min-length.result c.width-width.result of c.min-length.ensures c.width-width.ensures) (eq-eqb _ _ c.if-length-eq0.true)

pub returns-then-begins_with_some-clause-consulted : goal.returns-then-begins_with_some-clause-consulted
returns-then-begins_with_some-clause-consulted c rs mask is known of =
    let key = numbers c.args.key.now in
    let n = c.min-length.result in
    let some : 0 < n = (let no = c.if-length-eq0.false in omega (arith, no)) in
    let told = c.begins_with_some.ensures ∙ begins_told (width_of c.args.field) (value_of key c.args.field) n (prefixes c.args.field rs) c.found_in-found.result (c.found_in-found.ensures.result rs is known) some in
    test_through c.args.field c.args.field rs (bits c.args.consulted.now) key mask c.args.alive n c.if-not-alive.false refl (own_length c.args.prefix.now c.args.field mask c.min-length.result c.width-width.result of c.min-length.ensures c.width-width.ensures)
    c.begins_with_some.result _ _ _ (not_zero n some) told c.if-begins_with_some.true c.width-width.ensures c.leading.ensures c.add.ensures

pub returns-clause-consulted : goal.returns-clause-consulted
returns-clause-consulted c rs mask is known of =
    let key = numbers c.args.key.now in
    let n = c.min-length.result in
    let some : 0 < n = (let no = c.if-length-eq0.false in omega (arith, no)) in
    let found = c.found_in-found.ensures.result rs is known in
    let told = c.begins_with_some.ensures ∙ begins_told (width_of c.args.field) (value_of key c.args.field) n (prefixes c.args.field rs) c.found_in-found.result found some in
    test_ended c.args.field c.args.field rs (bits c.args.consulted.now) key mask c.args.alive n c.if-not-alive.false refl (own_length c.args.prefix.now c.args.field mask c.min-length.result c.width-width.result of c.min-length.ensures c.width-width.ensures)
    c.begins_with_some.result _ _ _ _ _ (not_zero n some) told c.if-begins_with_some.false found.bits c.min-decided.ensures c.width-width.ensures c.leading-2.ensures c.add-2.ensures

pub returns-clause-unmatched : goal.returns-clause-unmatched
returns-clause-unmatched c rs mask is known of live ended =
    let key = numbers c.args.key.now in
    let n = c.min-length.result in
    let some : 0 < n = (let no = c.if-length-eq0.false in omega (arith, no)) in
    let told = c.begins_with_some.ensures ∙ begins_told (width_of c.args.field) (value_of key c.args.field) n (prefixes c.args.field rs) c.found_in-found.result (c.found_in-found.ensures.result rs is known) some in
    none_begins c.args.field rs key mask n (own_length c.args.prefix.now c.args.field mask c.min-length.result c.width-width.result of c.min-length.ensures c.width-width.ensures) (not_zero n some) (sym told ∙ c.if-begins_with_some.false)
