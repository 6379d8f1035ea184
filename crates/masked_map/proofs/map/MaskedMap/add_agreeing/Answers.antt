use Rattle.std.proofs.Common.{◌++◌, sym, ap, ◌∙◌}
use Rattle.std.proofs.lemmas.Result.{IfOk-weaker}
use Rattle.spec_keys.specs.Keys.{common_bits}
use Rattle.ovs_fields.specs.Packed.{numbers, bits}
use Rattle.masked_map.specs.Compact.{list_of}
use Rattle.masked_map.specs.Maps.{mask_in, entries_in, wanted_values, listed, agreeing}
use Rattle.masked_map.proofs.map.MaskedMap.add_agreeing.Goals as goal

pub returns-in-Compact-clause-found : goal.returns-in-Compact-clause-found
returns-in-Compact-clause-found g c =
    let key = numbers c.args.key.now in
    let was = c.args.found.now.items in
    let es = listed list_of c.in-Compact.map.by_key.entries in
    IfOk-weaker c.add_with_bits.result _ _
    (λ _ found.
    found
    ∙ ap (λ wanted. was ++ wanted_values wanted (list_of c.common-common.result) es) c.masked.ensures
    ∙ ap (λ m. was ++ agreeing key m es) c.common-common.ensures
    ∙ ap (λ e. was ++ agreeing key (common_bits (bits c.args.mask.now) (mask_in e)) (entries_in e)) (sym c.in-Compact.is))
    c.add_with_bits.ensures

pub returns-in-Whole-clause-found : goal.returns-in-Whole-clause-found
returns-in-Whole-clause-found g c =
    let key = numbers c.args.key.now in
    let was = c.args.found.now.items in
    IfOk-weaker c.add_whole.result _ _
    (λ _ found.
    found
    ∙ ap (λ m. was ++ agreeing key m (listed numbers c.in-Whole.map.entries)) c.and.ensures
    ∙ ap (λ e. was ++ agreeing key (common_bits (bits c.args.mask.now) (mask_in e)) (entries_in e)) (sym c.in-Whole.is))
    c.add_whole.ensures
