use Rattle.std.proofs.Common.{◌++◌, List, ℕ, sym, ap, ◌∙◌}
use Rattle.std.specs.Option.{option_to_list}
use Rattle.std.proofs.lemmas.Bool.{cond-false}
use Rattle.std.proofs.lemmas.Result.{IfOk-weaker}
use Rattle.masked_map.specs.Maps.{agreeing, entries_of}
use Rattle.spec_keys.specs.Keys.{masked, covers, common_bits}
use Rattle.ovs_fields.specs.Packed.{numbers, bits}
use Rattle.megaflow_table.specs.Subtables.{number_in}
use Rattle.megaflow_table.proofs.overlaps.add_overlapping.Goals as goal

pub returns-then-not-covers-clause-found : goal.returns-then-not-covers-clause-found
returns-then-not-covers-clause-found c =
    let key = numbers c.args.key.now.key.now in
    let subtable = c.args.subtable.now in
    let mask = bits c.args.mask.now in
    let of = bits c.args.subtable_mask.now in
    IfOk-weaker c.add_agreeing.result _ _
    (λ _ found.
    found
    ∙ ap (λ (m : List ℕ). c.args.found.now.items ++ agreeing key (common_bits mask m) (entries_of subtable.numbers)) c.requires
    ∙ ap (λ (ns : List ℕ). c.args.found.now.items ++ ns)
    (sym (cond-false (covers mask of) (option_to_list (number_in subtable (masked key of))) (agreeing key (common_bits mask of) (entries_of subtable.numbers)) (sym c.covers.ensures ∙ c.if-not-covers.true))))
    c.add_agreeing.ensures.found
