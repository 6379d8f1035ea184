use Rattle.std.proofs.Common.{sym, ap, ◌∙◌}
use Rattle.std.specs.Option.{option_map}
use Rattle.std.proofs.lemmas.Option.{slice_get-map}
use Rattle.ovs_fields.specs.declared.mask.Mask.{Mask}
use Rattle.ovs_fields.specs.Packed.{bits}
use Rattle.megaflow_table.specs.Subtables.{Subtable}
use Rattle.megaflow_table.proofs.RankLaws.{once-ranks}
use Rattle.megaflow_table.proofs.ranks.rank_at.Goals as goal

pub returns-in_err-mask-clause-once : goal.returns-in_err-mask-clause-once
returns-in_err-mask-clause-once c = once-ranks c.args.subtables.now.entries c.len.ensures.unique

pub returns-clause-place : goal.returns-clause-place
returns-clause-place c =
    ap (option_map (λ (t : Mask × Subtable). (bits t.0, t.1.hits))) c.in_ok-mask.ensures.entry
    ∙ sym (slice_get-map (λ (t : Mask × Subtable). (bits t.0, t.1.hits)) c.args.subtables.now.entries c.args.place)

pub returns-clause-once : goal.returns-clause-once
returns-clause-once c = once-ranks c.args.subtables.now.entries c.len.ensures.unique
