use Rattle.std.proofs.Common.{◌≡◌, refl, sym, ap, ◌∙◌}
use Rattle.ovs_fields.specs.Packed.{bits}
use Rattle.table_diff.proofs.WayLaws.{alike_told, other_told, told_sure}
use Rattle.table_diff.proofs.ways.judge_told.Goals as goal

pub returns-then-are_same : goal.returns-then-are_same
returns-then-are_same c o n key ports ho hn to tn =
    let same : c.args.old.actions ≡ c.args.new.actions = sym c.as_slice.ensures ∙ c.are_same.ensures.same c.if-are_same.true ∙ c.as_slice-2.ensures in
    record { same_mask = refl; holds = alike_told o n ports key (bits c.args.mask) c.args.old c.args.new ho hn to tn same; printable = tt }

pub returns-else-are_same : goal.returns-else-are_same
returns-else-are_same c o n key ports ho hn to tn =
    c.differ.ensures o n key ho hn (told_sure c.args.old.told c.args.old.fine to) (told_sure c.args.new.told c.args.new.fine tn)
    (other_told o n ports key (bits c.args.mask) c.args.old c.args.new ho hn to tn
    (λ same. c.are_same.ensures.other c.if-are_same.false (c.as_slice.ensures ∙ same ∙ sym c.as_slice-2.ensures)))
