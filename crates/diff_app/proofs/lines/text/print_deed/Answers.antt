use Rattle.std.proofs.Common.{List, sym, subst}
use Rattle.spec_actions.specs.declared.action.DpAction.{DpAction}
use Rattle.table_diff.specs.declared.deed.Deed.TheVariants.{Datapath}
use Rattle.table_diff.specs.Deeds.{CanPrint}
use Rattle.diff_app.proofs.lines.text.print_deed.Goals as goal

pub print_dp_actions-requires : goal.print_dp_actions-requires
print_dp_actions-requires c = record {
  within = subst (λ (xs : List DpAction). CanPrint (Datapath xs)) (sym c.as_slice.ensures) (subst CanPrint c.in-Datapath.is c.requires);
}
