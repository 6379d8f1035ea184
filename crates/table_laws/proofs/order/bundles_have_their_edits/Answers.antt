use Rattle.table_laws.proofs.Bundles.{in_order, within, few_bundles}
use Rattle.table_laws.proofs.order.bundles_have_their_edits.Goals as goal

pub returns-clause-in_order : goal.returns-clause-in_order
returns-clause-in_order c = λ bundles edits v w are. in_order bundles edits are v w

pub returns-clause-within : goal.returns-clause-within
returns-clause-within c = λ bundles edits v are. within bundles edits are v

pub returns-clause-few : goal.returns-clause-few
returns-clause-few c = λ bundles edits are. few_bundles bundles edits are
