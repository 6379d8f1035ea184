use Rattle.std.proofs.Common.{◌≡◌, true, List, ℕ, sym, subst}
use Rattle.std.specs.List.{list_all}
use Rattle.rule_changes.specs.Lockstep.{keeps}
use Rattle.rule_changes.proofs.KeptLaws.{all_keep-none}
use Rattle.rule_changes.proofs.kept.kept_bits.Goals as goal

pub returns-else-all_keep : goal.returns-else-all_keep
returns-else-all_keep c r i = subst (λ (m : List ℕ). list_all (keeps m) r.actions ≡ true) (sym c.none.ensures) (all_keep-none r.actions)
