use Rattle.std.proofs.Common.{◌∙◌}
use Rattle.edit_script.proofs.Bundling.{nothing_kept}
use Rattle.edit_script.proofs.script.nothing_read.Goals as goal

pub returns-clause-kept : goal.returns-clause-kept
returns-clause-kept c =
    rw (c.new.ensures.items, c.new-2.ensures.items, c.new-6.ensures.items) (nothing_kept c.in_ok-rules.rules.value (c.in_ok-rules.ensures.ok ∙ c.new-4.ensures))
