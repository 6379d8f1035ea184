use Rattle.std.proofs.Common.{List, ap₂}
use Rattle.spec_tables.specs.Rules.{Rule}
use Rattle.spec_tools.specs.DiffVerdict.{Accepted}
use Rattle.diff_app.proofs.Stages.{of_edits, live-rules, runnable}
use Rattle.diff_app.proofs.inputs.inputs_of.Goals as goal

pub returns-clause-view : goal.returns-clause-view
returns-clause-view c =
    let made : List Rule → List Rule → Accepted = λ old new. record { old = old; new = new; ports = c.args.ports.items; brief = c.args.brief } in
    ap₂ made (live-rules c.args.old c.requires.old) (live-rules c.args.new c.requires.new)

pub returns-clause-comparable : goal.returns-clause-comparable
returns-clause-comparable c = record {
  old_edits = of_edits c.args.old c.requires.old;
  new_edits = of_edits c.args.new c.requires.new;
  old_runnable = runnable c.args.old c.requires.old;
  new_runnable = runnable c.args.new c.requires.new;
}
