use Rattle.std.proofs.Common.{ℕ, refl}
use Rattle.spec_case.specs.declared.run_step.RunStep.TheVariants as given
use Rattle.given_steps.proofs.Taken.{of_step}
use Rattle.given_steps.proofs.steps.taken.Goals as goal

pub returns-in-Rx : goal.returns-in-Rx
returns-in-Rx g c =
    let newest = c.args.tables.now in
    of_step g.C.Case.run newest c.args.step (λ (p : ℕ). given.Rx p) c.in-Rx.port c.args.board.now c.rx.new.board c.rx.result c.in-Rx.is refl c.requires.of_port (c.rx.ensures newest)

pub returns-in-Put : goal.returns-in-Put
returns-in-Put g c =
    let newest = c.args.tables.now in
    of_step g.C.Case.run newest c.args.step (λ (p : ℕ). given.Put p c.in-Put.entry) c.in-Put.port c.args.board.now c.put.new.board c.put.result c.in-Put.is refl c.requires.of_port (c.put.ensures newest)

pub returns-in-Swept : goal.returns-in-Swept
returns-in-Swept g c =
    let newest = c.args.tables.now in
    of_step g.C.Case.run newest c.args.step (λ (p : ℕ). given.Swept p) c.in-Swept.port c.args.board.now c.swept.new.board c.swept.result c.in-Swept.is refl c.requires.of_port (c.swept.ensures newest)

pub returns-in-Open : goal.returns-in-Open
returns-in-Open g c =
    let newest = c.args.tables.now in
    of_step g.C.Case.run newest c.args.step (λ (p : ℕ). given.Open p) c.in-Open.port c.args.board.now c.open.new.board c.open.result c.in-Open.is refl c.requires.of_port (c.open.ensures newest)
