use Rattle.std.proofs.Common.{◌==◌, sym, ap, ◌∙◌}
use Rattle.std.specs.Prelude.{is_some}
use Rattle.run_case.proofs.blocks.PlacesOfPorts.{is_some-position, slice_get-position}
use Rattle.run_case.proofs.blocks.ports.Ports.find.Goals as goal

pub returns-in-Some-clause-found : goal.returns-in-Some-clause-found
returns-in-Some-clause-found c =
    let at = rw (c.deref.ensures.value, c.self.view_is) at c.in-Some.ensures in
    ap is_some at ∙ is_some-position (λ p. p == c.args.port) c.args.self.now

pub returns-in-Some-clause-port : goal.returns-in-Some-clause-port
returns-in-Some-clause-port c =
    let at = rw (c.deref.ensures.value, c.self.view_is) at c.in-Some.ensures in
    slice_get-position c.args.port c.args.self.now c.in-Some.place (sym at)

pub returns-in-None-clause-found : goal.returns-in-None-clause-found
returns-in-None-clause-found c =
    let at = rw (c.deref.ensures.value, c.self.view_is) at c.in-None.ensures in
    ap is_some at ∙ is_some-position (λ p. p == c.args.port) c.args.self.now
