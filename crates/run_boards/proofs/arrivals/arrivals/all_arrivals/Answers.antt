use Rattle.std.proofs.Common.{◌≡◌, sym, ap, ◌∙◌, arith}
use Rattle.std.proofs.lemmas.List.{take_all}
use Rattle.run_boards.proofs.arrivals.Places.{arrivals_to, arrivals-by_port}
use Rattle.run_boards.proofs.arrivals.arrivals.all_arrivals.Goals as goal

pub returns : goal.returns
returns g c =
    let run = g.C.Case.run in
    let same : c.as_slice-port-items.result.now ≡ run.ports = c.as_slice-port-items.ensures.list ∙ c.ports.ensures in
    let distinct = rw same at c.as_slice-port-items.ensures.distinct in
    c.traces.invariant ∙ ap (arrivals_to run.ports run.traces) (take_all c.traces.port-index c.as_slice-port-items.result.now (omega arith) ∙ same)
    ∙ sym (arrivals-by_port run.ports run.traces distinct)
