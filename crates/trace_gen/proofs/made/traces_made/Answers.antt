use Rattle.std.proofs.Common.{◌+◌, ap}
use Rattle.trace_gen.proofs.Traces.{ports-more}
use Rattle.trace_gen.proofs.made.traces_made.Goals as goal

pub ports-preserved : goal.ports-preserved
ports-preserved c =
    ports-more c.args.number c.ports.place c.ports.traces.items c.push.new.self.items
    (record { port = c.ports.place + 1; bytes = c.in_ok-bytes.bytes }) c.ports.invariant c.in_ok-push.ensures.items
    (ap (λ bytes. (c.ports.place + 1, bytes)) c.in_ok-bytes.ensures)
