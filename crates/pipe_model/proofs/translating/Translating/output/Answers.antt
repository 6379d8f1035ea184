use Rattle.std.proofs.lemmas.Result.{on_ok_weaker}
use Rattle.pipe_model.specs.States.{state_of, without_rules}
use Rattle.pipe_model.proofs.Acting.{output-sent, output-none}
use Rattle.pipe_model.proofs.translating.Translating.output.Goals as goal

pub returns-in-None : goal.returns-in-None
returns-in-None c = output-none (without_rules c.args.ports.now) c.args.number (state_of c.args.self.now) c.in-None.ensures

pub returns-in-Some : goal.returns-in-Some
returns-in-Some c =
    on_ok_weaker c.send.result
    (λ e. output-sent (without_rules c.args.ports.now) c.args.number c.in-Some.port (state_of c.args.self.now) (state_of c.send.new.self) c.in-Some.ensures e)
    c.send.ensures
