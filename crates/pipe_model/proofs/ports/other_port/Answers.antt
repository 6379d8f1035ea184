use Rattle.std.proofs.Common.{sym, ◌∙◌}
use Rattle.ovs_fields.specs.Packed.{numbers}
use Rattle.pipe_model.specs.States.{without_rules}
use Rattle.pipe_model.proofs.Acting.{other_found}
use Rattle.pipe_model.proofs.ports.other_port.Goals as goal

pub returns : goal.returns
returns c =
    c.port_of.ensures ∙ other_found (without_rules c.args.ports.now) (numbers c.args.key.now) c.args.number (λ e. c.if-number-get.false (e ∙ sym c.get.ensures.value))
