use Rattle.std.proofs.Common.{sym, ap, ◌∙◌}
use Rattle.spec_actions.specs.Named as table
use Rattle.spec_actions.specs.Named.{named}
use Rattle.spec_xlate.specs.Needs.{is_met}
use Rattle.ovs_fields.specs.Packed.{numbers}
use Rattle.pipe_model.specs.States.{state_of}
use Rattle.pipe_model.proofs.Acting.{write-met, write-unmet}
use Rattle.pipe_model.proofs.translating.Translating.write.Goals as goal

pub returns-then-not-holds : goal.returns-then-not-holds
returns-then-not-holds c =
    let key = numbers c.args.self.now.current in
    write-unmet c.args.name c.args.value c.args.bits (state_of c.args.self.now) (sym (c.if-not-holds.ensures ∙ ap (λ (n : table.Named). is_met n.write_needs key) c.named.ensures))

pub returns : goal.returns
returns c =
    let key = numbers c.args.self.now.current in
    write-met c.args.name c.args.value c.args.bits (state_of c.args.self.now) (numbers c.write_bits.new.key)
    (sym (c.if-not-holds.ensures ∙ ap (λ (n : table.Named). is_met n.write_needs key) c.named.ensures)) c.write_bits.ensures
