use Rattle.std.proofs.Common.{◌≡◌, sym, ◌∙◌, rules}
use Rattle.std.specs.Prelude.{count_by}
use Rattle.spec_exec.specs.Sent.{is_output}
use Rattle.flow_dump.proofs.Sending.{length-sent}
use Rattle.flow_dump.proofs.frame_counts.outputs.Goals as goal

pub returns-clause-sent : goal.returns-clause-sent
returns-clause-sent c = λ bytes.
    let counted : c.count.result ≡ count_by is_output c.args.actions.now = search rules in
    length-sent c.args.actions.now bytes ∙ sym counted
