use Rattle.std.proofs.Common.{ℕ, List, subst}
use Rattle.spec_run.specs.Megaflows.{megaflow_match_text}
use Rattle.ovs_fields.specs.Packed.{numbers}
use Rattle.text_numbers.specs.Added.{Adds}
use Rattle.ofp_trace.proofs.lines.keys.print_key.Goals as goal

pub returns : goal.returns
returns c =
    subst (λ (m : List ℕ). Adds c.args.out.now c.print_megaflow_match.new.out (megaflow_match_text (record { key = numbers c.args.key.now; mask = m })) c.print_megaflow_match.result)
    c.carried-mask.ensures c.print_megaflow_match.ensures
