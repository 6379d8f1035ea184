use Rattle.spec_run.specs.Journals.{actions_for}
use Rattle.output_laws.proofs.exports.Arrivals.{of_widths}
use Rattle.output_laws.proofs.exports.exported.exports_of_runs_read_back.Goals as goal

pub returns-clause-widths : goal.returns-clause-widths
returns-clause-widths c = of_widths

pub returns-clause-back : goal.returns-clause-back
returns-clause-back c run journals w whole =
    c.flows_are_read_back.ensures.run run (actions_for run journals) (of_widths run journals w whole)
