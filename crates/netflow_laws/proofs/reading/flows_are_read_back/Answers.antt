use Rattle.spec_netflow.specs.Flows.{export_time, flows}
use Rattle.netflow_laws.proofs.ReadBack.{read_back}
use Rattle.netflow_laws.proofs.RunWidths.{flows_within, flows_few}
use Rattle.netflow_laws.proofs.reading.flows_are_read_back.Goals as goal

pub returns-clause-records : goal.returns-clause-records
returns-clause-records c = read_back

pub returns-clause-within : goal.returns-clause-within
returns-clause-within c = flows_within

pub returns-clause-run : goal.returns-clause-run
returns-clause-run c = λ run decided all.
    read_back (export_time run) (flows run decided) (flows_within run decided all) (flows_few run decided all)
