use Rattle.std.proofs.Common.{◌≡◌, take}
use Rattle.std.specs.List.{flat_map}
use Rattle.spec_run.specs.Journals.{actions_for}
use Rattle.spec_netflow.specs.Flows.{packet_of, flows_of}
use Rattle.netflow_v5.proofs.run_flows.flows_by.Given as goal

abbrev pub invariant-arrivals : goal.invariant-arrivals
invariant-arrivals g l =
    l.table ≡ flows_of (flat_map (packet_of g.C.Case.run (actions_for g.C.Case.run l.finished)) (take l.arrival-index l.came))
