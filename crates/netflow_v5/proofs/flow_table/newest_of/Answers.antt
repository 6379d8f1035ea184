use Rattle.std.proofs.Common.{length, map, ◌∙◌}
use Rattle.std.proofs.lemmas.List.{length-map}
use Rattle.netflow_v5.specs.Views.{class_view, flow_view}
use Rattle.netflow_v5.proofs.NewestFlows.{found_within}
use Rattle.netflow_v5.proofs.flow_table.newest_of.Goals as goal

pub returns-clause-newest : goal.returns-clause-newest
returns-clause-newest c = c.copied.ensures ∙ (c.get.ensures.value ∙ c.requires.newest c.args.class.now)

pub returns-clause-within : goal.returns-clause-within
returns-clause-within c =
    found_within (class_view c.args.class.now) (map flow_view c.args.flows.now) (length c.args.flows.now) (length-map c.args.flows.now flow_view) c.copied.result
    (c.copied.ensures ∙ (c.get.ensures.value ∙ c.requires.newest c.args.class.now))
