-- What the files of a run are made of.
use Rattle.std.specs.Prelude.{◌≡◌, List, IsTrue}
use Rattle.std.specs.List.{list_all}
use Rattle.spec_tables.specs.Edits.{has_sound_actions}
use Rattle.spec_case.specs.Run.{Run}
use Rattle.spec_case.specs.Arrivals.{in_order, arrivals}
use Rattle.spec_board.specs.Texts.{Journal}
use Rattle.rule_tables.specs.History.{History, history_of}
use Rattle.egress_capture.specs.declared.port_filter.PortFilter.{PortFilter}
use Rattle.egress_capture.specs.Filters.{AreFilters}

-- These rules are what the edits of a run made, in its bundles, and can be spelled, and these are the filters of its frames.
pub record AreOf (run : Run) (journals : List Journal) (rules : History) (filters : List PortFilter) : Type 0 where
  pub edits : rules ≡ history_of run.edits run.bundles
  pub sound : IsTrue (list_all has_sound_actions run.edits)
  pub filtered : AreFilters run journals (in_order (arrivals run)) filters
