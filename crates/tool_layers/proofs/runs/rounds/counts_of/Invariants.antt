use Rattle.switch_input.specs.InputViews.{run_view}
use Rattle.tool_layers.proofs.runs.rounds.counts_of.Given as goal

-- the run's name means what was read, under the flow limit of the words
abbrev pub ghosts-counts_in_rounds : goal.ghosts-counts_in_rounds
ghosts-counts_in_rounds a = record { run = record (run_view a.inputs) { flow_limit = a.flow_limit } }
