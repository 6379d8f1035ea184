use Rattle.std.proofs.Common.{sym, ap, subst}
use Rattle.std.specs.Prelude.{IsTrue}
use Rattle.std.specs.List.{list_all}
use Rattle.spec_case.specs.Run.{Run}
use Rattle.spec_tables.specs.Edits.{has_sound_actions}
use Rattle.tool_layers.proofs.runs.rounds.counts_in_rounds.Goals as goal

pub counts_of_run-counts-requires-clause-sound : goal.counts_of_run-counts-requires-clause-sound
counts_of_run-counts-requires-clause-sound g c κs within =
    subst (λ (run : Run). IsTrue (list_all has_sound_actions run.edits)) (sym c.requires.run) c.requires.within.sound

pub counts_of_run-counts-requires-clause-limit : goal.counts_of_run-counts-requires-clause-limit
counts_of_run-counts-requires-clause-limit g c κs within = sym (ap (λ (run : Run). run.flow_limit) c.requires.run)
