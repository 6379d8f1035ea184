use Rattle.std.proofs.Common.{◌≡◌, ℕ, List, [], length, refl, ap, ◌∙◌, arith}
use Rattle.std.specs.Option.{option_map_or}
use Rattle.std.proofs.lemmas.Option.{slice_get_past}
use Rattle.spec_tables.specs.declared.sync_point.SyncPoint.{SyncPoint}
use Rattle.spec_case.specs.Run.{Run, last_version}
use Rattle.spec_case.specs.Blocks.{bundles_through, block_of}
use Rattle.told_laws.specs.Runs.{HasEditsFirst}
use Rattle.told_laws.proofs.premises.runs_by_all_edits.Goals as goal

all_through : (bundles block : ℕ) → bundles_through [] bundles block ≡ bundles
all_through bundles block = ap (λ o. option_map_or (λ (s : SyncPoint). s.after) o bundles) (slice_get_past [] block (omega arith))

without_syncs : (run : Run) → run.syncs ≡ [] → HasEditsFirst run
without_syncs run none port place first last =
    ap (λ (syncs : List SyncPoint). bundles_through syncs (last_version run) (block_of run port place)) none ∙ all_through (last_version run) (block_of run port place)

pub returns-clause-alone : goal.returns-clause-alone
returns-clause-alone c = λ run journals none steps are.
    record { whole = are.are_whole; by_last = are.by_last_version refl steps; first = without_syncs run none }

pub returns-clause-apart : goal.returns-clause-apart
returns-clause-apart c = λ workers run journals apart first are.
    record { whole = are.are_whole; by_last = are.apart apart; first = first }
