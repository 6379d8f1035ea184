-- What the texts in the statements are.
use Rattle.std.proofs.Common.{◌≡◌, List, ◌++◌, refl}
use Rattle.std.specs.Prelude.{Option, codes}
use Rattle.spec_case.specs.Run.{Run}
use Rattle.spec_board.specs.Texts.{Journal}
use Rattle.spec_run.specs.declared.ran.Ran.{Ran}
use Rattle.spec_run.specs.Summary.{sent_count, dropped_count, summary}
use Rattle.output_laws.specs.Sums.{summary_with}
use Rattle.output_laws.specs.Made.{last_sync}

a_summary_tells_its_own_sums : (run : Run) (journals : List Journal) (ran : Option Ran)
    → summary run journals ran ≡ summary_with (sent_count run journals) (dropped_count run journals) run journals ran
a_summary_tells_its_own_sums run journals ran = refl

the_last_line_is_a_sync_line : last_sync ≡ codes "\n" ++ (codes "sync 0" ++ codes "\n")
the_last_line_is_a_sync_line = refl
