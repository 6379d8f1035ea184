-- Runs that files give, and how the edits end that a number makes.
use Rattle.std.specs.Prelude.{◌≡◌, ℕ, List, Ok, codes}
use Rattle.spec_case.specs.Run.{Run}
use Rattle.spec_run.specs.Verdict.{Files, MirroredRun, Sources, run_in}

abbrev pub last_sync : List ℕ
last_sync = codes "\nsync 0\n"

-- It holds of the run that these files give, if they give one.
abbrev pub OfRunIn : Files → ℕ → Sources → (Run → Type 0) → Type 0
OfRunIn files flow_limit sources claim =
    (given : MirroredRun) → run_in files flow_limit sources ≡ Ok given → claim given.run
