use Rattle.switch_input.specs.InputViews.{run_view}
use Rattle.switch_app.proofs.run.run.Given as goal

-- the run's name means what was read
abbrev pub ghosts-decide_and_tell : goal.ghosts-decide_and_tell
ghosts-decide_and_tell g a = record { run = run_view a.inputs }
