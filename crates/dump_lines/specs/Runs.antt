-- Visits as they are gone through.
use Rattle.std.specs.Prelude.{ℕ, ◌+◌, ◌==◌, if◌then◌else◌, List, [], ◌∷◌, ◌++◌}
use Rattle.spec_run.specs.Megaflows.{Visited, once, plus_sign, visited_text}

abbrev pub once_more : Visited → Visited
once_more v = record v { times = v.times + 1 }

-- the text of a run of visits and of those that come next, which may belong to it
unfoldable pub runs_text : Visited → List ℕ → List ℕ
runs_text v [] = visited_text v
runs_text v (rule ∷ visits) =
    if rule == v.rule then runs_text (once_more v) visits else visited_text v ++ (plus_sign ∷ runs_text (once rule) visits)
