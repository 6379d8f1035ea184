-- Translations that are kept, each for the number of a place or of an entry.
use Rattle.std.specs.Prelude.{◌≡◌, ℕ, nat_eq, List, map, Option, Some}
use Rattle.std.specs.Map.{lookup}
use Rattle.spec_board.specs.Schedules as schedules
use Rattle.spec_board.specs.GivenSteps.{kept_version}
use Rattle.run_xlate.specs.Views.{XlateView}

-- the entries of a map, as the definition of schedules sees kept translations
abbrev pub kept_views : List (ℕ × XlateView) → List schedules.Kept
kept_views entries = map (λ (e : ℕ × XlateView). record { number = e.0; version = e.1.version }) entries

-- the version of what is kept for each number
abbrev pub versions : List schedules.Kept → ℕ → Option ℕ
versions kept = λ number. kept_version number kept

-- A fact holds of each number and the translation that is kept for it.
abbrev pub Each : (ℕ → XlateView → Type 0) → List (ℕ × XlateView) → Type 0
Each P entries = (number : ℕ) (xlate : XlateView) → lookup (nat_eq number) entries ≡ Some xlate → P number xlate
