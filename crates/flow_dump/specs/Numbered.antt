-- The line of the megaflow of a number.
use Rattle.std.specs.Prelude.{ℕ, List, []}
use Rattle.std.specs.Option.{option_map_or}
use Rattle.spec_board.specs.State.{Entry}
use Rattle.spec_board.specs.Results.{entry_of}
use Rattle.spec_run.specs.Megaflows.{megaflow_line}

abbrev pub line_of_number : ℕ → List Entry → ℕ → List ℕ
line_of_number port entries number = option_map_or (megaflow_line port) (entry_of number entries) []
