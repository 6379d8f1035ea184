-- What the getters of matches read, by the rows.
use Rattle.std.proofs.Common.{◌≡◌, List, ℕ}
use Rattle.std.specs.Option.{option_map}
use Rattle.clap.specs.Words.{first_value, raw_values, matched_of, first_of, all_of, rows_of}
use Rattle.clap.specs.declared.parser.matches.Found.{Found}
use Rattle.clap.proofs.WalkLemmas.{first_value-rows, raw_values-rows}

pub first_in_rows : (f : Found) (id : List ℕ) → first_value f id ≡ first_of id (rows_of f)
first_in_rows f id = first_value-rows f id

pub all_in_rows : (f : Found) (id : List ℕ) → option_map raw_values (matched_of f id) ≡ all_of id (rows_of f)
all_in_rows f id = raw_values-rows f id
