-- Bytes of which some are replaced.
use Rattle.std.specs.Prelude.{ℕ, ◌+◌, List, ◌++◌, length, take, drop}

-- the bytes, with a piece at an offset in place of as many as it has
abbrev pub replaced : List ℕ → ℕ → List ℕ → List ℕ
replaced bytes at piece = take at bytes ++ (piece ++ drop (at + length piece) bytes)
