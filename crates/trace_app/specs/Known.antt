-- When the verdict is known: what it is made of is told by the shelf, or the words are refused, which need no file.
use Rattle.std.specs.Prelude.{ℕ, Bool, List, IsTrue, Result, Ok, Err}
use Rattle.spec_tools.specs.TraceWords.{Command}
use Rattle.spec_tools.specs.TraceVerdict.{Refusal, command_in}

abbrev pub IsKnownCommand : Bool → Result Command Refusal → Type 0
IsKnownCommand tells (Ok c) = IsTrue tells
IsKnownCommand tells (Err r) = Unit {0}

abbrev pub IsKnown : Bool → List (List ℕ) → Type 0
IsKnown tells words = IsKnownCommand tells (command_in words)
