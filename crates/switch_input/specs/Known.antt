-- When the verdict is known: what it is made of is told by the shelf where the words name files, and by the words alone where
-- they are refused or have a number.
use Rattle.std.specs.Prelude.{ℕ, Bool, false, List, IsTrue, Result, Ok, Err}
use Rattle.spec_input.specs.Words.{Input, Files as Named, Made, Command}
use Rattle.spec_run.specs.Verdict.{Refusal, command_in}

-- what is read for an input
abbrev pub IsKnownInput : Bool → Input → Type 0
IsKnownInput tells (Named f) = IsTrue tells
IsKnownInput tells (Made number) = Unit {0}

-- what is read for words
abbrev pub IsKnownCommand : Bool → Result Command Refusal → Type 0
IsKnownCommand tells (Ok c) = IsKnownInput tells c.input
IsKnownCommand tells (Err r) = Unit {0}

abbrev pub IsKnown : Bool → List (List ℕ) → Type 0
IsKnown tells words = IsKnownCommand tells (command_in words)

-- No file is read for these words: the verdict is known of a shelf that tells nothing.
abbrev pub NeedNoFile : List (List ℕ) → Type 0
NeedNoFile words = IsKnown false words
