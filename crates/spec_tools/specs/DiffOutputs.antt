-- What is printed of a difference that was found: all of its text, or a part of it; and when none is found.
use Rattle.std.specs.Prelude.{◌≡◌, ℕ, Bool, IsTrue, List, ◌++◌, take, Ok}
use Rattle.spec_run.specs.Verdict.{Files}
use Rattle.spec_tools.specs.Lines.{Line, IsListed}
use Rattle.spec_tools.specs.Progress.{IsUnfinished, cube_limit}
use Rattle.spec_tools.specs.DiffTexts.{text_of_lines}
use Rattle.spec_tools.specs.DiffStatuses.{found_status}
use Rattle.spec_tools.specs.DiffVerdict.{Accepted, old_switch, new_switch, verdict}

-- These lines tell how what is compared differs.
abbrev pub IsListedOf : Accepted → List Line → Type 0
IsListedOf a lines = IsListed (old_switch a) (new_switch a) a.ports lines

-- This text tells a difference of what is compared, and this status goes with it.
pub record Tells (a : Accepted) (text : List ℕ) (status : ℕ) : Type 0 where
  pub lines : List Line
  pub is_listed : IsListedOf a lines
  pub is_text : text ≡ text_of_lines a.brief lines
  pub is_status : status ≡ found_status lines

-- The words and what they name are accepted. After what was printed before, where that is told, exactly the text of a
-- difference was printed, and the status goes with it.
pub record IsPrinted (words : List (List ℕ)) (files : Files) (tells : Bool) (said said_now : List ℕ) (status : ℕ) : Type 0 where
  pub accepted : Accepted
  pub is_verdict : verdict words files ≡ Ok accepted
  pub text : List ℕ
  pub told : Tells accepted text status
  pub printed : IsTrue tells → said_now ≡ said ++ text

-- The same, but a prefix of the text, and whatever status.
pub record IsCut (words : List (List ℕ)) (files : Files) (tells : Bool) (said said_now : List ℕ) : Type 0 where
  pub accepted : Accepted
  pub is_verdict : verdict words files ≡ Ok accepted
  pub text : List ℕ
  pub status : ℕ
  pub told : Tells accepted text status
  pub printed : IsTrue tells → (n : ℕ) × (said_now ≡ said ++ take n text)

-- The words and what they name are accepted. After as many cubes as are looked into there is something left.
pub record IsGivenUp (words : List (List ℕ)) (files : Files) : Type 0 where
  pub accepted : Accepted
  pub is_verdict : verdict words files ≡ Ok accepted
  pub unfinished : IsUnfinished (old_switch accepted) (new_switch accepted) accepted.ports cube_limit
