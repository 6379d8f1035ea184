-- What is printed of a trace that was made: all of its text, or a part of it.
use Rattle.std.specs.Prelude.{◌≡◌, ℕ, Bool, IsTrue, List, ◌++◌, take, Ok}
use Rattle.spec_run.specs.Verdict.{Files}
use Rattle.spec_tools.specs.TraceTexts.{traced_text}
use Rattle.spec_tools.specs.TraceVerdict.{Accepted, verdict}

abbrev pub text_for : Accepted → List ℕ
text_for a = traced_text a.rules a.ports a.key

-- The words and what they name are accepted. After what was printed before, where that is told, exactly the text of the
-- trace was printed.
pub record IsPrinted (words : List (List ℕ)) (files : Files) (tells : Bool) (said said_now : List ℕ) : Type 0 where
  pub accepted : Accepted
  pub is_verdict : verdict words files ≡ Ok accepted
  pub printed : IsTrue tells → said_now ≡ said ++ text_for accepted

-- The same, but a prefix of the text.
pub record IsCut (words : List (List ℕ)) (files : Files) (tells : Bool) (said said_now : List ℕ) : Type 0 where
  pub accepted : Accepted
  pub is_verdict : verdict words files ≡ Ok accepted
  pub printed : IsTrue tells → (n : ℕ) × (said_now ≡ said ++ take n (text_for accepted))
