-- What becomes of a comparison before it is made. The words come first, then the file OLD, and then the file NEW; the
-- first that is refused decides.
use Rattle.std.specs.Prelude.{ℕ, Bool, List, [], ◌∷◌, length, Result, Ok, Err}
use Rattle.std.specs.Option.{ok_or}
use Rattle.spec_tables.specs.Rules.{Rule}
use Rattle.spec_tables.specs.Bundles.{version}
use Rattle.spec_xlate.specs.Translation.{Switch, switch_of}
use Rattle.spec_input.specs.Script.{Script}
use Rattle.spec_run.specs.Verdict as run
use Rattle.spec_run.specs.Verdict.{Files, script_in}
use Rattle.spec_tools.specs.DiffWords.{Command, command_of}

-- Why there is no comparison: words that the program doesn't take, or a file of edits, as the switch refuses it.
pub data Refusal : Type 0 where
  Usage : Refusal
  Input : run.Refusal → Refusal

-- what is compared: the rules of both versions, and the ports of the switch; and whether kinds alone are told
pub record Accepted : Type 0 where
  pub old : List Rule
  pub new : List Rule
  pub ports : List ℕ
  pub brief : Bool

-- the switch with the rules of the one version or of the other
abbrev pub old_switch : Accepted → Switch
old_switch a = switch_of a.old a.ports

abbrev pub new_switch : Accepted → Switch
new_switch a = switch_of a.new a.ports

infixl 10 ◌>>=◌
abbrev pub ◌>>=◌ : {A B : Type 0} → Result A Refusal → (A → Result B Refusal) → Result B Refusal
Ok a >>= f = f a
Err e >>= f = Err e

unfoldable pub command_in : List (List ℕ) → Result Command Refusal
command_in words = ok_or (command_of words) Usage

abbrev pub as_input : {A : Type 0} → Result A run.Refusal → Result A Refusal
as_input (Ok a) = Ok a
as_input (Err r) = Err (Input r)

-- the rules that all bundles of a file make; its sync lines say nothing here
abbrev pub rules_of : Script → List Rule
rules_of s = version s.edits s.bundles (length s.bundles)

abbrev pub accepted : Command → Script → Script → Accepted
accepted c old new = record { old = rules_of old; new = rules_of new; ports = c.ports; brief = c.brief }

-- what becomes of the file NEW, after the file OLD was accepted
unfoldable pub case_of : Files → Command → Script → Result Accepted Refusal
case_of files c old = as_input (script_in files c.new) >>= (λ new. Ok (accepted c old new))

-- what becomes of all that the words name
unfoldable pub verdict_of : Files → Command → Result Accepted Refusal
verdict_of files c = as_input (script_in files c.old) >>= case_of files c

unfoldable pub verdict : List (List ℕ) → Files → Result Accepted Refusal
verdict words files = command_in words >>= verdict_of files

-- ---- the files that are opened

-- after a file was read
abbrev pub opened_after : Result Script run.Refusal → List ℕ → List (List ℕ)
opened_after (Ok s) name = name ∷ []
opened_after (Err r) name = []

-- NEW only where OLD is not refused
unfoldable pub opened_for : Files → Command → List (List ℕ)
opened_for files c = c.old ∷ opened_after (script_in files c.old) c.new

abbrev pub opened_where : Files → Result Command Refusal → List (List ℕ)
opened_where files (Ok c) = opened_for files c
opened_where files (Err r) = []

abbrev pub files_opened : List (List ℕ) → Files → List (List ℕ)
files_opened words files = opened_where files (command_in words)
