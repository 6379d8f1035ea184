-- What the bytes of a file of edits give.
use Rattle.std.specs.Prelude.{ℕ, List, Result}
use Rattle.spec_input.specs.Script.{Script}
use Rattle.spec_run.specs.Verdict.{Refusal, ◌>>=◌, script_within, with_few_changes}

-- the script of these bytes, under the name of their file, where it is accepted
abbrev pub script_in_bytes : List ℕ → List ℕ → Result Script Refusal
script_in_bytes name bytes = script_within name bytes >>= with_few_changes
