-- A rule by its number: as an edit added it, and whether it is live in a version.
use Rattle.std.specs.Prelude.{ℕ, zero, suc, Bool, ◌==◌, List, slice_get, Option, Some, None}
use Rattle.std.specs.List.{list_any, find}
use Rattle.std.specs.Option.{option_and_then}
use Rattle.spec_tables.specs.declared.edit_word.EditWord.{EditWord}
use Rattle.spec_tables.specs.declared.edit_word.EditWord.TheVariants.{Add, Modify, ModifyStrict, Delete, DeleteStrict}
use Rattle.spec_tables.specs.Rules.{Rule}
use Rattle.spec_tables.specs.Edits.{Edit, rule_of}

-- the rule that an edit of this kind and number adds; the other kinds add none
abbrev pub rule_by : EditWord → ℕ → Edit → Option Rule
rule_by Add number e = Some (rule_of number e)
rule_by Modify number e = None
rule_by ModifyStrict number e = None
rule_by Delete number e = None
rule_by DeleteStrict number e = None

-- the rule of this number as it was added, if an edit added one; edits are counted from 1
abbrev pub rule_added : List Edit → ℕ → Option Rule
rule_added edits zero = None
rule_added edits (suc n) = option_and_then (λ e. rule_by e.word (suc n) e) (slice_get edits n)

-- the rule of this number among rules
abbrev pub rule_numbered : ℕ → List Rule → Option Rule
rule_numbered number rules = find (λ r. r.number == number) rules

-- whether a rule of this number is among rules
abbrev pub is_live : ℕ → List Rule → Bool
is_live number rules = list_any (λ r. r.number == number) rules
