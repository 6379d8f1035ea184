-- What contracts see of rules as edits made them.
use Rattle.std.specs.Prelude.{ℕ, Bool, true, false, List, count_by}
use Rattle.spec_tables.specs.declared.edit_word.EditWord.{EditWord}
use Rattle.spec_tables.specs.declared.edit_word.EditWord.TheVariants.{Add, Modify, ModifyStrict, Delete, DeleteStrict}
use Rattle.spec_tables.specs.Edits.{Edit}
use Rattle.rule_tables.specs.History.{EditHistory}
use Rattle.rule_tables.specs.Stored.{is_modify}

-- their history, and how many more adds and modifies there is memory for
pub record Edited : Type 0 where
  pub history : EditHistory
  pub adds : ℕ
  pub modifies : ℕ

-- whether edits of this kind add rules
abbrev pub is_add : EditWord → Bool
is_add Add = true
is_add Modify = false
is_add ModifyStrict = false
is_add Delete = false
is_add DeleteStrict = false

-- whether an edit adds a rule, and whether it gives actions to some
abbrev pub adds : Edit → Bool
adds e = is_add e.word

abbrev pub modifies : Edit → Bool
modifies e = is_modify e.word

abbrev pub adds_in : List Edit → ℕ
adds_in edits = count_by adds edits

abbrev pub modifies_in : List Edit → ℕ
modifies_in edits = count_by modifies edits
