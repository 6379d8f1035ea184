-- How many rules edits change (ovs-ofctl(8) tells what each edit does to which rules).
use Rattle.std.specs.Prelude.{ℕ, zero, suc, ◌+◌, if◌then◌else◌, List, slice_get, count_by}
use Rattle.std.specs.List.{list_any}
use Rattle.std.specs.Option.{option_map_or}
use Rattle.spec_tables.specs.declared.edit_word.EditWord.{EditWord}
use Rattle.spec_tables.specs.declared.edit_word.EditWord.TheVariants.{Add, Modify, ModifyStrict, Delete, DeleteStrict}
use Rattle.spec_tables.specs.Rules.{Rule}
use Rattle.spec_tables.specs.Edits.{Edit, is_named_by, is_reached_by, after_edits}

-- how many of these rules an edit of this kind adds, gives actions to or removes; an add that replaces a rule does both
abbrev pub changes_by : EditWord → Edit → List Rule → ℕ
changes_by Add e rules = if list_any (is_named_by e) rules then 2 else 1
changes_by Modify e rules = count_by (is_reached_by e) rules
changes_by ModifyStrict e rules = count_by (is_named_by e) rules
changes_by Delete e rules = count_by (is_reached_by e) rules
changes_by DeleteStrict e rules = count_by (is_named_by e) rules

-- how many rules the first n edits change
unfoldable pub changes_to : List Edit → ℕ → ℕ
changes_to edits zero = 0
changes_to edits (suc n) = changes_to edits n + option_map_or (λ e. changes_by e.word e (after_edits edits n)) (slice_get edits n) 0
