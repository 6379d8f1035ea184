-- Items of a flow as they stand between separators.
use Rattle.std.specs.Prelude.{ℕ, Bool, not, ◌&&◌, ◌==◌, List, length, is_some}
use Rattle.std.specs.List.{list_all}
use Rattle.spec_flow_text.specs.Characters.{number_sign}
use Rattle.spec_flow_text.specs.Items.{is_separator, list_start}

-- whether a text, as a word of a line, begins the list of actions
abbrev pub begins_list : List ℕ → Bool
begins_list text = is_some (list_start (record { at = 0; text = text }))

-- whether a text is one item other than the list of actions: it isn't empty, and has no separator and no comment
abbrev pub is_item : List ℕ → Bool
is_item text = not (length text == 0) && (list_all (λ c. not (is_separator c) && not (c == number_sign)) text && not (begins_list text))
