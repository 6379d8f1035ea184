-- What edits make, and what is kept of them while they are read.
use Rattle.std.specs.Prelude.{◌≡◌, ℕ, ◌<◌, ◌≤◌, List, length, take, drop, Option, MatchOption, Box}
use Rattle.std.specs.Option.{option_map}
use Rattle.spec_tables.specs.Edits.{Edit}
use Rattle.spec_tables.specs.Bundles.{edits_through}
use Rattle.spec_run.specs.Limits.{most_changes}
use Rattle.rule_tables.specs.History.{History, edit_history, history_of}

-- the rules of all versions that edits make in bundles, or none where they change more than they may
abbrev pub AreRules : List Edit → List ℕ → Option History → Type 0
AreRules edits bundles made =
    MatchOption made (most_changes < (edit_history edits).changes) (λ rules. (rules ≡ history_of edits bundles) × ((edit_history edits).changes ≤ most_changes))

-- The edits in these bundles made the rules, and those after them are kept.
pub record Keeps (edits : List Edit) (bundles : List ℕ) (rules : Option History) (pending : List Edit) : Type 0 where
  pub within : edits_through bundles (length bundles) ≤ length edits
  pub made : AreRules (take (edits_through bundles (length bundles)) edits) bundles rules
  pub are_pending : pending ≡ drop (edits_through bundles (length bundles)) edits

-- rules that stand in a box
abbrev pub unboxed : {A : Type 0} → Option (Box History A) → Option History
unboxed made = option_map (λ b. b.value) made
