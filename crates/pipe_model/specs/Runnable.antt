-- Rules that a translation can be run over.
use Rattle.std.specs.Prelude.{◌≡◌, ◌⊎◌, Bool, List, [], ◌∷◌, IsTrue, Some}
use Rattle.std.specs.List.{list_all}
use Rattle.spec_actions.specs.Sound.{is_sound}
use Rattle.spec_tables.specs.Rules.{Rule}
use Rattle.spec_tables.specs.Live.{rule_numbered}

-- A rule is one of these.
abbrev pub IsAmong : Rule → List Rule → Type 0
IsAmong r [] = ⊥
IsAmong r (x ∷ rules) = (x ≡ r) ⊎ IsAmong r rules

-- whether the actions of a rule are sound
abbrev pub is_sound_rule : Rule → Bool
is_sound_rule r = list_all is_sound r.actions

-- The actions of the rules are sound, and each rule is found by its number.
pub record AreRunnable (rules : List Rule) : Type 0 where
  pub sound : IsTrue (list_all is_sound_rule rules)
  pub numbered : (r : Rule) → IsAmong r rules → rule_numbered r.number rules ≡ Some r
