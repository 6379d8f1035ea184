-- What two versions have in common.
use Rattle.std.specs.Prelude.{◌≡◌, ℕ, List, map, IsTrue}
use Rattle.std.specs.List.{list_all}
use Rattle.spec_keys.specs.Keys.{masked}
use Rattle.spec_tables.specs.Rules.{Rule, Match, rules_in, winner}
use Rattle.spec_xlate.specs.Translation.{switch_of}
use Rattle.spec_tools.specs.Classes.{done}
use Rattle.ovs_fields.specs.Packed.{bits}
use Rattle.rule_tables.specs.Views.{match_view}
use Rattle.pipe_model.specs.Runnable.{IsAmong}
use Rattle.rule_changes.specs.declared.changes.Changes.{Changes}
use Rattle.rule_changes.specs.Lockstep.{keeps, FoundAlike, NoneMatches}

-- the matches of the rules that were changed
abbrev pub changed_in : Changes → List Match
changed_in c = map match_view c.aside.items

-- Where none of these matches speaks of a packet, each lookup finds rules of the same actions in both versions, or
-- none.
abbrev pub FindAlike : List Rule → List Rule → List Match → Type 0
FindAlike rs ss ms =
    (table : ℕ) (key : List ℕ) → NoneMatches key ms → FoundAlike (winner (rules_in table rs) key) (winner (rules_in table ss) key)

-- The rules' actions leave all bits of a mask.
abbrev pub AllKeep : List Rule → List ℕ → Type 0
AllKeep rs kept = (r : Rule) → IsAmong r rs → IsTrue (list_all (keeps kept) r.actions)

-- None of the changed rules speaks of a packet, whatever becomes of the bits that actions write.
abbrev pub IsApart : Changes → List ℕ → Type 0
IsApart c key = (now : List ℕ) → masked now (bits c.kept) ≡ masked key (bits c.kept) → NoneMatches now (changed_in c)

-- Both versions do the same to each such packet.
abbrev pub AreAllChanges : List Rule → List Rule → Changes → Type 0
AreAllChanges rs ss c =
    (ports key : List ℕ) → IsApart c key → done (switch_of rs ports) key ≡ done (switch_of ss ports) key
