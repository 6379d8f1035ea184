-- Rules, and the plain scan of the rules of one table.
use Rattle.std.specs.Prelude.{ℕ, Bool, ◌&&◌, ◌||◌, ◌==◌, nat_lt, if◌then◌else◌, List, [], ◌∷◌, filter, Option, Some, None}
use Rattle.spec_keys.specs.Keys.{agree, covers, same}
use Rattle.spec_actions.specs.declared.action.OfAction.{OfAction}

-- the numbers that a rule states of a packet, under the mask of the bits that it states
pub record Match : Type 0 where
  pub key : List ℕ
  pub mask : List ℕ

pub record Rule : Type 0 where
  pub number : ℕ
  pub table : ℕ
  pub priority : ℕ
  pub cookie : ℕ
  pub matching : Match
  pub actions : List OfAction

-- whether a packet of this key is one that the match speaks of
abbrev pub is_matched : List ℕ → Match → Bool
is_matched key m = agree key m.key m.mask

-- whether two matches are the same
abbrev pub is_same_match : Match → Match → Bool
is_same_match m n = same m.key n.key && same m.mask n.mask

-- whether the first match is the second one or more specific: it states every bit that the second states, alike
abbrev pub is_within : Match → Match → Bool
is_within m n = covers m.mask n.mask && agree m.key n.key n.mask

-- the rules of a table
abbrev pub rules_in : ℕ → List Rule → List Rule
rules_in table rules = filter (λ r. r.table == table) rules

-- whether the second rule wins over the first: by the greater priority, and at equal ones by the less number
abbrev pub is_beaten : Rule → Rule → Bool
is_beaten r s = nat_lt r.priority s.priority || ((r.priority == s.priority) && nat_lt s.number r.number)

-- the better of a rule and the best of others
abbrev pub better : Rule → Option Rule → Option Rule
better r None = Some r
better r (Some s) = if is_beaten r s then Some s else Some r

-- the winner for a key among the rules of a table: of those that match, the one of the greatest priority, of equal
-- ones that of the least number (ovs-ofctl(8) leaves the choice among equals open; it is this profile's)
unfoldable pub winner : List Rule → List ℕ → Option Rule
winner [] key = None
winner (r ∷ rs) key = if is_matched key r.matching then better r (winner rs key) else winner rs key
