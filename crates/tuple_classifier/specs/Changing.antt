-- The rules of all tables, as they are led from one version to the next.
use Rattle.std.specs.Prelude.{ℕ, ◌<◌, ◌^◌, List, ◌++◌, length, take}
use Rattle.spec_tables.specs.Rules.{Rule}
use Rattle.spec_tables.specs.Edits as edits
use Rattle.spec_tables.specs.Live.{is_live}
use Rattle.table_laws.specs.Members.{Among}
use Rattle.rule_tables.specs.Bare.{told, AreRising}
use Rattle.rule_tables.specs.Changes.{Changed}
use Rattle.staged_lookup.specs.Numbered.{AreDistinct}
use Rattle.tuple_classifier.specs.declared.table.Table.{Table}
use Rattle.tuple_classifier.specs.ByTable.{AreClassified}

-- More rules may come behind these: the numbers of all rise, and they are fewer than 2^32.
pub record CanCome (rules more : List Rule) : Type 0 where
  pub rising : AreRising (rules ++ more)
  pub few : length (rules ++ more) < 2 ^ 32

-- the tables have these rules, and behind them the first n that came
abbrev pub HaveCome : Changed → ℕ → List Table → List Rule → Type 0
HaveCome change n tables rules = AreClassified tables (rules ++ told (take n change.came))

-- It holds of all rules behind which those that came may come, or of some.
abbrev pub ForComing : Changed → (List Rule → Type 0) → Type 0
ForComing change Holds = (rules : List Rule) → CanCome rules (told change.came) → Holds rules

abbrev pub SomeComing : Changed → (List Rule → Type 0) → Type 0
SomeComing change Holds = (rules : List Rule) × CanCome rules (told change.came) × Holds rules

-- rules without others, which are told by their numbers
abbrev pub but : List Rule → List Rule → List Rule
but gone rules = edits.without (λ r. is_live r.number gone) rules

-- Rules may go from these: each is one of them, and no two have the same number.
pub record CanGo (rules gone : List Rule) : Type 0 where
  pub distinct : AreDistinct rules
  pub once : AreDistinct gone
  pub among : (r : Rule) → Among r gone → Among r rules

-- the tables have these rules without the first n that went
abbrev pub HaveGone : Changed → ℕ → List Table → List Rule → Type 0
HaveGone change n tables rules = AreClassified tables (but (told (take n change.went)) rules)

-- It holds of all rules from which those that went may go, or of some.
abbrev pub ForGoing : Changed → (List Rule → Type 0) → Type 0
ForGoing change Holds = (rules : List Rule) → CanGo rules (told change.went) → Holds rules

abbrev pub SomeGoing : Changed → (List Rule → Type 0) → Type 0
SomeGoing change Holds = (rules : List Rule) × CanGo rules (told change.went) × Holds rules
