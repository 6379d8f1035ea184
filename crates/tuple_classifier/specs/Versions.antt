-- A version of the rules of a store.
use Rattle.std.specs.Prelude.{ℕ, List}
use Rattle.spec_tables.specs.Rules.{Rule}
use Rattle.rule_tables.specs.History.{History, rules_of}

-- a version's number, its rules, and the history that it is of
pub record Version : Type 0 where
  pub number : ℕ
  pub rules : List Rule
  pub history : History

-- version v of a history
abbrev pub version_in : History → ℕ → Version
version_in h v = record { number = v; rules = rules_of h v; history = h }
