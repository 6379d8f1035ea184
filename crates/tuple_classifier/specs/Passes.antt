-- What the first half of a probe says of a key.
use Rattle.std.specs.Prelude.{ℕ, List, Option, Some, None}
use Rattle.spec_keys.specs.Stages.{network_stage}
use Rattle.spec_tables.specs.Rules.{Rule}
use Rattle.staged_lookup.specs.declared.probe.Probe.{Probe}
use Rattle.staged_lookup.specs.declared.probe.Probe.TheVariants.{Ended, Best}
use Rattle.staged_lookup.specs.Subtables.{PassesTo, IsProbe}

-- the stages before that of the network don't rule a key out
abbrev pub HasPassed : Option Probe → List ℕ → List ℕ → List Rule → Type 0
HasPassed None mask key rs = PassesTo network_stage mask key rs
HasPassed (Some (Ended stage)) mask key rs = ⊥
HasPassed (Some (Best rule priority)) mask key rs = IsProbe (Best rule priority) mask key rs

-- nor has a probe ended at one of them
abbrev pub GoesOn : Option Probe → Type 0
GoesOn None = Unit {0}
GoesOn (Some (Ended stage)) = ⊥
GoesOn (Some (Best rule priority)) = Unit {0}
