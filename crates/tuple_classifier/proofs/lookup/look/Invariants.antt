use Rattle.std.proofs.Common.{List}
use Rattle.spec_tables.specs.Rules.{Rule}
use Rattle.ovs_fields.specs.Packed.{numbers}
use Rattle.masked_map.specs.Unions.{union_of}
use Rattle.address_prefixes.specs.Addresses.{AreOf, AreKnown}
use Rattle.tuple_classifier.specs.Kept.{ranked}
use Rattle.tuple_classifier.specs.Order.{AreRankedOf}
use Rattle.tuple_classifier.proofs.PassLaws.{IsPassed}
use Rattle.tuple_classifier.proofs.lookup.look.Given as goal

abbrev pub invariant-subtables : goal.invariant-subtables
invariant-subtables l = (rs : List Rule) → AreRankedOf (ranked l.subtables) rs → AreOf l.prefixes rs →
    AreKnown l.known (numbers l.key.key.now) rs × IsPassed (numbers l.key.key.now) (union_of l.fn.consulted) rs (ranked l.subtables) l.i l.best (union_of l.consulted)
