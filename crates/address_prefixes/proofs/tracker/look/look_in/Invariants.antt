use Rattle.address_prefixes.specs.Looks.{Leaves}
use Rattle.address_prefixes.specs.Tries.{prefixes_in, IsTrie}
use Rattle.address_prefixes.proofs.tracker.look.look_in.Given as goal

abbrev pub invariant-nodes : goal.invariant-nodes
invariant-nodes l = record { sound : IsTrie l.width l.below; leaves : Leaves l.width l.value (prefixes_in l.width l.trie) l.found (prefixes_in l.width l.below) }
