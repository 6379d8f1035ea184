-- The list of prefixes that a trie is seen as, and what holds of its parts.
use Rattle.std.specs.Prelude.{◌≤◌}
use Rattle.address_prefixes.specs.declared.tracker.prefix_trie.PrefixTrie.TheInside.{Inside}
use Rattle.address_prefixes.specs.Prefixes.{Prefixes}
use Rattle.address_prefixes.specs.Tries.{prefixes_in, IsTrie}

abbrev pub prefixes_at : Inside → Prefixes
prefixes_at a = record { width = a.width; list = prefixes_in a.width a.root }

pub record IsSound (a : Inside) : Type 0 where
  pub wide : a.width ≤ 128
  pub sound : IsTrie a.width a.root
