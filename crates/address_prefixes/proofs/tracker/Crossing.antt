-- That a trie may go to another thread and be shared. `Send` of a type that holds itself is proved by the lemma of its own
-- layer, so that crates above needn't search through it.
use denote.Param.Send.{IsSend, IsSync, sendable}
use Rattle.std.proofs.Crossing.{crosses}
use Rattle.address_prefixes.specs.contracts.tracker.trie.Trie as trie
use Rattle.address_prefixes.specs.contracts.tracker.prefix_trie.PrefixTrie as prefix_trie
use Rattle.address_prefixes.proofs.tracker.trie.Trie.TheLaws.TheKnot.{send-Trie, sync-Trie}

trie_send : IsSend (trie.the_field).row
trie_send = search (sendable, crosses, send-Trie) depth 40

trie_sync : IsSync (trie.the_field).row
trie_sync = search (sendable, crosses, sync-Trie) depth 40

pub prefix_trie_send : IsSend (prefix_trie.the_field).row
prefix_trie_send = search (sendable, crosses, trie_send) depth 40

pub prefix_trie_sync : IsSync (prefix_trie.the_field).row
prefix_trie_sync = search (sendable, crosses, trie_sync) depth 40
