use Rattle.std.proofs.Common.{length, ap, sym, ◌∙◌}
use Rattle.address_prefixes.specs.Prefixes.{prefix_at}
use Rattle.address_prefixes.specs.Tries.{prefixes_in}
use Rattle.address_prefixes.proofs.tracker.Times.{longer_by_one}
use Rattle.address_prefixes.proofs.tracker.prefix_trie.PrefixTrie.remove.Goals as goal

pub returns-clause-shorter : goal.returns-clause-shorter
returns-clause-shorter c =
    let w = c.self.inside.width in
    sym (longer_by_one (prefix_at w c.args.value c.args.len) (prefixes_in w c.remove_in.new.trie) (prefixes_in w c.self.inside.root) c.remove_in.ensures.less) ∙ ap (λ v. length v.list) c.self.view_is
