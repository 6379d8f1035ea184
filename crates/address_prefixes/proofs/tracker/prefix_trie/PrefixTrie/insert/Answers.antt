use Rattle.std.proofs.Common.{◌+◌, length, ap, ◌∙◌}
use Rattle.address_prefixes.specs.Prefixes.{prefix_at}
use Rattle.address_prefixes.specs.Tries.{prefixes_in}
use Rattle.std.proofs.lemmas.Result.{on_ok_weaker}
use Rattle.address_prefixes.proofs.tracker.Times.{longer_by_one}
use Rattle.address_prefixes.proofs.tracker.prefix_trie.PrefixTrie.insert.Goals as goal

pub returns-clause-longer : goal.returns-clause-longer
returns-clause-longer c =
    let w = c.self.inside.width in
    on_ok_weaker c.insert_in.result
    (λ more. longer_by_one (prefix_at w c.args.value c.args.len) (prefixes_in w c.self.inside.root) (prefixes_in w c.insert_in.new.trie) more ∙ ap (λ v. length v.list + 1) c.self.view_is) c.insert_in.ensures.ok
