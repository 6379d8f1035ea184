use Rattle.std.proofs.Common.{◌^◌, ◌<◌, sym, ap₂, subst, ◌∙◌, arith}
use Rattle.ovs_fields.specs.Packed.{numbers}
use Rattle.address_prefixes.specs.Prefixes.{HasOneMore, prefix_at, times}
use Rattle.address_prefixes.proofs.TrieLaws.{none_more, one_more_at}
use Rattle.address_prefixes.proofs.field_trie.remove_prefix.Goals as goal

pub remove-requires-clause-fits : goal.remove-requires-clause-fits
remove-requires-clause-fits c = subst (λ w. c.get.result < 2 ^ w) (sym c.requires.width) c.get.ensures.within

pub remove-requires-clause-there : goal.remove-requires-clause-there
remove-requires-clause-there c =
    subst (λ p. 0 < times p c.args.trie.now.list) (ap₂ (λ w v. prefix_at w v c.args.prefix.now.length) (sym c.requires.width) (sym c.get.ensures.value)) (c.requires.there c.if-prefix-gt0.true)

pub returns-then-prefix-gt0 : goal.returns-then-prefix-gt0
returns-then-prefix-gt0 c =
    let less = subst (λ w. HasOneMore (prefix_at w c.get.result c.args.prefix.now.length) c.remove.new.self.list c.args.trie.now.list) (sym c.remove.ensures.width) c.remove.ensures.less in
    one_more_at c.args.prefix.now.field c.args.prefix.now.length c.get.result (numbers c.args.key.now) _ c.args.trie.now (c.remove.ensures.width ∙ c.requires.width) (sym c.remove.ensures.width) c.get.ensures.value c.if-prefix-gt0.true less

pub returns-else-prefix-gt0 : goal.returns-else-prefix-gt0
returns-else-prefix-gt0 c = let none = c.if-prefix-gt0.false in none_more c.args.prefix.now.field c.args.prefix.now.length (numbers c.args.key.now) c.args.trie.now (omega (arith, none))
