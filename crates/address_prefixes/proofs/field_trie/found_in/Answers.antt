use Rattle.std.proofs.Common.{◌^◌, ◌<◌, sym, ap, subst, ◌∙◌}
use Rattle.spec_xlate.specs.Lookup.{deciding}
use Rattle.ovs_fields.specs.Packed.{numbers}
use Rattle.address_prefixes.specs.Looks.{begun}
use Rattle.address_prefixes.proofs.TrieLaws.{trie_tells}
use Rattle.address_prefixes.proofs.field_trie.found_in.Goals as goal

pub look-found-requires : goal.look-found-requires
look-found-requires c = subst (λ w. c.get.result < 2 ^ w) (sym c.requires) c.get.ensures.within

pub returns-clause-known : goal.returns-clause-known
returns-clause-known c rs is known =
    let t = c.args.trie.now in
    trie_tells t c.args.field (numbers c.args.key.now) rs c.look-found.result is (λ n. c.look-found.ensures.lengths n ∙ ap (λ v. begun t.width v n t.list) c.get.ensures.value)
    (c.look-found.ensures.bits ∙ ap (λ v. deciding t.width v t.list) c.get.ensures.value)

pub returns-clause-result : goal.returns-clause-result
returns-clause-result c rs is known =
    let t = c.args.trie.now in
    trie_tells t c.args.field (numbers c.args.key.now) rs c.look-found.result is (λ n. c.look-found.ensures.lengths n ∙ ap (λ v. begun t.width v n t.list) c.get.ensures.value)
    (c.look-found.ensures.bits ∙ ap (λ v. deciding t.width v t.list) c.get.ensures.value)
