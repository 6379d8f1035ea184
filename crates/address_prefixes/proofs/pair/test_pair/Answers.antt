use Rattle.std.proofs.Common.{List, sym, subst, ◌∙◌}
use Rattle.spec_tables.specs.Rules.{Rule}
use Rattle.spec_xlate.specs.Lookup.{prefix_test}
use Rattle.ovs_fields.specs.Packed.{numbers}
use Rattle.address_prefixes.specs.OfField.{IsTrieOf}
use Rattle.address_prefixes.specs.Pairs.{AreTriesOf}
use Rattle.address_prefixes.proofs.pair.test_pair.Goals as goal
use Rattle.address_prefixes.proofs.pair.test_pair.Goals.{After-prefix_test}

source_is : (c : After-prefix_test) (rs : List Rule) → AreTriesOf c.args.pair.now c.args.src c.args.dst rs → IsTrieOf c.source.result.now c.args.src rs
source_is c rs is = subst (λ t. IsTrieOf t c.args.src rs) (sym c.source.ensures) is.src

destination_is : (c : After-prefix_test) (rs : List Rule) → AreTriesOf c.args.pair.now c.args.src c.args.dst rs → IsTrieOf c.destination.result.now c.args.dst rs
destination_is c rs is = subst (λ t. IsTrieOf t c.args.dst rs) (sym c.destination.ensures) is.dst

pub returns-clause-known : goal.returns-clause-known
returns-clause-known c rs is known = record {
  src = c.prefix_test-first.ensures.known rs (source_is c rs is) known.src;
  dst = c.prefix_test.ensures.known rs (destination_is c rs is) known.dst;
}

pub returns-clause-consulted : goal.returns-clause-consulted
returns-clause-consulted c rs mask is known of further =
    c.prefix_test-first.ensures.consulted rs mask (source_is c rs is) known.src of.src (prefix_test rs (numbers c.args.key.now) mask c.args.dst further)
    ∙ c.prefix_test.ensures.consulted rs mask (destination_is c rs is) known.dst of.dst further

pub returns-clause-unmatched : goal.returns-clause-unmatched
returns-clause-unmatched c rs mask is known of live ended =
    c.prefix_test.ensures.unmatched rs mask (destination_is c rs is) known.dst of.dst (λ e. c.prefix_test-first.ensures.unmatched rs mask (source_is c rs is) known.src of.src live e) ended
