use Rattle.std.proofs.Common.{subst}
use Rattle.address_prefixes.specs.Looks.{Leaves}
use Rattle.address_prefixes.specs.Tries.{prefixes_in}
use Rattle.address_prefixes.proofs.tracker.LookLaws.{at_node, found_all, found_none, apart_here, some_here, own_here, step_unlike, step_like}
use Rattle.address_prefixes.proofs.tracker.look.look_in.Goals as goal

pub returns-then-common-node : goal.returns-then-common-node
returns-then-common-node c =
    let w = c.args.width in
    let x = c.args.value in
    let t = c.nodes.below.now in
    let n = c.deref-node.result.now in
    let here = at_node w t c.in-Fork.node n c.in-Fork.is c.deref-node.ensures c.nodes.invariant.sound in
    let common = c.in_common-common.result in
    found_all w x (prefixes_in w c.args.trie.now) (prefixes_in w t) c.nodes.found c.with_apart.result c.nodes.invariant.leaves
    (c.with_apart.ensures w x (prefixes_in w t) (apart_here w x common t n here c.in_common-common.ensures c.if-common-node.true) (some_here w x common t n here c.in_common-common.ensures))

pub nodes-preserved-then-common-node-2 : goal.nodes-preserved-then-common-node-2
nodes-preserved-then-common-node-2 c =
    let w = c.args.width in
    let x = c.args.value in
    let t = c.nodes.below.now in
    let n = c.deref-node.result.now in
    let here = at_node w t c.in-Fork.node n c.in-Fork.is c.deref-node.ensures c.nodes.invariant.sound in
    let common = c.in_common-common.result in
    record {
      sound = here.unlike;
      leaves = step_unlike w x common t n here c.in_common-common.ensures (prefixes_in w c.args.trie.now) c.nodes.found c.with_own-own.result c.with_other_side-found.result c.nodes.invariant.leaves
          (c.with_own-own.ensures w x n.bits here.node.split.within c.requires.wide (own_here w x common t n here c.in_common-common.ensures c.if-common-node.false))
          c.if-common-node-2.true (c.with_other_side-found.ensures w x);
    }

pub nodes-preserved : goal.nodes-preserved
nodes-preserved c =
    let w = c.args.width in
    let x = c.args.value in
    let t = c.nodes.below.now in
    let n = c.deref-node.result.now in
    let here = at_node w t c.in-Fork.node n c.in-Fork.is c.deref-node.ensures c.nodes.invariant.sound in
    let common = c.in_common-common.result in
    record {
      sound = here.like;
      leaves = step_like w x common t n here c.in_common-common.ensures (prefixes_in w c.args.trie.now) c.nodes.found c.with_own-own.result c.with_other_side-found-else-common-node-2.result c.nodes.invariant.leaves
          (c.with_own-own.ensures w x n.bits here.node.split.within c.requires.wide (own_here w x common t n here c.in_common-common.ensures c.if-common-node.false))
          c.if-common-node.false c.if-common-node-2.false (c.with_other_side-found-else-common-node-2.ensures w x);
    }

pub returns : goal.returns
returns c =
    let w = c.args.width in
    let x = c.args.value in
    found_none w x (prefixes_in w c.args.trie.now) c.nodes.found
    (subst (λ t. Leaves w x (prefixes_in w c.args.trie.now) c.nodes.found (prefixes_in w t)) c.in_default.is c.nodes.invariant.leaves)
