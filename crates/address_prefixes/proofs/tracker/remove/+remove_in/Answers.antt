use Rattle.std.proofs.Common.{◌≡◌, sym, ap, ◌∙◌, subst, arith, rules}
use Rattle.address_prefixes.specs.Prefixes.{in_common, prefix_at}
use Rattle.address_prefixes.specs.declared.tracker.trie.Trie.{Trie}
use Rattle.address_prefixes.specs.declared.tracker.trie.Trie.TheViews.{the_lemmas}
use Rattle.address_prefixes.proofs.tracker.LookLaws.{at_node}
use Rattle.address_prefixes.proofs.tracker.Nodes.{HasLess, count_some, own_removed, in_like, in_unlike, like_removed, unlike_removed, none_there, less_same}
use Rattle.address_prefixes.proofs.tracker.remove.+remove_in.Goals as goal
use Rattle.address_prefixes.proofs.tracker.remove.+remove_in.Goals.{then-len-deref, else-len-deref+then-in_common-deref, else-len-deref+else-in_common-deref}

pub overflow_sub-deref_mut : goal.overflow_sub-deref_mut
overflow_sub-deref_mut t c =
    let w = c.args.width in
    let n = c.deref_mut.result.now in
    let here = at_node w c.args.trie.now c.in-Fork.node n c.in-Fork.is c.deref_mut.ensures.value c.requires.sound in
    let long : c.args.len ≡ n.length = c.if-len-deref.true ∙ ap (λ n. n.length) c.deref.ensures ∙ sym (ap (λ n. n.length) c.deref_mut.ensures.value) in
    let some = count_some w c.args.trie.now n c.args.value c.args.len here c.requires.there long in
    omega (arith, some)

pub remove_in-requires : goal.remove_in-requires
remove_in-requires t c =
    let w = c.args.width in
    let n = c.deref_mut-then-in_common-deref.result.now in
    let here = at_node w c.args.trie.now c.in-Fork.node n c.in-Fork.is c.deref_mut-then-in_common-deref.ensures.value c.requires.sound in
    let m = ap (λ n. n.length) c.deref_mut-then-in_common-deref.ensures.value in
    let other : c.args.len ≡ n.length → ⊥ = λ q. c.if-len-deref.false (q ∙ m ∙ sym (ap (λ n. n.length) c.deref.ensures)) in
    let is : c.in_common.result ≡ in_common w n.bits c.args.value = c.in_common.ensures ∙ ap (λ n. in_common w n.bits c.args.value) c.deref-else-len-deref.ensures ∙ sym (ap (λ n. in_common w n.bits c.args.value) c.deref_mut-then-in_common-deref.ensures.value) in
    let e = ap (λ n. n.length) c.deref-else-len-deref-2.ensures in
    let same : in_common w n.bits c.args.value ≡ n.length = (let q = c.if-in_common-deref.true in omega (arith, is, m, e, q)) in
    let there = in_unlike w c.args.trie.now n c.args.value c.args.len here c.requires.there other same in
    (search (rules, the_lemmas), (c.requires.wide, (c.requires.fits, (there, here.unlike))))

pub remove_in-requires-else-in_common-deref : goal.remove_in-requires-else-in_common-deref
remove_in-requires-else-in_common-deref t c =
    let w = c.args.width in
    let n = c.deref_mut-else-in_common-deref.result.now in
    let here = at_node w c.args.trie.now c.in-Fork.node n c.in-Fork.is c.deref_mut-else-in_common-deref.ensures.value c.requires.sound in
    let m = ap (λ n. n.length) c.deref_mut-else-in_common-deref.ensures.value in
    let other : c.args.len ≡ n.length → ⊥ = λ q. c.if-len-deref.false (q ∙ m ∙ sym (ap (λ n. n.length) c.deref.ensures)) in
    let is : c.in_common.result ≡ in_common w n.bits c.args.value = c.in_common.ensures ∙ ap (λ n. in_common w n.bits c.args.value) c.deref-else-len-deref.ensures ∙ sym (ap (λ n. in_common w n.bits c.args.value) c.deref_mut-else-in_common-deref.ensures.value) in
    let e = ap (λ n. n.length) c.deref-else-len-deref-2.ensures in
    let differ : in_common w n.bits c.args.value ≡ n.length → ⊥ = λ q. c.if-in_common-deref.false (is ∙ q ∙ m ∙ sym e) in
    let there = in_like w c.args.trie.now n c.args.value c.args.len here c.requires.there other differ in
    (search (rules, the_lemmas), (c.requires.wide, (c.requires.fits, (there, here.like))))

pub returns-in-Empty-clause-less : goal.returns-in-Empty-clause-less
returns-in-Empty-clause-less t c = absurd (none_there c.args.width c.args.trie.now (prefix_at c.args.width c.args.value c.args.len) c.in-Empty.is c.requires.there)

pub returns-after-len-deref-clause-sound : goal.returns-after-len-deref-clause-sound
returns-after-len-deref-clause-sound t c =
    let w = c.args.width in
    let p = prefix_at w c.args.value c.args.len in
    let old = c.args.trie.now in
    let Good : Trie → Type 0 = HasLess w p old in
    let near : HasLess w p old c.if-len-deref.trie = elim c.if-len-deref.branch [
      | then-len-deref k ↦
          let n = k.deref_mut.result.now in
          let here = at_node w old c.in-Fork.node n c.in-Fork.is k.deref_mut.ensures.value c.requires.sound in
          let long : c.args.len ≡ n.length = k.if-len-deref.true ∙ ap (λ n. n.length) c.deref.ensures ∙ sym (ap (λ n. n.length) k.deref_mut.ensures.value) in
          subst Good (sym k.trie-is) (own_removed w old n c.args.value c.args.len here c.requires.there long)
      | else-len-deref+then-in_common-deref k ↦
          let n = k.deref_mut-then-in_common-deref.result.now in
          let here = at_node w old c.in-Fork.node n c.in-Fork.is k.deref_mut-then-in_common-deref.ensures.value c.requires.sound in
          let other : c.args.len ≡ n.length → ⊥ = λ q. k.if-len-deref.false (q ∙ ap (λ n. n.length) k.deref_mut-then-in_common-deref.ensures.value ∙ sym (ap (λ n. n.length) c.deref.ensures)) in
          subst Good (sym k.trie-is) (unlike_removed w old n c.args.value c.args.len here c.requires.there k.remove_in.new.trie other k.remove_in.ensures.sound k.remove_in.ensures.less)
      | else-len-deref+else-in_common-deref k ↦
          let n = k.deref_mut-else-in_common-deref.result.now in
          let here = at_node w old c.in-Fork.node n c.in-Fork.is k.deref_mut-else-in_common-deref.ensures.value c.requires.sound in
          let other : c.args.len ≡ n.length → ⊥ = λ q. k.if-len-deref.false (q ∙ ap (λ n. n.length) k.deref_mut-else-in_common-deref.ensures.value ∙ sym (ap (λ n. n.length) c.deref.ensures)) in
          subst Good (sym k.trie-is) (like_removed w old n c.args.value c.args.len here c.requires.there k.remove_in-else-in_common-deref.new.trie other k.remove_in-else-in_common-deref.ensures.sound k.remove_in-else-in_common-deref.ensures.less)
    ] in
    (less_same w p old c.if-len-deref.trie c.drop_needless.new.trie near (c.drop_needless.ensures w)).0

pub returns-after-len-deref-clause-less : goal.returns-after-len-deref-clause-less
returns-after-len-deref-clause-less t c =
    let w = c.args.width in
    let p = prefix_at w c.args.value c.args.len in
    let old = c.args.trie.now in
    let Good : Trie → Type 0 = HasLess w p old in
    let near : HasLess w p old c.if-len-deref.trie = elim c.if-len-deref.branch [
      | then-len-deref k ↦
          let n = k.deref_mut.result.now in
          let here = at_node w old c.in-Fork.node n c.in-Fork.is k.deref_mut.ensures.value c.requires.sound in
          let long : c.args.len ≡ n.length = k.if-len-deref.true ∙ ap (λ n. n.length) c.deref.ensures ∙ sym (ap (λ n. n.length) k.deref_mut.ensures.value) in
          subst Good (sym k.trie-is) (own_removed w old n c.args.value c.args.len here c.requires.there long)
      | else-len-deref+then-in_common-deref k ↦
          let n = k.deref_mut-then-in_common-deref.result.now in
          let here = at_node w old c.in-Fork.node n c.in-Fork.is k.deref_mut-then-in_common-deref.ensures.value c.requires.sound in
          let other : c.args.len ≡ n.length → ⊥ = λ q. k.if-len-deref.false (q ∙ ap (λ n. n.length) k.deref_mut-then-in_common-deref.ensures.value ∙ sym (ap (λ n. n.length) c.deref.ensures)) in
          subst Good (sym k.trie-is) (unlike_removed w old n c.args.value c.args.len here c.requires.there k.remove_in.new.trie other k.remove_in.ensures.sound k.remove_in.ensures.less)
      | else-len-deref+else-in_common-deref k ↦
          let n = k.deref_mut-else-in_common-deref.result.now in
          let here = at_node w old c.in-Fork.node n c.in-Fork.is k.deref_mut-else-in_common-deref.ensures.value c.requires.sound in
          let other : c.args.len ≡ n.length → ⊥ = λ q. k.if-len-deref.false (q ∙ ap (λ n. n.length) k.deref_mut-else-in_common-deref.ensures.value ∙ sym (ap (λ n. n.length) c.deref.ensures)) in
          subst Good (sym k.trie-is) (like_removed w old n c.args.value c.args.len here c.requires.there k.remove_in-else-in_common-deref.new.trie other k.remove_in-else-in_common-deref.ensures.sound k.remove_in-else-in_common-deref.ensures.less)
    ] in
    (less_same w p old c.if-len-deref.trie c.drop_needless.new.trie near (c.drop_needless.ensures w)).1
