use Rattle.std.proofs.Common.{◌≡◌, ◌<◌, ◌≤◌, refl, sym, ap, ◌∙◌, subst, arith}
use Rattle.std.proofs.lemmas.Result.{on_ok_weaker}
use Rattle.address_prefixes.specs.Prefixes.{in_common, prefix_at}
use Rattle.address_prefixes.specs.Tries.{IsTrie}
use Rattle.address_prefixes.specs.declared.tracker.trie.Trie.TheVariants.{Fork}
use Rattle.address_prefixes.proofs.tracker.LookLaws.{at_node}
use Rattle.address_prefixes.proofs.tracker.Nodes.{leaf_more, put_both, put_one, own_more, from_equal, either, like_sound, like_one_more, unlike_sound, unlike_one_more}
use Rattle.address_prefixes.proofs.tracker.insert.+insert_in.Goals as goal
use Rattle.address_prefixes.proofs.tracker.insert.+insert_in.Goals.{else-common-deref-via-then-common-deref+else-common-len, else-common-deref-via-else-common-deref}

pub returns-in_ok-leaf-in-Empty-clause-ok : goal.returns-in_ok-leaf-in-Empty-clause-ok
returns-in_ok-leaf-in-Empty-clause-ok t c =
    (leaf_more c.args.width c.args.value c.args.len c.args.trie.now c.in_ok-leaf-in-Empty.field-0 c.in-Empty.is c.in_ok-leaf-in-Empty.ensures c.requires.fits c.requires.within c.requires.some).1

pub returns-in_ok-above-in-Fork-clause-sound : goal.returns-in_ok-above-in-Fork-clause-sound
returns-in_ok-above-in-Fork-clause-sound t c =
    let w = c.args.width in
    let b = c.in-Fork.node in
    let sound = subst (IsTrie w) c.in-Fork.is c.requires.sound in
    let here = at_node w (Fork b) b b.value refl refl sound in
    let less : c.in_common-common.result < b.value.length = (let l = ap (λ n. n.length) c.deref-in-Fork.ensures in omega (arith, l)) in
    (from_equal w c.args.trie.now (Fork b) c.put_above.new.trie (prefix_at w c.args.value c.args.len) c.in-Fork.is
    (put_both w (Fork b) c.put_above.new.trie b.value c.in_ok-above-in-Fork.above.value c.in_ok-other-in-Fork.other c.deref-then-common-len.result.now.bits c.args.value c.args.len c.in_common-common.result here sound
    (ap (λ n. n.bits) c.deref-then-common-len.ensures) (c.in_common-common.ensures ∙ ap (λ n. in_common w n.bits c.args.value) c.deref.ensures) less c.if-common-len.true c.requires.within c.requires.some c.requires.fits
    c.in_ok-other-in-Fork.ensures c.in_ok-above-in-Fork.ensures (c.put_above.ensures w))).0

pub returns-in_ok-above-in-Fork-clause-ok : goal.returns-in_ok-above-in-Fork-clause-ok
returns-in_ok-above-in-Fork-clause-ok t c =
    let w = c.args.width in
    let b = c.in-Fork.node in
    let sound = subst (IsTrie w) c.in-Fork.is c.requires.sound in
    let here = at_node w (Fork b) b b.value refl refl sound in
    let less : c.in_common-common.result < b.value.length = (let l = ap (λ n. n.length) c.deref-in-Fork.ensures in omega (arith, l)) in
    (from_equal w c.args.trie.now (Fork b) c.put_above.new.trie (prefix_at w c.args.value c.args.len) c.in-Fork.is
    (put_both w (Fork b) c.put_above.new.trie b.value c.in_ok-above-in-Fork.above.value c.in_ok-other-in-Fork.other c.deref-then-common-len.result.now.bits c.args.value c.args.len c.in_common-common.result here sound
    (ap (λ n. n.bits) c.deref-then-common-len.ensures) (c.in_common-common.ensures ∙ ap (λ n. in_common w n.bits c.args.value) c.deref.ensures) less c.if-common-len.true c.requires.within c.requires.some c.requires.fits
    c.in_ok-other-in-Fork.ensures c.in_ok-above-in-Fork.ensures (c.put_above.ensures w))).1

pub returns-in_ok-above-in-Fork-2-clause-sound : goal.returns-in_ok-above-in-Fork-2-clause-sound
returns-in_ok-above-in-Fork-2-clause-sound t c =
    let w = c.args.width in
    let b = c.in-Fork.node in
    let sound = subst (IsTrie w) c.in-Fork.is c.requires.sound in
    let here = at_node w (Fork b) b b.value refl refl sound in
    let is : c.in_common-common.result ≡ in_common w b.value.bits c.args.value = c.in_common-common.ensures ∙ ap (λ n. in_common w n.bits c.args.value) c.deref.ensures in
    let less : c.args.len < b.value.length = (let l = ap (λ n. n.length) c.deref-else-common-deref.ensures in omega (arith, l)) in
    let begins : c.args.len ≤ c.in_common-common.result = elim c.else-common-deref.branch [
      | else-common-deref-via-then-common-deref+else-common-len w ↦ w.if-common-len.false
      | else-common-deref-via-else-common-deref w ↦ (let k = ap (λ n. n.length) c.deref-in-Fork.ensures in let f = w.if-common-deref.false in omega (arith, k, f, less))
    ] in
    (from_equal w c.args.trie.now (Fork b) c.put_above-then-len-deref.new.trie (prefix_at w c.args.value c.args.len) c.in-Fork.is
    (put_one w (Fork b) c.put_above-then-len-deref.new.trie b.value c.in_ok-above-in-Fork-2.above.value c.deref-then-len-deref.result.now.bits c.args.value c.args.len c.in_common-common.result here sound
    (ap (λ n. n.bits) c.deref-then-len-deref.ensures) is less begins c.requires.within c.requires.some c.in_ok-above-in-Fork-2.ensures (c.put_above-then-len-deref.ensures w))).0

pub returns-in_ok-above-in-Fork-2-clause-ok : goal.returns-in_ok-above-in-Fork-2-clause-ok
returns-in_ok-above-in-Fork-2-clause-ok t c =
    let w = c.args.width in
    let b = c.in-Fork.node in
    let sound = subst (IsTrie w) c.in-Fork.is c.requires.sound in
    let here = at_node w (Fork b) b b.value refl refl sound in
    let is : c.in_common-common.result ≡ in_common w b.value.bits c.args.value = c.in_common-common.ensures ∙ ap (λ n. in_common w n.bits c.args.value) c.deref.ensures in
    let less : c.args.len < b.value.length = (let l = ap (λ n. n.length) c.deref-else-common-deref.ensures in omega (arith, l)) in
    let begins : c.args.len ≤ c.in_common-common.result = elim c.else-common-deref.branch [
      | else-common-deref-via-then-common-deref+else-common-len w ↦ w.if-common-len.false
      | else-common-deref-via-else-common-deref w ↦ (let k = ap (λ n. n.length) c.deref-in-Fork.ensures in let f = w.if-common-deref.false in omega (arith, k, f, less))
    ] in
    (from_equal w c.args.trie.now (Fork b) c.put_above-then-len-deref.new.trie (prefix_at w c.args.value c.args.len) c.in-Fork.is
    (put_one w (Fork b) c.put_above-then-len-deref.new.trie b.value c.in_ok-above-in-Fork-2.above.value c.deref-then-len-deref.result.now.bits c.args.value c.args.len c.in_common-common.result here sound
    (ap (λ n. n.bits) c.deref-then-len-deref.ensures) is less begins c.requires.within c.requires.some c.in_ok-above-in-Fork-2.ensures (c.put_above-then-len-deref.ensures w))).1

pub returns-then-len-deref-2-clause-sound : goal.returns-then-len-deref-2-clause-sound
returns-then-len-deref-2-clause-sound t c =
    let w = c.args.width in
    let n = c.deref_mut.result.now in
    let here = at_node w c.args.trie.now c.in-Fork.node n c.in-Fork.is c.deref_mut.ensures.value c.requires.sound in
    let long : c.args.len ≡ n.length = c.if-len-deref-2.true ∙ ap (λ n. n.length) c.deref-else-len-deref.ensures ∙ sym (ap (λ n. n.length) c.deref_mut.ensures.value) in
    let begins : c.args.len ≤ c.in_common-common.result = elim c.else-common-deref.branch [
      | else-common-deref-via-then-common-deref+else-common-len w ↦ w.if-common-len.false
      | else-common-deref-via-else-common-deref w ↦ (let k = ap (λ n. n.length) c.deref-in-Fork.ensures in let m = ap (λ n. n.length) c.deref_mut.ensures.value in let f = w.if-common-deref.false in omega (arith, k, m, f, long))
    ] in
    (own_more w c.args.trie.now n c.args.value c.args.len c.in_common-common.result here
    (c.in_common-common.ensures ∙ ap (λ n. in_common w n.bits c.args.value) c.deref.ensures ∙ sym (ap (λ n. in_common w n.bits c.args.value) c.deref_mut.ensures.value)) long c.requires.some begins).0

pub returns-then-len-deref-2-clause-ok : goal.returns-then-len-deref-2-clause-ok
returns-then-len-deref-2-clause-ok t c =
    let w = c.args.width in
    let n = c.deref_mut.result.now in
    let here = at_node w c.args.trie.now c.in-Fork.node n c.in-Fork.is c.deref_mut.ensures.value c.requires.sound in
    let long : c.args.len ≡ n.length = c.if-len-deref-2.true ∙ ap (λ n. n.length) c.deref-else-len-deref.ensures ∙ sym (ap (λ n. n.length) c.deref_mut.ensures.value) in
    let begins : c.args.len ≤ c.in_common-common.result = elim c.else-common-deref.branch [
      | else-common-deref-via-then-common-deref+else-common-len w ↦ w.if-common-len.false
      | else-common-deref-via-else-common-deref w ↦ (let k = ap (λ n. n.length) c.deref-in-Fork.ensures in let m = ap (λ n. n.length) c.deref_mut.ensures.value in let f = w.if-common-deref.false in omega (arith, k, m, f, long))
    ] in
    (own_more w c.args.trie.now n c.args.value c.args.len c.in_common-common.result here
    (c.in_common-common.ensures ∙ ap (λ n. in_common w n.bits c.args.value) c.deref.ensures ∙ sym (ap (λ n. in_common w n.bits c.args.value) c.deref_mut.ensures.value)) long c.requires.some begins).1

pub returns-then-common-deref-2-clause-sound : goal.returns-then-common-deref-2-clause-sound
returns-then-common-deref-2-clause-sound t c =
    let w = c.args.width in
    let n = c.deref_mut-then-common-deref-2.result.now in
    let here = at_node w c.args.trie.now c.in-Fork.node n c.in-Fork.is c.deref_mut-then-common-deref-2.ensures.value c.requires.sound in
    let is : c.in_common-common.result ≡ in_common w n.bits c.args.value = c.in_common-common.ensures ∙ ap (λ n. in_common w n.bits c.args.value) c.deref.ensures ∙ sym (ap (λ n. in_common w n.bits c.args.value) c.deref_mut-then-common-deref-2.ensures.value) in
    let m = ap (λ n. n.length) c.deref_mut-then-common-deref-2.ensures.value in
    let a = ap (λ n. n.length) c.deref-else-common-deref.ensures in
    let d = ap (λ n. n.length) c.deref-else-len-deref.ensures in
    let e = ap (λ n. n.length) c.deref-else-len-deref-2.ensures in
    let long : n.length < c.args.len = omega (arith, m, a, d) in
    let same : in_common w n.bits c.args.value ≡ n.length = (let q = c.if-common-deref-2.true in omega (arith, is, m, e, q)) in
    unlike_sound w c.args.trie.now n c.insert_in.new.trie c.args.value c.args.len here c.requires.within long c.insert_in.ensures.sound same (either c.insert_in.result c.insert_in.ensures.ok c.insert_in.ensures.err)

pub returns-then-common-deref-2-clause-ok : goal.returns-then-common-deref-2-clause-ok
returns-then-common-deref-2-clause-ok t c =
    let w = c.args.width in
    let n = c.deref_mut-then-common-deref-2.result.now in
    let here = at_node w c.args.trie.now c.in-Fork.node n c.in-Fork.is c.deref_mut-then-common-deref-2.ensures.value c.requires.sound in
    let is : c.in_common-common.result ≡ in_common w n.bits c.args.value = c.in_common-common.ensures ∙ ap (λ n. in_common w n.bits c.args.value) c.deref.ensures ∙ sym (ap (λ n. in_common w n.bits c.args.value) c.deref_mut-then-common-deref-2.ensures.value) in
    let m = ap (λ n. n.length) c.deref_mut-then-common-deref-2.ensures.value in
    let a = ap (λ n. n.length) c.deref-else-common-deref.ensures in
    let d = ap (λ n. n.length) c.deref-else-len-deref.ensures in
    let e = ap (λ n. n.length) c.deref-else-len-deref-2.ensures in
    let long : n.length < c.args.len = omega (arith, m, a, d) in
    let same : in_common w n.bits c.args.value ≡ n.length = (let q = c.if-common-deref-2.true in omega (arith, is, m, e, q)) in
    on_ok_weaker c.insert_in.result (unlike_one_more w c.args.trie.now n c.insert_in.new.trie c.args.value c.args.len here c.requires.within long c.insert_in.ensures.sound same) c.insert_in.ensures.ok

pub returns-else-common-deref-2-clause-sound : goal.returns-else-common-deref-2-clause-sound
returns-else-common-deref-2-clause-sound t c =
    let w = c.args.width in
    let n = c.deref_mut-else-common-deref-2.result.now in
    let here = at_node w c.args.trie.now c.in-Fork.node n c.in-Fork.is c.deref_mut-else-common-deref-2.ensures.value c.requires.sound in
    let is : c.in_common-common.result ≡ in_common w n.bits c.args.value = c.in_common-common.ensures ∙ ap (λ n. in_common w n.bits c.args.value) c.deref.ensures ∙ sym (ap (λ n. in_common w n.bits c.args.value) c.deref_mut-else-common-deref-2.ensures.value) in
    let m = ap (λ n. n.length) c.deref_mut-else-common-deref-2.ensures.value in
    let a = ap (λ n. n.length) c.deref-else-common-deref.ensures in
    let d = ap (λ n. n.length) c.deref-else-len-deref.ensures in
    let e = ap (λ n. n.length) c.deref-else-len-deref-2.ensures in
    let long : n.length < c.args.len = omega (arith, m, a, d) in
    let le : n.length ≤ c.in_common-common.result = elim c.else-common-deref.branch [
      | else-common-deref-via-then-common-deref+else-common-len w ↦ (let f = w.if-common-len.false in omega (arith, f, long))
      | else-common-deref-via-else-common-deref w ↦ (let k = ap (λ n. n.length) c.deref-in-Fork.ensures in let f = w.if-common-deref.false in omega (arith, k, m, f))
    ] in
    let differ : c.in_common-common.result ≡ n.length → ⊥ = λ q. c.if-common-deref-2.false (q ∙ m ∙ sym e) in
    let go : n.length < in_common w n.bits c.args.value = omega (arith, is, le, differ) in
    like_sound w c.args.trie.now n c.insert_in-else-common-deref-2.new.trie c.args.value c.args.len here c.requires.within long c.insert_in-else-common-deref-2.ensures.sound go (either c.insert_in-else-common-deref-2.result c.insert_in-else-common-deref-2.ensures.ok c.insert_in-else-common-deref-2.ensures.err)

pub returns-else-common-deref-2-clause-ok : goal.returns-else-common-deref-2-clause-ok
returns-else-common-deref-2-clause-ok t c =
    let w = c.args.width in
    let n = c.deref_mut-else-common-deref-2.result.now in
    let here = at_node w c.args.trie.now c.in-Fork.node n c.in-Fork.is c.deref_mut-else-common-deref-2.ensures.value c.requires.sound in
    let is : c.in_common-common.result ≡ in_common w n.bits c.args.value = c.in_common-common.ensures ∙ ap (λ n. in_common w n.bits c.args.value) c.deref.ensures ∙ sym (ap (λ n. in_common w n.bits c.args.value) c.deref_mut-else-common-deref-2.ensures.value) in
    let m = ap (λ n. n.length) c.deref_mut-else-common-deref-2.ensures.value in
    let a = ap (λ n. n.length) c.deref-else-common-deref.ensures in
    let d = ap (λ n. n.length) c.deref-else-len-deref.ensures in
    let e = ap (λ n. n.length) c.deref-else-len-deref-2.ensures in
    let long : n.length < c.args.len = omega (arith, m, a, d) in
    let le : n.length ≤ c.in_common-common.result = elim c.else-common-deref.branch [
      | else-common-deref-via-then-common-deref+else-common-len w ↦ (let f = w.if-common-len.false in omega (arith, f, long))
      | else-common-deref-via-else-common-deref w ↦ (let k = ap (λ n. n.length) c.deref-in-Fork.ensures in let f = w.if-common-deref.false in omega (arith, k, m, f))
    ] in
    let differ : c.in_common-common.result ≡ n.length → ⊥ = λ q. c.if-common-deref-2.false (q ∙ m ∙ sym e) in
    let go : n.length < in_common w n.bits c.args.value = omega (arith, is, le, differ) in
    on_ok_weaker c.insert_in-else-common-deref-2.result (like_one_more w c.args.trie.now n c.insert_in-else-common-deref-2.new.trie c.args.value c.args.len here c.requires.within long c.insert_in-else-common-deref-2.ensures.sound go) c.insert_in-else-common-deref-2.ensures.ok
