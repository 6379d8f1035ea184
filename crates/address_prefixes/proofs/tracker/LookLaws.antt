-- A walk down a trie: what each node on the way tells of a number.
use Rattle.std.proofs.Common.{Box, ◌≡◌, ℕ, suc, ◌+◌, ◌-◌, ◌*◌, ◌%◌, ◌^◌, ◌<◌, ◌≤◌, ◌==◌, ◌≢◌, Bool, true, false, List, [], ◌++◌, length, max, bit_or, inl, inr, refl, sym, ap, ◌∙◌, subst, arith, eqb-true, eq-eqb, ◌⊎◌}
use Rattle.std.specs.Int.{bit_at, w128}
use Rattle.std.proofs.lemmas.Nat.Bits.{bit_at_set_same, bit_at_set_other, bit_at-lt, bit_at-zero}
use Rattle.spec_xlate.specs.Lookup.{Prefix, deciding}
use Rattle.table_laws.proofs.MemberLaws.{Among, Among-append}
use Rattle.address_prefixes.specs.declared.tracker.found.Found.{Found}
use Rattle.address_prefixes.specs.declared.tracker.trie.Node.{Node}
use Rattle.address_prefixes.specs.declared.tracker.trie.Trie.{Trie}
use Rattle.address_prefixes.specs.declared.tracker.trie.Trie.TheVariants.{Fork}
use Rattle.std.specs.declared.alloc.Global.{Global}
use Rattle.address_prefixes.specs.Looks.{begun, IsFound, Adds, Leaves, AllApart}
use Rattle.address_prefixes.specs.Prefixes.{in_common, prefix_at}
use Rattle.address_prefixes.specs.Tries.{own_prefixes, prefixes_in, node_prefixes, AllGoOnLike, AllGoOnUnlike, IsSplit, IsNode, IsTrie}
use Rattle.address_prefixes.proofs.tracker.Alike.{common_sym, common_nearer, more_of_cut, self_common}
use Rattle.address_prefixes.proofs.tracker.Deciding.{deciding-append, begun-append, deciding_apart, begun_apart, deciding_own, begun_own, among-replicate, one}

-- ---- a trie that has a node

pub record IsAtNode (w : ℕ) (t : Trie) (n : Node) : Type 0 where
  pub node : IsNode w n
  pub like : IsTrie w n.like
  pub unlike : IsTrie w n.unlike
  pub prefixes : prefixes_in w t ≡ node_prefixes w n

pub at_node : (w : ℕ) (t : Trie) (b : Box Node Global) (n : Node) → t ≡ Fork b → n ≡ b.value → IsTrie w t → IsAtNode w t n
at_node w t b n is opened sound =
    let whole = subst (IsTrie w) is sound in
    let here : IsAtNode w (Fork b) b.value = record { node = whole.0; like = whole.1; unlike = whole.2; prefixes = refl } in
    subst (λ (u : Trie). IsAtNode w u n) (sym is) (subst (IsAtNode w (Fork b)) (sym opened) here)

-- ---- one node

pub adds_apart : (w x n : ℕ) (old new : Found) (ps : List Prefix) → new.lengths ≡ old.lengths → new.bits ≡ max old.bits (n + 1) → AllApart w x n ps → 0 < length ps → Adds w x old new ps
adds_apart w x n old new ps lengths bits apart some = record {
  lengths = λ k.
      let e = ap (λ l. bit_at l k) lengths in
      let b = begun_apart w x n ps apart k in
      omega (arith, e, b);
  bits = let d = deciding_apart w x n ps apart some in omega (arith, bits, d);
}

pub adds_none : (w x : ℕ) (old : Found) → Adds w x old old []
unfolding deciding
adds_none w x old = record { lengths = λ k. omega arith; bits = omega arith }

pub adds_own_none : (w x bits n k : ℕ) (old : Found) → k ≡ 0 → Adds w x old old (own_prefixes w bits n k)
adds_own_none w x bits n k old none = subst (λ (j : ℕ). Adds w x old old (own_prefixes w bits n j)) (sym none) (adds_none w x old)

pub adds_own : (w x bits n k : ℕ) (old new : Found) → n ≤ w → w ≤ 128 → 0 < n → 0 < k → n ≤ in_common w bits x
    → new.lengths ≡ bit_or old.lengths (1 * 2 ^ (n - 1) % 2 ^ 128) → new.bits ≡ max old.bits n → Adds w x old new (own_prefixes w bits n k)
adds_own w x bits n k old new within wide pos some begins lengths made = record {
  lengths = λ j. at j (n == suc j) refl (begun_own w x bits n within near k j some);
  bits = let d = deciding_own w x bits n within near k some in omega (arith, made, d);
}
  where
    near : n ≤ in_common w x bits
    near = let s = common_sym w bits x in omega (arith, s, begins)

    inside : n - 1 < 128
    inside = omega arith

    at : (j : ℕ) (t : Bool) → (n == suc j) ≡ t → begun w x j (own_prefixes w bits n k) ≡ one (n == suc j) → bit_at new.lengths j ≡ max (bit_at old.lengths j) (begun w x j (own_prefixes w bits n k))
    at j true e b =
        let is : n ≡ suc j = eqb-true n (suc j) e in
        let place : n - 1 ≡ j = omega (arith, is) in
        let here : bit_at new.lengths j ≡ 1 = ap (λ l. bit_at l j) lengths ∙ ap (bit_at (bit_or old.lengths (1 * 2 ^ (n - 1) % 2 ^ 128))) (sym place) ∙ bit_at_set_same w128 old.lengths (n - 1) inside in
        let one : begun w x j (own_prefixes w bits n k) ≡ 1 = b ∙ ap one e in
        let l = bit_at-lt old.lengths j in
        omega (arith, here, one, l)
    at j false e b =
        let other : j ≢ n - 1 = (λ q. let is : n ≡ suc j = omega (arith, q, pos) in let f : true ≡ false = sym (eq-eqb n (suc j) is) ∙ e in absurd (cc)) in
        let here : bit_at new.lengths j ≡ bit_at old.lengths j = ap (λ l. bit_at l j) lengths ∙ bit_at_set_other w128 old.lengths (n - 1) inside j other in
        let none : begun w x j (own_prefixes w bits n k) ≡ 0 = b ∙ ap one e in
        omega (arith, here, none)

-- ---- on which side a number goes on, and how it is apart from the other one

pub like_apart : (w bits x n : ℕ) (ps : List Prefix) → AllGoOnLike w bits n ps → in_common w bits x ≡ n → AllApart w x n ps
like_apart w bits x n ps go is p m =
    let g = go p m in
    let s = common_sym w bits x in
    let near : in_common w x bits < in_common w bits p.value = omega (arith, s, is) in
    let e = common_nearer w x bits p.value near in
    record { long = g.long; within = g.within; common = omega (arith, e, s, is) }

pub unlike_apart : (w bits x n : ℕ) (ps : List Prefix) → AllGoOnUnlike w bits n ps → n < in_common w bits x → AllApart w x n ps
unlike_apart w bits x n ps go more p m =
    let g = go p m in
    let s = common_sym w bits p.value in
    let near : in_common w p.value bits < in_common w bits x = omega (arith, s, more) in
    let e = common_nearer w p.value bits x near in
    let t = common_sym w x p.value in
    record { long = g.long; within = g.within; common = omega (arith, e, s, t) }

-- each prefix of a node has its leading bits
pub node_begins : (w : ℕ) (n : Node) → IsSplit w n → (p : Prefix) → Among p (node_prefixes w n) → (n.length ≤ p.length) × (p.length ≤ w) × (n.length ≤ in_common w n.bits p.value)
node_begins w n split p m = at (Among-append p (own_prefixes w n.bits n.length n.count) (prefixes_in w n.like ++ prefixes_in w n.unlike) m)
  where
    own : p ≡ prefix_at w n.bits n.length → (n.length ≤ p.length) × (p.length ≤ w) × (n.length ≤ in_common w n.bits p.value)
    own e =
        let within = split.within in
        let self : n.length ≤ in_common w n.bits (prefix_at w n.bits n.length).value = more_of_cut w n.bits n.bits n.length n.length (omega arith) within (self_common w n.bits n.length within) in
        let l = ap (λ (q : Prefix). q.length) e in
        (omega (arith, l), omega (arith, l, within), subst (λ (q : Prefix). n.length ≤ in_common w n.bits q.value) (sym e) self)

    below : Among p (prefixes_in w n.like) ⊎ Among p (prefixes_in w n.unlike) → (n.length ≤ p.length) × (p.length ≤ w) × (n.length ≤ in_common w n.bits p.value)
    below (inl h) = let g = split.like p h in let l = g.long in let k = g.like in (omega (arith, l), g.within, omega (arith, k))
    below (inr h) = let g = split.unlike p h in let l = g.long in let k = g.unlike in (omega (arith, l), g.within, omega (arith, k))

    at : Among p (own_prefixes w n.bits n.length n.count) ⊎ Among p (prefixes_in w n.like ++ prefixes_in w n.unlike) → (n.length ≤ p.length) × (p.length ≤ w) × (n.length ≤ in_common w n.bits p.value)
    at (inl h) = own (among-replicate n.count (prefix_at w n.bits n.length) p h)
    at (inr h) = below (Among-append p (prefixes_in w n.like) (prefixes_in w n.unlike) h)

-- a number that has fewer of them in common is apart from all
pub node_apart : (w : ℕ) (n : Node) (x : ℕ) → IsSplit w n → in_common w n.bits x < n.length → AllApart w x (in_common w n.bits x) (node_prefixes w n)
node_apart w n x split less p m =
    let b = node_begins w n split p m in
    let l = b.0 in
    let c = b.2 in
    let s = common_sym w n.bits x in
    let near : in_common w x n.bits < in_common w n.bits p.value = omega (arith, s, less, c) in
    let e = common_nearer w x n.bits p.value near in
    record { long = omega (arith, l, less); within = b.1; common = omega (arith, e, s) }

-- ---- the walk

pub leaves_all : (w x : ℕ) (found : Found) (ps : List Prefix) → found.lengths ≡ 0 → found.bits ≡ 0 → Leaves w x ps found ps
leaves_all w x found ps none flat = record {
  lengths = λ n. let e = ap (λ l. bit_at l n) none ∙ bit_at-zero n in omega (arith, e);
  bits = omega (arith, flat);
}

pub found_all : (w x : ℕ) (all left : List Prefix) (old new : Found) → Leaves w x all old left → Adds w x old new left → IsFound w x new all
found_all w x all left old new leaves adds = record {
  lengths = λ n. let a = leaves.lengths n in let b = adds.lengths n in omega (arith, a, b);
  bits = let a = leaves.bits in let b = adds.bits in omega (arith, a, b);
}

pub found_none : (w x : ℕ) (all : List Prefix) (found : Found) → Leaves w x all found [] → IsFound w x found all
found_none w x all found leaves = found_all w x all [] found found leaves (adds_none w x found)

module _ (w x : ℕ) (all own like unlike : List Prefix) (f0 f1 f2 : Found) (leaves : Leaves w x all f0 (own ++ (like ++ unlike))) (here : Adds w x f0 f1 own) where
  parts_lengths : (n : ℕ) → begun w x n (own ++ (like ++ unlike)) ≡ max (begun w x n own) (max (begun w x n like) (begun w x n unlike))
  parts_lengths n = begun-append w x n own (like ++ unlike) ∙ ap (max (begun w x n own)) (begun-append w x n like unlike)

  parts_bits : deciding w x (own ++ (like ++ unlike)) ≡ max (deciding w x own) (max (deciding w x like) (deciding w x unlike))
  parts_bits = deciding-append w x own (like ++ unlike) ∙ ap (max (deciding w x own)) (deciding-append w x like unlike)

  pub leaves_unlike : Adds w x f1 f2 like → Leaves w x all f2 unlike
  leaves_unlike adds = record {
    lengths = λ n. at _ _ _ _ _ _ _ _ (leaves.lengths n) (here.lengths n) (adds.lengths n) (parts_lengths n);
    bits = at _ _ _ _ _ _ _ _ leaves.bits here.bits adds.bits parts_bits;
  }
    where
      at : (z a b c p q r s : ℕ) → z ≡ max a s → b ≡ max a p → c ≡ max b q → s ≡ max p (max q r) → z ≡ max c r
      at z a b c p q r s e f g h = omega (arith, e, f, g, h)

  pub leaves_like : Adds w x f1 f2 unlike → Leaves w x all f2 like
  leaves_like adds = record {
    lengths = λ n. at _ _ _ _ _ _ _ _ (leaves.lengths n) (here.lengths n) (adds.lengths n) (parts_lengths n);
    bits = at _ _ _ _ _ _ _ _ leaves.bits here.bits adds.bits parts_bits;
  }
    where
      at : (z a b c p q r s : ℕ) → z ≡ max a s → b ≡ max a p → c ≡ max b r → s ≡ max p (max q r) → z ≡ max c q
      at z a b c p q r s e f g h = omega (arith, e, f, g, h)

-- ---- a step of it

module _ (w x common : ℕ) (t : Trie) (n : Node) (at : IsAtNode w t n) (is : common ≡ in_common w n.bits x) where
  pub apart_here : common < n.length → AllApart w x common (prefixes_in w t)
  apart_here less =
      subst (λ (k : ℕ). AllApart w x k (prefixes_in w t)) (sym is)
      (subst (AllApart w x (in_common w n.bits x)) (sym at.prefixes) (node_apart w n x at.node.split (omega (arith, is, less))))

  pub some_here : 0 < length (prefixes_in w t)
  some_here = subst (λ (ps : List Prefix). 0 < length ps) (sym at.prefixes) at.node.inhabited

  pub own_here : n.length ≤ common → n.length ≤ in_common w n.bits x
  own_here le = omega (arith, is, le)

  module _ (all : List Prefix) (f0 f1 f2 : Found) (leaves : Leaves w x all f0 (prefixes_in w t)) (here : Adds w x f0 f1 (own_prefixes w n.bits n.length n.count)) where
    parts : Leaves w x all f0 (node_prefixes w n)
    parts = subst (Leaves w x all f0) at.prefixes leaves

    pub step_unlike : common ≡ n.length → (IsTrie w n.like → AllApart w x n.length (prefixes_in w n.like) → Adds w x f1 f2 (prefixes_in w n.like)) → Leaves w x all f2 (prefixes_in w n.unlike)
    step_unlike same other =
        leaves_unlike w x all (own_prefixes w n.bits n.length n.count) (prefixes_in w n.like) (prefixes_in w n.unlike) f0 f1 f2 parts here
        (other at.like (like_apart w n.bits x n.length (prefixes_in w n.like) at.node.split.like (omega (arith, is, same))))

    pub step_like : n.length ≤ common → (common ≡ n.length → ⊥) → (IsTrie w n.unlike → AllApart w x n.length (prefixes_in w n.unlike) → Adds w x f1 f2 (prefixes_in w n.unlike)) → Leaves w x all f2 (prefixes_in w n.like)
    step_like le differ other =
        leaves_like w x all (own_prefixes w n.bits n.length n.count) (prefixes_in w n.like) (prefixes_in w n.unlike) f0 f1 f2 parts here
        (other at.unlike (unlike_apart w n.bits x n.length (prefixes_in w n.unlike) at.node.split.unlike (omega (arith, is, le, differ))))
