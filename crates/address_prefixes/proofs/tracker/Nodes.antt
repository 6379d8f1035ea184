-- Nodes, as prefixes come and go.
use Rattle.std.proofs.Common.{◌≡◌, ℕ, zero, suc, ◌+◌, ◌-◌, ◌^◌, ◌<◌, ◌≤◌, Bool, true, false, List, [], ◌∷◌, ◌++◌, length, replicate, if◌then◌else◌, bit_and, inl, inr, ◌⊎◌, refl, sym, ap, ◌∙◌, subst, arith, eqb-true, length-append, add-one, sub-one}
use Rattle.std.proofs.lemmas.Bool.{cases_lt}
use Rattle.std.proofs.lemmas.List.{length-replicate}
use Rattle.std.proofs.Common.{Box, Result, Ok, Err, OnOk, OnErr, ap₂}
use Rattle.std.specs.declared.alloc.Global.{Global}
use Rattle.spec_base.specs.Bits.{leading_bits}
use Rattle.spec_xlate.specs.Lookup.{Prefix}
use Rattle.table_laws.proofs.MemberLaws.{Among, Among-append}
use Rattle.address_prefixes.specs.declared.tracker.trie.Trie.{Trie}
use Rattle.address_prefixes.specs.declared.tracker.trie.Trie.TheVariants.{Empty, Fork}
use Rattle.address_prefixes.specs.declared.tracker.trie.Node.{Node}
use Rattle.address_prefixes.specs.Prefixes.{in_common, prefix_at, is_same, times, HasOneMore}
use Rattle.address_prefixes.specs.Tries.{own_prefixes, prefixes_in, node_prefixes, GoesOnLike, GoesOnUnlike, AllGoOnLike, AllGoOnUnlike, IsSplit, IsNode, IsTrie, IsNearlyTrie}
use Rattle.address_prefixes.proofs.tracker.Alike.{alike_from, more_of_cut, less_of_cut}
use Rattle.address_prefixes.proofs.tracker.Deciding.{among-replicate}
use Rattle.address_prefixes.proofs.tracker.Times.{same_is, is_same_self, stands, stood, times-cons, times-append, times-none, more_among, less_among, more_own, more_left, more_right, more_after}
use Rattle.address_prefixes.proofs.tracker.LookLaws.{node_begins, IsAtNode}

-- ---- lists that aren't empty

pub among_some : (q : Prefix) (ps : List Prefix) → Among q ps → 0 < length ps
among_some q [] m = absurd m
among_some q (p ∷ ps) m = omega arith

pub some_append_left : (ps qs : List Prefix) → 0 < length ps → 0 < length (ps ++ qs)
some_append_left ps qs h = let e = length-append ps qs in omega (arith, e, h)

pub some_append_right : (ps qs : List Prefix) → 0 < length qs → 0 < length (ps ++ qs)
some_append_right ps qs h = let e = length-append ps qs in omega (arith, e, h)

-- no count is above how many prefixes there are
pub count_within : (w : ℕ) (n : Node) → n.count ≤ length (node_prefixes w n)
count_within w n =
    let a = length-append (own_prefixes w n.bits n.length n.count) (prefixes_in w n.like ++ prefixes_in w n.unlike) in
    let b = length-replicate n.count (prefix_at w n.bits n.length) in
    omega (arith, a, b)

pub like_within : (w : ℕ) (n : Node) → length (prefixes_in w n.like) ≤ length (node_prefixes w n)
like_within w n =
    let a = length-append (own_prefixes w n.bits n.length n.count) (prefixes_in w n.like ++ prefixes_in w n.unlike) in
    let b = length-append (prefixes_in w n.like) (prefixes_in w n.unlike) in
    omega (arith, a, b)

pub unlike_within : (w : ℕ) (n : Node) → length (prefixes_in w n.unlike) ≤ length (node_prefixes w n)
unlike_within w n =
    let a = length-append (own_prefixes w n.bits n.length n.count) (prefixes_in w n.like ++ prefixes_in w n.unlike) in
    let b = length-append (prefixes_in w n.like) (prefixes_in w n.unlike) in
    omega (arith, a, b)

-- ---- a prefix of a number, beside a node's number

module _ (w bits value n len : ℕ) (within : len ≤ w) where
  -- as long as they are alike it is a prefix of both
  pub same_prefix : len ≤ in_common w bits value → prefix_at w bits len ≡ prefix_at w value len
  same_prefix begins =
      let e : bit_and bits (leading_bits w len) ≡ bit_and value (leading_bits w len) = eqb-true _ _ (alike_from w bits value len begins) in
      ap (λ (v : ℕ). prefix_with v) e
    where
      prefix_with : ℕ → Prefix
      prefix_with v = record { value = v; length = len }

  pub goes_on_like : n < len → n < in_common w bits value → GoesOnLike w bits n (prefix_at w value len)
  goes_on_like long more = record { long = long; within = within; like = more_of_cut w bits value (suc n) len long within more }

  pub goes_on_unlike : n < len → in_common w bits value ≡ n → GoesOnUnlike w bits n (prefix_at w value len)
  goes_on_unlike long is = record { long = long; within = within; unlike = at (in_common w bits (prefix_at w value len).value) refl }
    where
      at : (c : ℕ) → in_common w bits (prefix_at w value len).value ≡ c → c ≡ n
      at c e =
          let up = more_of_cut w bits value n len (omega arith) within (omega (arith, is)) in
          by (cases_lt n c)
        where
          by : (n < c) ⊎ (c ≤ n) → c ≡ n
          by (inl lt) = let down = less_of_cut w bits value (suc n) len long within (omega (arith, e, lt)) in absurd (omega (arith, down, is))
          by (inr le) = let up = more_of_cut w bits value n len (omega arith) within (omega (arith, is)) in omega (arith, up, e, le)

  -- and the other way round
  pub went_on_like : n < len → n < in_common w bits (prefix_at w value len).value → n < in_common w bits value
  went_on_like long more = less_of_cut w bits value (suc n) len long within more

  pub went_on_unlike : n < len → in_common w bits (prefix_at w value len).value ≡ n → in_common w bits value ≡ n
  went_on_unlike long is = by (cases_lt n (in_common w bits value))
    where
      by : (n < in_common w bits value) ⊎ (in_common w bits value ≤ n) → in_common w bits value ≡ n
      by (inl lt) = let up = more_of_cut w bits value (suc n) len long within lt in absurd (omega (arith, up, is))
      by (inr le) = let down = less_of_cut w bits value n len (omega arith) within (omega (arith, is)) in omega (arith, down, le)

-- ---- a prefix more on a side

pub like_more : (w bits n : ℕ) (p : Prefix) (old new : List Prefix) → AllGoOnLike w bits n old → GoesOnLike w bits n p → HasOneMore p old new → AllGoOnLike w bits n new
like_more w bits n p old new go here more q m = at (is_same q p) refl
  where
    at : (t : Bool) → is_same q p ≡ t → GoesOnLike w bits n q
    at true e = subst (GoesOnLike w bits n) (sym (same_is q p e)) here
    at false e = go q (more_among p old new more q m e)

pub unlike_more : (w bits n : ℕ) (p : Prefix) (old new : List Prefix) → AllGoOnUnlike w bits n old → GoesOnUnlike w bits n p → HasOneMore p old new → AllGoOnUnlike w bits n new
unlike_more w bits n p old new go here more q m = at (is_same q p) refl
  where
    at : (t : Bool) → is_same q p ≡ t → GoesOnUnlike w bits n q
    at true e = subst (GoesOnUnlike w bits n) (sym (same_is q p e)) here
    at false e = go q (more_among p old new more q m e)

-- a list with one more isn't empty
pub more_some : (p : Prefix) (old new : List Prefix) → HasOneMore p old new → 0 < length new
more_some p old new more =
    let a = more p in
    let o = ap {B = ℕ} (λ (t : Bool). if t then 1 else 0) (is_same_self p) in
    among_some p new (stood p new (omega (arith, a, o)))

module _ (w : ℕ) (n : Node) (value len : ℕ) (is : IsNode w n) (within : len ≤ w) (long : n.length < len) where
  -- the side of the node's number takes it
  pub node_like : (new : Trie) → n.length < in_common w n.bits value → HasOneMore (prefix_at w value len) (prefixes_in w n.like) (prefixes_in w new)
      → IsNode w (record n { like = new }) × HasOneMore (prefix_at w value len) (node_prefixes w n) (node_prefixes w (record n { like = new }))
  node_like new more one = (
    record {
      split = record {
        within = is.split.within;
        fits = is.split.fits;
        some = is.split.some;
        like = like_more w n.bits n.length (prefix_at w value len) (prefixes_in w n.like) (prefixes_in w new) is.split.like (goes_on_like w n.bits value n.length len within long more) one;
        unlike = is.split.unlike;
      };
      inhabited = more_some (prefix_at w value len) (node_prefixes w n) (node_prefixes w (record n { like = new })) all;
    },
    all,
  )
    where
      all : HasOneMore (prefix_at w value len) (node_prefixes w n) (node_prefixes w (record n { like = new }))
      all = more_left (prefix_at w value len) (own_prefixes w n.bits n.length n.count) (prefixes_in w n.like) (prefixes_in w new) (prefixes_in w n.unlike) one

  pub node_unlike : (new : Trie) → in_common w n.bits value ≡ n.length → HasOneMore (prefix_at w value len) (prefixes_in w n.unlike) (prefixes_in w new)
      → IsNode w (record n { unlike = new }) × HasOneMore (prefix_at w value len) (node_prefixes w n) (node_prefixes w (record n { unlike = new }))
  node_unlike new same one = (
    record {
      split = record {
        within = is.split.within;
        fits = is.split.fits;
        some = is.split.some;
        like = is.split.like;
        unlike = unlike_more w n.bits n.length (prefix_at w value len) (prefixes_in w n.unlike) (prefixes_in w new) is.split.unlike (goes_on_unlike w n.bits value n.length len within long same) one;
      };
      inhabited = more_some (prefix_at w value len) (node_prefixes w n) (node_prefixes w (record n { unlike = new })) all;
    },
    all,
  )
    where
      all : HasOneMore (prefix_at w value len) (node_prefixes w n) (node_prefixes w (record n { unlike = new }))
      all = more_right (prefix_at w value len) (own_prefixes w n.bits n.length n.count) (prefixes_in w n.like) (prefixes_in w n.unlike) (prefixes_in w new) one

-- the node's own prefix stands there once more
pub node_own : (w : ℕ) (n : Node) (value : ℕ) → IsNode w n → 0 < n.length → n.length ≤ in_common w n.bits value
    → IsNode w (record n { count = n.count + 1 }) × HasOneMore (prefix_at w value n.length) (node_prefixes w n) (node_prefixes w (record n { count = n.count + 1 }))
node_own w n value is some begins = (
  record {
    split = record { within = is.split.within; fits = is.split.fits; some = λ _. some; like = is.split.like; unlike = is.split.unlike };
    inhabited = more_some (prefix_at w value n.length) (node_prefixes w n) (node_prefixes w (record n { count = n.count + 1 })) all;
  },
  all,
)
  where
    all : HasOneMore (prefix_at w value n.length) (node_prefixes w n) (node_prefixes w (record n { count = n.count + 1 }))
    all = subst (λ (p : Prefix). HasOneMore p (node_prefixes w n) (node_prefixes w (record n { count = n.count + 1 }))) (same_prefix w n.bits value 0 n.length is.split.within begins)
        (rw add-one (more_own (prefix_at w n.bits n.length) n.count (prefixes_in w n.like ++ prefixes_in w n.unlike)))

-- ---- new nodes

abbrev pub leaf_of : ℕ → ℕ → Node
leaf_of bits len = record { bits = bits; length = len; count = 1; like = Empty; unlike = Empty }

pub leaf_is : (w value len : ℕ) → value < 2 ^ w → len ≤ w → 0 < len → IsNode w (leaf_of value len)
leaf_is w value len fits within some = record {
  split = record { within = within; fits = fits; some = λ _. some; like = λ p m. absurd m; unlike = λ p m. absurd m };
  inhabited = omega arith;
}

pub leaf_one : (w value len : ℕ) → HasOneMore (prefix_at w value len) [] (node_prefixes w (leaf_of value len))
leaf_one w value len = more_after (prefix_at w value len) []

-- a node above a trie and a new prefix, which part before either ends
module _ (w : ℕ) (n : Node) (value len : ℕ) (is : IsNode w n) (within : len ≤ w) where
  pub above_both : (t u : Trie) → prefixes_in w t ≡ node_prefixes w n → prefixes_in w u ≡ prefix_at w value len ∷ [] → in_common w n.bits value < n.length → in_common w n.bits value < len
      → IsNode w (record { bits = n.bits; length = in_common w n.bits value; count = 0; like = t; unlike = u })
      × HasOneMore (prefix_at w value len) (node_prefixes w n) (node_prefixes w (record { bits = n.bits; length = in_common w n.bits value; count = 0; like = t; unlike = u }))
  above_both t u old new less short = (
    record {
      split = record {
        within = omega (arith, short, within);
        fits = is.split.fits;
        some = λ none. absurd (omega arith);
        like = λ p m.
            let b = node_begins w n is.split p (subst (Among p) old m) in
            let l = b.0 in
            let c = b.2 in
            record { long = omega (arith, l, less); within = b.1; like = omega (arith, c, less) };
        unlike = λ p m. only p (subst (Among p) new m);
      };
      inhabited = more_some (prefix_at w value len) (node_prefixes w n) _ all;
    },
    all,
  )
    where
      only : (p : Prefix) → Among p (prefix_at w value len ∷ []) → GoesOnUnlike w n.bits (in_common w n.bits value) p
      only p (inl e) = subst (GoesOnUnlike w n.bits (in_common w n.bits value)) (sym e) (goes_on_unlike w n.bits value (in_common w n.bits value) len within short refl)
      only p (inr m) = absurd m

      all : HasOneMore (prefix_at w value len) (node_prefixes w n) (prefixes_in w t ++ prefixes_in w u)
      all = rw (old, new) (more_after (prefix_at w value len) (node_prefixes w n))

  -- a node with a new prefix above a trie whose prefixes begin with it
  pub above_one : (t : Trie) → prefixes_in w t ≡ node_prefixes w n → 0 < len → len < n.length → len ≤ in_common w n.bits value
      → IsNode w (record { bits = n.bits; length = len; count = 1; like = t; unlike = Empty })
      × HasOneMore (prefix_at w value len) (node_prefixes w n) (node_prefixes w (record { bits = n.bits; length = len; count = 1; like = t; unlike = Empty }))
  above_one t old some less begins = (
    record {
      split = record {
        within = within;
        fits = is.split.fits;
        some = λ _. some;
        like = λ p m.
            let b = node_begins w n is.split p (subst (Among p) old m) in
            let l = b.0 in
            let c = b.2 in
            record { long = omega (arith, l, less); within = b.1; like = omega (arith, c, less) };
        unlike = λ p m. absurd m;
      };
      inhabited = omega arith;
    },
    all,
  )
    where
      all : HasOneMore (prefix_at w value len) (node_prefixes w n) (prefix_at w n.bits len ∷ (prefixes_in w t ++ []))
      all q =
          let a = times-cons q (prefix_at w n.bits len) (prefixes_in w t ++ []) in
          let b = times-append q (prefixes_in w t) [] in
          let c = times-none q in
          let d = ap (times q) old in
          let e = ap {B = ℕ} (λ (p : Prefix). if is_same q p then 1 else 0) (same_prefix w n.bits value 0 len within begins) in
          omega (arith, a, b, c, d, e)

-- ---- a prefix less

-- a prefix as long as the node's stands only there
module _ (w : ℕ) (n : Node) (value : ℕ) (is : IsNode w n) (there : 0 < times (prefix_at w value n.length) (node_prefixes w n)) where
  own_there : Among (prefix_at w value n.length) (own_prefixes w n.bits n.length n.count)
  own_there = at (Among-append (prefix_at w value n.length) (own_prefixes w n.bits n.length n.count) (prefixes_in w n.like ++ prefixes_in w n.unlike) (stood (prefix_at w value n.length) (node_prefixes w n) there))
    where
      below : Among (prefix_at w value n.length) (prefixes_in w n.like) ⊎ Among (prefix_at w value n.length) (prefixes_in w n.unlike) → ⊥
      below (inl h) = let l = (is.split.like (prefix_at w value n.length) h).long in omega (arith, l)
      below (inr h) = let l = (is.split.unlike (prefix_at w value n.length) h).long in omega (arith, l)

      at : Among (prefix_at w value n.length) (own_prefixes w n.bits n.length n.count) ⊎ Among (prefix_at w value n.length) (prefixes_in w n.like ++ prefixes_in w n.unlike)
          → Among (prefix_at w value n.length) (own_prefixes w n.bits n.length n.count)
      at (inl h) = h
      at (inr h) = absurd (below (Among-append (prefix_at w value n.length) (prefixes_in w n.like) (prefixes_in w n.unlike) h))

  pub own_count : 0 < n.count
  own_count = at n.count own_there
    where
      at : (k : ℕ) → Among (prefix_at w value n.length) (replicate k (prefix_at w n.bits n.length)) → 0 < k
      at zero m = absurd m
      at (suc k) m = omega arith

  pub own_less : IsSplit w (record n { count = n.count - 1 }) × HasOneMore (prefix_at w value n.length) (node_prefixes w (record n { count = n.count - 1 })) (node_prefixes w n)
  own_less = (
    record { within = is.split.within; fits = is.split.fits; some = λ more. is.split.some (omega (arith, more)); like = is.split.like; unlike = is.split.unlike },
    at n.count own_count,
  )
    where
      at : (k : ℕ) → 0 < k → HasOneMore (prefix_at w value n.length) (own_prefixes w n.bits n.length (k - 1) ++ (prefixes_in w n.like ++ prefixes_in w n.unlike)) (own_prefixes w n.bits n.length k ++ (prefixes_in w n.like ++ prefixes_in w n.unlike))
      at zero some = absurd (omega arith)
      at (suc k) some = rw sub-one (
          subst (λ (p : Prefix). HasOneMore p (own_prefixes w n.bits n.length k ++ (prefixes_in w n.like ++ prefixes_in w n.unlike)) (own_prefixes w n.bits n.length (suc k) ++ (prefixes_in w n.like ++ prefixes_in w n.unlike)))
          (sym (among-replicate n.count (prefix_at w n.bits n.length) (prefix_at w value n.length) own_there))
          (more_own (prefix_at w n.bits n.length) k (prefixes_in w n.like ++ prefixes_in w n.unlike)))

-- a prefix of another length stands on the side on which it goes on
module _ (w : ℕ) (n : Node) (value len : ℕ) (is : IsNode w n) (within : len ≤ w) (other : len ≡ n.length → ⊥) (there : 0 < times (prefix_at w value len) (node_prefixes w n)) where
  side_there : Among (prefix_at w value len) (prefixes_in w n.like) ⊎ Among (prefix_at w value len) (prefixes_in w n.unlike)
  side_there = at (Among-append (prefix_at w value len) (own_prefixes w n.bits n.length n.count) (prefixes_in w n.like ++ prefixes_in w n.unlike) (stood (prefix_at w value len) (node_prefixes w n) there))
    where
      at : Among (prefix_at w value len) (own_prefixes w n.bits n.length n.count) ⊎ Among (prefix_at w value len) (prefixes_in w n.like ++ prefixes_in w n.unlike)
          → Among (prefix_at w value len) (prefixes_in w n.like) ⊎ Among (prefix_at w value len) (prefixes_in w n.unlike)
      at (inl h) = absurd (other (ap (λ (p : Prefix). p.length) (among-replicate n.count (prefix_at w n.bits n.length) (prefix_at w value len) h)))
      at (inr h) = Among-append (prefix_at w value len) (prefixes_in w n.like) (prefixes_in w n.unlike) h

  pub there_unlike : in_common w n.bits value ≡ n.length → 0 < times (prefix_at w value len) (prefixes_in w n.unlike)
  there_unlike same = at side_there
    where
      at : Among (prefix_at w value len) (prefixes_in w n.like) ⊎ Among (prefix_at w value len) (prefixes_in w n.unlike) → 0 < times (prefix_at w value len) (prefixes_in w n.unlike)
      at (inl h) =
          let g = is.split.like (prefix_at w value len) h in
          let more = went_on_like w n.bits value n.length len within g.long g.like in
          absurd (omega (arith, more, same))
      at (inr h) = stands (prefix_at w value len) (prefixes_in w n.unlike) h

  pub there_like : (in_common w n.bits value ≡ n.length → ⊥) → 0 < times (prefix_at w value len) (prefixes_in w n.like)
  there_like differ = at side_there
    where
      at : Among (prefix_at w value len) (prefixes_in w n.like) ⊎ Among (prefix_at w value len) (prefixes_in w n.unlike) → 0 < times (prefix_at w value len) (prefixes_in w n.like)
      at (inl h) = stands (prefix_at w value len) (prefixes_in w n.like) h
      at (inr h) =
          let g = is.split.unlike (prefix_at w value len) h in
          absurd (differ (went_on_unlike w n.bits value n.length len within g.long g.unlike))

  pub less_like : (new : Trie) → HasOneMore (prefix_at w value len) (prefixes_in w new) (prefixes_in w n.like)
      → IsSplit w (record n { like = new }) × HasOneMore (prefix_at w value len) (node_prefixes w (record n { like = new })) (node_prefixes w n)
  less_like new one = (
    record {
      within = is.split.within;
      fits = is.split.fits;
      some = is.split.some;
      like = λ q m. is.split.like q (less_among (prefix_at w value len) (prefixes_in w n.like) (prefixes_in w new) one q m);
      unlike = is.split.unlike;
    },
    more_left (prefix_at w value len) (own_prefixes w n.bits n.length n.count) (prefixes_in w new) (prefixes_in w n.like) (prefixes_in w n.unlike) one,
  )

  pub less_unlike : (new : Trie) → HasOneMore (prefix_at w value len) (prefixes_in w new) (prefixes_in w n.unlike)
      → IsSplit w (record n { unlike = new }) × HasOneMore (prefix_at w value len) (node_prefixes w (record n { unlike = new })) (node_prefixes w n)
  less_unlike new one = (
    record {
      within = is.split.within;
      fits = is.split.fits;
      some = is.split.some;
      like = is.split.like;
      unlike = λ q m. is.split.unlike q (less_among (prefix_at w value len) (prefixes_in w n.unlike) (prefixes_in w new) one q m);
    },
    more_right (prefix_at w value len) (own_prefixes w n.bits n.length n.count) (prefixes_in w n.like) (prefixes_in w new) (prefixes_in w n.unlike) one,
  )

-- a trie with a node has prefixes
pub some_in : (w : ℕ) (t : Trie) (b : Box Node Global) → t ≡ Fork b → IsTrie w t → 0 < length (prefixes_in w t)
some_in w t b is sound = subst (λ (u : Trie). IsTrie w u → 0 < length (prefixes_in w u)) (sym is) (λ s. s.0.inhabited) sound

-- ---- what an insertion leaves

-- a node above a trie and a leaf
leaf_trie : (w value len : ℕ) (o : Box Node Global) → o.value ≡ leaf_of value len → value < 2 ^ w → len ≤ w → 0 < len → IsTrie w (Fork o) × (prefixes_in w (Fork o) ≡ prefix_at w value len ∷ [])
leaf_trie w value len o is fits within some =
    subst (λ (m : Node). (IsNode w m × IsTrie w m.like × IsTrie w m.unlike) × (node_prefixes w m ≡ prefix_at w value len ∷ [])) (sym is) ((leaf_is w value len fits within some, tt, tt), refl)

pub leaf_more : (w value len : ℕ) (t : Trie) (o : Box Node Global) → t ≡ Empty → o.value ≡ leaf_of value len → value < 2 ^ w → len ≤ w → 0 < len
    → IsTrie w (Fork o) × HasOneMore (prefix_at w value len) (prefixes_in w t) (prefixes_in w (Fork o))
leaf_more w value len t o empty is fits within some =
    let leaf = leaf_trie w value len o is fits within some in (
      leaf.0,
      subst (λ (u : Trie). HasOneMore (prefix_at w value len) (prefixes_in w u) (prefixes_in w (Fork o))) (sym empty)
          (subst (HasOneMore (prefix_at w value len) []) (sym leaf.1) (more_after (prefix_at w value len) [])),
    )

-- what putting a node above a trie promises
abbrev pub PutsAbove : ℕ → Node → Trie → Trie → Type 0
PutsAbove w a t new = (m : Node) → m ≡ record a { like = t } → IsNode w m → IsTrie w t → IsTrie w a.unlike → IsTrie w new × (prefixes_in w new ≡ node_prefixes w m)

put_more : (w : ℕ) (t new : Trie) (n m a : Node) (p : Prefix) → IsAtNode w t n → IsTrie w t → m ≡ record a { like = t } → IsNode w m → HasOneMore p (node_prefixes w n) (node_prefixes w m) → IsTrie w a.unlike → PutsAbove w a t new
    → IsTrie w new × HasOneMore p (prefixes_in w t) (prefixes_in w new)
put_more w t new n m a p at sound made is more other put =
    let r = put m made is sound other in (
      r.0,
      subst (λ (ps : List Prefix). HasOneMore p ps (prefixes_in w new)) (sym at.prefixes) (subst (HasOneMore p (node_prefixes w n)) (sym r.1) more),
    )

pub put_both : (w : ℕ) (t new : Trie) (n a : Node) (o : Box Node Global) (bits value len common : ℕ) → IsAtNode w t n → IsTrie w t → bits ≡ n.bits → common ≡ in_common w n.bits value
    → common < n.length → common < len → len ≤ w → 0 < len → value < 2 ^ w → o.value ≡ leaf_of value len
    → a ≡ record { bits = bits; length = common; count = 0; like = Empty; unlike = Fork o } → PutsAbove w a t new
    → IsTrie w new × HasOneMore (prefix_at w value len) (prefixes_in w t) (prefixes_in w new)
put_both w t new n a o bits value len common at sound same is less short within some fits leaf made put =
    let one = leaf_trie w value len o leaf fits within some in
    let above = above_both w n value len at.node within t (Fork o) at.prefixes one.1 (omega (arith, is, less)) (omega (arith, is, short)) in
    put_more w t new n (node_of n.bits (in_common w n.bits value)) a (prefix_at w value len) at sound (ap₂ node_of (sym same) (sym is) ∙ ap (λ (z : Node). record z { like = t }) (sym made)) above.0 above.1
    (subst (λ (z : Node). IsTrie w z.unlike) (sym made) one.0) put
  where
    node_of : ℕ → ℕ → Node
    node_of b c = record { bits = b; length = c; count = 0; like = t; unlike = Fork o }

pub put_one : (w : ℕ) (t new : Trie) (n a : Node) (bits value len common : ℕ) → IsAtNode w t n → IsTrie w t → bits ≡ n.bits → common ≡ in_common w n.bits value
    → len < n.length → len ≤ common → len ≤ w → 0 < len
    → a ≡ record { bits = bits; length = len; count = 1; like = Empty; unlike = Empty } → PutsAbove w a t new
    → IsTrie w new × HasOneMore (prefix_at w value len) (prefixes_in w t) (prefixes_in w new)
put_one w t new n a bits value len common at sound same is less begins within some made put =
    let above = above_one w n value len at.node within t at.prefixes some less (omega (arith, is, begins)) in
    put_more w t new n (node_of n.bits) a (prefix_at w value len) at sound (ap node_of (sym same) ∙ ap (λ (z : Node). record z { like = t }) (sym made)) above.0 above.1
    (subst (λ (z : Node). IsTrie w z.unlike) (sym made) tt) put
  where
    node_of : ℕ → Node
    node_of b = record { bits = b; length = len; count = 1; like = t; unlike = Empty }

pub own_more : (w : ℕ) (t : Trie) (n : Node) (value len common : ℕ) → IsAtNode w t n → common ≡ in_common w n.bits value → len ≡ n.length → 0 < len → len ≤ common
    → (IsNode w (record n { count = n.count + 1 }) × IsTrie w n.like × IsTrie w n.unlike) × HasOneMore (prefix_at w value len) (prefixes_in w t) (node_prefixes w (record n { count = n.count + 1 }))
own_more w t n value len common at is long some begins =
    let more = node_own w n value at.node (omega (arith, long, some)) (omega (arith, is, long, begins)) in (
      (more.0, at.like, at.unlike),
      subst (λ (k : ℕ). HasOneMore (prefix_at w value k) (prefixes_in w t) (node_prefixes w (record n { count = n.count + 1 }))) (sym long)
          (subst (λ (ps : List Prefix). HasOneMore (prefix_at w value n.length) ps (node_prefixes w (record n { count = n.count + 1 }))) (sym at.prefixes) more.1),
    )

-- ---- a side after an insertion that succeeded or not

pub either : {X E A B : Type 0} (r : Result X E) → OnOk r A → OnErr r B → A ⊎ B
either (Ok x) a b = inl a
either (Err e) a b = inr b

module _ (w : ℕ) (t : Trie) (n : Node) (new : Trie) (value len : ℕ) (at : IsAtNode w t n) (within : len ≤ w) (long : n.length < len) (sound : IsTrie w new) where
  abbrev More : Trie → Trie → Type 0
  More old next = HasOneMore (prefix_at w value len) (prefixes_in w old) (prefixes_in w next)

  pub like_sound : n.length < in_common w n.bits value → More n.like new ⊎ (prefixes_in w new ≡ prefixes_in w n.like) → IsNode w (record n { like = new }) × IsTrie w new × IsTrie w n.unlike
  like_sound go (inl more) = ((node_like w n value len at.node within long new go more).0, sound, at.unlike)
  like_sound go (inr same) = (
    record {
      split = record {
        within = at.node.split.within;
        fits = at.node.split.fits;
        some = at.node.split.some;
        like = subst (AllGoOnLike w n.bits n.length) (sym same) at.node.split.like;
        unlike = at.node.split.unlike;
      };
      inhabited = subst (λ (ps : List Prefix). 0 < length (own_prefixes w n.bits n.length n.count ++ (ps ++ prefixes_in w n.unlike))) (sym same) at.node.inhabited;
    },
    sound,
    at.unlike,
  )

  pub like_one_more : n.length < in_common w n.bits value → More n.like new → HasOneMore (prefix_at w value len) (prefixes_in w t) (node_prefixes w (record n { like = new }))
  like_one_more go more = subst (λ (ps : List Prefix). HasOneMore (prefix_at w value len) ps (node_prefixes w (record n { like = new }))) (sym at.prefixes) (node_like w n value len at.node within long new go more).1

  pub unlike_sound : in_common w n.bits value ≡ n.length → More n.unlike new ⊎ (prefixes_in w new ≡ prefixes_in w n.unlike) → IsNode w (record n { unlike = new }) × IsTrie w n.like × IsTrie w new
  unlike_sound go (inl more) = ((node_unlike w n value len at.node within long new go more).0, at.like, sound)
  unlike_sound go (inr same) = (
    record {
      split = record {
        within = at.node.split.within;
        fits = at.node.split.fits;
        some = at.node.split.some;
        like = at.node.split.like;
        unlike = subst (AllGoOnUnlike w n.bits n.length) (sym same) at.node.split.unlike;
      };
      inhabited = subst (λ (ps : List Prefix). 0 < length (own_prefixes w n.bits n.length n.count ++ (prefixes_in w n.like ++ ps))) (sym same) at.node.inhabited;
    },
    at.like,
    sound,
  )

  pub unlike_one_more : in_common w n.bits value ≡ n.length → More n.unlike new → HasOneMore (prefix_at w value len) (prefixes_in w t) (node_prefixes w (record n { unlike = new }))
  unlike_one_more go more = subst (λ (ps : List Prefix). HasOneMore (prefix_at w value len) ps (node_prefixes w (record n { unlike = new }))) (sym at.prefixes) (node_unlike w n value len at.node within long new go more).1

pub from_equal : (w : ℕ) (s t new : Trie) (p : Prefix) → s ≡ t → IsTrie w new × HasOneMore p (prefixes_in w t) (prefixes_in w new) → IsTrie w new × HasOneMore p (prefixes_in w s) (prefixes_in w new)
from_equal w s t new p is h = subst (λ (u : Trie). IsTrie w new × HasOneMore p (prefixes_in w u) (prefixes_in w new)) (sym is) h

-- ---- what a removal leaves

-- a trie with a node that may have no prefixes, and with one prefix less than another trie
abbrev pub HasLess : ℕ → Prefix → Trie → Trie → Type 0
HasLess w p old new = IsNearlyTrie w new × HasOneMore p (prefixes_in w new) (prefixes_in w old)

module _ (w : ℕ) (t : Trie) (n : Node) (value len : ℕ) (at : IsAtNode w t n) (there : 0 < times (prefix_at w value len) (prefixes_in w t)) where
  in_node : 0 < times (prefix_at w value len) (node_prefixes w n)
  in_node = subst (λ (ps : List Prefix). 0 < times (prefix_at w value len) ps) at.prefixes there

  len_within : len ≤ w
  len_within = (node_begins w n at.node.split (prefix_at w value len) (stood (prefix_at w value len) (node_prefixes w n) in_node)).1

  less_than : (m : Node) → HasOneMore (prefix_at w value len) (node_prefixes w m) (node_prefixes w n) → HasOneMore (prefix_at w value len) (node_prefixes w m) (prefixes_in w t)
  less_than m more = subst (HasOneMore (prefix_at w value len) (node_prefixes w m)) (sym at.prefixes) more

  pub count_some : len ≡ n.length → 0 < n.count
  count_some long = own_count w n value at.node (subst (λ (k : ℕ). 0 < times (prefix_at w value k) (node_prefixes w n)) long in_node)

  pub own_removed : len ≡ n.length
      → (IsSplit w (record n { count = n.count - 1 }) × IsTrie w n.like × IsTrie w n.unlike) × HasOneMore (prefix_at w value len) (node_prefixes w (record n { count = n.count - 1 })) (prefixes_in w t)
  own_removed long =
      let less = own_less w n value at.node (subst (λ (k : ℕ). 0 < times (prefix_at w value k) (node_prefixes w n)) long in_node) in
      ((less.0, at.like, at.unlike), less_than (record n { count = n.count - 1 }) (subst (λ (k : ℕ). HasOneMore (prefix_at w value k) (node_prefixes w (record n { count = n.count - 1 })) (node_prefixes w n)) (sym long) less.1))

  pub in_unlike : (len ≡ n.length → ⊥) → in_common w n.bits value ≡ n.length → 0 < times (prefix_at w value len) (prefixes_in w n.unlike)
  in_unlike other = there_unlike w n value len at.node len_within other in_node

  pub in_like : (len ≡ n.length → ⊥) → (in_common w n.bits value ≡ n.length → ⊥) → 0 < times (prefix_at w value len) (prefixes_in w n.like)
  in_like other = there_like w n value len at.node len_within other in_node

  pub like_removed : (new : Trie) → (len ≡ n.length → ⊥) → IsTrie w new → HasOneMore (prefix_at w value len) (prefixes_in w new) (prefixes_in w n.like)
      → (IsSplit w (record n { like = new }) × IsTrie w new × IsTrie w n.unlike) × HasOneMore (prefix_at w value len) (node_prefixes w (record n { like = new })) (prefixes_in w t)
  like_removed new other sound one =
      let less = less_like w n value len at.node len_within other in_node new one in
      ((less.0, sound, at.unlike), less_than (record n { like = new }) less.1)

  pub unlike_removed : (new : Trie) → (len ≡ n.length → ⊥) → IsTrie w new → HasOneMore (prefix_at w value len) (prefixes_in w new) (prefixes_in w n.unlike)
      → (IsSplit w (record n { unlike = new }) × IsTrie w n.like × IsTrie w new) × HasOneMore (prefix_at w value len) (node_prefixes w (record n { unlike = new })) (prefixes_in w t)
  unlike_removed new other sound one =
      let less = less_unlike w n value len at.node len_within other in_node new one in
      ((less.0, at.like, sound), less_than (record n { unlike = new }) less.1)

-- none stands in an empty trie
pub none_there : (w : ℕ) (t : Trie) (p : Prefix) → t ≡ Empty → 0 < times p (prefixes_in w t) → ⊥
none_there w t p is some = let n = times-none p in let e = ap (λ (u : Trie). times p (prefixes_in w u)) is in omega (arith, n, e, some)

-- where the needless node is dropped, the same prefixes are there
pub less_same : (w : ℕ) (p : Prefix) (old near new : Trie) → HasLess w p old near → (IsNearlyTrie w near → IsTrie w new × (prefixes_in w new ≡ prefixes_in w near))
    → IsTrie w new × HasOneMore p (prefixes_in w new) (prefixes_in w old)
less_same w p old near new less drops =
    let d = drops less.0 in (d.0, subst (λ (ps : List Prefix). HasOneMore p ps (prefixes_in w old)) (sym d.1) less.1)
