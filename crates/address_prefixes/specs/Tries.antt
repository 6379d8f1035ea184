-- The prefixes of a trie, and how they stand in it.
use Rattle.std.specs.Prelude.{◌≡◌, ℕ, ◌<◌, ◌≤◌, ◌^◌, List, [], ◌++◌, length, replicate}
use Rattle.spec_xlate.specs.Lookup.{Prefix}
use Rattle.table_laws.specs.Members.{Among}
use Rattle.address_prefixes.specs.declared.tracker.trie.Trie.{Trie}
use Rattle.address_prefixes.specs.declared.tracker.trie.Trie.TheVariants.{Empty, Fork'}
use Rattle.address_prefixes.specs.declared.tracker.trie.Node.{Node}
use Rattle.address_prefixes.specs.Prefixes.{prefix_at, in_common}

-- the prefix of a node, as often as it stands there
abbrev pub own_prefixes : ℕ → ℕ → ℕ → ℕ → List Prefix
own_prefixes width bits length count = replicate count (prefix_at width bits length)

-- the prefixes of a trie
abbrev pub prefixes_in : ℕ → Trie → List Prefix
prefixes_in width Empty = []
prefixes_in width (Fork' p like unlike bits length count) = own_prefixes width bits length count ++ (prefixes_in width like ++ prefixes_in width unlike)

-- and those of a node
abbrev pub node_prefixes : ℕ → Node → List Prefix
node_prefixes width n = own_prefixes width n.bits n.length n.count ++ (prefixes_in width n.like ++ prefixes_in width n.unlike)

-- a prefix is longer than n bits and has more of them in common with a number
pub record GoesOnLike (width bits n : ℕ) (p : Prefix) : Type 0 where
  pub long : n < p.length
  pub within : p.length ≤ width
  pub like : n < in_common width bits p.value

-- a prefix is longer than n bits and has just these in common with a number
pub record GoesOnUnlike (width bits n : ℕ) (p : Prefix) : Type 0 where
  pub long : n < p.length
  pub within : p.length ≤ width
  pub unlike : in_common width bits p.value ≡ n

abbrev pub AllGoOnLike : ℕ → ℕ → ℕ → List Prefix → Type 0
AllGoOnLike width bits n ps = (p : Prefix) → Among p ps → GoesOnLike width bits n p

abbrev pub AllGoOnUnlike : ℕ → ℕ → ℕ → List Prefix → Type 0
AllGoOnUnlike width bits n ps = (p : Prefix) → Among p ps → GoesOnUnlike width bits n p

-- what holds of a node in a trie of a width, but that it has prefixes
pub record IsSplit (width : ℕ) (n : Node) : Type 0 where
  pub within : n.length ≤ width
  pub fits : n.bits < 2 ^ width
  pub some : 0 < n.count → 0 < n.length
  pub like : AllGoOnLike width n.bits n.length (prefixes_in width n.like)
  pub unlike : AllGoOnUnlike width n.bits n.length (prefixes_in width n.unlike)

pub record IsNode (width : ℕ) (n : Node) : Type 0 where
  pub split : IsSplit width n
  pub inhabited : 0 < length (node_prefixes width n)

-- each node of a trie has prefixes, and those below it stand where its number says
abbrev pub IsTrie : ℕ → Trie → Type 0
IsTrie width Empty = Unit {0}
IsTrie width (Fork' p like unlike bits length count) = IsNode width (record { bits = bits; length = length; count = count; like = like; unlike = unlike }) × IsTrie width like × IsTrie width unlike

-- but that the first node may have none
abbrev pub IsNearlyTrie : ℕ → Trie → Type 0
IsNearlyTrie width Empty = Unit {0}
IsNearlyTrie width (Fork' p like unlike bits length count) = IsSplit width (record { bits = bits; length = length; count = count; like = like; unlike = unlike }) × IsTrie width like × IsTrie width unlike

-- it is a trie that has just these prefixes
abbrev pub HasJust : ℕ → Trie → List Prefix → Type 0
HasJust width t ps = IsTrie width t × (prefixes_in width t ≡ ps)

-- a node with a trie on the side of its number
abbrev pub with_like : Trie → Node → Node
with_like t n = record n { like = t }
