-- Worked rows: the chain of extension headers of IPv6, by what each number of `upper_layer` is.
use Rattle.std.specs.Prelude.{◌≡◌, ℕ, true, false, List, [], ◌∷◌, ◌++◌, map, Option, Some, None, refl}
use Rattle.spec_base.specs.Bytes.{big_endian_at}
use Rattle.spec_frames.specs.declared.headers.UpperLayer.{UpperLayer}
use Rattle.spec_frames.specs.declared.headers.Fragment.TheVariants.{Whole, First, Later}
use Rattle.spec_frames.specs.Ipv6.{upper_layer}
use Rattle.spec_frames.proofs.Frames.{bytes}

-- how many extension headers may be passed; where the packet ends; the number of the first header, and where it stands
record Chain : Type 0 where
  most : ℕ
  end : ℕ
  first : ℕ
  at : ℕ

abbrev after_chain : List ℕ → Chain → Option UpperLayer
after_chain frame c = upper_layer c.most frame c.end c.first c.at

-- Two bytes before the chain, an extension header of 8 bytes at 2, whose first bytes these are, options of 8 bytes for
-- the destination at 10, and 8 bytes of UDP at 18. The header at 2 says that options follow, and these that UDP does.
abbrev with_first : ℕ → List ℕ
with_first header = bytes 2 0 ++ bytes 6 header ++ bytes 2 0 ++ bytes 8 0x1100_0000_0000_0000 ++ bytes 8 0x03e8_0035_0008_0000

abbrev options_twice : List ℕ
options_twice = with_first 0x3c00_0000_0000

-- from hop-by-hop options on
abbrev from_options : Chain
from_options = record { most = 8; end = 26; first = 0; at = 2 }

abbrev reaches : ℕ → ℕ → Option UpperLayer
reaches protocol at = Some (record { protocol = protocol; at = at; fragment = Whole; routed = false })

chains_and_what_they_reach :
    map (after_chain options_twice) (from_options ∷
    record from_options { most = 2 } ∷
    record from_options { most = 1 } ∷
    record from_options { end = 18 } ∷
    record from_options { end = 17 } ∷
    record from_options { first = 60; at = 10 } ∷
    record from_options { first = 17 } ∷
    record from_options { first = 17; most = 0 } ∷
    record from_options { first = 0; most = 0 } ∷ [])
    ≡ reaches 17 18 ∷ reaches 17 18 ∷ None ∷ reaches 17 18 ∷ None ∷ reaches 17 18 ∷ reaches 17 2 ∷ reaches 17 2 ∷ None ∷ []
unfolding big_endian_at upper_layer
chains_and_what_they_reach = refl

a_routing_header_is_remembered :
    after_chain options_twice (record from_options { first = 43 })
    ≡ Some (record { protocol = 17; at = 18; fragment = Whole; routed = true })
unfolding big_endian_at upper_layer
a_routing_header_is_remembered = refl

abbrev from_fragment : Chain
from_fragment = record { most = 8; end = 26; first = 44; at = 2 }

-- behind the header of a later fragment nothing is read: what is reached is the fragment itself
fragments_and_what_they_reach :
    map (λ header. after_chain (with_first header) from_fragment) (0x3c00_0000_0000 ∷ 0x3c00_0001_0000 ∷ 0x3c00_0008_0000 ∷ [])
    ≡ reaches 17 18 ∷ Some (record { protocol = 17; at = 18; fragment = First; routed = false })
    ∷ Some (record { protocol = 44; at = 10; fragment = Later; routed = false }) ∷ []
unfolding big_endian_at upper_layer
fragments_and_what_they_reach = refl
