-- What every packet of IPv4 has: a total length above 0.
use Rattle.std.proofs.Common.{◌≡◌, ℕ, ◌≤◌, List, arith}
use Rattle.spec_frames.specs.declared.headers.Network.{Network}
use Rattle.spec_frames.specs.declared.layout.L3.TheVariants as network
use Rattle.spec_frames.specs.Ethernet.{carried}
use Rattle.spec_frames.specs.Ipv4.{total_size}
use Rattle.spec_frames.specs.Layout.{layout_of, place_of_network}
use Rattle.frame_laws.proofs.keys.Forms.{by_length, by_network}
use Rattle.frame_laws.proofs.HeaderLaws.{is_ipv4-HasSizes}

-- where the header is one of IPv4, its total length is above 0
abbrev IsLong : List ℕ → Network → Type 0
IsLong frame n = (at : ℕ) → place_of_network n ≡ network.Ipv4 at → 1 ≤ total_size frame at

network-IsLong : (frame : List ℕ) → IsLong frame (Rattle.spec_frames.specs.Network.network frame)
network-IsLong frame =
    by_network frame (carried frame).dl_type (carried frame).at (IsLong frame) (λ at is. absurd cc) (λ e h at is. absurd cc)
    (λ e h at is.
    let sizes = is_ipv4-HasSizes frame (carried frame).at h in
    let here : at ≡ (carried frame).at = cc in
    rw here (omega (arith, sizes.least, sizes.total)))
    (λ e d h at is. absurd cc)

pub some_octets : (frame : List ℕ) (at : ℕ) → (layout_of frame).l3 ≡ network.Ipv4 at → 1 ≤ total_size frame at
some_octets frame at =
    by_length 0 frame (λ key layout. layout.l3 ≡ network.Ipv4 at → 1 ≤ total_size frame at) (λ l is. absurd cc) (λ l is. network-IsLong frame at is)
