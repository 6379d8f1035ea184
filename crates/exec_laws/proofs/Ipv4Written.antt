-- A frame in which a field of its IPv4 header is written, the header's checksum too, and then checksums after it: the form
-- that a write to a field of IPv4 has, and the key that it gives.
use Rattle.std.proofs.Common.{◌≡◌, ◌≢◌, ℕ, ◌+◌, ◌<◌, ◌≤◌, List, length, slice_index, ◌⊎◌, inl, inr, ap, ap₂, ◌∙◌, subst, arith}
use Rattle.spec_base.specs.Bytes.{big_endian_at}
use Rattle.spec_keys.specs.Protocols.{ipv4_type}
use Rattle.spec_frames.specs.declared.headers.Carried.{Carried}
use Rattle.spec_frames.specs.declared.headers.Datagram.{Datagram}
use Rattle.spec_frames.specs.declared.headers.UpperLayer.{UpperLayer}
use Rattle.spec_frames.specs.declared.headers.Network.TheVariants as network
use Rattle.spec_frames.specs.declared.layout.Layout.{Layout}
use Rattle.spec_frames.specs.declared.layout.L3.TheVariants as l3
use Rattle.spec_frames.specs.declared.layout.L4.{L4}
use Rattle.spec_frames.specs.declared.layout.L4.TheVariants as l4
use Rattle.spec_frames.specs.Ipv4 as ipv4
use Rattle.spec_frames.specs.Transport.{transport}
use Rattle.spec_frames.specs.Layout.{layout_of}
use Rattle.spec_frames.specs.Key.{ip_frag, key_of}
use Rattle.spec_exec.specs.Writing.{with_number}
use Rattle.spec_exec.specs.Places.{Place, Sum}
use Rattle.spec_exec.specs.Rewriting.{corrected}
use Rattle.frame_laws.proofs.keys.Forms.{whole-layout}
use Rattle.frame_laws.proofs.HeaderLaws.{carried-least}
use Rattle.spec_frames.specs.Ethernet.{header_size}
use Rattle.exec_laws.proofs.Replacing.{number-same, with_number-length, with_number-before, with_number-after}
use Rattle.exec_laws.proofs.Within.{SumsFit, fit-moved, corrected-length}
use Rattle.exec_laws.proofs.Addresses.{shown_tags}
use Rattle.exec_laws.proofs.Ipv4Key.{ipv4_key, HasIpv4, layout-has, network-of, header_of, has-key, kept-has, kept-upper, kept-end, kept-tags, tos-is, ttl-is, same-key}
use Rattle.exec_laws.proofs.LayoutKept.{ipv4-layout}
use Rattle.exec_laws.proofs.AfterHeaders.{After4, SaysIpv4, says-ipv4, SumsAfter, corrected-before, Clear, shown-clear, shown-after, source_in, destination_in, source-same, destination-same}

module _ (frame : List ℕ) (at : ℕ) (l3-is : (layout_of frame).l3 ≡ l3.Ipv4 at) (p : Place) (v header_sum : ℕ)
    (after_first : at + 1 ≤ p.at) (ends : p.at + p.size ≤ at + 20)
    (others : List Sum) (fit : SumsFit frame others) (after : SumsAfter (at + ipv4.header_size frame at) others) where
  pub says : SaysIpv4 frame at (layout_of frame).l4
  says = says-ipv4 frame at l3-is

  pub room : at + 20 ≤ length frame
  room = says.0.whole

  abbrev pub now : List ℕ
  now = with_number p.size frame p.at v

  abbrev pub with_sum : List ℕ
  with_sum = with_number 2 now (at + 10) header_sum

  abbrev pub result : List ℕ
  result = corrected others p frame with_sum

  pub fits : p.at + p.size ≤ length frame
  fits = omega (arith, room, ends)

  pub now-length : length now ≡ length frame
  now-length = with_number-length p.size frame p.at v fits

  pub sum-room : at + 10 + 2 ≤ length now
  sum-room = omega (arith, room, now-length)

  pub with_sum-length : length with_sum ≡ length frame
  with_sum-length = with_number-length 2 now (at + 10) header_sum sum-room ∙ now-length

  pub others-fit : SumsFit with_sum others
  others-fit = fit-moved frame with_sum with_sum-length others fit

  pub header-kept : (k : ℕ) → k < at + ipv4.header_size frame at → slice_index result k ≡ slice_index with_sum k
  header-kept k l = corrected-before others p frame with_sum (at + ipv4.header_size frame at) others-fit after k l

  pub first-now : slice_index with_sum at ≡ slice_index frame at
  first-now = with_number-before 2 now (at + 10) header_sum sum-room at (omega arith) ∙ with_number-before p.size frame p.at v fits at (omega (arith, after_first))

  pub first-kept : slice_index result at ≡ slice_index frame at
  first-kept = header-kept at (omega (arith, says.0.least)) ∙ first-now

  -- ---- the key

  pub result-length : length result ≡ length frame
  result-length = corrected-length others p frame with_sum others-fit ∙ with_sum-length

  pub result-now : (k : ℕ) → k < at + 20 → (k < at + 10) ⊎ (at + 12 ≤ k) → slice_index result k ≡ slice_index now k
  result-now k l apart =
      header-kept k (omega (arith, says.0.least))
      ∙ elim apart [
        | inl m ↦ with_number-before 2 now (at + 10) header_sum sum-room k m
        | inr m ↦ with_number-after 2 now (at + 10) header_sum sum-room k (omega arith)
      ]

  -- bytes after the header, before the checksums there
  result-after : (end : ℕ) → SumsAfter end others → (k : ℕ) → at + 20 ≤ k → k < end → slice_index result k ≡ slice_index frame k
  result-after end clear k l m =
      corrected-before others p frame with_sum end others-fit clear k m
      ∙ with_number-after 2 now (at + 10) header_sum sum-room k (omega arith) ∙ with_number-after p.size frame p.at v fits k (omega (arith, ends))

  -- what is written is none of what says how the packet is read
  module _ (kept : (k : ℕ) → k < at + 10 → k ≢ at + 1 → k ≢ at + 8 → slice_index now k ≡ slice_index frame k) (clear : Clear others (layout_of frame).l4) where
    has : HasIpv4 frame at
    has = layout-has frame at l3-is

    far : header_size ≤ at
    far = omega (arith, carried-least frame, ap (λ (c : Carried). c.at) has.carries)

    low : (k : ℕ) → k < at + 1 → slice_index result k ≡ slice_index frame k
    low k l = result-now k (omega arith) (inl (omega arith)) ∙ kept k (omega arith) (omega arith) (omega arith)

    critical : (k : ℕ) → at + 2 ≤ k → k < at + 8 → slice_index result k ≡ slice_index frame k
    critical k l m = result-now k (omega arith) (inl (omega arith)) ∙ kept k (omega arith) (omega arith) (omega arith)

    protocol : slice_index result (at + 9) ≡ slice_index frame (at + 9)
    protocol = result-now (at + 9) (omega arith) (inl (omega arith)) ∙ kept (at + 9) (omega arith) (omega arith) (omega arith)

    datagram : Datagram
    datagram = ipv4.ipv4 frame at

    header-is : header_of (ipv4.ipv4 result at) at ≡ header_of (ipv4.ipv4 frame at) at
    unfolding transport
    header-is =
        ap₂ (λ (u : UpperLayer) (e : ℕ). header_of (record { tos = 0; ttl = 0; end = e; upper = u }) at) (kept-upper frame result at has result-length low critical protocol)
        (kept-end frame result at has result-length low critical protocol)

    nearer : (h : L4) → After4 (at + ipv4.header_size frame at) h → After4 (at + 20) h
    nearer l4.None l = tt
    nearer (l4.Tcp x) l = omega (arith, says.0.least)
    nearer (l4.Udp x) l = omega (arith, says.0.least)
    nearer (l4.Icmp x) l = omega (arith, says.0.least)
    nearer (l4.Icmp6 x) l = omega (arith, says.0.least)

    l4-is : (layout_of frame).l4 ≡ transport (network.Ipv4 at (ipv4.ipv4 frame at))
    l4-is = ap (λ (l : Layout). l.l4) (whole-layout frame has.whole) ∙ ap transport (network-of frame at has)

    header-clear : Clear others (header_of (ipv4.ipv4 frame at) at)
    header-clear = shown-clear others _ _ (subst (Clear others) l4-is clear)

    header-after : After4 (at + 20) (header_of (ipv4.ipv4 frame at) at)
    header-after = shown-after (at + 20) _ _ (subst (After4 (at + 20)) l4-is (nearer (layout_of frame).l4 says.1))

    pub result-key : (port : ℕ) → key_of port result
        ≡ ipv4_key port (big_endian_at 6 frame 6) (big_endian_at 6 frame 0) ipv4_type (shown_tags frame) (big_endian_at 4 now (at + 12)) (big_endian_at 4 now (at + 16))
        (ipv4.ipv4 frame at).upper.protocol (slice_index now (at + 1)) (slice_index now (at + 8)) (ip_frag (ipv4.ipv4 frame at).upper.fragment)
        (source_in frame (header_of (ipv4.ipv4 frame at) at)) (destination_in frame (header_of (ipv4.ipv4 frame at) at))
    result-key port =
        let upper = kept-upper frame result at has result-length low critical protocol in
        has-key port result at (kept-has frame result at has result-length low critical protocol)
        ∙ same-key port ipv4_type
        (number-same frame result 6 6 (λ k l m. low k (omega (arith, far, m)))) (number-same frame result 6 0 (λ k l m. low k (omega (arith, far, m))))
        (kept-tags frame result at has result-length low critical protocol)
        (number-same now result 4 (at + 12) (λ k l m. result-now k (omega arith) (inr (omega arith))))
        (number-same now result 4 (at + 16) (λ k l m. result-now k (omega arith) (inr (omega arith))))
        (ap (λ (u : UpperLayer). u.protocol) upper) (tos-is result at ∙ result-now (at + 1) (omega arith) (inl (omega arith)))
        (ttl-is result at ∙ result-now (at + 8) (omega arith) (inl (omega arith))) (ap (λ (u : UpperLayer). ip_frag u.fragment) upper)
        (ap (source_in result) header-is ∙ source-same frame result (at + 20) others result-after (header_of (ipv4.ipv4 frame at) at) header-after header-clear)
        (ap (destination_in result) header-is ∙ destination-same frame result (at + 20) others result-after (header_of (ipv4.ipv4 frame at) at) header-after header-clear)

    pub result-layout : layout_of result ≡ layout_of frame
    result-layout = ipv4-layout frame result at has result-length low critical protocol far
