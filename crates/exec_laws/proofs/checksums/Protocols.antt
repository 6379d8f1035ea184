-- The checksums of TCP, UDP and ICMPv6 stay right over a pseudo header.
use Rattle.std.proofs.Common.{◌≡◌, ◌≢◌, ℕ, ◌+◌, ◌-◌, ◌<◌, ◌≤◌, List, inl, inr, refl, sym, ap, subst, arith}
use Rattle.spec_base.specs.Bytes.{big_endian_at}
use Rattle.spec_keys.specs.Protocols.{tcp_protocol, udp_protocol, icmp6_protocol}
use Rattle.spec_keys.specs.declared.field_id.FieldId.{FieldId}
use Rattle.spec_exec.specs.Checksum.{words}
use Rattle.spec_frames.specs.declared.layout.L3.{L3}
use Rattle.spec_frames.specs.declared.layout.L3.TheVariants as l3
use Rattle.spec_frames.specs.declared.layout.L4.TheVariants as l4
use Rattle.spec_frames.specs.Transport.{tcp_size, udp_size, icmp6_size}
use Rattle.spec_frames.specs.Layout.{layout_of}
use Rattle.spec_actions.specs.declared.action.DpAction.TheVariants.{Set}
use Rattle.spec_exec.specs.Places.{Zero, Plain, Ones, Absent}
use Rattle.spec_exec.specs.Rewriting.{after_action}
use Rattle.frame_laws.specs.Headers.{IsAfter, end_by}
use Rattle.frame_laws.proofs.HeaderLaws.{transport_follows}
use Rattle.exec_laws.proofs.Bytes.{EachByte, word-lt}
use Rattle.exec_laws.proofs.checksums.Writes.{IsThere}
use Rattle.exec_laws.proofs.checksums.Transport.{IsTold, HasSum}
use Rattle.exec_laws.proofs.checksums.Reach.{layout-reaches}
use Rattle.exec_laws.proofs.checksums.TransportSum.{Segment, Stays, Keeps}
use Rattle.exec_laws.specs.Right.{IsRight, covered, rest_of, udp_length, udp_checksum, words_by, HasSumBy}

-- ---- where the IP header says how large the packet is

abbrev said_at : L3 → ℕ
said_at (l3.Ipv4 at) = at + 2
said_at (l3.Ipv6 at) = at + 4
said_at other = 0

said-told : (n : L3) (x s : ℕ) → IsAfter n x → IsTold n x s (said_at n)
said-told l3.None x s after = after
said-told (l3.Arp at) x s after = after
said-told (l3.Ipv4 at) x s after = inl refl
said-told (l3.Ipv6 at) x s after = inl refl

said-same : (a b : List ℕ) (n : L3) (x : ℕ) → IsAfter n x → big_endian_at 2 b (said_at n) ≡ big_endian_at 2 a (said_at n) → end_by b n ≡ end_by a n
said-same a b l3.None x after e = absurd after
said-same a b (l3.Arp at) x after e = absurd after
said-same a b (l3.Ipv4 at) x after e = ap (λ (k : ℕ). at + k) e
said-same a b (l3.Ipv6 at) x after e = ap (λ (k : ℕ). at + 40 + k) e

said-small : (frame : List ℕ) → EachByte frame → (n : L3) (x : ℕ) → IsAfter n x → end_by frame n - x < words
said-small frame bytes l3.None x after = absurd after
said-small frame bytes (l3.Arp at) x after = absurd after
said-small frame bytes (l3.Ipv4 at) x after = omega (arith, after, word-lt frame bytes (at + 2))
said-small frame bytes (l3.Ipv6 at) x after = omega (arith, after, word-lt frame bytes (at + 4))

-- ---- by protocol

-- where the checksum stands in each header
abbrev tcp_sum_at : ℕ
tcp_sum_at = 16

abbrev udp_sum_at : ℕ
udp_sum_at = 6

abbrev icmp6_sum_at : ℕ
icmp6_sum_at = 2

tcp-has : (x size : ℕ) → tcp_size ≤ size → (n : L3) → HasSum n (l4.Tcp x) x tcp_sum_at Plain size
tcp-has x size l n = record { w = 8; even = refl; reaches = omega arith; addresses = refl; ports = inr (λ offset. refl, refl, omega arith) }

icmp6-has : (x size : ℕ) → icmp6_size ≤ size → (n : L3) → HasSum n (l4.Icmp6 x) x icmp6_sum_at Plain size
icmp6-has x size l n = record { w = 1; even = refl; reaches = omega arith; addresses = refl; ports = inl (λ offset. refl) }

-- what 0 says in a checksum of UDP
abbrev udp_zero : L3 → Zero
udp_zero (l3.Ipv4 at) = Absent
udp_zero other = Ones

udp-has : (x size : ℕ) → udp_size ≤ size → (n : L3) → HasSum n (l4.Udp x) x udp_sum_at (udp_zero n) size
udp-has x size l l3.None = record { w = 3; even = refl; reaches = omega arith; addresses = refl; ports = inr (λ offset. refl, refl, omega arith) }
udp-has x size l (l3.Arp at) = record { w = 3; even = refl; reaches = omega arith; addresses = refl; ports = inr (λ offset. refl, refl, omega arith) }
udp-has x size l (l3.Ipv4 at) = record { w = 3; even = refl; reaches = omega arith; addresses = refl; ports = inr (λ offset. refl, refl, omega arith) }
udp-has x size l (l3.Ipv6 at) = record { w = 3; even = refl; reaches = omega arith; addresses = refl; ports = inr (λ offset. refl, refl, omega arith) }

udp-told : (n : L3) (x : ℕ) → IsAfter n x → IsTold n x udp_sum_at (x + 4)
udp-told l3.None x after = after
udp-told (l3.Arp at) x after = after
udp-told (l3.Ipv4 at) x after = inr (omega arith, omega arith)
udp-told (l3.Ipv6 at) x after = inr (omega arith, omega arith)

-- ---- segments

module _ (frame : List ℕ) (bytes : EachByte frame) (x : ℕ) where
  abbrev tcp : (layout_of frame).l4 ≡ l4.Tcp x → Segment frame
  tcp e =
      let after = (transport_follows frame (l4.Tcp x) e).after in
      let reaches = layout-reaches frame (l4.Tcp x) e in
      record {
        h = l4.Tcp x;
        x = x;
        s = tcp_sum_at;
        protocol = tcp_protocol;
        size = rest_of frame (layout_of frame).l3 x;
        z = λ m. Plain;
        told_at = said_at;
        has = tcp-has x (rest_of frame (layout_of frame).l3 x) (omega (arith, reaches));
        told = λ m. said-told m x tcp_sum_at;
        some = omega arith;
        fits = omega arith;
        small = said-small frame bytes (layout_of frame).l3 x after;
        is = e;
      }

  abbrev icmp6 : (layout_of frame).l4 ≡ l4.Icmp6 x → Segment frame
  icmp6 e =
      let after = (transport_follows frame (l4.Icmp6 x) e).after in
      let reaches = layout-reaches frame (l4.Icmp6 x) e in
      record {
        h = l4.Icmp6 x;
        x = x;
        s = icmp6_sum_at;
        protocol = icmp6_protocol;
        size = rest_of frame (layout_of frame).l3 x;
        z = λ m. Plain;
        told_at = said_at;
        has = icmp6-has x (rest_of frame (layout_of frame).l3 x) (omega (arith, reaches));
        told = λ m. said-told m x icmp6_sum_at;
        some = omega arith;
        fits = omega arith;
        small = said-small frame bytes (layout_of frame).l3 x after;
        is = e;
      }

  abbrev udp : (layout_of frame).l4 ≡ l4.Udp x → (size : ℕ) → udp_size ≤ size → size < words → Segment frame
  udp e size least small = record {
    h = l4.Udp x;
    x = x;
    s = udp_sum_at;
    protocol = udp_protocol;
    size = size;
    z = udp_zero;
    told_at = λ m. x + 4;
    has = udp-has x size least;
    told = λ m. udp-told m x;
    some = omega arith;
    fits = omega arith;
    small = small;
    is = e;
  }

-- ---- the laws

module _ (frame : List ℕ) (bytes : EachByte frame) (x : ℕ) (f : FieldId) (value mask : ℕ) (pseudo : List ℕ → L3 → ℕ → ℕ → List ℕ) (keeps : Keeps frame bytes f value mask pseudo) where
  abbrev result : List ℕ
  result = after_action (Set f value mask) frame

  pub tcp-right : (layout_of frame).l4 ≡ l4.Tcp x → IsRight (words_by pseudo frame (layout_of frame).l3 (l4.Tcp x)) → IsRight (words_by pseudo result (layout_of frame).l3 (l4.Tcp x))
  tcp-right e right =
      let after = (transport_follows frame (l4.Tcp x) e).after in
      let stays = keeps (tcp frame bytes x e) after in
      subst (λ (k : ℕ). IsRight (covered pseudo result (layout_of frame).l3 tcp_protocol (k - x) x)) (sym (said-same frame result (layout_of frame).l3 x after stays.told-same)) (stays.right tt right)

  pub icmp6-right : (layout_of frame).l4 ≡ l4.Icmp6 x → IsRight (words_by pseudo frame (layout_of frame).l3 (l4.Icmp6 x)) → IsRight (words_by pseudo result (layout_of frame).l3 (l4.Icmp6 x))
  icmp6-right e right =
      let after = (transport_follows frame (l4.Icmp6 x) e).after in
      let stays = keeps (icmp6 frame bytes x e) after in
      subst (λ (k : ℕ). IsRight (covered pseudo result (layout_of frame).l3 icmp6_protocol (k - x) x)) (sym (said-same frame result (layout_of frame).l3 x after stays.told-same)) (stays.right tt right)

  udp-stays : (e : (layout_of frame).l4 ≡ l4.Udp x) (size : ℕ) (least : udp_size ≤ size) (small : size < words)
      → Stays frame bytes f value mask (udp frame bytes x e size least small) (layout_of frame).l3 (λ b. covered pseudo b (layout_of frame).l3 udp_protocol size x)
  udp-stays e size least small = keeps (udp frame bytes x e size least small) (transport_follows frame (l4.Udp x) e).after

  pub udp-right : (layout_of frame).l4 ≡ l4.Udp x → HasSumBy frame (l4.Udp x)
      → IsRight (words_by pseudo frame (layout_of frame).l3 (l4.Udp x)) → IsRight (words_by pseudo result (layout_of frame).l3 (l4.Udp x))
  udp-right e has right =
      let stays = udp-stays e (udp_length frame x) has.0 (word-lt frame bytes (x + 4)) in
      subst (λ (k : ℕ). IsRight (covered pseudo result (layout_of frame).l3 udp_protocol k x)) (sym stays.told-same) (stays.right (there (layout_of frame).l3) right)
    where
      there : (m : L3) → IsThere (udp_zero m) (udp_checksum frame x)
      there l3.None = tt
      there (l3.Arp at) = tt
      there (l3.Ipv4 at) = has.1
      there (l3.Ipv6 at) = tt

  -- whether there is a checksum of UDP, for which a size of 8 will do
  pub udp-has-kept : (layout_of frame).l4 ≡ l4.Udp x → HasSumBy frame (l4.Udp x) → HasSumBy result (l4.Udp x)
  udp-has-kept e has =
      let stays = udp-stays e udp_size (omega arith) (omega arith) in
      (rw stays.told-same has.0, stays.present (never (layout_of frame).l3) has.1)
    where
      never : (m : L3) → udp_zero m ≢ Plain
      never l3.None = λ e. cc
      never (l3.Arp at) = λ e. cc
      never (l3.Ipv4 at) = λ e. cc
      never (l3.Ipv6 at) = λ e. cc

  pub udp-absent : (at : ℕ) → (layout_of frame).l3 ≡ l3.Ipv4 at → (layout_of frame).l4 ≡ l4.Udp x → udp_checksum frame x ≡ 0 → udp_checksum result x ≡ 0
  udp-absent at over e none = (udp-stays e udp_size (omega arith) (omega arith)).absent (ap udp_zero over) none
