-- The laws of one write, by the headers of a frame.
use Rattle.std.proofs.Common.{◌≡◌, ℕ, ◌<◌, Bool, true, false, List, [], refl, sym, ◌∙◌, subst}
use Rattle.std.proofs.lemmas.List.Elements.{All-nil}
use Rattle.spec_keys.specs.declared.field_id.FieldId.{FieldId}
use Rattle.spec_keys.specs.declared.field_id.FieldId.TheVariants.{Ipv6Dst}
use Rattle.spec_frames.specs.declared.layout.Layout.{Layout}
use Rattle.spec_frames.specs.declared.layout.L3.{L3}
use Rattle.spec_frames.specs.declared.layout.L3.TheVariants as l3
use Rattle.spec_frames.specs.declared.layout.L4.{L4}
use Rattle.spec_frames.specs.declared.layout.L4.TheVariants as l4
use Rattle.spec_frames.specs.Layout.{layout_of}
use Rattle.spec_actions.specs.declared.action.DpAction.TheVariants.{Set}
use Rattle.spec_exec.specs.Rewriting.{after_action}
use Rattle.exec_laws.specs.ReadBack.{AreBytes}
use Rattle.exec_laws.proofs.Bytes.{byte}
use Rattle.exec_laws.proofs.EachField.{field-layout}
use Rattle.exec_laws.proofs.checksums.Ipv4Sum.{ipv4-right, icmp-right}
use Rattle.exec_laws.proofs.checksums.TransportSum.{Keeps, header-keeps, final-keeps}
use Rattle.exec_laws.proofs.checksums.Protocols.{tcp-right, icmp6-right, udp-right, udp-has-kept, udp-absent}
use Rattle.exec_laws.specs.Right.{AreWords, IsRight, header_words_by, header_words, pseudo_header, final_header, udp_checksum, words_by, transport_words, final_words, HasSumBy, HasTransportSum}

module _ (frame : List ℕ) (bytes : AreBytes frame) (f : FieldId) (value mask : ℕ) where
  abbrev result : List ℕ
  result = after_action (Set f value mask) frame

  kept : layout_of result ≡ layout_of frame
  kept = field-layout frame bytes f value mask

  pub header-right : IsRight (header_words frame) → IsRight (header_words result)
  header-right right = subst (λ (l : Layout). IsRight (header_words_by result l.l3)) (sym kept) (by (layout_of frame).l3 refl right)
    where
      by : (n : L3) → (layout_of frame).l3 ≡ n → IsRight (header_words_by frame n) → IsRight (header_words_by result n)
      by l3.None e right = right
      by (l3.Arp at) e right = right
      by (l3.Ipv4 at) e right = ipv4-right frame (byte frame bytes) at e f value mask right
      by (l3.Ipv6 at) e right = right

  -- over a pseudo header
  module _ (pseudo : List ℕ → L3 → ℕ → ℕ → List ℕ) (keeps : Keeps frame (byte frame bytes) f value mask pseudo) where
    words-right : HasTransportSum frame → IsRight (words_by pseudo frame (layout_of frame).l3 (layout_of frame).l4) → IsRight (words_by pseudo result (layout_of result).l3 (layout_of result).l4)
    words-right has right = subst (λ (l : Layout). IsRight (words_by pseudo result l.l3 l.l4)) (sym kept) (by (layout_of frame).l4 refl has right)
      where
        by : (h : L4) → (layout_of frame).l4 ≡ h → HasSumBy frame h → IsRight (words_by pseudo frame (layout_of frame).l3 h) → IsRight (words_by pseudo result (layout_of frame).l3 h)
        by l4.None e has right = right
        by (l4.Tcp x) e has right = tcp-right frame (byte frame bytes) x f value mask pseudo keeps e right
        by (l4.Udp x) e has right = udp-right frame (byte frame bytes) x f value mask pseudo keeps e has right
        by (l4.Icmp x) e has right = icmp-right frame (byte frame bytes) x f value mask e right
        by (l4.Icmp6 x) e has right = icmp6-right frame (byte frame bytes) x f value mask pseudo keeps e right

    has-right : HasTransportSum frame → HasTransportSum result
    has-right has = subst (λ (l : Layout). HasSumBy result l.l4) (sym kept) (by (layout_of frame).l4 refl has)
      where
        by : (h : L4) → (layout_of frame).l4 ≡ h → HasSumBy frame h → HasSumBy result h
        by l4.None e has = tt
        by (l4.Tcp x) e has = tt
        by (l4.Udp x) e has = udp-has-kept frame (byte frame bytes) x f value mask pseudo keeps e has
        by (l4.Icmp x) e has = tt
        by (l4.Icmp6 x) e has = tt

  -- a checksum that is there stays there, whatever is covered
  pub has-kept : HasTransportSum frame → HasTransportSum result
  has-kept has = by (layout_of frame).routed (layout_of frame).l3 refl refl
    where
      beside : ((at : ℕ) → (layout_of frame).l3 ≡ l3.Ipv6 at → ⊥) → HasTransportSum result
      beside none = has-right pseudo_header (header-keeps frame (byte frame bytes) f value mask (λ at six. absurd (none at six))) has

      by : (t : Bool) (n : L3) → (layout_of frame).routed ≡ t → (layout_of frame).l3 ≡ n → HasTransportSum result
      by false n direct e = has-right pseudo_header (header-keeps frame (byte frame bytes) f value mask (λ at six to. direct)) has
      by true (l3.Ipv6 at) routed e = has-right (final_header []) (final-keeps frame (byte frame bytes) f value mask [] (All-nil (λ word. word < 65536)) at e routed) has
      by true l3.None routed e = beside (λ at six. absurd cc)
      by true (l3.Arp other) routed e = beside (λ at six. absurd cc)
      by true (l3.Ipv4 other) routed e = beside (λ at six. absurd cc)

  pub transport-right : (f ≡ Ipv6Dst → (layout_of frame).routed ≡ false) → HasTransportSum frame → IsRight (transport_words frame) → IsRight (transport_words result)
  transport-right direct = words-right pseudo_header (header-keeps frame (byte frame bytes) f value mask (λ at six. direct))

  pub final-right : (to : List ℕ) → AreWords to → (at : ℕ) → (layout_of frame).l3 ≡ l3.Ipv6 at → (layout_of frame).routed ≡ true
      → HasTransportSum frame → IsRight (final_words to frame) → IsRight (final_words to result)
  final-right to words at over routed = words-right (final_header to) (final-keeps frame (byte frame bytes) f value mask to words at over routed)

  pub absent-kept : (at x : ℕ) → (layout_of frame).l3 ≡ l3.Ipv4 at → (layout_of frame).l4 ≡ l4.Udp x → udp_checksum frame x ≡ 0 → udp_checksum result x ≡ 0
  absent-kept at x over =
      udp-absent frame (byte frame bytes) x f value mask pseudo_header (header-keeps frame (byte frame bytes) f value mask (λ other six. absurd (apart other (sym over ∙ six)))) at over
    where
      apart : (other : ℕ) → l3.Ipv4 at ≡ l3.Ipv6 other → ⊥
      apart other e = cc
