-- What each action does to checksums, and what a list of them sends.
use Rattle.std.proofs.Common.{◌≡◌, ℕ, ◌<◌, ◌≤◌, Bool, true, false, List, [], ◌∷◌, length, All, ◌⊎◌, inl, inr, refl, sym, ap, subst}
use Rattle.std.proofs.lemmas.Bool.{cases_lt}
use Rattle.std.proofs.lemmas.List.Elements.{All-cons, All-nil}
use Rattle.spec_keys.specs.Protocols.{is_tag_type}
use Rattle.spec_frames.specs.Ethernet.{header_size, type_at, is_tag_at, tag_count}
use Rattle.spec_actions.specs.declared.action.DpAction.{DpAction}
use Rattle.spec_actions.specs.declared.action.DpAction.TheVariants.{Output, PopVlan, PushVlan, Set}
use Rattle.spec_exec.specs.Rewriting.{push_tag, pop_tag, after_action}
use Rattle.spec_exec.specs.Sent.{Piece, sent}
use Rattle.exec_laws.specs.ReadBack.{AreBytes}
use Rattle.exec_laws.specs.Become.{has_third_tag}
use Rattle.exec_laws.proofs.Within.{push-length, act-whole}
use Rattle.exec_laws.proofs.Addresses.{network-moved}
use Rattle.exec_laws.proofs.Tags.{push-after, push-carried, pop-sized, pop-after, pop-carried, least}
use Rattle.exec_laws.proofs.ThirdTag.{untagged-pop}
use Rattle.exec_laws.proofs.BytesKept.{action-bytes}
use Rattle.exec_laws.proofs.EachField.{short-stays}
use Rattle.exec_laws.proofs.checksums.Law.{header-right, transport-right, has-kept}
use Rattle.exec_laws.proofs.checksums.Tagged.{header-same, transport-same, has-same, has-same-back}
use Rattle.exec_laws.specs.Right.{IsRight, header_words, transport_words, HasTransportSum}
use Rattle.exec_laws.specs.Followed.{IsFollowed, AreFollowed}

-- ---- tags

-- two frames of which the same is covered
pub record CoverSame (a b : List ℕ) : Type 0 where
  pub header : header_words b ≡ header_words a
  pub transport : transport_words b ≡ transport_words a
  pub has : HasTransportSum a → HasTransportSum b

itself : (a b : List ℕ) → b ≡ a → CoverSame a b
itself a b e = record { header = ap header_words e; transport = ap transport_words e; has = subst HasTransportSum (sym e) }

pub pushed-same : (tpid tci : ℕ) (frame : List ℕ) → is_tag_type tpid ≡ true → tag_count frame ≤ 1 → CoverSame frame (after_action (PushVlan tpid tci) frame)
pushed-same tpid tci frame typed room = by (cases_lt (length frame) header_size)
  where
    by : (length frame < header_size) ⊎ (header_size ≤ length frame) → CoverSame frame (after_action (PushVlan tpid tci) frame)
    by (inl short) = itself frame (after_action (PushVlan tpid tci) frame) (short-stays (PushVlan tpid tci) frame short)
    by (inr whole) =
        let sized = push-length tpid tci frame whole in
        let same = push-after frame whole tpid tci in
        let moves = network-moved frame (push_tag tpid tci frame) 4 sized same whole (push-carried frame whole tpid tci typed room) in
        subst (CoverSame frame) (sym (act-whole (PushVlan tpid tci) frame whole)) (record {
          header = header-same frame (push_tag tpid tci frame) sized same whole moves;
          transport = transport-same frame (push_tag tpid tci frame) sized same whole moves;
          has = has-same frame (push_tag tpid tci frame) sized same whole moves;
        })

pub popped-same : (frame : List ℕ) → has_third_tag frame ≡ false → CoverSame frame (after_action PopVlan frame)
popped-same frame single = by (cases_lt (length frame) header_size)
  where
    tagged-by : header_size ≤ length frame → (t : Bool) → is_tag_at frame type_at ≡ t → CoverSame frame (pop_tag frame)
    tagged-by whole false e =
        itself frame (pop_tag frame) (untagged-pop frame whole e)
    tagged-by whole true e =
        let sized = pop-sized frame e in
        let same = pop-after frame e in
        let rest = least frame e in
        let moves = network-moved (pop_tag frame) frame 4 sized same rest (pop-carried frame e single) in
        record {
          header = sym (header-same (pop_tag frame) frame sized same rest moves);
          transport = sym (transport-same (pop_tag frame) frame sized same rest moves);
          has = has-same-back (pop_tag frame) frame sized same rest moves;
        }

    by : (length frame < header_size) ⊎ (header_size ≤ length frame) → CoverSame frame (after_action PopVlan frame)
    by (inl short) = itself frame (after_action PopVlan frame) (short-stays PopVlan frame short)
    by (inr whole) = subst (CoverSame frame) (sym (act-whole PopVlan frame whole)) (tagged-by whole (is_tag_at frame type_at) refl)

-- ---- any action

output-stays : (port : ℕ) (frame : List ℕ) → after_action (Output port) frame ≡ frame
output-stays port frame = by (cases_lt (length frame) header_size)
  where
    by : (length frame < header_size) ⊎ (header_size ≤ length frame) → after_action (Output port) frame ≡ frame
    by (inl short) = short-stays (Output port) frame short
    by (inr whole) = act-whole (Output port) frame whole

-- what is asked of a frame for its header checksum, and for its transport checksum
pub record HasHeaderRight (frame : List ℕ) : Type 0 where
  pub bytes : AreBytes frame
  pub right : IsRight (header_words frame)

pub record HasTransportRight (frame : List ℕ) : Type 0 where
  pub bytes : AreBytes frame
  pub has : HasTransportSum frame
  pub right : IsRight (transport_words frame)

pub header-after : (action : DpAction) (frame : List ℕ) → IsFollowed action frame → HasHeaderRight frame → HasHeaderRight (after_action action frame)
header-after (Output port) frame followed h = subst HasHeaderRight (sym (output-stays port frame)) h
header-after (Set f value mask) frame followed h = record { bytes = action-bytes frame h.bytes (Set f value mask); right = header-right frame h.bytes f value mask h.right }
header-after (PushVlan tpid tci) frame followed h =
    record { bytes = action-bytes frame h.bytes (PushVlan tpid tci); right = subst IsRight (sym (pushed-same tpid tci frame followed.1 followed.0).header) h.right }
header-after PopVlan frame followed h = record { bytes = action-bytes frame h.bytes PopVlan; right = subst IsRight (sym (popped-same frame followed).header) h.right }

pub transport-after : (action : DpAction) (frame : List ℕ) → IsFollowed action frame → HasTransportRight frame → HasTransportRight (after_action action frame)
transport-after (Output port) frame followed h = subst HasTransportRight (sym (output-stays port frame)) h
transport-after (Set f value mask) frame followed h = record {
  bytes = action-bytes frame h.bytes (Set f value mask);
  has = has-kept frame h.bytes f value mask h.has;
  right = transport-right frame h.bytes f value mask followed h.has h.right;
}
transport-after (PushVlan tpid tci) frame followed h =
    let same = pushed-same tpid tci frame followed.1 followed.0 in
    record { bytes = action-bytes frame h.bytes (PushVlan tpid tci); has = same.has h.has; right = subst IsRight (sym same.transport) h.right }
transport-after PopVlan frame followed h =
    let same = popped-same frame followed in record { bytes = action-bytes frame h.bytes PopVlan; has = same.has h.has; right = subst IsRight (sym same.transport) h.right }

-- ---- what is sent

-- what each action keeps, and what follows from it, holds of each piece
module _ (P Q : List ℕ → Type 0) (after : (action : DpAction) (frame : List ℕ) → IsFollowed action frame → P frame → P (after_action action frame)) (gives : (frame : List ℕ) → P frame → Q frame) where
  sent-keeps : (actions : List DpAction) (frame : List ℕ) → AreFollowed actions frame → P frame → All (λ (piece : Piece). Q piece.bytes) (sent actions frame)
  unfolding sent
  sent-keeps [] frame followed p = All-nil (λ (piece : Piece). Q piece.bytes)
  sent-keeps (Output port ∷ actions) frame followed p =
      All-cons (λ (piece : Piece). Q piece.bytes) (record { port = port; bytes = frame }) (sent actions frame) (gives frame p)
      (sent-keeps actions frame (subst (AreFollowed actions) (output-stays port frame) followed.1) p)
  sent-keeps (PopVlan ∷ actions) frame followed p = sent-keeps actions (after_action PopVlan frame) followed.1 (after PopVlan frame followed.0 p)
  sent-keeps (PushVlan tpid tci ∷ actions) frame followed p = sent-keeps actions (after_action (PushVlan tpid tci) frame) followed.1 (after (PushVlan tpid tci) frame followed.0 p)
  sent-keeps (Set f value mask ∷ actions) frame followed p = sent-keeps actions (after_action (Set f value mask) frame) followed.1 (after (Set f value mask) frame followed.0 p)

pub sent-header : (actions : List DpAction) (frame : List ℕ) → AreBytes frame → AreFollowed actions frame → IsRight (header_words frame)
    → All (λ (piece : Piece). IsRight (header_words piece.bytes)) (sent actions frame)
sent-header actions frame bytes followed right =
    sent-keeps HasHeaderRight (λ f. IsRight (header_words f)) header-after (λ f h. h.right) actions frame followed (record { bytes = bytes; right = right })

pub sent-transport : (actions : List DpAction) (frame : List ℕ) → AreBytes frame → HasTransportSum frame → AreFollowed actions frame → IsRight (transport_words frame)
    → All (λ (piece : Piece). IsRight (transport_words piece.bytes)) (sent actions frame)
sent-transport actions frame bytes has followed right =
    sent-keeps HasTransportRight (λ f. IsRight (transport_words f)) transport-after (λ f h. h.right) actions frame followed (record { bytes = bytes; has = has; right = right })
