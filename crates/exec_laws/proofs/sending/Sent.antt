-- What a translation sends of a frame: output by output, the frame with the current key.
use Rattle.std.proofs.Common.{◌≡◌, ℕ, ◌<◌, Bool, true, false, ◌||◌, if◌then◌else◌, IsTrue, List, [], ◌∷◌, map, length, All, refl, sym, ap, ap₂, ◌∙◌, subst}
use Rattle.std.proofs.lemmas.List.Elements.{All-head, All-tail}
use Rattle.spec_base.specs.Bytes.{big_endian_at}
use Rattle.spec_keys.specs.declared.field_id.FieldId.{FieldId}
use Rattle.spec_keys.specs.Fields.{fields}
use Rattle.spec_keys.specs.Keys.{value_of, IsKey}
use Rattle.spec_frames.specs.Ethernet.{header_size, carried}
use Rattle.spec_frames.specs.Network.{network}
use Rattle.spec_frames.specs.Key.{key_of}
use Rattle.spec_actions.specs.declared.action.DpAction.{DpAction}
use Rattle.spec_actions.specs.declared.action.DpAction.TheVariants.{Output}
use Rattle.spec_xlate.specs.Tags.{VlanTag, is_tag, outer_tag, inner_tag, is_full}
use Rattle.spec_xlate.specs.Commit.{commit}
use Rattle.spec_xlate.specs.Translation.{Switch, pipe}
use Rattle.table_laws.specs.Applied.{is_proper}
use Rattle.frame_laws.proofs.keys.KeyLaws.{key_of-IsKey}
use Rattle.spec_exec.specs.Sent.{Piece, sent}
use Rattle.exec_laws.specs.ReadBack.{shows}
use Rattle.exec_laws.specs.Sends.{after_actions}
use Rattle.exec_laws.specs.Become.{has_third_tag, is_of_tags, HasTagTypes, turned, is_register, without_registers, CanTurn, KeyedOutput, outputs_of}
use Rattle.exec_laws.proofs.Addresses.{shown_tags, key-is}
use Rattle.exec_laws.proofs.Fields.{outer_of, inner_of, network-says}
use Rattle.exec_laws.proofs.Tags.{are_proper, shown-proper}
use Rattle.exec_laws.proofs.sending.TagTypes.{IsTyped, to-HasTagTypes, shown-outer, shown-inner, third-full}
use Rattle.exec_laws.proofs.EachField.{short-stays}
use Rattle.exec_laws.proofs.SentLists.{sent-before}
use Rattle.exec_laws.proofs.OnTheWay.{OnTheWay}
use Rattle.exec_laws.proofs.CommitSteps.{map-at}
use Rattle.exec_laws.proofs.Turned.{map-same, key-turned, key-becomes, commit-same, commit-silent}
use Rattle.exec_laws.proofs.Outputs.{outputs-ports}
use Rattle.exec_laws.specs.Outputs.{translation_outputs}
use Rattle.exec_laws.specs.Made.{can_change, IsMadeOf, PushTags}
use Rattle.exec_laws.specs.Received.{IsReceived, UncoverNone, HasItsHeaders}
use Rattle.exec_laws.proofs.sending.Emitted.{translation-emits}
use Rattle.exec_laws.proofs.sending.MadeOutputs.{outputs-keys}
use Rattle.exec_laws.proofs.sending.WholeHeaders.{shown-change}
use Rattle.exec_laws.proofs.sending.LaterCommits.{later-there, later-turned}

pub sent-ports : (sw : Switch) (port : ℕ) (frame : List ℕ)
    → map (λ piece. piece.port) (sent (pipe sw (key_of port frame)).actions frame) ≡ map (λ o. o.port) (translation_outputs sw (key_of port frame))
sent-ports sw port frame =
    let key = key_of port frame in
    ap (λ (actions : List DpAction). map (λ (piece : Piece). piece.port) (sent actions frame)) (translation-emits sw key)
    ∙ outputs-ports key frame (translation_outputs sw key)

-- ---- a frame with a whole Ethernet header

module _ (port : ℕ) (frame : List ℕ) (came : IsReceived port frame) where
  abbrev packet : List ℕ
  packet = key_of port frame

  abbrev aimed : List ℕ → FieldId → ℕ
  aimed key f = if is_of_tags f || shows port frame f then value_of key f else value_of packet f

  -- A frame that is reached, where this key is the current one.
  record Reached (g base : List ℕ) : Type 0 where
    there : OnTheWay port frame g
    is_key : IsKey base
    is : key_of port g ≡ turned port frame base

  number-is : (g base : List ℕ) → Reached g base → (f : FieldId) → value_of (key_of port g) f ≡ aimed base f
  number-is g base at f = ap (λ (k : List ℕ). value_of k f) at.is ∙ map-at (aimed base) f

  -- the key stands for the frame's own in what that shows
  same-shown : (g base : List ℕ) → Reached g base → (f : FieldId) → (is_of_tags f || shows port g f) ≡ true → value_of base f ≡ value_of (key_of port g) f
  same-shown g base at f e =
      sym (number-is g base at f ∙ ap (λ (t : Bool). if t then value_of base f else value_of packet f) (ap (λ (t : Bool). is_of_tags f || t) (sym (at.there.alike f)) ∙ e))

  turned-alike : (g base key : List ℕ) → Reached g base → turned port g key ≡ turned port frame key
  turned-alike g base key at =
      map-same (λ f. if is_of_tags f || shows port g f then value_of key f else value_of (key_of port g) f) (aimed key)
      (λ f.
      ap (λ (s : Bool). if is_of_tags f || s then value_of key f else value_of (key_of port g) f) (at.there.alike f)
      ∙ swap (is_of_tags f || shows port frame f) (value_of key f) (value_of base f) (value_of (key_of port g) f) (value_of packet f) (number-is g base at f)) fields
    where
      swap : (t : Bool) (x y z w : ℕ) → z ≡ (if t then y else w) → (if t then x else z) ≡ (if t then x else w)
      swap true x y z w e = refl
      swap false x y z w e = e

  turn-there : (g base key : List ℕ) → Reached g base → CanTurn port frame key → CanTurn port g key
  turn-there g base key at can = record {
    bytes = at.there.bytes;
    whole = at.there.whole;
    in_port = can.in_port;
    is_key = can.is_key;
    has_proper_tags = can.has_proper_tags;
    has_tag_types = can.has_tag_types;
    uncovers_none = λ z. at.there.single (can.uncovers_none z);
  }

  next-reached : (g base key : List ℕ) → Reached g base → CanTurn port frame key → Reached (after_actions (commit base key) g) key
  next-reached g base key at can =
      let here = turn-there g base key at can in
      let there = later-there port g base key here at.is_key (same-shown g base at) in
      record {
        there = record { bytes = there.bytes; whole = there.whole; alike = λ f. there.alike f ∙ at.there.alike f; single = λ first. there.single (at.there.single first) };
        is_key = can.is_key;
        is = later-turned port g base key here at.is_key (same-shown g base at) ∙ turned-alike g base key at;
      }

  all-turned : (g base : List ℕ) (outputs : List KeyedOutput) → Reached g base → All (λ o. CanTurn port frame o.key) outputs
      → map (λ piece. key_of port piece.bytes) (sent (outputs_of base outputs) g) ≡ map (λ o. turned port frame o.key) outputs
  unfolding sent outputs_of
  all-turned g base [] at can = refl
  all-turned g base (o ∷ outputs) at can =
      let next = next-reached g base o.key at (All-head (λ (o : KeyedOutput). CanTurn port frame o.key) o outputs can) in
      let rest = outputs_of o.key outputs in
      ap (map (λ (piece : Piece). key_of port piece.bytes)) (sent-before (commit base o.key) (Output o.port ∷ rest) g (commit-silent base o.key))
      ∙ ap₂ (λ (k : List ℕ) (ks : List (List ℕ)). k ∷ ks) next.is
      (all-turned (after_actions (commit base o.key) g) o.key outputs next (All-tail (λ (o : KeyedOutput). CanTurn port frame o.key) o outputs can))

  -- ---- the packet's key

  packet-tags : (outer_tag packet ≡ outer_of (shown_tags frame)) × (inner_tag packet ≡ inner_of (shown_tags frame))
  packet-tags =
      let says = network-says frame (network frame) port (carried frame).dl_type (big_endian_at 6 frame 6) (big_endian_at 6 frame 0) (shown_tags frame) in
      (ap outer_tag (key-is port frame came.whole) ∙ says.outer, ap inner_tag (key-is port frame came.whole) ∙ says.inner)

  packet-proper : IsTrue (is_proper packet)
  packet-proper = ap₂ are_proper packet-tags.0 packet-tags.1 ∙ shown-proper frame

  packet-typed : HasTagTypes packet
  packet-typed = to-HasTagTypes packet (record {
    outer = subst IsTyped (sym packet-tags.0) (shown-outer frame);
    inner = subst IsTyped (sym packet-tags.1) (shown-inner frame);
  })

  packet-key : IsKey packet
  packet-key = key_of-IsKey frame came.bytes port came.in_port

  -- a frame with less than two tags has no third one
  packet-single : is_full packet ≡ false → has_third_tag frame ≡ false
  packet-single less = third-full frame (ap (λ (i : VlanTag). is_tag i.tci) (sym packet-tags.1) ∙ less)

  can-turn : (key : List ℕ) → IsMadeOf packet key → (is_full key ≡ false → has_third_tag frame ≡ false) → CanTurn port frame key
  can-turn key made uncovers_none = record {
    bytes = came.bytes;
    whole = came.whole;
    in_port = came.in_port;
    is_key = made.is_key;
    has_proper_tags = made.has_proper_tags;
    has_tag_types = made.has_tag_types;
    uncovers_none = uncovers_none;
  }

  -- the frame itself, which a commit to its key leaves as it is
  first-reached : Reached frame packet
  first-reached =
      let can = can-turn packet (record { is_key = packet-key; has_proper_tags = packet-proper; has_tag_types = packet-typed; others_stay = λ f no. refl }) packet-single in
      record {
        there = record { bytes = came.bytes; whole = came.whole; alike = λ f. refl; single = λ first. first };
        is_key = packet-key;
        is = sym (ap (λ (actions : List DpAction). key_of port (after_actions actions frame)) (commit-same packet)) ∙ key-turned port frame packet can;
      }

  -- ---- what a translation makes of the frame

  -- its outputs have keys that are made of the packet's
  pub sent-made : (sw : Switch) → PushTags sw → All (λ o. IsMadeOf packet o.key) (translation_outputs sw packet)
  sent-made sw push = outputs-keys sw packet push packet-key packet-proper packet-typed

  module _ (sw : Switch) (push : PushTags sw) (none : UncoverNone frame (translation_outputs sw packet)) where
    abbrev outputs : List KeyedOutput
    outputs = translation_outputs sw packet

    pub sent-turned : map (λ piece. key_of port piece.bytes) (sent (pipe sw packet).actions frame) ≡ map (λ o. turned port frame o.key) outputs
    sent-turned =
        ap (λ (actions : List DpAction). map (λ (piece : Piece). key_of port piece.bytes) (sent actions frame)) (translation-emits sw packet)
        ∙ all-turned frame packet outputs first-reached (λ k d l. can-turn _ (sent-made sw push k d l) (none k d l))

    -- where the headers are there the key is the current one
    whole-turned : HasItsHeaders port frame → (key : List ℕ) → CanTurn port frame key → IsMadeOf packet key → turned port frame key ≡ without_registers key
    whole-turned headers key can of_packet = sym (key-turned port frame key can) ∙ key-becomes port frame key (record { can_turn = can; others_stay = λ f r t s. at f (can_change packet f) refl r t s })
      where
        at : (f : FieldId) (c : Bool) → can_change packet f ≡ c → is_register f ≡ false → is_of_tags f ≡ false → shows port frame f ≡ false → value_of key f ≡ value_of packet f
        at f true e r t s = let shown = shown-change port frame headers f r t e in absurd cc
        at f false e r t s = of_packet.others_stay f e

    all-whole : HasItsHeaders port frame → (os : List KeyedOutput) → All (λ o. IsMadeOf packet o.key) os → UncoverNone frame os
        → map (λ o. turned port frame o.key) os ≡ map (λ o. without_registers o.key) os
    all-whole headers [] of_packet single = refl
    all-whole headers (o ∷ os) of_packet single =
        let here = All-head (λ (o : KeyedOutput). IsMadeOf packet o.key) o os of_packet in
        let covered = All-head (λ (o : KeyedOutput). is_full o.key ≡ false → has_third_tag frame ≡ false) o os single in
        ap₂ (λ (k : List ℕ) (ks : List (List ℕ)). k ∷ ks) (whole-turned headers o.key (can-turn o.key here covered) here)
        (all-whole headers os (All-tail (λ (o : KeyedOutput). IsMadeOf packet o.key) o os of_packet)
        (All-tail (λ (o : KeyedOutput). is_full o.key ≡ false → has_third_tag frame ≡ false) o os single))

    pub sent-keys : HasItsHeaders port frame → map (λ piece. key_of port piece.bytes) (sent (pipe sw packet).actions frame) ≡ map (λ o. without_registers o.key) outputs
    sent-keys headers = sent-turned ∙ all-whole headers outputs (sent-made sw push) none

-- ---- a shorter frame, which no action changes

short-after : (actions : List DpAction) (frame : List ℕ) → length frame < header_size → after_actions actions frame ≡ frame
short-after [] frame short = refl
short-after (x ∷ actions) frame short = ap (after_actions actions) (short-stays x frame short) ∙ short-after actions frame short

short-outputs : (base frame : List ℕ) (outputs : List KeyedOutput) → length frame < header_size
    → sent (outputs_of base outputs) frame ≡ map (λ o. record { port = o.port; bytes = frame }) outputs
unfolding sent outputs_of
short-outputs base frame [] short = refl
short-outputs base frame (o ∷ outputs) short =
    sent-before (commit base o.key) (Output o.port ∷ outputs_of o.key outputs) frame (commit-silent base o.key)
    ∙ ap (sent (Output o.port ∷ outputs_of o.key outputs)) (short-after (commit base o.key) frame short)
    ∙ ap (λ (pieces : List Piece). record { port = o.port; bytes = frame } ∷ pieces) (short-outputs o.key frame outputs short)

pub sent-short : (sw : Switch) (port : ℕ) (frame : List ℕ) → length frame < header_size
    → sent (pipe sw (key_of port frame)).actions frame ≡ map (λ o. record { port = o.port; bytes = frame }) (translation_outputs sw (key_of port frame))
sent-short sw port frame short =
    let key = key_of port frame in
    ap (λ (actions : List DpAction). sent actions frame) (translation-emits sw key) ∙ short-outputs key frame (translation_outputs sw key) short
