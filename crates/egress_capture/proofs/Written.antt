-- What is written of a frame, action by action.
use Rattle.std.proofs.Common.{◌≡◌, ℕ, ◌+◌, ◌<◌, List, [], ◌∷◌, ◌++◌, length, take, drop, get_or, replicate, ap, ◌∙◌}
use Rattle.std.specs.Prelude.{count_by}
use Rattle.std.specs.List.{flat_map, take_while}
use Rattle.std.proofs.lemmas.List.{append-nil}
use Rattle.std.proofs.lemmas.Grind.{flat_map-append}
use Rattle.spec_pcap.specs.Pcap.{Frame}
use Rattle.spec_actions.specs.declared.action.DpAction.{DpAction}
use Rattle.spec_exec.specs.Sent.{is_output}
use Rattle.egress_capture.specs.Sending.{sends_to, frame_of, frames_to, next, rewritten}
use Rattle.egress_capture.proofs.Sends.{out_within, out_take_more, out_cut, out_none}

module _ (bytes_of : Frame → List ℕ) (port time : ℕ) where
  abbrev written_by : List DpAction → List ℕ → List ℕ
  written_by actions frame = flat_map bytes_of (frames_to port time actions frame)

  -- ---- the actions before one, and that one

  module _ (actions : List DpAction) (i : ℕ) (d : DpAction) (frame : List ℕ) (lt : i < length actions) where
    -- what that one sends
    abbrev one : List Frame
    one = frames_to port time (get_or actions i d ∷ []) (rewritten (take i actions) frame)

    -- what those after it send
    abbrev others : List Frame
    others = frames_to port time (drop (i + 1) actions) (next (get_or actions i d) (rewritten (take i actions) frame))

    pub action_more : written_by (take (i + 1) actions) frame ≡ written_by (take i actions) frame ++ flat_map bytes_of one
    action_more =
        ap (flat_map bytes_of) (out_take_more port time actions i d frame lt)
        ∙ flat_map-append bytes_of (frames_to port time (take i actions) frame) one

    pub around_action : written_by actions frame ≡ written_by (take i actions) frame ++ (flat_map bytes_of one ++ flat_map bytes_of others)
    around_action =
        ap (flat_map bytes_of) (out_within port time actions i d frame lt)
        ∙ flat_map-append bytes_of (frames_to port time (take i actions) frame) (one ++ others)
        ∙ ap (λ (zs : List ℕ). written_by (take i actions) frame ++ zs) (flat_map-append bytes_of one others)

  -- ---- the outputs that come first, and the others

  abbrev first_copies : List DpAction → List ℕ → List Frame
  first_copies actions frame = replicate (count_by (sends_to port) (take (length (take_while is_output actions)) actions)) (frame_of time frame)

  -- the copies, and what the others write
  pub cut_written : (actions : List DpAction) (frame : List ℕ) → written_by actions frame
      ≡ flat_map bytes_of (first_copies actions frame) ++ written_by (drop (length (take_while is_output actions)) actions) frame
  cut_written actions frame =
      ap (flat_map bytes_of) (out_cut port time actions frame)
      ∙ flat_map-append bytes_of (first_copies actions frame) (frames_to port time (drop (length (take_while is_output actions)) actions) frame)

  -- where no action sends, nothing is written
  none_written : (actions : List DpAction) (frame : List ℕ) → count_by (sends_to port) actions ≡ 0 → written_by actions frame ≡ []
  none_written actions frame none = ap (flat_map bytes_of) (out_none port time actions frame none)

  -- where the others write nothing the copies are all
  pub cut_alone : (actions : List DpAction) (frame : List ℕ) → count_by (sends_to port) (drop (length (take_while is_output actions)) actions) ≡ 0
      → written_by actions frame ≡ flat_map bytes_of (first_copies actions frame)
  cut_alone actions frame none =
      cut_written actions frame
      ∙ ap (λ (ys : List ℕ). flat_map bytes_of (first_copies actions frame) ++ ys) (none_written (drop (length (take_while is_output actions)) actions) frame none)
      ∙ append-nil (flat_map bytes_of (first_copies actions frame))
