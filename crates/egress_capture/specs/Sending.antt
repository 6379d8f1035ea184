-- What a list of actions sends out at one port, or first at one of several.
use Rattle.std.specs.Prelude.{ℕ, ◌==◌, Bool, false, List, [], ◌∷◌, map, filter, Option}
use Rattle.std.specs.Option.{option_map, option_map_or}
use Rattle.spec_pcap.specs.Pcap.{Frame, record_of}
use Rattle.spec_actions.specs.declared.action.DpAction.{DpAction}
use Rattle.spec_actions.specs.declared.action.DpAction.TheVariants.{Output, PopVlan, PushVlan, Set}
use Rattle.spec_exec.specs.Sent.{Piece, sent}
use Rattle.spec_exec.specs.Rewriting.{after_action}
use Rattle.spec_input.specs.Mirrors.{is_among}
use Rattle.spec_run.specs.Mirrored.{first_to}

abbrev pub sends_to : ℕ → DpAction → Bool
sends_to port (Output n) = n == port
sends_to port PopVlan = false
sends_to port (PushVlan tpid tci) = false
sends_to port (Set f value mask) = false

-- a frame of a time
abbrev pub frame_of : ℕ → List ℕ → Frame
frame_of time bytes = record { time = time; bytes = bytes }

-- the frames of a time that go out at a port
abbrev pub frames_to : ℕ → ℕ → List DpAction → List ℕ → List Frame
frames_to port time actions bytes =
    map (λ (p : Piece). frame_of time p.bytes) (filter (λ (p : Piece). p.port == port) (sent actions bytes))

-- the frame after an action, which an output leaves as it is
unfoldable pub next : DpAction → List ℕ → List ℕ
next (Output n) bytes = bytes
next action bytes = after_action action bytes

-- after all of a list
unfoldable pub rewritten : List DpAction → List ℕ → List ℕ
rewritten [] bytes = bytes
rewritten (a ∷ actions) bytes = rewritten actions (next a bytes)

-- ---- the first piece to one of some ports

-- whether an action sends to one of these ports
abbrev pub sends_to_one : List ℕ → DpAction → Bool
sends_to_one ports (Output n) = is_among ports n
sends_to_one ports PopVlan = false
sends_to_one ports (PushVlan tpid tci) = false
sends_to_one ports (Set f value mask) = false

-- the frame of a time that goes out first at one of these ports, if one does
abbrev pub first_frame_to : List ℕ → ℕ → List DpAction → List ℕ → Option Frame
first_frame_to ports time actions bytes = option_map (λ (p : Piece). frame_of time p.bytes) (first_to ports (sent actions bytes))

-- the record of a frame, if there is one
abbrev pub record_if : Bool → Option Frame → List ℕ
record_if nanos frame = option_map_or (record_of nanos) frame []
