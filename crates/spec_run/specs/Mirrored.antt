-- What the mirrors of a run copy, and the files of the copies (ovs-vswitchd.conf.db(5), table Mirror). Other than there, a
-- mirror copies a frame once, however often it is sent.
use Rattle.std.specs.Prelude.{ℕ, Bool, ◌||◌, if◌then◌else◌, List, ◌++◌, map, Option, Some, codes}
use Rattle.std.specs.List.{find, filter_map, enumerate_from}
use Rattle.std.specs.Option.{option_map}
use Rattle.std.specs.Fmt.{decimal}
use Rattle.spec_base.specs.Files.{File}
use Rattle.spec_pcap.specs.Pcap.{Frame, file_of}
use Rattle.spec_case.specs.declared.arrival.Arrival.{Arrival}
use Rattle.spec_case.specs.Run.{Run, frame_at, is_nanos}
use Rattle.spec_case.specs.Arrivals.{arrivals, in_order}
use Rattle.spec_board.specs.Texts.{Journal}
use Rattle.spec_exec.specs.Sent.{Piece, sent}
use Rattle.spec_input.specs.Mirrors.{Mirror, is_among}
use Rattle.spec_run.specs.Journals.{actions_for}

-- whether a mirror copies what comes in at a port
abbrev pub takes_in : Mirror → ℕ → Bool
takes_in m port = m.all || is_among m.src port

-- the first of these pieces that goes out at one of the ports
abbrev pub first_to : List ℕ → List Piece → Option Piece
first_to ports pieces = find (λ (p : Piece). is_among ports p.port) pieces

-- The copy of a frame that came in at a port and was sent as these pieces: as it came in, where the mirror copies what
-- comes in there, and else as it first goes out at a port where the mirror copies what goes out.
abbrev pub copy_of : Mirror → ℕ → Frame → List Piece → Option Frame
copy_of m port frame pieces =
    if takes_in m port then Some frame
    else option_map (λ (p : Piece). record { time = frame.time; bytes = p.bytes }) (first_to m.dst pieces)

-- the copy of an arrived frame, which the actions sent that the journals decided
abbrev pub copied : Run → List Journal → Mirror → Arrival → Option Frame
copied run journals m a =
    let frame = frame_at run a.port a.place in
    copy_of m a.port frame (sent (actions_for run journals a.port a.place) frame.bytes)

-- what a mirror copies: sorted by time, ingress port and place in its trace, at most one copy for each frame
abbrev pub copies : Run → List Journal → Mirror → List Frame
copies run journals m = filter_map (copied run journals m) (in_order (arrivals run))

-- OUT.mK.pcap
abbrev pub mirror_file_name : List ℕ → ℕ → List ℕ
mirror_file_name out number = out ++ (codes ".m" ++ (decimal number ++ codes ".pcap"))

-- the file of a mirror, in nanoseconds where a trace that came in is
abbrev pub mirror_file : List ℕ → Run → List Journal → ℕ → Mirror → File
mirror_file out run journals number m = (mirror_file_name out number, file_of (is_nanos run) (copies run journals m))

-- the files of mirrors, which are numbered from 1
abbrev pub mirror_files : List ℕ → Run → List Journal → List Mirror → List File
mirror_files out run journals mirrors = map (λ (m : ℕ × Mirror). mirror_file out run journals m.0 m.1) (enumerate_from 1 mirrors)
