-- The records of frames, one after the other.
use Rattle.std.proofs.Common.{◌≡◌, ℕ, ◌+◌, ◌-◌, ◌*◌, ◌%◌, List, [], ◌∷◌, ◌++◌, false, ap, ◌∙◌, sym, arith}
use Rattle.std.specs.Prelude.{map}
use Rattle.std.specs.List.{flat_map, range_with_len}
use Rattle.std.proofs.lemmas.List.{append-nil, append_assoc}
use Rattle.std.proofs.lemmas.List.Concat.{flat_map-append}
use Rattle.std.proofs.lemmas.List.FromFn.{map-range_with_len_more}
use Rattle.spec_base.specs.Bytes.{big_endian}
use Rattle.spec_exec.specs.Checksum.{checksum}
use Rattle.spec_pcap.specs.Pcap.{Frame, second, header, record_header, record_of}
use Rattle.spec_input.specs.Made.{state, millisecond, subnet_draws, subnets, ports, frame_draws, addressed, ethernet_bytes, frame_bytes, made_frame, frame_of_port, frames_made, trace_of}
use Rattle.trace_gen.specs.declared.packets.Packet.{Packet}
use Rattle.trace_gen.specs.Drawn.{IsPacket, captured_at, bytes_of}
use Rattle.trace_gen.proofs.States.{draw-at}
use Rattle.trace_gen.proofs.Pieces.{after-piece}

module _ (time s c d e p sum : ℕ) (head none words : List ℕ) where
  record-is : head ≡ record_header false time 42 → none ≡ addressed s c d e 0 → sum ≡ checksum none → words ≡ addressed s c d e sum
      → head ++ (ethernet_bytes ++ (flat_map (big_endian 2) words ++ flat_map (big_endian 2) ((1000 + p) ∷ 53 ∷ 8 ∷ 0 ∷ [])))
      ≡ record_of false (record { time = time; bytes = frame_bytes s c d e p })
  record-is is_head is_none is_sum is_words =
      let are = is_words ∙ ap (addressed s c d e) (is_sum ∙ ap checksum is_none) in
      ap (λ head. head ++ (ethernet_bytes ++ (flat_map (big_endian 2) words ++ flat_map (big_endian 2) ((1000 + p) ∷ 53 ∷ 8 ∷ 0 ∷ [])))) is_head
      ∙ ap (λ words. record_header false time 42 ++ (ethernet_bytes ++ (flat_map (big_endian 2) words ++ flat_map (big_endian 2) ((1000 + p) ∷ 53 ∷ 8 ∷ 0 ∷ [])))) are

  pub record-joined : (old a b c' new : List ℕ) → head ≡ record_header false time 42 → none ≡ addressed s c d e 0
      → sum ≡ checksum none → words ≡ addressed s c d e sum → a ≡ old ++ head → b ≡ a ++ ethernet_bytes
      → c' ≡ b ++ flat_map (big_endian 2) words
      → new ≡ c' ++ flat_map (big_endian 2) ((1000 + p) ∷ 53 ∷ 8 ∷ 0 ∷ [])
      → new ≡ old ++ record_of false (record { time = time; bytes = frame_bytes s c d e p })
  record-joined old a b c' new is_head is_none is_sum is_words is_a is_b is_c is_new =
      after-piece old a new head (ethernet_bytes ++ (flat_map (big_endian 2) words ++ flat_map (big_endian 2) ((1000 + p) ∷ 53 ∷ 8 ∷ 0 ∷ []))) is_a
      (after-piece a b new ethernet_bytes (flat_map (big_endian 2) words ++ flat_map (big_endian 2) ((1000 + p) ∷ 53 ∷ 8 ∷ 0 ∷ [])) is_b
      (after-piece b c' new (flat_map (big_endian 2) words) (flat_map (big_endian 2) ((1000 + p) ∷ 53 ∷ 8 ∷ 0 ∷ [])) is_c is_new))
      ∙ ap (λ piece. old ++ piece) (record-is is_head is_none is_sum is_words)

-- the bytes of a frame, by what is drawn
five : (f : ℕ → ℕ → ℕ → ℕ → ℕ → List ℕ) (a b c d e a' b' c' d' e' : ℕ) → a ≡ a' → b ≡ b' → c ≡ c' → d ≡ d' → e ≡ e'
    → f a b c d e ≡ f a' b' c' d' e'
five f a b c d e a' b' c' d' e' is_a is_b is_c is_d is_e =
    ap (λ a. f a b c d e) is_a ∙ (ap (λ b. f a' b c d e) is_b ∙ (ap (λ c. f a' b' c d e) is_c
    ∙ (ap (λ d. f a' b' c' d e) is_d ∙ ap (f a' b' c' d') is_e)))

pub packet-is : (x i s : ℕ) (packet : Packet) → s ≡ state x (subnet_draws * subnets + frame_draws * i) → IsPacket s packet
    → bytes_of packet ≡ (made_frame x i).bytes
packet-is x i s packet at is =
    let m = subnet_draws * subnets + frame_draws * i in
    five frame_bytes _ _ _ _ _ _ _ _ _ _
    (is.0 ∙ ap (λ d. d % 200) (draw-at x m 1 s at)) (is.1.0 ∙ ap (λ d. d % 4) (draw-at x m 2 s at))
    (is.1.1.0 ∙ ap (λ d. d % 16) (draw-at x m 3 s at)) (is.1.1.1.0 ∙ ap (λ d. d % 256) (draw-at x m 4 s at))
    (is.1.1.1.1 ∙ ap (λ d. d % 1000) (draw-at x m 5 s at))

-- ---- traces

pub trace-none : (x port : ℕ) → header false ≡ trace_of x port 0
unfolding trace_of
trace-none x port = sym (append-nil (header false))

records-more : (f : ℕ → Frame) (n : ℕ)
    → flat_map (record_of false) (map f (range_with_len 0 (n + 1))) ≡ flat_map (record_of false) (map f (range_with_len 0 n)) ++ record_of false (f n)
records-more f n =
    let e : 0 + n ≡ n = omega arith in
    ap (flat_map (record_of false)) (map-range_with_len_more f 0 n n e)
    ∙ (flat_map-append (record_of false) (map f (range_with_len 0 n)) (f n ∷ [])
    ∙ ap (λ last. flat_map (record_of false) (map f (range_with_len 0 n)) ++ last) (append-nil (record_of false (f n))))

pub trace-more : (x port n : ℕ) (old new : List ℕ) (frame : Frame) → old ≡ trace_of x port n → new ≡ old ++ record_of false frame
    → frame ≡ frame_of_port x port n → new ≡ trace_of x port (n + 1)
unfolding trace_of
trace-more x port n old new frame was added is =
    let before = flat_map (record_of false) (frames_made x port n) in
    added ∙ (ap (λ old. old ++ record_of false frame) was ∙ (append_assoc (header false) before (record_of false frame)
    ∙ (ap (λ frame. header false ++ (before ++ record_of false frame)) is
    ∙ ap (λ all. header false ++ all) (sym (records-more (frame_of_port x port) n)))))

pub trace-begun : (x port : ℕ) (old head new : List ℕ) → old ≡ [] → head ≡ header false → new ≡ old ++ head → new ≡ trace_of x port 0
trace-begun x port old head new none is added =
    added ∙ (ap (λ old. old ++ head) none ∙ (is ∙ trace-none x port))

pub frame-is : (x port n s time : ℕ) (packet : Packet)
    → s ≡ state x (subnet_draws * subnets + frame_draws * (ports * n + (port - 1))) → IsPacket s packet
    → time ≡ second + (ports * n + (port - 1)) * millisecond → captured_at time packet ≡ frame_of_port x port n
frame-is x port n s time packet at is is_time =
    let i = ports * n + (port - 1) in
    ap (λ time. captured_at time packet) is_time
    ∙ ap (λ bytes. record { time = second + i * millisecond; bytes = bytes }) (packet-is x i s packet at is)
