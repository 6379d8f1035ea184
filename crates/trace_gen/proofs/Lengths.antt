-- How long the edits and the traces are, at most.
use Rattle.std.proofs.Common.{◌≡◌, ℕ, ◌+◌, ◌*◌, ◌%◌, ◌<◌, ◌≤◌, List, [], ◌∷◌, ◌++◌, length, false, refl, ap, ◌∙◌, arith}
use Rattle.std.specs.Prelude.{map, codes}
use Rattle.std.specs.Fmt.{decimal}
use Rattle.std.specs.List.{flat_map, range_with_len}
use Rattle.std.proofs.lemmas.Fmt.{length-decimal-le}
use Rattle.std.proofs.lemmas.List.{length-append}
use Rattle.std.proofs.lemmas.List.Concat.{length-flat_map}
use Rattle.std.proofs.lemmas.List.Sums.{sum_by-le}
use Rattle.std.proofs.lemmas.List.Folds.{flat_map-map}
use Rattle.std.proofs.lemmas.List.FromFn.{get_or-range_with_len, length-range_with_len}
use Rattle.spec_pcap.specs.Pcap.{header, record_header, record_of}
use Rattle.spec_input.specs.Made.{draw, subnet_draws, subnet_rule, subnet_line, subnet_lines, subnets, register_line, register_lines, register_values, ports, edits_made, frame_of_port, frames_of_port, trace_of, trace_made, traces_made}
use Rattle.trace_gen.specs.declared.made.MadeTrace.{MadeTrace}
use Rattle.trace_gen.specs.Made.{trace_view, most_edit_bytes, most_trace_bytes, bytes_of_all}

pieces-short : (f : ℕ → List ℕ) (most n : ℕ) → ((i : ℕ) → i < n → length (f i) ≤ most)
    → length (flat_map f (range_with_len 0 n)) ≤ n * most
pieces-short f most n each =
    let all = range_with_len 0 n in
    let len : length all ≡ n = length-range_with_len 0 n in
    let total = sum_by-le (λ x. length (f x)) most all
    (λ k d within.
    let inside : k < n = omega (arith, len, within) in
    let e : 0 + k ≡ k = omega arith in
    rw (get_or-range_with_len 0 n k d inside ∙ e) (each k inside)) in
    rw (length-flat_map f all) (rw len at total)

decimal-short : (n : ℕ) → n < 1000 → length (decimal n) ≤ 3
decimal-short n small = length-decimal-le 3 n (omega arith) small (omega arith)

rule-short : (i a b k : ℕ) → i < 64 → a < 4 → b < 16 → k < 16 → length (subnet_rule i a b k) ≤ 100
rule-short i a b k is_i is_a is_b is_k =
    let of_i = decimal-short (100 + i) (omega arith) in
    let of_a = decimal-short a (omega arith) in
    let of_b = decimal-short b (omega arith) in
    let of_k = decimal-short k (omega arith) in
    lengths (codes "table=0,priority=") (decimal (100 + i)) (codes ",ip,nw_dst=10.") (decimal a) (codes ".") (decimal b)
    (codes ".0/24,actions=load:") (decimal k) (codes "->reg0[],resubmit(,1)\n") of_i of_a of_b of_k (omega arith)
  where
    lengths : (p i q a r b s k t : List ℕ) → length i ≤ 3 → length a ≤ 3 → length b ≤ 3 → length k ≤ 3
        → length p + length q + length r + length s + length t ≤ 88
        → length (p ++ (i ++ (q ++ (a ++ (r ++ (b ++ (s ++ (k ++ t)))))))) ≤ 100
    lengths p i q a r b s k t of_i of_a of_b of_k rest =
        rw (
          length-append p (i ++ (q ++ (a ++ (r ++ (b ++ (s ++ (k ++ t))))))),
          length-append i (q ++ (a ++ (r ++ (b ++ (s ++ (k ++ t)))))),
          length-append q (a ++ (r ++ (b ++ (s ++ (k ++ t))))),
          length-append a (r ++ (b ++ (s ++ (k ++ t)))),
          length-append r (b ++ (s ++ (k ++ t))),
          length-append b (s ++ (k ++ t)),
          length-append s (k ++ t),
          length-append k t,
        )
        (omega arith)

register-short : (k : ℕ) → k < 16 → length (register_line k) ≤ 100
register-short k is_k =
    lengths (codes "table=1,priority=10,udp,reg0=") (decimal k) (codes ",actions=output:") (decimal (k % ports + 1)) (codes "\n")
    (decimal-short k (omega arith)) (decimal-short (k % ports + 1) (omega arith)) (omega arith)
  where
    lengths : (p a q b r : List ℕ) → length a ≤ 3 → length b ≤ 3 → length p + length q + length r ≤ 94
        → length (p ++ (a ++ (q ++ (b ++ r)))) ≤ 100
    lengths p a q b r of_a of_b rest =
        rw (length-append p (a ++ (q ++ (b ++ r))), length-append a (q ++ (b ++ r)), length-append q (b ++ r), length-append b r)
        (omega arith)

subnets-short : (x n : ℕ) → n ≤ 64 → length (subnet_lines x n) ≤ n * 100
unfolding subnet_lines
subnets-short x n few =
    pieces-short (subnet_line x) 100 n (λ i within. rule-short i (draw x (subnet_draws * i + 1) % 4) (draw x (subnet_draws * i + 2) % 16)
    (draw x (subnet_draws * i + 3) % 16) (omega arith) (omega arith) (omega arith) (omega arith))

registers-short : (n : ℕ) → n ≤ 16 → length (register_lines n) ≤ n * 100
unfolding register_lines
registers-short n few = pieces-short register_line 100 n (λ i within. register-short i (omega arith))

pub edits-short : (x : ℕ) (edits : List ℕ) → edits ≡ edits_made x → length edits ≤ most_edit_bytes
edits-short x edits is =
    rw is (together (subnet_lines x subnets) (register_lines register_values) (codes "table=0,priority=0,actions=drop\nsync 0\n")
    (subnets-short x subnets (omega arith)) (registers-short register_values (omega arith)) (omega arith))
  where
    together : (a b c : List ℕ) → length a ≤ 64 * 100 → length b ≤ 16 * 100 → length c ≤ 100 → length (a ++ (b ++ c)) ≤ 33554432
    together a b c of_a of_b of_c = rw (length-append a (b ++ c), length-append b c) (omega arith)

-- ---- traces

record-length : (t : ℕ) → length (record_header false t 42) ≡ 16
unfolding record_header
record-length t = refl

header-length : length (header false) ≡ 24
unfolding header
header-length = refl

frame-length : (x port i : ℕ) → length (record_of false (frame_of_port x port i)) ≤ 58
frame-length x port i =
    let frame = frame_of_port x port i in
    rw (length-append (record_header false frame.time 42) frame.bytes, record-length frame.time) (omega arith)

trace-short : (x port n : ℕ) → length (trace_of x port n) ≤ 24 + n * 58
unfolding trace_of
trace-short x port n =
    let of_frame : ℕ → List ℕ = λ i. record_of false (frame_of_port x port i) in
    rw (
      flat_map-map (record_of false) (frame_of_port x port) (range_with_len 0 n),
      length-append (header false) (flat_map of_frame (range_with_len 0 n)),
      header-length,
    )
    (omega (arith, pieces-short of_frame 58 n (λ i within. frame-length x port i)))

pub traces-short : (x : ℕ) (traces : List (ℕ × List ℕ)) → traces ≡ traces_made x → bytes_of_all traces ≤ most_trace_bytes
traces-short x traces is =
    rw is (four (trace_made x 1) (trace_made x 2) (trace_made x 3) (trace_made x 4) (trace-short x 1 frames_of_port)
    (trace-short x 2 frames_of_port) (trace-short x 3 frames_of_port) (trace-short x 4 frames_of_port))
  where
    four : (a b c d : List ℕ) → length a ≤ 290024 → length b ≤ 290024 → length c ≤ 290024 → length d ≤ 290024
        → bytes_of_all ((1, a) ∷ (2, b) ∷ (3, c) ∷ (4, d) ∷ []) ≤ 268435456
    four a b c d of_a of_b of_c of_d = omega arith

ports-of : (traces : List MadeTrace) → map (λ trace. trace.port) traces ≡ map (λ trace. trace.0) (map trace_view traces)
ports-of [] = refl
ports-of (trace ∷ traces) = ap (λ ports. trace.port ∷ ports) (ports-of traces)

pub ports-are : (x : ℕ) (traces : List MadeTrace) → map trace_view traces ≡ traces_made x
    → map (λ trace. trace.port) traces ≡ 1 ∷ 2 ∷ 3 ∷ 4 ∷ []
ports-are x traces is = ports-of traces ∙ ap (map (λ trace. trace.0)) is
