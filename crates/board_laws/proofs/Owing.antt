-- What entries owe to a rule, in packets or in bytes.
use Rattle.std.proofs.Common.{◌≡◌, ℕ, ◌+◌, ◌*◌, ◌<◌, ◌==◌, Bool, true, false, not, if◌then◌else◌, List, [], ◌∷◌, ◌++◌, length, map, inl, inr, refl, sym, ap, ap₂, ◌∙◌, subst, arith}
use Rattle.std.proofs.lemmas.Bool.{eqb-true, eqb-false, eq-eqb, ne_eqb}
use Rattle.spec_pcap.specs.Pcap.{Frame}
use Rattle.spec_xlate.specs.Translation.{Translation}
use Rattle.spec_board.specs.State.{Entry, Total}
use Rattle.spec_board.specs.Results.{numbers_of}
use Rattle.spec_board.specs.Effects.{credited, credited_by, is_among, hit_by, revalidated}
use Rattle.table_laws.proofs.MemberLaws.{Among}
use Rattle.spec_board.specs.Counts.{times_visited}
use Rattle.board_laws.proofs.NumberLaws.{Rising, number_among}
use Rattle.board_laws.proofs.Changes.{pay, hit, named, left_by, renewed_by, paid_totals}

-- packets or bytes
pub data Part : Type 0 where
  Packets : Part
  Bytes : Part

abbrev pub pick : Part → ℕ → ℕ → ℕ
pick Packets packets bytes = packets
pick Bytes packets bytes = bytes

abbrev pub part : Part → Total → ℕ
part c t = pick c t.packets t.bytes

abbrev pub owed : Part → Entry → ℕ
owed c e = pick c e.owed_packets e.owed_bytes

-- what a frame counts
abbrev pub unit : Part → Frame → ℕ
unit c frame = pick c 1 (length frame.bytes)

abbrev pub owing_of : Part → ℕ → Entry → ℕ
owing_of c rule e = times_visited rule e.visits * owed c e

abbrev pub owing : Part → ℕ → List Entry → ℕ
owing c rule [] = 0
owing c rule (e ∷ es) = owing_of c rule e + owing c rule es

pub credited_part : (c : Part) (visits : List ℕ) (p b : ℕ) (totals : ℕ → Total) (rule : ℕ)
    → part c (credited visits p b totals rule) ≡ part c (totals rule) + times_visited rule visits * pick c p b
credited_part Packets visits p b totals rule = refl
credited_part Bytes visits p b totals rule = refl

-- an entry that is paid owes nothing
cleared : (c : Part) (rule : ℕ) (e : Entry) → owing_of c rule (record e { owed_packets = 0; owed_bytes = 0 }) ≡ 0
cleared Packets rule e = omega arith
cleared Bytes rule e = omega arith

pub owing_push : (c : Part) (rule : ℕ) (es : List Entry) (e : Entry) → owing_of c rule e ≡ 0 → owing c rule (es ++ e ∷ []) ≡ owing c rule es
owing_push c rule [] e z = omega (arith, z)
owing_push c rule (d ∷ es) e z = ap (λ (n : ℕ). owing_of c rule d + n) (owing_push c rule es e z)

-- ---- paid

pub paid_balance : (c : Part) (rule : ℕ) (numbers : List ℕ) (es : List Entry) (totals : ℕ → Total)
    → part c (paid_totals numbers es totals rule) + owing c rule (map (pay numbers) es) ≡ part c (totals rule) + owing c rule es
unfolding credited_by
paid_balance c rule numbers [] totals = refl
paid_balance c rule numbers (e ∷ es) totals = at (is_among numbers e.number) (paid_balance c rule numbers es)
  where
    at : (t : Bool) → ((ts : ℕ → Total) → part c (paid_totals numbers es ts rule) + owing c rule (map (pay numbers) es) ≡ part c (ts rule) + owing c rule es)
        → part c (credited_by (if t then e ∷ named numbers es else named numbers es) totals rule)
        + (owing_of c rule (if t then record e { owed_packets = 0; owed_bytes = 0 } else e) + owing c rule (map (pay numbers) es))
        ≡ part c (totals rule) + (owing_of c rule e + owing c rule es)
    at true ih =
        let h = ih (credited e.visits e.owed_packets e.owed_bytes totals) in
        let p = credited_part c e.visits e.owed_packets e.owed_bytes totals rule in
        let z = cleared c rule e in
        omega (arith, h, p, z)
    at false ih = let h = ih totals in omega (arith, h)

-- ---- dropped, when paid

pub dropped_owing : (c : Part) (rule : ℕ) (numbers : List ℕ) (es : List Entry)
    → owing c rule (left_by numbers es) ≡ owing c rule (map (pay numbers) es)
dropped_owing c rule numbers [] = refl
dropped_owing c rule numbers (e ∷ es) = at (is_among numbers e.number) refl (dropped_owing c rule numbers es)
  where
    at : (t : Bool) → is_among numbers e.number ≡ t → owing c rule (left_by numbers es) ≡ owing c rule (map (pay numbers) es)
        → owing c rule (if not (is_among numbers (if t then record e { owed_packets = 0; owed_bytes = 0 } else e).number)
        then (if t then record e { owed_packets = 0; owed_bytes = 0 } else e) ∷ left_by numbers es
        else left_by numbers es)
        ≡ owing_of c rule (if t then record e { owed_packets = 0; owed_bytes = 0 } else e) + owing c rule (map (pay numbers) es)
    at true q ih = rw q (let z = cleared c rule e in omega (arith, z, ih))
    at false q ih = rw q (ap (λ (n : ℕ). owing_of c rule e + n) ih)

-- ---- revalidated, when paid

zero_times : (c : Part) (rule : ℕ) (v : ℕ) (t : Translation) (e : Entry) → owing_of c rule (revalidated v t (record e { owed_packets = 0; owed_bytes = 0 })) ≡ 0
zero_times Packets rule v t e = omega arith
zero_times Bytes rule v t e = omega arith

pub renewed_owing : (c : Part) (rule : ℕ) (n v : ℕ) (t : Translation) (es : List Entry)
    → owing c rule (renewed_by n v t es) ≡ owing c rule (map (pay (n ∷ [])) es)
renewed_owing c rule n v t [] = refl
renewed_owing c rule n v t (e ∷ es) = ap₂ (λ (a b : ℕ). a + b) (at (n == e.number) refl (e.number == n) refl) (renewed_owing c rule n v t es)
  where
    at : (p : Bool) → (n == e.number) ≡ p → (q : Bool) → (e.number == n) ≡ q
        → owing_of c rule (if (pay (n ∷ []) e).number == n then revalidated v t (pay (n ∷ []) e) else (pay (n ∷ []) e)) ≡ owing_of c rule (pay (n ∷ []) e)
    at true h true g = rw (h, g) (zero_times c rule v t e ∙ sym (cleared c rule e))
    at true h false g = absurd (eqb-false e.number n g (sym (eqb-true n e.number h)))
    at false h true g = absurd (eqb-false n e.number h (sym (eqb-true e.number n g)))
    at false h false g = rw (h, g) refl

-- ---- hit

hit_gain : (c : Part) (rule : ℕ) (frame : Frame) (e : Entry) → owing_of c rule (hit_by frame e) ≡ owing_of c rule e + times_visited rule e.visits * unit c frame
hit_gain Packets rule frame e = omega arith
hit_gain Bytes rule frame e = omega arith

hit_none : (c : Part) (rule n : ℕ) (frame : Frame) (es : List Entry) → ((m : ℕ) → Among m (numbers_of es) → n < m) → owing c rule (map (hit n frame) es) ≡ owing c rule es
hit_none c rule n frame [] h = refl
hit_none c rule n frame (e ∷ es) h =
    ap₂ (λ (a b : ℕ). a + b)
    (ap (λ (b : Bool). owing_of c rule (if b then hit_by frame e else e)) (ne_eqb e.number n (λ q. let l = h e.number (inl refl) in omega (arith, q, l))))
    (hit_none c rule n frame es (λ m a. h m (inr a)))

pub hit_owing : (c : Part) (rule : ℕ) (frame : Frame) (es : List Entry) (e : Entry) (n : ℕ) → e.number ≡ n → Rising (numbers_of es) → Among e es
    → owing c rule (map (hit n frame) es) ≡ owing c rule es + times_visited rule e.visits * unit c frame
hit_owing c rule frame [] e n is r m = absurd m
hit_owing c rule frame (d ∷ es) e n is r (inl q) =
    let num : d.number ≡ n = ap (λ (x : Entry). x.number) (sym q) ∙ is in
    let first : owing_of c rule (hit n frame d) ≡ owing_of c rule d + times_visited rule e.visits * unit c frame =
    ap (λ (b : Bool). owing_of c rule (if b then hit_by frame d else d)) (eq-eqb d.number n num) ∙ hit_gain c rule frame d
    ∙ ap (λ (x : Entry). owing_of c rule d + times_visited rule x.visits * unit c frame) (sym q) in
    let others = hit_none c rule n frame es (subst (λ (k : ℕ). (m : ℕ) → Among m (numbers_of es) → k < m) num r.0) in
    ap₂ (λ (a b : ℕ). a + b) first others ∙ (omega arith)
hit_owing c rule frame (d ∷ es) e n is r (inr m) =
    let l = r.0 e.number (number_among e es m) in
    ap₂ (λ (a b : ℕ). a + b)
    (ap (λ (b : Bool). owing_of c rule (if b then hit_by frame d else d)) (ne_eqb d.number n (λ q. omega (arith, q, l, is))))
    (hit_owing c rule frame es e n is r.1 m) ∙ (omega arith)
