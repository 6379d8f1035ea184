-- The copies of frames, and what is written of them.
use Rattle.std.proofs.Common.{◌≡◌, ◌+◌, ◌≤◌, Bool, List, [], ◌∷◌, ◌++◌, Option, Some, None, length, refl, ap, ◌∙◌, arith}
use Rattle.std.specs.List.{cons_option, filter_map, flat_map}
use Rattle.spec_pcap.specs.Pcap.{Frame, record_of}
use Rattle.egress_capture.specs.Sending.{record_if}

-- there are no more copies than frames
pub few : {X : Type 0} (copied : X → Option Frame) (xs : List X) → length (filter_map copied xs) ≤ length xs
few copied [] = omega arith
few copied (x ∷ xs) = omega (arith, at_most_one (copied x) (filter_map copied xs), few copied xs)
  where
    at_most_one : (first : Option Frame) (others : List Frame) → length (cons_option first others) ≤ length others + 1
    at_most_one None others = omega arith
    at_most_one (Some frame) others = omega arith

one_more : (nanos : Bool) (first : Option Frame) (others : List Frame)
    → flat_map (record_of nanos) (cons_option first others) ≡ record_if nanos first ++ flat_map (record_of nanos) others
one_more nanos None others = refl
one_more nanos (Some frame) others = refl

-- their records are those of each in turn, where it has one
pub records : {X : Type 0} (nanos : Bool) (copied : X → Option Frame) (xs : List X)
    → flat_map (record_of nanos) (filter_map copied xs) ≡ flat_map (λ x. record_if nanos (copied x)) xs
records nanos copied [] = refl
records nanos copied (x ∷ xs) =
    one_more nanos (copied x) (filter_map copied xs) ∙ ap (λ ys. record_if nanos (copied x) ++ ys) (records nanos copied xs)
