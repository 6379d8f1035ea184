-- Filters that are passed over since they lack the bit of a port, several at once, and what is written of their arrivals.
use Rattle.std.proofs.Common.{◌≡◌, ℕ, zero, suc, ◌<◌, ◌≤◌, ◌+◌, ◌-◌, ◌^◌, bit_or, bit_and, List, [], ◌++◌, length, get_or, take, drop, refl, sym, ap, ap₂, ◌∙◌, arith}
use Rattle.std.specs.Prelude.{min}
use Rattle.std.specs.Int.{bit_at}
use Rattle.std.specs.List.{flat_map}
use Rattle.std.proofs.lemmas.Grind.{flat_map-append}
use Rattle.std.proofs.lemmas.List.{append-nil, flat_map_more, get_or-drop, get_or-take, length-drop, length-take}
use Rattle.std.proofs.lemmas.Nat.Bits.{bit_at_and, bit_at_or, bit_at-zero, bit_at-pow_same}
use Rattle.std.proofs.Math.Seq.{take-suc}
use Rattle.spec_pcap.specs.Pcap.{Frame}
use Rattle.spec_case.specs.declared.arrival.Arrival.{Arrival}
use Rattle.spec_case.specs.Run.{Run}
use Rattle.spec_board.specs.Texts.{Journal}
use Rattle.spec_run.specs.Outputs.{sent_to}
use Rattle.egress_capture.specs.declared.port_filter.PortFilter.{PortFilter}
use Rattle.egress_capture.specs.Filters.{AreFilters, LackBit}
use Rattle.egress_capture.proofs.Batches.{batch_more}
use Rattle.egress_capture.proofs.Filters.{neither}
use Rattle.egress_capture.proofs.Skipped.{unsent}

-- ---- bits

-- bits of which a mask of one bit leaves none
pub absent_in : (bits mask n : ℕ) → mask ≡ 2 ^ n → bit_and bits mask ≡ 0 → bit_at bits n ≡ 0
absent_in bits mask n is none =
    let both : min (bit_at bits n) (bit_at mask n) ≡ 0 =
    sym (bit_at_and bits mask n) ∙ ap (λ (m : ℕ). bit_at m n) none ∙ bit_at-zero n in
    let one : bit_at mask n ≡ 1 = rw is (bit_at-pow_same n) in
    omega (arith, both, one)

-- bits joined of two numbers
pub in_neither : (a b n : ℕ) → bit_at (bit_or a b) n ≡ 0 → (bit_at a n ≡ 0) × (bit_at b n ≡ 0)
in_neither a b n absent = neither _ _ (sym (bit_at_or a b n) ∙ absent)

-- ---- a piece of a list

-- what stands at a place of a piece of a list
module _ {X : Type 0} (xs : List X) (at size k : ℕ) (d : X) (within : at + size ≤ length xs) (from : at ≤ k) (to : k < at + size) where
  abbrev piece : List X
  piece = take (at + size - at) (drop at xs)

  pub piece-within : k - at < length piece
  piece-within = omega (arith, length-take (at + size - at) (drop at xs), length-drop at xs, within, from, to)

  pub piece-at : get_or piece (k - at) d ≡ get_or xs k d
  piece-at =
      let back : at + (k - at) ≡ k = omega (arith, from) in
      get_or-take (at + size - at) (drop at xs) (k - at) d (omega (arith, from, to)) ∙ get_or-drop at xs (k - at) d
      ∙ ap (λ (i : ℕ). get_or xs i d) back

-- ---- arrivals

module _ (run : Run) (journals : List Journal) (filters : List PortFilter) (port : ℕ) (bytes_of : Frame → List ℕ) (came : List Arrival)
    (a : Arrival) (f : PortFilter) (are : AreFilters run journals came filters) where
  abbrev pieces : Arrival → List Frame
  pieces = sent_to run journals port

  -- nothing is written of those that lack the bit
  unsent_several : (at n : ℕ) → at + n ≤ length came → LackBit filters port at (at + n)
      → flat_map bytes_of (flat_map pieces (take n (drop at came))) ≡ []
  unsent_several at zero within lack = refl
  unsent_several at (suc n) within lack =
      let left = length-drop at came in
      let some = take n (drop at came) in
      let here = get_or (drop at came) n a in
      let before : flat_map bytes_of (flat_map pieces some) ≡ [] =
      unsent_several at n (omega (arith, within)) (λ k g from lt. lack k g from (omega (arith, lt))) in
      let last : flat_map bytes_of (pieces here) ≡ [] =
      ap (λ (x : Arrival). flat_map bytes_of (pieces x)) (get_or-drop at came n a)
      ∙ ap (flat_map bytes_of) (unsent run journals filters port came (at + n) a f are (omega (arith, within)) (lack (at + n) f (omega arith) (omega arith))) in
      ap (λ (xs : List Arrival). flat_map bytes_of (flat_map pieces xs)) (take-suc (drop at came) n a (omega (arith, left, within)))
      ∙ ap (flat_map bytes_of) (sym (flat_map_more pieces [] some here))
      ∙ flat_map-append bytes_of (flat_map pieces some) (pieces here)
      ∙ ap₂ (λ (x y : List ℕ). x ++ y) before last

  -- so a file is the same before them and after
  pub same_file : (header : List ℕ) (from to : ℕ) → from ≤ to → to ≤ length came → LackBit filters port from to
      → header ++ flat_map bytes_of (flat_map pieces (take to came)) ≡ header ++ flat_map bytes_of (flat_map pieces (take from came))
  same_file header from to order within lack =
      let n = to - from in
      let all : from + n ≡ to = omega (arith, order) in
      let none : flat_map bytes_of (flat_map pieces (take n (drop from came))) ≡ [] =
      unsent_several from n (omega (arith, all, within)) (λ k g after lt. lack k g after (omega (arith, all, lt))) in
      ap (λ (k : ℕ). header ++ flat_map bytes_of (flat_map pieces (take k came))) (sym all)
      ∙ batch_more pieces bytes_of header came from n
      ∙ ap (λ (b : List ℕ). header ++ flat_map bytes_of (flat_map pieces (take from came)) ++ b) none
      ∙ append-nil (header ++ flat_map bytes_of (flat_map pieces (take from came)))
