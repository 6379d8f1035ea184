-- The chain of extension headers, from the outside to the inside.
use Rattle.std.proofs.Common.{◌≡◌, ◌≢◌, ℕ, zero, suc, ◌+◌, ◌≤◌, ◌==◌, true, false, ◌||◌, List, slice_index, Option, Some, None, refl}
use Rattle.std.proofs.lemmas.Bool.{leb-true, and_parts}
use Rattle.std.proofs.Math.Bool.{or_assoc, or-false}
use Rattle.std.specs.Option.{option_map}
use Rattle.spec_frames.specs.declared.headers.UpperLayer.{UpperLayer}
use Rattle.spec_frames.specs.declared.headers.Fragment.{Fragment}
use Rattle.spec_frames.specs.declared.headers.Fragment.TheVariants.{Whole, First, Later}
use Rattle.spec_frames.specs.Ipv6.{routing, is_extension, extension_size, is_present, fragment, reached, and_after, after_extension, upper_layer}

-- what an upper layer is after the headers that were passed
abbrev pub after : UpperLayer → UpperLayer → UpperLayer
after passed upper = record upper {
  fragment = and_after passed.fragment upper.fragment;
  routed = passed.routed || upper.routed;
}

-- the upper layer after those that were passed and at most so many others
abbrev pub rest : UpperLayer → ℕ → List ℕ → ℕ → Option UpperLayer
rest passed room frame end = option_map (after passed) (upper_layer room frame end passed.protocol passed.at)

-- the headers that were passed, with one more
abbrev pub passed_with : UpperLayer → List ℕ → Fragment → UpperLayer
passed_with passed frame part = record {
  protocol = slice_index frame passed.at;
  at = passed.at + extension_size passed.protocol frame passed.at;
  fragment = and_after passed.fragment part;
  routed = passed.routed || (passed.protocol == routing);
}

pub is_present-within : (number : ℕ) (frame : List ℕ) (end at : ℕ) → is_present number frame end at ≡ true → at + extension_size number frame at ≤ end
is_present-within number frame end at present = leb-true _ _ (and_parts _ _ present).1

pub rest-start : (number at room : ℕ) (frame : List ℕ) (end : ℕ) → rest (reached number at Whole) room frame end ≡ upper_layer room frame end number at
rest-start number at room frame end = same (upper_layer room frame end number at)
  where
    same : (upper : Option UpperLayer) → option_map (after (reached number at Whole)) upper ≡ upper
    same (Some upper) = refl
    same None = refl

-- a first fragment stays one over several headers, of which none but the last may be of a later fragment
and_after-assoc : (a b c : Fragment) → b ≢ Later → and_after a (and_after b c) ≡ and_after (and_after a b) c
and_after-assoc Whole b c not_later = refl
and_after-assoc Later b c not_later = refl
and_after-assoc First Whole c not_later = refl
and_after-assoc First First Whole not_later = refl
and_after-assoc First First First not_later = refl
and_after-assoc First First Later not_later = refl
and_after-assoc First Later c not_later = absurd (not_later refl)

pub and_after-whole : (a b : Fragment) → b ≢ Later → and_after (and_after a b) Whole ≡ and_after a b
and_after-whole Whole Whole not_later = refl
and_after-whole Whole First not_later = refl
and_after-whole First Whole not_later = refl
and_after-whole First First not_later = refl
and_after-whole Later Whole not_later = refl
and_after-whole Later First not_later = refl
and_after-whole a Later not_later = absurd (not_later refl)

and_after-later : (a : Fragment) → and_after a Later ≡ Later
and_after-later Whole = refl
and_after-later First = refl
and_after-later Later = refl

pub rest-end : (passed : UpperLayer) (room : ℕ) (frame : List ℕ) (end : ℕ) → is_extension passed.protocol ≡ false → and_after passed.fragment Whole ≡ passed.fragment → rest passed room frame end ≡ Some passed
unfolding upper_layer
rest-end passed zero frame end none not_later = rw (none, not_later, or-false)
rest-end passed (suc room) frame end none not_later = rw (none, not_later, or-false)

pub rest-no_room : (passed : UpperLayer) (frame : List ℕ) (end : ℕ) → is_extension passed.protocol ≡ true → rest passed 0 frame end ≡ None
unfolding upper_layer
rest-no_room passed frame end one = rw one refl

pub rest-absent : (passed : UpperLayer) (room : ℕ) (frame : List ℕ) (end : ℕ) → is_extension passed.protocol ≡ true → is_present passed.protocol frame end passed.at ≡ false → rest passed room frame end ≡ None
unfolding upper_layer
rest-absent passed zero frame end one absent = rw one refl
rest-absent passed (suc room) frame end one absent = rw (one, absent) refl

pub rest-later : (passed : UpperLayer) (room : ℕ) (frame : List ℕ) (end : ℕ) → is_extension passed.protocol ≡ true → is_present passed.protocol frame end passed.at ≡ true →
    fragment passed.protocol frame passed.at ≡ Later →
    rest passed (suc room) frame end ≡ Some (record passed { at = passed.at + extension_size passed.protocol frame passed.at; fragment = Later })
unfolding upper_layer
rest-later passed room frame end one present later = rw (one, present, later, and_after-later passed.fragment, or-false)

over_one_more : (passed : UpperLayer) (frame : List ℕ) (part : Fragment) (upper : Option UpperLayer) → part ≢ Later →
    option_map (after passed) (option_map (after_extension passed.protocol part) upper) ≡ option_map (after (passed_with passed frame part)) upper
over_one_more passed frame part None not_later = refl
over_one_more passed frame part (Some upper) not_later = rw (and_after-assoc passed.fragment part upper.fragment not_later, or_assoc passed.routed (passed.protocol == routing) upper.routed)

pub rest-passed : (passed : UpperLayer) (room : ℕ) (frame : List ℕ) (end : ℕ) (part : Fragment) → is_extension passed.protocol ≡ true → is_present passed.protocol frame end passed.at ≡ true →
    fragment passed.protocol frame passed.at ≡ part → part ≢ Later →
    rest passed (suc room) frame end ≡ rest (passed_with passed frame part) room frame end
unfolding upper_layer
rest-passed passed room frame end Later one present is_part not_later = absurd (not_later refl)
rest-passed passed room frame end Whole one present is_part not_later =
    rw (one, present, is_part) (over_one_more passed frame Whole _ not_later)
rest-passed passed room frame end First one present is_part not_later =
    rw (one, present, is_part) (over_one_more passed frame First _ not_later)
