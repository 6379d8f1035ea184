-- A frame of which only bytes after the type differ: it carries the same.
use Rattle.std.proofs.Common.{◌≡◌, ◌≢◌, ℕ, ◌+◌, ◌*◌, ◌<◌, ◌≤◌, ◌==◌, Bool, true, false, nat_le, List, length, slice_index, refl, ap, arith}
use Rattle.std.proofs.lemmas.Bool.{eqb-true, eqb-false}
use Rattle.spec_base.specs.Bytes.{big_endian_at}
use Rattle.spec_frames.specs.Ethernet.{header_size, tag_size, type_at, inner_at, least_type, no_type, is_snap, is_tag_at, tag_count, tci_at, carried_by, carried}
use Rattle.frame_laws.proofs.HeaderLaws.{carried-IsTyped}
use Rattle.exec_laws.proofs.Within.{count_of}
use Rattle.exec_laws.proofs.Replacing.{number-same}
use Rattle.exec_laws.proofs.Addresses.{shown_tags}

module _ (a b : List ℕ) (lo : ℕ) (sized : length b ≡ length a) (same : (i : ℕ) → i < lo → slice_index b i ≡ slice_index a i) where
  pub number-kept : (n at : ℕ) → at + n ≤ lo → big_endian_at n b at ≡ big_endian_at n a at
  number-kept n at l = number-same a b n at (λ i m k. same i (omega arith))

  snap-kept : (at : ℕ) → at + 6 + 2 ≤ lo → is_snap b at ≡ is_snap a at
  snap-kept at l = rw (sized, number-kept 6 at (omega arith), number-kept 2 (at + 6) l) refl

  carried_by-kept : (at : ℕ) → (carried_by a at).dl_type ≢ no_type → (carried_by a at).at ≤ lo → at + 2 ≤ lo → carried_by b at ≡ carried_by a at
  unfolding carried_by
  carried_by-kept at some after l = by (nat_le least_type (big_endian_at 2 a at)) (is_snap a (at + 2)) refl refl
    where
      by : (t u : Bool) → nat_le least_type (big_endian_at 2 a at) ≡ t → is_snap a (at + 2) ≡ u → carried_by b at ≡ carried_by a at
      by true u e f = rw (number-kept 2 at l, e) refl
      by false true e f =
          let ends : (carried_by a at).at ≡ at + 2 + 6 + 2 = rw (e, f) refl in
          let within : at + 2 + 6 + 2 ≤ lo = omega (arith, ends, after) in
          rw (number-kept 2 at l, snap-kept (at + 2) within, number-kept 2 (at + 2 + 6) within, e, f) refl
      by false false e f = absurd (some (rw (e, f) refl))

  -- the type of a frame stands after its tags, the last of which is followed by two bytes
  tag_at-kept : (at : ℕ) → at + 2 ≤ lo → is_tag_at b at ≡ is_tag_at a at
  unfolding is_tag_at
  tag_at-kept at l = rw (sized, number-kept 2 at l) refl

  module _ (after : (carried a).at ≤ lo) (whole : header_size ≤ lo) where
    begins : header_size + tag_count a * tag_size ≤ lo
    begins = omega (arith, (carried-IsTyped a).begins, after)

    pub count-kept : tag_count b ≡ tag_count a
    unfolding tag_count
    count-kept = rw (tag_at-kept 12 whole) (by (is_tag_at a type_at) begins)
      where
        by : (t : Bool) → header_size + count_of t (is_tag_at a inner_at) * tag_size ≤ lo → count_of t (is_tag_at b inner_at) ≡ count_of t (is_tag_at a inner_at)
        by true l = ap (count_of true) (tag_at-kept 16 (within (is_tag_at a inner_at) l))
          where
            within : (u : Bool) → header_size + count_of true u * tag_size ≤ lo → 18 ≤ lo
            within true l = omega arith
            within false l = omega arith
        by false l = refl

    pub carried-kept : (carried a).dl_type ≢ no_type → carried b ≡ carried a
    unfolding carried
    carried-kept some = rw count-kept (carried_by-kept (type_at + tag_count a * tag_size) some after (omega (arith, begins)))

    pub tags-kept : shown_tags b ≡ shown_tags a
    unfolding tci_at
    tags-kept = by (tag_count a == 0) refl (tag_count a == 1) refl
      where
        by : (n : Bool) → (tag_count a == 0) ≡ n → (o : Bool) → (tag_count a == 1) ≡ o → shown_tags b ≡ shown_tags a
        by true e o f = rw (count-kept, e) refl
        by false e true f =
            let one = eqb-true (tag_count a) 1 f in
            rw (count-kept, e, f, number-kept 2 12 (omega arith), number-kept 2 14 (omega (arith, one, begins))) refl
        by false e false f =
            let some = eqb-false (tag_count a) 0 e in
            let more = eqb-false (tag_count a) 1 f in
            let far : 22 ≤ lo = omega (arith, some, more, begins) in
            rw (
              count-kept,
              number-kept 2 12 (omega arith),
              number-kept 2 14 (omega arith),
              number-kept 2 16 (omega arith),
              number-kept 2 18 (omega arith),
            ) refl
