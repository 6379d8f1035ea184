-- The numbers that `byteorder` reads after an offset are those at the offset.
use Rattle.std.proofs.Common.{◌≡◌, ℕ, zero, suc, ◌+◌, ◌-◌, List, length, take, drop, refl, sym, ap, ◌∙◌, arith, length-drop}
use Rattle.std.proofs.lemmas.List.{get_or-drop, take_all}
use Rattle.byteorder.specs.Endian.{big_from, big_number, little_from, little_number}
use Rattle.spec_base.specs.Bytes.{big_endian_at, little_endian_at}

module _ (bytes : List ℕ) (at : ℕ) where
  -- the bytes from the offset on, as a slice of them is passed
  abbrev rest : List ℕ
  rest = take (length bytes - at) (drop at bytes)

  rest-drop : rest ≡ drop at bytes
  rest-drop = take_all (length bytes - at) (drop at bytes) (omega (arith, length-drop at bytes))

  big_endian_from : (n i : ℕ) → big_endian_at n bytes (at + i) ≡ big_from i n (drop at bytes)
  unfolding big_endian_at
  big_endian_from zero i = refl
  big_endian_from (suc n) i =
      let next : at + i + 1 ≡ at + suc i = omega arith in
      rw (get_or-drop at bytes i 0, ap (big_endian_at n bytes) next, big_endian_from n (suc i)) refl

  little_endian_from : (n i : ℕ) → little_endian_at n bytes (at + i) ≡ little_from i n (drop at bytes)
  unfolding little_endian_at
  little_endian_from zero i = refl
  little_endian_from (suc n) i =
      let next : at + i + 1 ≡ at + suc i = omega arith in
      rw (get_or-drop at bytes i 0, ap (little_endian_at n bytes) next, little_endian_from n (suc i)) refl

  here : at ≡ at + 0
  here = omega arith

  pub big_endian_read : (n : ℕ) → big_endian_at n bytes at ≡ big_number n rest
  big_endian_read n = ap (big_endian_at n bytes) here ∙ big_endian_from n 0 ∙ ap (big_number n) (sym rest-drop)

  pub little_endian_read : (n : ℕ) → little_endian_at n bytes at ≡ little_number n rest
  little_endian_read n = ap (little_endian_at n bytes) here ∙ little_endian_from n 0 ∙ ap (little_number n) (sym rest-drop)
