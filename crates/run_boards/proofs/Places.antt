-- Where blocks of a trace begin and end.
use Rattle.std.proofs.Common.{◌≡◌, ℕ, zero, suc, ◌+◌, ◌-◌, ◌≤◌, refl, ap, arith}
use Rattle.spec_case.specs.Run.{Run, last_version}
use Rattle.spec_case.specs.Blocks.{AreInOrder, hi, last_block, last_place}
use Rattle.run_case.specs.Places.{place_before}
use Rattle.run_case.proofs.blocks.Blocks.{last_place-le}

-- the place before the next block is the last of this one
pub place_before-next : (run : Run) (port block : ℕ) → place_before run port (block + 1) ≡ last_place run port block
place_before-next run port block = let e : block + 1 ≡ suc block = omega arith in rw e refl

-- a block ends no earlier than the block before it
pub place_before-le : (run : Run) (port block : ℕ) → block ≤ last_block run → place_before run port block ≤ last_place run port block
place_before-le run port zero there = omega arith
place_before-le run port (suc block) there = last_place-le run port block (suc block) (omega arith) there

hi_more : (run : Run) (block n : ℕ) → AreInOrder run.syncs (last_version run) → hi run block ≤ hi run (block + n)
hi_more run block zero in_order = let e : block + 0 ≡ block = omega arith in omega (arith, ap (hi run) e)
hi_more run block (suc n) in_order =
    let e : block + suc n ≡ block + n + 1 = omega arith in
    let next = (in_order (block + n)).0 in omega (arith, ap (hi run) e, next, hi_more run block n in_order)

-- a later block has no fewer edits
pub hi-le : (run : Run) (block other : ℕ) → AreInOrder run.syncs (last_version run) → block ≤ other → hi run block ≤ hi run other
hi-le run block other in_order order = let e : block + (other - block) ≡ other = omega (arith, order) in omega (arith, ap (hi run) e, hi_more run block (other - block) in_order)
