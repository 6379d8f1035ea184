-- What it tells that nothing refuses a step.
use Rattle.std.proofs.Common.{◌≡◌, ℕ, suc, ◌+◌, ◌<◌, ◌≤◌, ◌==◌, Bool, true, false, not, nat_lt, nat_le, if◌then◌else◌, length, Option, Some, None, refl, arith}
use Rattle.std.proofs.lemmas.Bool.{ltb-false, leb-true, leb-false, not-false, eqb-true, and_parts}
use Rattle.spec_case.specs.Run.{Run}
use Rattle.spec_case.specs.Blocks.{hi, lo, last_block, last_place, block_of}
use Rattle.spec_board.specs.State.{State, place_at, is_pending, pending_count}
use Rattle.spec_board.specs.Effects.{is_among}
use Rattle.spec_board.specs.Refusals.{is_next_block, open_fault, look_fault, settle_fault, begin_fault, put_fault, end_fault}

-- where a first cause isn't the answer, it doesn't hold
pub passes : {F : Type 0} (t : Bool) (f : F) (others : Option F) → (if t then Some f else others) ≡ None → (t ≡ false) × (others ≡ None)
passes true f others h = absurd (cc h)
passes false f others h = (refl, h)

pub record MaySettle (run : Run) (s : State) (place v : ℕ) : Type 0 where
  pub pending : is_pending (place_at place s) ≡ true
  pub not_stale : s.floor ≤ v
  pub not_ahead : v ≤ hi run s.block

pub may_settle : (run : Run) (s : State) (place v : ℕ) → settle_fault run s place v ≡ None → MaySettle run s place v
may_settle run s place v h =
    let a = passes (not (is_pending (place_at place s))) _ _ h in
    let b = passes (nat_lt v s.floor) _ _ a.1 in
    let c = passes (nat_lt (hi run s.block) v) _ _ b.1 in
    record { pending = not-false _ a.0; not_stale = ltb-false v s.floor b.0; not_ahead = ltb-false (hi run s.block) v c.0 }

pub may_look : (run : Run) (port : ℕ) (s : State) (place : ℕ) → look_fault run port s place ≡ None → (place ≡ s.next) × (block_of run port place ≡ s.block)
may_look run port s place h =
    let a = passes (not (place == s.next)) _ _ h in
    let b = passes (not (block_of run port place == s.block)) _ _ a.1 in
    (eqb-true place s.next (not-false _ a.0), eqb-true (block_of run port place) s.block (not-false _ b.0))

pub may_begin : (run : Run) (s : State) (v : ℕ) → begin_fault run s v ≡ None → (s.is_sweeping ≡ false) × (v ≤ hi run s.block)
may_begin run s v h =
    let a = passes s.is_sweeping _ _ h in
    let b = passes (nat_lt (hi run s.block) v) _ _ a.1 in
    (a.0, ltb-false (hi run s.block) v b.0)

pub record MayOpen (run : Run) (port : ℕ) (s : State) (block : ℕ) : Type 0 where
  pub next : block ≡ s.block + 1
  pub there : block ≤ last_block run
  pub looked : last_place run port s.block < s.next
  pub none_pending : pending_count s ≡ 0
  pub swept : lo run block ≤ s.done

pub may_open : (run : Run) (port : ℕ) (s : State) (block : ℕ) → open_fault run port s block ≡ None → MayOpen run port s block
may_open run port s block h =
    let a = passes (not (is_next_block run s block)) _ _ h in
    let both = and_parts (block == s.block + 1) (nat_le block (last_block run)) (not-false _ a.0) in
    let b = passes (nat_le s.next (last_place run port s.block)) _ _ a.1 in
    let c = passes (not (pending_count s == 0)) _ _ b.1 in
    let d = passes (nat_lt s.done (lo run block)) _ _ c.1 in
    record {
      next = eqb-true block (s.block + 1) both.0;
      there = leb-true block (last_block run) both.1;
      looked = leb-false s.next (last_place run port s.block) b.0;
      none_pending = eqb-true (pending_count s) 0 (not-false _ c.0);
      swept = ltb-false s.done (lo run block) d.0;
    }

-- the bundles before the next block are those through this one
pub lo_next : (run : Run) (block next : ℕ) → next ≡ block + 1 → lo run next ≡ hi run block
lo_next run block next is = let e : next ≡ suc block = omega (arith, is) in rw e refl

pub may_end : (s : State) → end_fault s ≡ None → (s.is_sweeping ≡ true) × (length s.listed ≡ 0)
may_end s h =
    let a = passes (not s.is_sweeping) _ _ h in
    let b = passes (not (length s.listed == 0)) _ _ a.1 in
    (not-false _ a.0, eqb-true (length s.listed) 0 (not-false _ b.0))

pub record MayPut (run : Run) (s : State) (number v : ℕ) : Type 0 where
  pub listed : is_among s.listed number ≡ true
  pub not_stale : s.floor ≤ v
  pub not_ahead : v ≤ hi run s.block

pub may_put : (run : Run) (s : State) (number v : ℕ) → put_fault run s number v ≡ None → MayPut run s number v
may_put run s number v h =
    let a = passes (not (is_among s.listed number)) _ _ h in
    let b = passes (nat_lt v s.floor) _ _ a.1 in
    let c = passes (nat_lt (hi run s.block) v) _ _ b.1 in
    record { listed = not-false _ a.0; not_stale = ltb-false v s.floor b.0; not_ahead = ltb-false (hi run s.block) v c.0 }
