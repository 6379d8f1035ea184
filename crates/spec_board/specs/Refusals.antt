-- What refuses a step. Where several causes stand together the first that is written decides.
use Rattle.std.specs.Prelude.{ℕ, ◌+◌, ◌==◌, nat_le, nat_lt, Bool, not, ◌&&◌, if◌then◌else◌, length, Option, Some, None}
use Rattle.std.specs.List.{list_any}
use Rattle.spec_case.specs.Run.{Run}
use Rattle.spec_case.specs.Blocks.{last_block, lo, hi, last_place, block_of}
use Rattle.spec_board.specs.declared.faults.OpenFault.{OpenFault}
use Rattle.spec_board.specs.declared.faults.OpenFault.TheVariants as open_faults
use Rattle.spec_board.specs.declared.faults.LookFault.{LookFault}
use Rattle.spec_board.specs.declared.faults.LookFault.TheVariants as look_faults
use Rattle.spec_board.specs.declared.faults.SettleFault.{SettleFault}
use Rattle.spec_board.specs.declared.faults.SettleFault.TheVariants as settle_faults
use Rattle.spec_board.specs.declared.faults.BeginFault.{BeginFault}
use Rattle.spec_board.specs.declared.faults.BeginFault.TheVariants as begin_faults
use Rattle.spec_board.specs.declared.faults.PutFault.{PutFault}
use Rattle.spec_board.specs.declared.faults.PutFault.TheVariants as put_faults
use Rattle.spec_board.specs.declared.faults.EndFault.{EndFault}
use Rattle.spec_board.specs.declared.faults.EndFault.TheVariants as end_faults
use Rattle.spec_board.specs.State.{State, place_at, is_pending, pending_count}

-- whether a block is the one after the board's, and one of the run
abbrev pub is_next_block : Run → State → ℕ → Bool
is_next_block run s block = (block == s.block + 1) && nat_le block (last_block run)

abbrev pub open_fault : Run → ℕ → State → ℕ → Option OpenFault
open_fault run port s block =
    if not (is_next_block run s block) then Some (open_faults.Order s.block (last_block run))
    else (if nat_le s.next (last_place run port s.block) then Some (open_faults.LooksLeft s.next)
    else (if not (pending_count s == 0) then Some (open_faults.Pending (pending_count s))
    else (if nat_lt s.done (lo run block) then Some (open_faults.Unswept s.done (lo run block))
    else None)))

abbrev pub look_fault : Run → ℕ → State → ℕ → Option LookFault
look_fault run port s place =
    if not (place == s.next) then Some (look_faults.OutOfTurn s.next)
    else (if not (block_of run port place == s.block) then Some (look_faults.OtherBlock s.block)
    else None)

abbrev pub settle_fault : Run → State → ℕ → ℕ → Option SettleFault
settle_fault run s place v =
    if not (is_pending (place_at place s)) then Some settle_faults.NotPending
    else (if nat_lt v s.floor then Some (settle_faults.Stale s.floor)
    else (if nat_lt (hi run s.block) v then Some (settle_faults.Ahead (hi run s.block))
    else None))

abbrev pub begin_fault : Run → State → ℕ → Option BeginFault
begin_fault run s v =
    if s.is_sweeping then Some (begin_faults.Sweeping s.floor)
    else (if nat_lt (hi run s.block) v then Some (begin_faults.Ahead (hi run s.block))
    else None)

abbrev pub put_fault : Run → State → ℕ → ℕ → Option PutFault
put_fault run s entry v =
    if not (list_any (λ n. n == entry) s.listed) then Some put_faults.NotListed
    else (if nat_lt v s.floor then Some (put_faults.Stale s.floor)
    else (if nat_lt (hi run s.block) v then Some (put_faults.Ahead (hi run s.block))
    else None))

abbrev pub end_fault : State → Option EndFault
end_fault s =
    if not s.is_sweeping then Some end_faults.NotSweeping
    else (if not (length s.listed == 0) then Some (end_faults.Left (length s.listed))
    else None)
