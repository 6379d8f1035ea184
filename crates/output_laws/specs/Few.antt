-- Runs of which every number in a journal is printed with all of its digits.
use Rattle.std.specs.Prelude.{ℕ, length, All}
use Rattle.spec_case.specs.Run.{Run, last_version, frames_of}
use Rattle.spec_case.specs.Blocks.{last_block, AreInOrder}
use Rattle.board_steps.specs.Printable.{IsPrintable}

-- The sync points stand in order, and the ports, the frames of a port, the blocks and the versions have such numbers.
pub record HasFewNumbers (run : Run) : Type 0 where
  pub in_order : AreInOrder run.syncs (last_version run)
  pub ports : All IsPrintable run.ports
  pub frames : (port : ℕ) → IsPrintable (length (frames_of run port))
  pub blocks : IsPrintable (last_block run)
  pub versions : IsPrintable (last_version run)
