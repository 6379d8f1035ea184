-- Polls of a port.
use Rattle.std.specs.Prelude.{◌≡◌, ℕ, ◌+◌, ◌≤◌, List, [], ◌∷◌, ◌++◌, length}
use Rattle.spec_case.specs.Run.{Run, frames_of}
use Rattle.run_case.specs.Places.{HasPort}
use Rattle.upcall_queue.specs.declared.upcalls.upcall.Upcall.{Upcall}
use Rattle.rx_worker.specs.declared.batch.Polled.{Polled}

-- Upcalls of a port, in the order of their places and each at most once, from a place on and before another.
abbrev pub AreUpcalls : ℕ → ℕ → ℕ → List Upcall → Type 0
AreUpcalls port from to [] = from ≤ to
AreUpcalls port from to (u ∷ upcalls) = (u.port ≡ port) × (from ≤ u.place) × AreUpcalls port (u.place + 1) to upcalls

-- So many such upcalls more were taken.
pub record Took (port from to : ℕ) (before : List Upcall) (count : ℕ) (after : List Upcall) : Type 0 where
  pub upcalls : List Upcall
  pub in_order : AreUpcalls port from to upcalls
  pub counted : length upcalls ≡ count
  pub taken : after ≡ before ++ upcalls

-- So many places, from the first on, are of frames of a port of the run.
pub record AreFramesOf (run : Run) (port first count : ℕ) : Type 0 where
  pub has_port : HasPort run.ports port
  pub from_one : 1 ≤ first
  pub within : first + count ≤ length (frames_of run port) + 1

-- The upcalls that a poll gave were taken: of frames of one port of the run, within as many places as were looked up.
pub record Gives (run : Run) (before : List Upcall) (polled : Polled) (after : List Upcall) : Type 0 where
  pub port : ℕ
  pub first : ℕ
  pub frames : AreFramesOf run port first polled.looked
  pub took : Took port first (first + polled.looked) before polled.given after
