-- What every legal journal of a board has besides, where the sync points stand in order.
use Rattle.std.proofs.Common.{ℕ, List, [], ◌∷◌}
use Rattle.spec_base.specs.Machine as machine
use Rattle.spec_case.specs.Run.{Run, last_version}
use Rattle.spec_case.specs.Blocks.{AreInOrder}
use Rattle.spec_board.specs.Steps.{Step}
use Rattle.spec_board.specs.State.{Entry, State}
use Rattle.spec_board.specs.Effects.{effect}
use Rattle.spec_board.specs.Journals.{Legal, IsLegal, opened, after}
use Rattle.table_laws.proofs.MemberLaws.{Among}
use Rattle.board_laws.specs.Entries.{HasKeys}
use Rattle.board_laws.specs.Versions.{HasVersionsInOrder, IsRecent}
use Rattle.board_laws.proofs.Journals.{AreLegal, after_all, kept_along, next_le_all}
use Rattle.board_laws.proofs.VersionLaws.{versions_opened, versions_keep}
use Rattle.board_laws.proofs.Recent.{recent_keeps}
use Rattle.board_laws.proofs.Kept.{IsKept, kept_opened, kept_keeps, keys_before}

pub record IsKeptInOrder (run : Run) (port limit : ℕ) (s : State) : Type 0 where
  pub kept : IsKept run port limit s
  pub versions : HasVersionsInOrder run s
  pub recent : (e : Entry) → Among e s.entries → IsRecent s e

pub ordered_opened : (run : Run) (port limit : ℕ) → IsKeptInOrder run port limit (opened run port)
ordered_opened run port limit = record {
  kept = kept_opened run port limit;
  versions = versions_opened run port;
  recent = λ e m. absurd m;
}

module _ (run : Run) (port limit : ℕ) (in_order : AreInOrder run.syncs (last_version run)) where
  pub ordered_keeps : (s : State) → IsKeptInOrder run port limit s → (step : Step) → Legal run port limit s step → IsKeptInOrder run port limit (effect run port s step)
  ordered_keeps s k step legal = record {
    kept = kept_keeps run port limit s k.kept step legal;
    versions = versions_keep run port limit in_order s k.versions step legal;
    recent = recent_keeps run port limit s k.kept.apart k.versions k.recent step legal;
  }

  pub ordered_after : (steps : List Step) → IsLegal run port limit steps → IsKeptInOrder run port limit (after run port steps)
  ordered_after steps legal = kept_along run port limit (IsKeptInOrder run port limit) ordered_keeps (opened run port) (ordered_opened run port limit) steps legal

-- ---- steps of such boards

-- A legal step of such a board, where the frames that were looked up then have keys.
pub record IsTaken (run : Run) (port limit : ℕ) (s : State) (step : Step) : Type 0 where
  pub kept : IsKeptInOrder run port limit s
  pub legal : Legal run port limit s step
  pub keys : HasKeys run port (effect run port s step).next

-- every step is, where it stands
abbrev pub AreTaken : Run → ℕ → ℕ → State → List Step → Type 0
AreTaken run port limit s steps = machine.IsLegal (IsTaken run port limit) (effect run port) s steps

taken_from : (run : Run) (port limit : ℕ) → AreInOrder run.syncs (last_version run) → (s : State) → IsKeptInOrder run port limit s → (steps : List Step)
    → AreLegal run port limit s steps → HasKeys run port (after_all run port s steps).next → AreTaken run port limit s steps
taken_from run port limit in_order s k [] legal keys = tt
taken_from run port limit in_order s k (step ∷ steps) legal keys =
    let next = effect run port s step in
    let later = next_le_all run port next steps in (
      record { kept = k; legal = legal.0; keys = keys_before run port next.next (after_all run port next steps).next later keys },
      taken_from run port limit in_order next (ordered_keeps run port limit in_order s k step legal.0) steps legal.1 keys,
    )

pub all_taken : (run : Run) (port limit : ℕ) → AreInOrder run.syncs (last_version run) → (steps : List Step) → IsLegal run port limit steps
    → HasKeys run port (after run port steps).next → AreTaken run port limit (opened run port) steps
all_taken run port limit in_order steps legal keys = taken_from run port limit in_order (opened run port) (ordered_opened run port limit) steps legal keys
