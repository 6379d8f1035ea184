-- The journals of boards that are finished, and what they decided.
use Rattle.std.proofs.Common.{◌≡◌, ℕ, suc, ◌+◌, ◌<◌, ◌≤◌, Bool, true, false, List, [], ◌∷◌, length, map, get_or, slice_index_or, All, Some, refl, sym, ap, ◌∙◌, subst, arith}
use Rattle.std.specs.Prelude.{◌==◌, nat_lt, position}
use Rattle.std.specs.List.{find, position_or_len}
use Rattle.std.specs.Option.{option_map}
use Rattle.std.proofs.lemmas.Bool.{ltb-true}
use Rattle.std.proofs.lemmas.List.{length-map}
use Rattle.std.proofs.lemmas.List.Elements.{All-map}
use Rattle.std.proofs.lemmas.Simd.{map-map}
use Rattle.spec_case.specs.Run.{Run, frames_of}
use Rattle.spec_board.specs.State.{place_at, is_decided}
use Rattle.spec_board.specs.Journals.{IsLegal, IsFinished}
use Rattle.spec_board.specs.Decisions.{Decision}
use Rattle.spec_board.specs.Schedules as schedules
use Rattle.spec_board.specs.Texts.{Journal}
use Rattle.spec_run.specs.Journals.{journal_in, IsWhole, AreWhole, IsByLastVersion, steps_of, steps_in}
use Rattle.run_case.specs.Places.{HasPlace}
use Rattle.pmd_board.specs.BoardView.{BoardView, journal_view, journals_view, state_of}
use Rattle.run_boards.specs.Progress.{AreDecided}
use Rattle.run_boards.specs.Scheduled.{under_way, schedule_of, IsKnown}
use Rattle.run_boards.specs.Boards.{AreBoards}
use Rattle.run_boards.specs.Finished.{AreFinished, journals_in}
use Rattle.run_boards.proofs.BoardLists.{ports_of, limits_of}
use Rattle.run_boards.proofs.Decided.{is_decided_at, finished_decided}

-- ---- their journals are whole

module _ (run : Run) where
  is_whole : (b : BoardView) → IsKnown run b → b.flow_limit ≡ run.flow_limit → IsFinished run (state_of run b) → IsWhole run (journal_view b)
  is_whole b known limit finished = record {
    legal = subst (λ most. IsLegal run b.port most b.journal) limit known.legal;
    complete = finished;
    decided = finished_decided run b known finished;
    accounted = known.lawful.accounted;
  }

  ports_kept : (boards : List BoardView) → map (λ (j : Journal). j.port) (journals_view boards) ≡ map (λ (b : BoardView). b.port) boards
  ports_kept [] = refl
  ports_kept (b ∷ boards) = ap (λ ps. b.port ∷ ps) (ports_kept boards)

  pub are_whole : (boards : List BoardView) → AreBoards run run.flow_limit boards → All (IsKnown run) boards → AreFinished run boards → AreWhole run (journals_view boards)
  are_whole boards are known finished = record {
    of_ports = ports_kept boards ∙ ports_of run run.flow_limit boards are;
    each = All-map (IsWhole run) journal_view boards (λ k d within. is_whole _ (known k d within) (limits_of run run.flow_limit boards are k d within) (finished k d within));
  }

-- ---- and those of a schedule

pub as_scheduled : (run : Run) (newest : ℕ) (boards : List BoardView) (s : schedules.Schedule) → schedule_of run newest boards ≡ s → journals_view boards ≡ journals_in s
as_scheduled run newest boards s is = sym (map-map journal_in (under_way run) boards) ∙ ap journals_in is

by_last_version : (run : Run) (b : BoardView) → AreDecided run b → IsByLastVersion run (journal_view b)
by_last_version run b decided place one last =
    let d = decided place one last in
    ap (option_map (λ (d : Decision). d.version)) d.0.is_decision ∙ ap (λ (v : ℕ). Some v) d.1

pub all_by_last_version : (run : Run) (boards : List BoardView) → All (AreDecided run) boards → All (IsByLastVersion run) (journals_view boards)
all_by_last_version run boards decided = All-map (IsByLastVersion run) journal_view boards (λ k d within. by_last_version run (slice_index_or boards k d) (decided k d within))

-- ---- the journal of a port

module _ (port : ℕ) where
  abbrev is_port : ℕ → Bool
  is_port p = p == port

  abbrev is_of_port : Journal → Bool
  is_of_port j = j.port == port

  abbrev said : List BoardView → List ℕ
  said boards = map (λ (b : BoardView). b.port) boards

  at_first : (boards : List BoardView) (d : BoardView) → position_or_len is_port (said boards) < length boards
      → find is_of_port (journals_view boards) ≡ Some (journal_view (get_or boards (position_or_len is_port (said boards)) d))
  at_first [] d within = absurd (omega arith)
  at_first (b ∷ boards) d within = by_test (b.port == port) refl within (at_first boards d)
    where
      by_test : (test : Bool) → (b.port == port) ≡ test → position_or_len is_port (said (b ∷ boards)) < length (b ∷ boards)
          → (position_or_len is_port (said boards) < length boards
          → find is_of_port (journals_view boards) ≡ Some (journal_view (get_or boards (position_or_len is_port (said boards)) d)))
          → find is_of_port (journals_view (b ∷ boards)) ≡ Some (journal_view (get_or (b ∷ boards) (position_or_len is_port (said (b ∷ boards))) d))
      by_test true is less others = rw is refl
      by_test false is less others =
          let next : 1 + position_or_len is_port (said boards) ≡ suc (position_or_len is_port (said boards)) = omega arith in
          let rest = rw is at less in
          rw (is, next) (others (omega arith))

  -- the journal that is found by a port is that of the board at the place of the port
  pub steps_of-board : (boards : List BoardView) (ports : List ℕ) (place : ℕ) (b : BoardView) → said boards ≡ ports
      → position is_port ports ≡ Some place → b ≡ get_or boards place b → steps_of (journals_view boards) port ≡ b.journal
  steps_of-board boards ports place b are is at =
      by_test (nat_lt (position_or_len is_port (said boards)) (length (said boards))) refl (ap (position is_port) are ∙ is)
    where
      by_test : (test : Bool) → nat_lt (position_or_len is_port (said boards)) (length (said boards)) ≡ test
          → position is_port (said boards) ≡ Some place → steps_of (journals_view boards) port ≡ b.journal
      by_test true less e =
          let same : position_or_len is_port (said boards) ≡ place = cc (rw less at e) in
          let within : position_or_len is_port (said boards) < length boards = omega (arith, ltb-true _ _ less, length-map boards (λ (x : BoardView). x.port)) in
          ap steps_in (at_first boards b within) ∙ ap (λ (q : ℕ). (get_or boards q b).journal) same ∙ ap (λ (x : BoardView). x.journal) (sym at)
      by_test false less e = absurd (cc (rw less at e))

-- the frame of each place is decided
pub decided_there : (run : Run) (b : BoardView) (port place : ℕ) → b.port ≡ port → IsKnown run b → IsFinished run (state_of run b) → HasPlace run port place
    → is_decided (place_at place (state_of run b)) ≡ true
decided_there run b port place same known finished there =
    is_decided_at run b known finished place there.0 (subst (λ p. place ≤ length (frames_of run p)) (sym same) there.1)
