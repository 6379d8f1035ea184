-- Lists of boards that are those of a run, and what is left of them.
use Rattle.std.proofs.Common.{◌≡◌, ℕ, zero, suc, ◌≤◌, ◌<◌, List, [], ◌∷◌, length, map, slice_index_or, All, refl, sym, ap, ◌∙◌, arith}
use Rattle.std.proofs.lemmas.List.{length-map}
use Rattle.spec_case.specs.Run.{Run}
use Rattle.spec_case.specs.Blocks.{last_block}
use Rattle.pmd_board.specs.BoardView.{BoardView}
use Rattle.run_boards.specs.Scheduled.{block_to_finish, HasDone, IsNew, TookTurns}
use Rattle.run_boards.specs.Boards.{AreBoards, AreOfPhase}
use Rattle.run_boards.proofs.Scheduled.{least_le, least_above}

-- ---- their ports

ports_each : (boards : List BoardView) (ports : List ℕ) → length boards ≡ length ports → ((k : ℕ) (d : BoardView) → k < length boards → (slice_index_or boards k d).port ≡ slice_index_or ports k 0)
    → map (λ (b : BoardView). b.port) boards ≡ ports
ports_each [] [] same each = refl
ports_each [] (p ∷ ports) same each = absurd (omega (arith, same))
ports_each (b ∷ boards) [] same each = absurd (omega (arith, same))
ports_each (b ∷ boards) (p ∷ ports) same each =
    ap (λ x. x ∷ map (λ (b : BoardView). b.port) boards) (each 0 b (omega arith))
    ∙ ap (λ xs. p ∷ xs) (ports_each boards ports (omega (arith, same)) (λ k d within. each (suc k) d (omega (arith, within))))

port_at : (boards : List BoardView) (k : ℕ) (d : BoardView) → k < length boards → (slice_index_or boards k d).port ≡ slice_index_or (map (λ (b : BoardView). b.port) boards) k 0
port_at [] k d within = absurd (omega (arith, within))
port_at (b ∷ boards) zero d within = refl
port_at (b ∷ boards) (suc k) d within = port_at boards k d (omega (arith, within))

pub ports_of : (run : Run) (limit : ℕ) (boards : List BoardView) → AreBoards run limit boards → map (λ (b : BoardView). b.port) boards ≡ run.ports
ports_of run limit boards are = ports_each boards run.ports are.one_each (λ k d within. (are.each k d within).of_port)

pub limits_of : (run : Run) (limit : ℕ) (boards : List BoardView) → AreBoards run limit boards → All (λ (b : BoardView). b.flow_limit ≡ limit) boards
limits_of run limit boards are = λ k d within. (are.each k d within).has_limit

-- ---- which lists are

pub new_are : (run : Run) (limit : ℕ) (boards : List BoardView) → limit ≡ run.flow_limit → map (λ (b : BoardView). b.port) boards ≡ run.ports → All (IsNew limit) boards → AreBoards run run.flow_limit boards
new_are run limit boards is ports new = record {
  one_each = sym (length-map boards (λ (b : BoardView). b.port)) ∙ ap length ports;
  each = λ k d within. record {
    of_port = port_at boards k d within ∙ ap (λ ps. slice_index_or ps k 0) ports;
    has_limit = (new k d within).has_limit ∙ is;
  };
}

pub turns_are : (run : Run) (limit block v : ℕ) (old new : List BoardView) → TookTurns run block v old new → AreBoards run limit old → AreBoards run limit new
turns_are run limit block v old new took are = record {
  one_each = took.count ∙ are.one_each;
  each = λ k d within.
      let n = took.count in
      let inside : k < length old = omega (arith, within, n) in
      let turn = took.each k d inside in
      let was = are.each k d inside in record {
        of_port = turn.port ∙ was.of_port;
        has_limit = turn.limit ∙ was.has_limit;
      };
}

-- ---- those of a phase

module _ (run : Run) (limit block : ℕ) (boards : List BoardView) (fit : AreOfPhase run limit block boards) (there : block ≤ last_block run) where
  fit_above : block ≤ block_to_finish run boards
  fit_above = least_above run (last_block run) block boards there (λ k d within. (let e = fit.1 k d within in omega (arith, e)))

  pub fit_block : 1 ≤ length run.ports → (d : BoardView) → block_to_finish run boards ≡ block
  fit_block some d =
      let n = fit.0.one_each in
      let here : 0 < length boards = omega (arith, n, some) in
      let e = fit.1 0 d here in
      let l = least_le run (last_block run) boards 0 d here in
      let m = fit_above in omega (arith, e, l, m)

  pub fit_done : All (HasDone run block) boards
  fit_done = λ k d within. record {
    reached = λ _. (let e = fit.1 k d within in omega (arith, e));
    finished = λ after. absurd (omega (arith, after, there));
  }
