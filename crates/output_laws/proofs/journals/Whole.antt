-- Whole journals have numbers that are printed whole.
use Rattle.std.proofs.Common.{ℕ, List, [], ◌∷◌, map, All, sym, subst, arith}
use Rattle.std.proofs.lemmas.List.Elements.{All-cons, All-head, All-tail}
use Rattle.spec_case.specs.Run.{Run}
use Rattle.spec_board.specs.Steps.{Step}
use Rattle.spec_board.specs.State.{State}
use Rattle.spec_board.specs.Effects.{effect}
use Rattle.spec_board.specs.Journals.{opened}
use Rattle.spec_board.specs.Texts.{Journal}
use Rattle.spec_run.specs.Journals.{IsWhole, AreWhole}
use Rattle.board_laws.proofs.Journals.{AreLegal}
use Rattle.board_steps.specs.Printable.{IsPrintable, IsPrintableStep, IsPrintableJournal}
use Rattle.output_laws.specs.Few.{HasFewNumbers}
use Rattle.output_laws.proofs.journals.Made.{IsCounted, counted_opened, counted_keeps}
use Rattle.output_laws.proofs.journals.Steps.{step_fits}

module _ (run : Run) (few : HasFewNumbers run) where
  steps_fit : (port limit : ℕ) (s : State) → IsCounted run port limit s → (steps : List Step) → AreLegal run port limit s steps → All IsPrintableStep steps
  steps_fit port limit s c [] legal = λ k d within. absurd (omega (arith, within))
  steps_fit port limit s c (step ∷ steps) legal =
      All-cons IsPrintableStep step steps (step_fits run port limit few s c step legal.0)
      (steps_fit port limit (effect run port s step) (counted_keeps run port limit s c few.in_order step legal.0) steps legal.1)

  journal_fits : (j : Journal) → IsPrintable j.port → IsWhole run j → IsPrintableJournal j
  journal_fits j port whole = record {
    port = port;
    steps = steps_fit j.port run.flow_limit (opened run j.port) (counted_opened run j.port run.flow_limit) j.steps whole.legal;
  }

  journals_fit : (journals : List Journal) → All IsPrintable (map (λ (j : Journal). j.port) journals) → All (IsWhole run) journals → All IsPrintableJournal journals
  journals_fit [] ports each = λ k d within. absurd (omega (arith, within))
  journals_fit (j ∷ journals) ports each =
      let others = map (λ (x : Journal). x.port) journals in
      All-cons IsPrintableJournal j journals
      (journal_fits j (All-head IsPrintable j.port others ports) (All-head (IsWhole run) j journals each))
      (journals_fit journals (All-tail IsPrintable j.port others ports) (All-tail (IsWhole run) j journals each))

  pub all_fit : (journals : List Journal) → AreWhole run journals → All IsPrintableJournal journals
  all_fit journals whole = journals_fit journals (subst (λ (ps : List ℕ). All IsPrintable ps) (sym whole.of_ports) few.ports) whole.each
