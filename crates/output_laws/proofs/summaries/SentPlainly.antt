-- Journals that decide each frame under the last version of its block send and drop what the run alone says.
use Rattle.std.proofs.Common.{◌≡◌, ℕ, zero, suc, ◌+◌, ◌<◌, ◌≤◌, ◌==◌, if◌then◌else◌, List, [], ◌∷◌, length, map, All, Some, refl, sym, ap, ◌∙◌, arith}
use Rattle.std.specs.List.{sum_by, range_with_len}
use Rattle.std.specs.Option.{option_map}
use Rattle.std.proofs.lemmas.List.Elements.{All-head, All-tail}
use Rattle.std.proofs.lemmas.List.Sums.{sum_by-cons}
use Rattle.spec_actions.specs.declared.action.DpAction.{DpAction}
use Rattle.spec_case.specs.Run.{Run, frames_of, frame_at}
use Rattle.spec_case.specs.Blocks.{hi, block_of}
use Rattle.spec_board.specs.Results.{key_at, translated}
use Rattle.spec_board.specs.Decisions.{Decision, decision_of}
use Rattle.spec_board.specs.Texts.{Journal}
use Rattle.spec_exec.specs.Sent.{Piece, sent}
use Rattle.spec_run.specs.Summary.{decided, pieces_of, sent_by, dropped_by, dropped_count}
use Rattle.spec_run.specs.Journals.{IsWhole, AreWhole, IsByLastVersion}
use Rattle.output_laws.specs.Sums.{summary_with, plain_pieces, plain_sent_by, plain_dropped_by, plain_sent, SendPlainly}

-- ---- sums

range_sums : (n a : ℕ) (f g : ℕ → ℕ) → ((place : ℕ) → a ≤ place → place < a + n → f place ≡ g place) → sum_by f (range_with_len a n) ≡ sum_by g (range_with_len a n)
range_sums zero a f g same = refl
range_sums (suc n) a f g same =
    let c = sum_by-cons f a (range_with_len (a + 1) n) in
    let d = sum_by-cons g a (range_with_len (a + 1) n) in
    let here = same a (omega arith) (omega arith) in
    let rest = range_sums n (a + 1) f g (λ place low high. same place (omega (arith, low)) (omega (arith, high))) in
    omega (arith, c, d, here, rest)

port_sums : (value : Journal → ℕ) (plain : ℕ → ℕ) (P : Journal → Type 0) → ((j : Journal) → P j → value j ≡ plain j.port) → (journals : List Journal) → All P journals
    → sum_by value journals ≡ sum_by plain (map (λ (j : Journal). j.port) journals)
port_sums value plain P same [] all = refl
port_sums value plain P same (j ∷ journals) all =
    let c = sum_by-cons value j journals in
    let d = sum_by-cons plain j.port (map (λ (j : Journal). j.port) journals) in
    let here = same j (All-head P j journals all) in
    let rest = port_sums value plain P same journals (All-tail P j journals all) in
    omega (arith, c, d, here, rest)

-- ---- a journal

module _ (run : Run) (j : Journal) (whole : IsWhole run j) (last : IsByLastVersion run j) where
  pieces_here : (place : ℕ) → 1 ≤ place → place ≤ length (frames_of run j.port) → pieces_of run j place ≡ plain_pieces run j.port place
  pieces_here place low high =
      let d = whole.decided place low high in
      let told : option_map (λ (d : Decision). d.version) (Some d.decision) ≡ Some (hi run (block_of run j.port place)) =
      ap (option_map (λ (d : Decision). d.version)) (sym d.is_decision) ∙ last place low high in
      let version : d.decision.version ≡ hi run (block_of run j.port place) = cc told in
      let actions : decided (decision_of run j.port j.steps place) ≡ (translated run (hi run (block_of run j.port place)) (key_at run j.port place)).actions =
      ap decided d.is_decision ∙ d.plain ∙ ap (λ v. (translated run v (key_at run j.port place)).actions) version in
      ap (λ (actions : List DpAction). sent actions (frame_at run j.port place).bytes) actions

  pub sent_here : sent_by run j ≡ plain_sent_by run j.port
  sent_here =
      range_sums (length (frames_of run j.port)) 1 (λ place. length (pieces_of run j place)) (λ place. length (plain_pieces run j.port place))
      (λ place low high. ap (λ (pieces : List Piece). length pieces) (pieces_here place low (omega (arith, high))))

  pub dropped_here : dropped_by run j ≡ plain_dropped_by run j.port
  dropped_here =
      range_sums (length (frames_of run j.port)) 1 (λ place. if length (pieces_of run j place) == 0 then 1 else 0) (λ place. if length (plain_pieces run j.port place) == 0 then 1 else 0)
      (λ place low high. ap (λ (pieces : List Piece). if length pieces == 0 then 1 else 0) (pieces_here place low (omega (arith, high))))

-- ---- all journals

module _ (run : Run) (journals : List Journal) (whole : AreWhole run journals) (last : All (IsByLastVersion run) journals) where
  abbrev IsKnown : Journal → Type 0
  IsKnown j = IsWhole run j × IsByLastVersion run j

  pub send_plainly : SendPlainly run journals
  send_plainly =
      let known : All IsKnown journals = λ k d within. (whole.each k d within, last k d within) in
      let sent_same = port_sums (sent_by run) (plain_sent_by run) IsKnown (λ j is. sent_here run j is.0 is.1) journals known ∙ ap (sum_by (plain_sent_by run)) whole.of_ports in
      let dropped_same = port_sums (dropped_by run) (plain_dropped_by run) IsKnown (λ j is. dropped_here run j is.0 is.1) journals known ∙ ap (sum_by (plain_dropped_by run)) whole.of_ports in
      record {
        sent = sent_same;
        dropped = dropped_same;
        summaries = λ ran. ap (λ n. summary_with n (dropped_count run journals) run journals ran) sent_same ∙ ap (λ n. summary_with (plain_sent run) n run journals ran) dropped_same;
      }
