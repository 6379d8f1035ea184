-- Journals that decide each frame under the last version of its block send as many frames, and drop as many.
use Rattle.std.proofs.Common.{◌≡◌, ℕ, ◌==◌, List, [], ◌∷◌, length, map, count_by, All, Option, Some, None, refl, sym, ap, ◌∙◌, subst, arith}
use Rattle.std.specs.List.{sum_by}
use Rattle.std.proofs.Math.Path.{fun_ext}
use Rattle.std.proofs.lemmas.List.Elements.{All-head, All-tail}
use Rattle.std.proofs.lemmas.List.Sums.{sum_by-cons}
use Rattle.spec_actions.specs.declared.action.DpAction.{DpAction}
use Rattle.spec_case.specs.Run.{Run, frame_at}
use Rattle.spec_board.specs.Decisions.{Decision, decision_of}
use Rattle.spec_board.specs.Texts.{Journal}
use Rattle.spec_exec.specs.Sent.{sent}
use Rattle.spec_run.specs.Summary.{places_of, decided, pieces_of, sent_by, dropped_by, sent_count, dropped_count}
use Rattle.spec_run.specs.Journals.{IsWhole, AreWhole, IsByLastVersion, actions_in}
use Rattle.board_laws.proofs.ByLastVersions.{AreByLast, of_journal, same_actions}
use Rattle.output_laws.specs.Sums.{SendAlike, summary_with}

decided_is : (o : Option Decision) → decided o ≡ actions_in o
decided_is None = refl
decided_is (Some d) = refl

-- ---- journals of the same port

module _ (run : Run) (j k : Journal) (port : j.port ≡ k.port) (whole_j : IsWhole run j) (whole_k : IsWhole run k)
    (last_j : IsByLastVersion run j) (last_k : IsByLastVersion run k) where
  -- a journal of that port
  abbrev as_j : Journal
  as_j = record { port = j.port; steps = k.steps }

  of_k : AreByLast run j.port k.steps
  of_k = subst (λ p. AreByLast run p k.steps) (sym port) (of_journal run k whole_k last_k)

  pieces_alike : (place : ℕ) → pieces_of run j place ≡ pieces_of run as_j place
  pieces_alike place =
      ap (λ (actions : List DpAction). sent actions (frame_at run j.port place).bytes)
      (decided_is (decision_of run j.port j.steps place) ∙ same_actions run j.port j.steps k.steps (of_journal run j whole_j last_j) of_k place
      ∙ sym (decided_is (decision_of run j.port k.steps place)))

  pub sent_alike : sent_by run j ≡ sent_by run k
  sent_alike =
      ap (λ pieces. sum_by (λ place. length (pieces place)) (places_of run j)) (fun_ext pieces_alike)
      ∙ ap (λ p. sent_by run (record { port = p; steps = k.steps })) port

  pub dropped_alike : dropped_by run j ≡ dropped_by run k
  dropped_alike =
      ap (λ pieces. count_by (λ place. length (pieces place) == 0) (places_of run j)) (fun_ext pieces_alike)
      ∙ ap (λ p. dropped_by run (record { port = p; steps = k.steps })) port

-- ---- lists of journals

same_sums : (value : Journal → ℕ) (P : Journal → Type 0) → ((j k : Journal) → j.port ≡ k.port → P j → P k → value j ≡ value k)
    → (a b : List Journal) → map (λ (j : Journal). j.port) a ≡ map (λ (j : Journal). j.port) b → All P a → All P b → sum_by value a ≡ sum_by value b
same_sums value P same [] [] ports all_a all_b = refl
same_sums value P same [] (k ∷ b) ports all_a all_b = absurd (cc ports)
same_sums value P same (j ∷ a) [] ports all_a all_b = absurd (cc ports)
same_sums value P same (j ∷ a) (k ∷ b) ports all_a all_b =
    let first : j.port ≡ k.port = cc ports in
    let others : map (λ (j : Journal). j.port) a ≡ map (λ (j : Journal). j.port) b = cc ports in
    let c = sum_by-cons value j a in
    let d = sum_by-cons value k b in
    let here = same j k first (All-head P j a all_a) (All-head P k b all_b) in
    let rest = same_sums value P same a b others (All-tail P j a all_a) (All-tail P k b all_b) in
    omega (arith, c, d, here, rest)

module _ (run : Run) (a b : List Journal) (whole_a : AreWhole run a) (whole_b : AreWhole run b)
    (last_a : All (IsByLastVersion run) a) (last_b : All (IsByLastVersion run) b) where
  abbrev IsKnown : Journal → Type 0
  IsKnown j = IsWhole run j × IsByLastVersion run j

  pub send_alike : SendAlike run a b
  send_alike =
      let ports = whole_b.of_ports ∙ sym whole_a.of_ports in
      let of_a : All IsKnown a = λ k d within. (whole_a.each k d within, last_a k d within) in
      let of_b : All IsKnown b = λ k d within. (whole_b.each k d within, last_b k d within) in
      let sent_same = same_sums (sent_by run) IsKnown (λ j k port is_j is_k. sent_alike run j k port is_j.0 is_k.0 is_j.1 is_k.1) b a ports of_b of_a in
      let dropped_same = same_sums (dropped_by run) IsKnown (λ j k port is_j is_k. dropped_alike run j k port is_j.0 is_k.0 is_j.1 is_k.1) b a ports of_b of_a in
      record {
        sent = sent_same;
        dropped = dropped_same;
        summaries = λ ran. ap (λ n. summary_with n (dropped_count run b) run b ran) sent_same ∙ ap (λ n. summary_with (sent_count run a) n run b ran) dropped_same;
      }
