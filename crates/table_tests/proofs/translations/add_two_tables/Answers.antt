use Rattle.std.proofs.Common.{◌≡◌, [], ◌∷◌, true, refl, sym, ap, ◌∙◌, subst, arith}
use Rattle.std.proofs.lemmas.Bool.{and_from}
use Rattle.spec_tables.specs.Edits.{Edit, has_sound_actions}
use Rattle.rule_tables.specs.History.{History, rules_of, bundled_by, history_of}
use Rattle.rule_tables.proofs.Histories.{history-none, history-bundled}
use Rattle.pipe_model.specs.Runnable.{AreRunnable}
use Rattle.xlate_pipeline.proofs.RunnableVersions.{runnable-history}
use Rattle.table_tests.proofs.translations.add_two_tables.Goals as goal

pub returns-clause-runnable : goal.returns-clause-runnable
returns-clause-runnable c =
    let first : Edit = c.in_ok-adding.field-0 in
    let second : Edit = c.in_ok-adding-2.field-0 in
    let one : c.apply_one.new.rules ≡ history_of (first ∷ []) (1 ∷ []) =
    c.in_ok-apply_one.ensures ∙ ap (bundled_by (first ∷ [])) (c.requires.none ∙ history-none) ∙ history-bundled [] (first ∷ []) [] in
    let two : c.apply_one-2.new.rules ≡ history_of (first ∷ second ∷ []) (1 ∷ 2 ∷ []) =
    c.in_ok-apply_one-2.ensures ∙ ap (bundled_by (second ∷ [])) one ∙ history-bundled (first ∷ []) (second ∷ []) (1 ∷ []) in
    subst (λ (h : History). AreRunnable (rules_of h 2)) (sym two)
    (runnable-history (first ∷ second ∷ []) (1 ∷ 2 ∷ []) 2 (omega arith)
    (and_from (has_sound_actions first) _ c.in_ok-adding.ensures.sound (and_from (has_sound_actions second) true c.in_ok-adding-2.ensures.sound refl)))
