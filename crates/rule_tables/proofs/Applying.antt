-- Edits applied one after the other: what each step does to what is left.
use Rattle.std.proofs.Common.{◌≡◌, ℕ, suc, ◌+◌, ◌<◌, ◌≤◌, Bool, true, cond, List, [], ◌∷◌, length, get_or, drop, sym, ap, ◌∙◌, arith, length-append}
use Rattle.std.specs.Prelude.{count_by}
use Rattle.std.proofs.lemmas.List.{at_drop_more}
use Rattle.spec_tables.specs.Edits as made
use Rattle.spec_tables.specs.Edits.{Edit}
use Rattle.rule_tables.specs.History.{EditHistory, applied, rules_after, edited_by, edited_by_all}
use Rattle.rule_tables.proofs.Counts.{count_by-cons}
use Rattle.rule_tables.proofs.Histories.{applied-edited_by}

module _ (all : List Edit) (n : ℕ) (e : Edit) (lt : n < length all) (is : e ≡ get_or all n e) where
  -- the next edit is the first of those that are left
  next_left : {Y : Type 0} (F : List Edit → Y) → F (drop n all) ≡ F (e ∷ drop (n + 1) all)
  next_left F = at_drop_more F all n e lt ∙ ap (λ (x : Edit). F (x ∷ drop (n + 1) all)) (sym is)

  pub history_next_left : (old new : EditHistory) (k : ℕ) → k ≡ n + 1 → new ≡ edited_by e old → edited_by_all (drop k all) new ≡ edited_by_all (drop n all) old
  history_next_left old new k next edited =
      ap (λ (m : ℕ). edited_by_all (drop m all) new) next ∙ ap (edited_by_all (drop (n + 1) all)) edited ∙ sym (next_left (λ (rest : List Edit). edited_by_all rest old))

  pub length_next_left : (k : ℕ) → k ≡ n + 1 → length (drop n all) ≡ length (drop k all) + 1
  length_next_left k next =
      let first : length (drop n all) ≡ suc (length (drop (n + 1) all)) = next_left length in
      let same : length (drop k all) ≡ length (drop (n + 1) all) = ap (λ (m : ℕ). length (drop m all)) next in
      omega arith

  -- of those that are left, edits of some kind
  module _ (p : Edit → Bool) where
    counted : count_by p (drop n all) ≡ cond (p e) 1 0 + count_by p (drop (n + 1) all)
    counted = next_left (count_by p) ∙ count_by-cons p e (drop (n + 1) all)

    pub room_left : (room : ℕ) → count_by p (drop n all) ≤ room → p e ≡ true → 0 < room
    room_left room enough its =
        let one : count_by p (drop n all) ≡ 1 + count_by p (drop (n + 1) all) = counted ∙ ap (λ (b : Bool). cond {A = ℕ} b 1 0 + count_by p (drop (n + 1) all)) its in
        omega arith

    pub room_next_left : (old new k : ℕ) → k ≡ n + 1 → count_by p (drop n all) ≤ old → old ≤ new + cond (p e) 1 0 → count_by p (drop k all) ≤ new
    room_next_left old new k next enough used =
        let same : count_by p (drop k all) ≡ count_by p (drop (n + 1) all) = ap (λ (m : ℕ). count_by p (drop m all)) next in
        omega (arith, counted)

-- one more edit is one more state
pub states_next : (e : Edit) (old new : EditHistory) → new ≡ edited_by e old → length old.states ≡ applied old + 1
    → (applied new ≡ applied old + 1) × (length new.states ≡ applied new + 1)
states_next e old new edited states =
    let one : applied new ≡ applied old + 1 = ap applied edited ∙ applied-edited_by e old (omega arith) in
    let more : length new.states ≡ length old.states + 1 =
    ap (λ (h : EditHistory). length h.states) edited ∙ length-append old.states (made.edited e.word (length old.states) e (rules_after old (applied old)) ∷ []) in
    (one, omega arith)
