-- Rules are numbered by the edits that added them: those after some edits, and those that a translation under a version
-- visits.
use Rattle.std.proofs.Common.{◌≡◌, ℕ, zero, suc, ◌≤◌, Bool, true, false, ◌==◌, not, if◌then◌else◌, List, [], ◌∷◌, slice_get, Option, Some, None, All, ◌⊎◌, inl, inr, refl, sym, ap, ◌∙◌, subst, arith}
use Rattle.spec_tables.specs.declared.edit_word.EditWord.{EditWord}
use Rattle.spec_tables.specs.declared.edit_word.EditWord.TheVariants.{Add, Modify, ModifyStrict, Delete, DeleteStrict}
use Rattle.spec_tables.specs.Rules.{Rule, rules_in, winner}
use Rattle.spec_tables.specs.Edits.{Edit, is_named_by, is_reached_by, rule_of, with_actions, modified, without, edited, after_edit, after_edits}
use Rattle.spec_tables.specs.Bundles.{edits_through}
use Rattle.spec_case.specs.Run.{Run}
use Rattle.spec_board.specs.Results.{switch_at, translated}
use Rattle.table_laws.proofs.MemberLaws.{Among, Among-append, Among-filter}
use Rattle.table_laws.proofs.WinnerLaws.{IsWinner, IsBestOf, winner-IsWinner}
use Rattle.board_laws.proofs.ListLaws.{Among-map}
use Rattle.board_laws.proofs.Bounded.{each_visit}

-- the number of one of so many edits, which are counted from 1
abbrev pub IsOfEdit : ℕ → ℕ → Type 0
IsOfEdit v number = (1 ≤ number) × (number ≤ v)

later : (v number : ℕ) → IsOfEdit v number → IsOfEdit (suc v) number
later v number h = let l = h.1 in (h.0, omega arith)

-- ---- rules after some edits

module _ (v : ℕ) (e : Edit) (rules : List Rule) (old : (r : Rule) → Among r rules → IsOfEdit v r.number) where
  left_added : (picked : Rule → Bool) (r : Rule) → Among r (without picked rules) → IsOfEdit (suc v) r.number
  left_added picked r m = later v r.number (old r (Among-filter (λ s. not (picked s)) r rules m).0)

  modified_added : (picked : Rule → Bool) (r : Rule) → Among r (modified picked e rules) → IsOfEdit (suc v) r.number
  modified_added picked r m =
      let was = Among-map (λ s. if picked s then with_actions e s else s) r rules m in
      subst (IsOfEdit (suc v)) (sym (ap (λ (s : Rule). s.number) was.2 ∙ same (picked was.0) was.0)) (later v was.0.number (old was.0 was.1))
    where
      same : (t : Bool) (s : Rule) → (if t then with_actions e s else s).number ≡ s.number
      same true s = refl
      same false s = refl

  edited_added : (word : EditWord) (r : Rule) → Among r (edited word (suc v) e rules) → IsOfEdit (suc v) r.number
  edited_added Add r m = at (Among-append r (without (is_named_by e) rules) (rule_of (suc v) e ∷ []) m)
    where
      at : Among r (without (is_named_by e) rules) ⊎ Among r (rule_of (suc v) e ∷ []) → IsOfEdit (suc v) r.number
      at (inl m) = left_added (is_named_by e) r m
      at (inr (inl q)) = subst (λ (s : Rule). IsOfEdit (suc v) s.number) (sym q) (omega arith, omega arith)
      at (inr (inr f)) = absurd f
  edited_added Modify r m = modified_added (is_reached_by e) r m
  edited_added ModifyStrict r m = modified_added (is_named_by e) r m
  edited_added Delete r m = left_added (is_reached_by e) r m
  edited_added DeleteStrict r m = left_added (is_named_by e) r m

after_edit_added : (v : ℕ) (e : Option Edit) (rules : List Rule) → ((r : Rule) → Among r rules → IsOfEdit v r.number)
    → (r : Rule) → Among r (after_edit (suc v) e rules) → IsOfEdit (suc v) r.number
after_edit_added v None rules old r m = later v r.number (old r m)
after_edit_added v (Some e) rules old r m = edited_added v e rules old e.word r m

pub rules_added : (edits : List Edit) (n : ℕ) (r : Rule) → Among r (after_edits edits n) → IsOfEdit n r.number
unfolding after_edits
rules_added edits zero r m = absurd m
rules_added edits (suc n) r m = after_edit_added n (slice_get edits n) (after_edits edits n) (rules_added edits n) r m

-- ---- visits

winner_added : (edits : List Edit) (n table : ℕ) (key : List ℕ) (r : Rule) → winner (rules_in table (after_edits edits n)) key ≡ Some r
    → IsOfEdit n r.number
unfolding IsWinner
winner_added edits n table key r e =
    let rules = rules_in table (after_edits edits n) in
    let best : IsBestOf rules key r = subst (IsWinner rules key) e (winner-IsWinner rules key) in
    rules_added edits n r (Among-filter (λ (s : Rule). s.table == table) r (after_edits edits n) best.is_rule).0

pub visits_added : (run : Run) (v : ℕ) (key : List ℕ) → All (λ r. (1 ≤ r) × (r ≤ edits_through run.bundles v)) (translated run v key).visits
visits_added run v key =
    let n = edits_through run.bundles v in
    each_visit (switch_at run v) (IsOfEdit n) (winner_added run.edits n) key
