-- The rules that edits of sound actions make can be run, in each version.
use Rattle.std.proofs.Common.{◌≡◌, inl, inr, ℕ, zero, suc, ◌≤◌, ◌<◌, ◌==◌, Bool, true, false, not, if◌then◌else◌, List, [], ◌∷◌, ◌++◌, length, filter, slice_get, Option, Some, None, IsTrue, refl, sym, ap, ◌∙◌, subst, eq-eqb, ne_eqb, arith}
use Rattle.std.specs.List.{list_all, find}
use Rattle.std.proofs.lemmas.Bool.{and_parts, and_from}
use Rattle.spec_tables.specs.declared.edit_word.EditWord.{EditWord}
use Rattle.spec_tables.specs.declared.edit_word.EditWord.TheVariants.{Add, Modify, ModifyStrict, Delete, DeleteStrict}
use Rattle.spec_tables.specs.Rules.{Rule}
use Rattle.spec_tables.specs.Edits.{Edit, rule_of, with_actions, modified, without, is_named_by, is_reached_by, edited, after_edit, after_edits, has_sound_actions}
use Rattle.spec_tables.specs.Bundles.{edits_through, version}
use Rattle.spec_tables.specs.Live.{rule_numbered}
use Rattle.pipe_model.specs.Runnable.{IsAmong, AreRunnable, is_sound_rule}
use Rattle.pipe_model.proofs.Rising.{Rise, rise_after_edits}

-- ---- the rule of a number

above : (low high : ℕ) (rules : List Rule) (r : Rule) → Rise low high rules → IsAmong r rules → low < r.number
above low high [] r h i = absurd i
above low high (x ∷ rules) r h (inl e) = subst (λ y. low < y.number) e h.0
above low high (x ∷ rules) r h (inr i) = let a = above x.number high rules r h.2 i in omega (arith, a, h.0)

found_numbered : (low high : ℕ) (rules : List Rule) (r : Rule) → Rise low high rules → IsAmong r rules → rule_numbered r.number rules ≡ Some r
found_numbered low high [] r h i = absurd i
found_numbered low high (x ∷ rules) r h (inl e) =
    let same : x.number ≡ r.number = ap (λ y. y.number) e in
    ap (λ t. if t then Some x else find (λ y. y.number == r.number) rules) (eq-eqb x.number r.number same) ∙ ap (λ y. Some y) e
found_numbered low high (x ∷ rules) r h (inr i) =
    let a = above x.number high rules r h.2 i in
    ap (λ t. if t then Some x else find (λ y. y.number == r.number) rules) (ne_eqb x.number r.number (λ e. omega (arith, a, e))) ∙ found_numbered x.number high rules r h.2 i

-- ---- sound actions

sound_filter : (p : Rule → Bool) (rules : List Rule) → list_all is_sound_rule rules ≡ true → list_all is_sound_rule (filter p rules) ≡ true
sound_filter p [] h = refl
sound_filter p (r ∷ rules) h = let parts = and_parts (is_sound_rule r) (list_all is_sound_rule rules) h in by_test (p r) parts.0 (sound_filter p rules parts.1)
  where
    by_test : (t : Bool) → is_sound_rule r ≡ true → list_all is_sound_rule (filter p rules) ≡ true → list_all is_sound_rule (if t then r ∷ filter p rules else filter p rules) ≡ true
    by_test true first others = and_from (is_sound_rule r) (list_all is_sound_rule (filter p rules)) first others
    by_test false first others = others

sound_modified : (picked : Rule → Bool) (e : Edit) (rules : List Rule) → has_sound_actions e ≡ true → list_all is_sound_rule rules ≡ true → list_all is_sound_rule (modified picked e rules) ≡ true
sound_modified picked e [] sound h = refl
sound_modified picked e (r ∷ rules) sound h = let parts = and_parts (is_sound_rule r) (list_all is_sound_rule rules) h in by_test (picked r) parts.0 (sound_modified picked e rules sound parts.1)
  where
    by_test : (t : Bool) → is_sound_rule r ≡ true → list_all is_sound_rule (modified picked e rules) ≡ true → list_all is_sound_rule ((if t then with_actions e r else r) ∷ modified picked e rules) ≡ true
    by_test true first others = and_from (is_sound_rule (with_actions e r)) (list_all is_sound_rule (modified picked e rules)) sound others
    by_test false first others = and_from (is_sound_rule r) (list_all is_sound_rule (modified picked e rules)) first others

sound_push : (rules : List Rule) (r : Rule) → list_all is_sound_rule rules ≡ true → is_sound_rule r ≡ true → list_all is_sound_rule (rules ++ r ∷ []) ≡ true
sound_push [] r h last = and_from (is_sound_rule r) true last refl
sound_push (x ∷ rules) r h last = let parts = and_parts (is_sound_rule x) (list_all is_sound_rule rules) h in and_from (is_sound_rule x) (list_all is_sound_rule (rules ++ r ∷ [])) parts.0 (sound_push rules r parts.1 last)

sound_edited : (word : EditWord) (n : ℕ) (e : Edit) (rules : List Rule) → has_sound_actions e ≡ true → list_all is_sound_rule rules ≡ true → list_all is_sound_rule (edited word n e rules) ≡ true
sound_edited Add n e rules sound h = sound_push (without (is_named_by e) rules) (rule_of n e) (sound_filter (λ r. not (is_named_by e r)) rules h) sound
sound_edited Modify n e rules sound h = sound_modified (is_reached_by e) e rules sound h
sound_edited ModifyStrict n e rules sound h = sound_modified (is_named_by e) e rules sound h
sound_edited Delete n e rules sound h = sound_filter (λ r. not (is_reached_by e r)) rules h
sound_edited DeleteStrict n e rules sound h = sound_filter (λ r. not (is_named_by e r)) rules h

sound_at : (edits : List Edit) (n : ℕ) (e : Edit) → list_all has_sound_actions edits ≡ true → slice_get edits n ≡ Some e → has_sound_actions e ≡ true
sound_at [] n e all is = absurd (cc is)
sound_at (x ∷ edits) zero e all is = let same : x ≡ e = cc is in subst (λ y. has_sound_actions y ≡ true) same (and_parts (has_sound_actions x) (list_all has_sound_actions edits) all).0
sound_at (x ∷ edits) (suc n) e all is = sound_at edits n e (and_parts (has_sound_actions x) (list_all has_sound_actions edits) all).1 is

sound_after : (n : ℕ) (e : Option Edit) (rules : List Rule) → ((x : Edit) → e ≡ Some x → has_sound_actions x ≡ true) → list_all is_sound_rule rules ≡ true → list_all is_sound_rule (after_edit n e rules) ≡ true
sound_after n None rules sound h = h
sound_after n (Some e) rules sound h = sound_edited e.word n e rules (sound e refl) h

sound_after_edits : (edits : List Edit) (v : ℕ) → list_all has_sound_actions edits ≡ true → list_all is_sound_rule (after_edits edits v) ≡ true
unfolding after_edits
sound_after_edits edits zero all = refl
sound_after_edits edits (suc v) all = sound_after (suc v) (slice_get edits v) (after_edits edits v) (λ e. sound_at edits v e all) (sound_after_edits edits v all)

-- ---- versions

pub runnable-after_edits : (edits : List Edit) (n : ℕ) → IsTrue (list_all has_sound_actions edits) → AreRunnable (after_edits edits n)
runnable-after_edits edits n all = record {
  sound = sound_after_edits edits n all;
  numbered = λ r among. found_numbered 0 n (after_edits edits n) r (rise_after_edits edits n) among;
}

pub runnable-version : (edits : List Edit) (bundles : List ℕ) (v : ℕ) → IsTrue (list_all has_sound_actions edits) → AreRunnable (version edits bundles v)
runnable-version edits bundles v all = runnable-after_edits edits (edits_through bundles v) all
