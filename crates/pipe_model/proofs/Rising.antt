-- The numbers of the rules that edits make rise.
use Rattle.std.proofs.Common.{ℕ, zero, suc, ◌≤◌, ◌<◌, Bool, true, false, not, if◌then◌else◌, List, [], ◌∷◌, ◌++◌, filter, slice_get, Option, Some, None, arith}
use Rattle.spec_tables.specs.declared.edit_word.EditWord.{EditWord}
use Rattle.spec_tables.specs.declared.edit_word.EditWord.TheVariants.{Add, Modify, ModifyStrict, Delete, DeleteStrict}
use Rattle.spec_tables.specs.Rules.{Rule}
use Rattle.spec_tables.specs.Edits.{Edit, rule_of, with_actions, modified, without, is_named_by, is_reached_by, edited, after_edit, after_edits}

-- numbers rise from above a bound on, and none is above another
abbrev pub Rise : ℕ → ℕ → List Rule → Type 0
Rise low high [] = Unit {0}
Rise low high (r ∷ rules) = (low < r.number) × (r.number ≤ high) × Rise r.number high rules

rise_lower : (low lower high : ℕ) (rules : List Rule) → lower ≤ low → Rise low high rules → Rise lower high rules
rise_lower low lower high [] le h = tt
rise_lower low lower high (r ∷ rules) le h = (omega (arith, h.0, le), h.1, h.2)

rise_higher : (low high higher : ℕ) (rules : List Rule) → high ≤ higher → Rise low high rules → Rise low higher rules
rise_higher low high higher [] le h = tt
rise_higher low high higher (r ∷ rules) le h = (h.0, omega (arith, h.1, le), rise_higher r.number high higher rules le h.2)

rise_filter : (p : Rule → Bool) (low high : ℕ) (rules : List Rule) → Rise low high rules → Rise low high (filter p rules)
rise_filter p low high [] h = tt
rise_filter p low high (r ∷ rules) h = by_test (p r) (rise_filter p r.number high rules h.2)
  where
    by_test : (t : Bool) → Rise r.number high (filter p rules) → Rise low high (if t then r ∷ filter p rules else filter p rules)
    by_test true others = (h.0, h.1, others)
    by_test false others = rise_lower r.number low high (filter p rules) (omega (arith, h.0)) others

rise_modified : (picked : Rule → Bool) (e : Edit) (low high : ℕ) (rules : List Rule) → Rise low high rules → Rise low high (modified picked e rules)
rise_modified picked e low high [] h = tt
rise_modified picked e low high (r ∷ rules) h = by_test (picked r) (rise_modified picked e r.number high rules h.2)
  where
    by_test : (t : Bool) → Rise r.number high (modified picked e rules) → Rise low high ((if t then with_actions e r else r) ∷ modified picked e rules)
    by_test true others = (h.0, h.1, others)
    by_test false others = (h.0, h.1, others)

rise_push : (low high : ℕ) (rules : List Rule) (r : Rule) → low < r.number → high < r.number → Rise low high rules → Rise low r.number (rules ++ r ∷ [])
rise_push low high [] r above new h = (above, omega arith, tt)
rise_push low high (x ∷ rules) r above new h = (h.0, omega (arith, h.1, new), rise_push x.number high rules r (omega (arith, h.1, new)) new h.2)

rise_edited : (word : EditWord) (n : ℕ) (e : Edit) (rules : List Rule) → Rise 0 n rules → Rise 0 (suc n) (edited word (suc n) e rules)
rise_edited Add n e rules h = rise_push 0 n (without (is_named_by e) rules) (rule_of (suc n) e) (omega arith) (omega arith) (rise_filter (λ r. not (is_named_by e r)) 0 n rules h)
rise_edited Modify n e rules h = rise_higher 0 n (suc n) (modified (is_reached_by e) e rules) (omega arith) (rise_modified (is_reached_by e) e 0 n rules h)
rise_edited ModifyStrict n e rules h = rise_higher 0 n (suc n) (modified (is_named_by e) e rules) (omega arith) (rise_modified (is_named_by e) e 0 n rules h)
rise_edited Delete n e rules h = rise_higher 0 n (suc n) (without (is_reached_by e) rules) (omega arith) (rise_filter (λ r. not (is_reached_by e r)) 0 n rules h)
rise_edited DeleteStrict n e rules h = rise_higher 0 n (suc n) (without (is_named_by e) rules) (omega arith) (rise_filter (λ r. not (is_named_by e r)) 0 n rules h)

rise_after : (n : ℕ) (e : Option Edit) (rules : List Rule) → Rise 0 n rules → Rise 0 (suc n) (after_edit (suc n) e rules)
rise_after n None rules h = rise_higher 0 n (suc n) rules (omega arith) h
rise_after n (Some e) rules h = rise_edited e.word n e rules h

pub rise_after_edits : (edits : List Edit) (n : ℕ) → Rise 0 n (after_edits edits n)
unfolding after_edits
rise_after_edits edits zero = tt
rise_after_edits edits (suc n) = rise_after n (slice_get edits n) (after_edits edits n) (rise_after_edits edits n)
