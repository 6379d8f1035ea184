-- One more edit and one more bundle of a script, and the rules that they make.
use Rattle.std.proofs.Common.{◌≡◌, ℕ, suc, ◌+◌, List, [], ◌∷◌, ◌++◌, length, take, Some, None, Option, refl, sym, ap, ◌∙◌, arith, length-append, take_all}
use Rattle.std.proofs.Math.ListN.{drop_of_length-le}
use Rattle.std.proofs.Math.Seq.{get_or-append_seam}
use Rattle.std.proofs.lemmas.List.{take-append-le, drop-append-le, take-append-drop, length-take-le, length-drop}
use Rattle.spec_tables.specs.Edits.{Edit}
use Rattle.spec_tables.specs.Bundles.{edits_through}
use Rattle.rule_tables.specs.History.{History, applied, no_bundles, bundled_by, history_of}
use Rattle.rule_tables.proofs.Histories.{history-none, history-bundled, applied-edit_history}
use Rattle.edit_script.specs.Made.{AreRules, Keeps}
use Rattle.edit_script.proofs.Changes.{changes_grow}

-- where edits change more than they may, more of them do
pub still_none : (edits list : List Edit) (bundles more : List ℕ) → AreRules edits bundles None → AreRules (edits ++ list) more None
still_none edits list bundles more many = omega (arith, many, changes_grow edits list)

-- the rules after one more bundle
pub bundled_rules : (edits list : List Edit) (bundles : List ℕ) (before now : History) → before ≡ history_of edits bundles → now ≡ bundled_by list before
    → now ≡ history_of (edits ++ list) (bundles ++ (length edits + length list) ∷ [])
bundled_rules edits list bundles before now was is = is ∙ ap (bundled_by list) was ∙ history-bundled edits list bundles

-- how many edits stand through the last bundle
all_through : (bundles : List ℕ) (n : ℕ) → edits_through (bundles ++ n ∷ []) (length (bundles ++ n ∷ [])) ≡ n
all_through bundles n =
    let long : length (bundles ++ n ∷ []) ≡ suc (length bundles) = omega (arith, length-append bundles (n ∷ [])) in
    ap (edits_through (bundles ++ n ∷ [])) long ∙ get_or-append_seam bundles n [] 0

-- one more edit
pub one_more : (edits pending : List Edit) (bundles : List ℕ) (rules : Option History) (e : Edit) → Keeps edits bundles rules pending → Keeps (edits ++ e ∷ []) bundles rules (pending ++ e ∷ [])
one_more edits pending bundles rules e k = record {
  within = omega (arith, k.within, length-append edits (e ∷ []));
  made = rw (take-append-le _ edits (e ∷ []) k.within) k.made;
  are_pending = ap (λ (es : List Edit). es ++ e ∷ []) k.are_pending ∙ sym (drop-append-le _ edits (e ∷ []) k.within);
}

-- one more bundle, of the edits that are pending
pub one_bundle : (edits pending : List Edit) (bundles : List ℕ) (n : ℕ) (rules now : Option History) → Keeps edits bundles rules pending → n ≡ length edits
    → ((es : List Edit) (bs : List ℕ) → AreRules es bs rules → AreRules (es ++ pending) (bs ++ (length es + length pending) ∷ []) now)
    → Keeps edits (bundles ++ n ∷ []) now []
one_bundle edits pending bundles n rules now k all applied =
    let through : ℕ = edits_through bundles (length bundles) in
    let whole : take through edits ++ pending ≡ edits = ap (λ (es : List Edit). take through edits ++ es) k.are_pending ∙ take-append-drop through edits in
    let count : length (take through edits) + length pending ≡ n = omega (arith, ap length whole, length-append (take through edits) pending, all) in
    let last : edits_through (bundles ++ n ∷ []) (length (bundles ++ n ∷ [])) ≡ n = all_through bundles n in
    let its : AreRules edits (bundles ++ n ∷ []) now = rw (whole, count) at (applied (take through edits) bundles k.made) in
    record {
      within = omega (arith, last, all);
      made = rw (last, take_all n edits (omega (arith, all))) its;
      are_pending = sym (drop_of_length-le edits (omega (arith, last, all)));
    }

-- where no edit is pending
pub all_made : (edits : List Edit) (bundles : List ℕ) (rules : Option History) (pending : List Edit) → Keeps edits bundles rules pending
    → edits_through bundles (length bundles) ≡ length edits → AreRules edits bundles rules
all_made edits bundles rules pending k whole = rw (take_all (edits_through bundles (length bundles)) edits (omega (arith, whole))) at k.made

-- before the first line
pub nothing_kept : (rules : History) → rules ≡ no_bundles → Keeps [] [] (Some rules) []
nothing_kept rules none = record {
  within = omega arith;
  made = (none ∙ history-none, omega (arith, ap (λ (h : History). h.edits.changes) history-none));
  are_pending = refl;
}

-- the edits that were applied, and those that are pending, are all
pub applied_so_far : (edits pending : List Edit) (bundles : List ℕ) (rules : History) → Keeps edits bundles (Some rules) pending → applied rules.edits + length pending ≡ length edits
applied_so_far edits pending bundles rules k =
    let through : ℕ = edits_through bundles (length bundles) in
    let made : applied rules.edits ≡ length (take through edits) = ap (λ (h : History). applied h.edits) k.made.0 ∙ applied-edit_history (take through edits) in
    omega (arith, made, length-take-le through edits k.within, ap length k.are_pending, length-drop through edits, k.within)
