use Rattle.std.proofs.Common.{◌≡◌, ℕ, zero, suc, Bool, true, false, List, [], ◌∷◌, length, arith, sym, ap, ◌∙◌, inl, inr}
use Rattle.std.specs.Prelude.{All, filter, vec_len}
use Rattle.std.proofs.lemmas.Bool.{cases_Bool, cond-true, cond-false, eqb-true}
use Rattle.ovs_fields.specs.Packed.{numbers, bits}
use Rattle.megaflow_table.specs.declared.entry.Entry.{Entry}
use Rattle.megaflow_table.specs.Entries.{numbers_of, overlaps}
use Rattle.table_tests.proofs.megaflows.overlaps_none.Goals as goal

kept : (p : Entry → Bool) (e : Entry) (es : List Entry) → p e ≡ true → length (numbers_of (filter p (e ∷ es))) ≡ 0 → ⊥
kept p e es holds none =
    let more : length (numbers_of (filter p (e ∷ es))) ≡ suc (length (numbers_of (filter p es))) = ap (λ (xs : List Entry). length (numbers_of xs)) (cond-true (p e) (e ∷ filter p es) (filter p es) holds) in
    omega (arith, more, none)

none_pass : (p : Entry → Bool) (es : List Entry) → length (numbers_of (filter p es)) ≡ 0 → All (λ (e : Entry). p e ≡ false) es
none_pass p [] none k d lt = absurd (omega arith)
none_pass p (e ∷ es) none zero d lt = elim (cases_Bool (p e)) [ inl holds ↦ absurd (kept p e es holds none) | inr fails ↦ fails ]
none_pass p (e ∷ es) none (suc k) d lt =
    elim (cases_Bool (p e)) [
      | inl holds ↦ absurd (kept p e es holds none)
      | inr fails ↦ none_pass p es (sym (ap (λ (xs : List Entry). length (numbers_of xs)) (cond-false (p e) (e ∷ filter p es) (filter p es) fails)) ∙ none) k d (omega arith)
    ]

pub returns : goal.returns
returns c empty =
    let none : vec_len c.in_ok-overlapping.overlapping ≡ 0 = eqb-true (vec_len c.in_ok-overlapping.overlapping) 0 (sym c.is_empty.ensures ∙ empty) in
    none_pass (overlaps (numbers c.args.entry.now.key) (bits c.args.entry.now.mask)) c.args.table.now.entries
    (sym (ap (λ (ns : List ℕ). length ns) c.in_ok-overlapping.ensures) ∙ sym c.in_ok-overlapping.overlapping.ok.0 ∙ none)
