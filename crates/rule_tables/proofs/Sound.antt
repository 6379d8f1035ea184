-- What holds of the store, at first and after each edit that adds no rule.
use Rattle.std.proofs.Common.{◌≡◌, ℕ, ◌+◌, ◌*◌, ◌^◌, ◌≤◌, ◌<◌, Bool, true, false, cond, List, [], ◌∷◌, ◌++◌, length, map, refl, sym, ap, ap₂, ◌∙◌, subst, arith, inl, inr, lit<, lit≤, zero-add, add-zero}
use Rattle.std.specs.Prelude.{count_by}
use Rattle.std.proofs.lemmas.Bool.{cases_Bool, false≢true, cond-false}
use Rattle.std.proofs.lemmas.List.Sums.{count_by-le-length}
use Rattle.std.proofs.lemmas.Option.{none-some}
use Rattle.spec_tables.specs.declared.edit_word.EditWord.{EditWord}
use Rattle.spec_tables.specs.declared.edit_word.EditWord.TheVariants.{Add, Modify, ModifyStrict, Delete, DeleteStrict}
use Rattle.spec_tables.specs.Rules as tables
use Rattle.spec_tables.specs.Edits.{Edit, edited, modified, with_actions, without}
use Rattle.rule_tables.specs.declared.stored.Modification.{Modification}
use Rattle.rule_tables.specs.declared.stored.StoredRule.{StoredRule}
use Rattle.spec_tables.specs.Changes.{changes_by}
use Rattle.rule_tables.specs.History.{EditHistory, edited_by, states_to}
use Rattle.rule_tables.specs.Stored.{is_modify, is_picked_by, acts_on, rules_at, ended_by, AreInOrder, AreNumbered, AreLives, AreMade, AreApart, AreConsistent}
use Rattle.rule_tables.proofs.Counts.{count_by-cons}
use Rattle.rule_tables.proofs.FilterMaps.{push_cases}
use Rattle.rule_tables.proofs.Histories.{pushed}
use Rattle.rule_tables.proofs.Endings.{rules_before_ends, numbered_ends, in_order_ends, lives_ends, rules_ended, count_picked}
use Rattle.rule_tables.proofs.Finds.{apart_ended}
use Rattle.rule_tables.proofs.Lives.{length_within}
use Rattle.rule_tables.proofs.Modified.{rules_before_modification, rules_modified, rules_next}

-- the same modifications and rules
pub sound_moved : (made now : List Modification) (xs zs : List StoredRule) (last changes : ℕ) → now ≡ made → zs ≡ xs → AreConsistent made xs last changes → AreConsistent now zs last changes
sound_moved made now xs zs last changes as_made same sound =
    subst (λ (all : List Modification). AreConsistent all zs last changes) (sym as_made)
    (subst (λ (stored : List StoredRule). AreConsistent made stored last changes) (sym same) sound)

-- no rules
pub sound_at_first : (made : List Modification) (xs : List StoredRule) → made ≡ [] → xs ≡ [] → AreConsistent made xs 0 0
sound_at_first made xs no_modifications none =
    sound_moved [] made [] xs 0 0 no_modifications none (record {
      fits = lit< tt;
      in_order = λ i j s t at. absurd (none-some s at);
      numbered = λ i s at. absurd (none-some s at);
      lives = record { begun = λ i gone s at. absurd (none-some s at); ended = λ i gone s at. absurd (none-some s at) };
      made = λ i m at. absurd (none-some m at);
      apart = λ e i j s t at. absurd (none-some s at);
      few_changes = lit≤ tt;
    })

-- an edit acts on no more rules than there are edits
pub few_picked : (made : List Modification) (xs : List StoredRule) (last : ℕ) (e : Edit) → AreNumbered xs last → count_by (acts_on e) xs ≤ last
few_picked made xs last e numbered =
    let few : length xs ≤ last = length_within xs last numbered in
    omega (arith, count_by-le-length (acts_on e) xs)

-- what holds up to the last edit holds up to the next
numbered_next : (xs : List StoredRule) (last : ℕ) → AreNumbered xs last → AreNumbered xs (last + 1)
numbered_next xs last numbered i s at =
    let bounds = numbered i s at in
    let low : i < s.rule.number = bounds.0 in
    let high : s.rule.number ≤ last = bounds.1 in
    (omega arith, omega arith)

lives_next : (xs : List StoredRule) (last : ℕ) → AreLives xs last → AreLives xs (last + 1)
lives_next xs last lives = record { begun = lives.begun; ended = λ i gone s at ends. let le : gone ≤ last = lives.ended i gone s at ends in omega arith }

made_next : (made : List Modification) (last : ℕ) → AreMade made last → AreMade made (last + 1)
made_next made last all i m at = let le : m.number ≤ last = all i m at in omega arith

-- ---- modifies

modified_as : (word : EditWord) → is_modify word ≡ true → (n : ℕ) (e : Edit) (rules : List tables.Rule)
    → (edited word n e rules ≡ modified (is_picked_by word e) e rules) × (changes_by word e rules ≡ count_by (is_picked_by word e) rules)
modified_as Add is n e rules = absurd (false≢true is)
modified_as Modify is n e rules = (refl, refl)
modified_as ModifyStrict is n e rules = (refl, refl)
modified_as Delete is n e rules = absurd (false≢true is)
modified_as DeleteStrict is n e rules = absurd (false≢true is)

pub sound_modified : (made : List Modification) (xs : List StoredRule) (last changes : ℕ) → AreConsistent made xs last changes
    → (m : Modification) → last + 1 < 2 ^ 32 → is_modify m.edit.word ≡ true → m.number ≡ last + 1
    → (count : ℕ) → count ≡ count_by (is_picked_by m.edit.word m.edit) (rules_at made last xs)
    → AreConsistent (made ++ m ∷ []) xs m.number (changes + count)
    × (record { states = states_to m.number (λ v. rules_at (made ++ m ∷ []) v xs); changes = changes + count }
    ≡ edited_by m.edit (record { states = states_to last (λ v. rules_at made v xs); changes = changes }))
sound_modified made xs last changes sound m room modifies its_number count counted =
    let shape = modified_as m.edit.word modifies (last + 1) m.edit (rules_at made last xs) in (
      subst (λ (n : ℕ). AreConsistent (made ++ m ∷ []) xs n (changes + count)) (sym its_number) (record {
        fits = room;
        in_order = sound.in_order;
        numbered = numbered_next xs last sound.numbered;
        lives = lives_next xs last sound.lives;
        made = λ i n at.
            elim (push_cases made m n i at) [
              | inl earlier ↦ let le : n.number ≤ last = sound.made i n earlier in omega arith
              | inr (latest, is) ↦ let now : n.number ≡ last + 1 = ap (λ (k : Modification). k.number) is ∙ its_number in omega arith
            ];
        apart = sound.apart;
        few_changes =
            let so_far : changes ≤ 2 ^ 32 * last = sound.few_changes in
            let few : count_by (acts_on m.edit) xs ≤ last = few_picked made xs last m.edit sound.numbered in
            let number : count ≡ count_by (acts_on m.edit) xs = counted ∙ count_picked made xs last m.edit sound.numbered sound.lives in
            omega arith;
      }),
      ap (λ (n : ℕ). let h : EditHistory = record { states = states_to n (λ v. rules_at (made ++ m ∷ []) v xs); changes = changes + count } in h) its_number
          ∙ pushed last (λ v. rules_at made v xs) (λ v. rules_at (made ++ m ∷ []) v xs) changes (changes + count) m.edit
          (λ v le. rules_before_modification made m xs v (omega arith))
          (rules_modified made m xs last its_number sound.numbered sound.lives sound.made ∙ sym shape.0)
          (ap (λ (n : ℕ). changes + n) (counted ∙ sym shape.1)),
    )

-- where no rule is picked none changes
modified_none : (p : tables.Rule → Bool) (e : Edit) (rules : List tables.Rule) → count_by p rules ≡ 0 → modified p e rules ≡ rules
modified_none p e [] none = refl
modified_none p e (r ∷ rules) none =
    elim (cases_Bool (p r)) [
      | inl passes ↦
          let one : 1 + count_by p rules ≡ 0 = sym (count_by-cons p r rules ∙ ap (λ (t : Bool). cond t 1 0 + count_by p rules) passes) ∙ none in
          absurd (omega arith)
      | inr fails ↦
          let rest : count_by p rules ≡ 0 =
          sym (count_by-cons p r rules ∙ ap (λ (t : Bool). cond t 1 0 + count_by p rules) fails ∙ zero-add (count_by p rules)) ∙ none in
          ap₂ (λ (x : tables.Rule) (xs : List tables.Rule). x ∷ xs) (cond-false (p r) (with_actions e r) r fails) (modified_none p e rules rest)
    ]

pub sound_idle : (made : List Modification) (xs : List StoredRule) (last changes : ℕ) → AreConsistent made xs last changes
    → (e : Edit) → last + 1 < 2 ^ 32 → is_modify e.word ≡ true → count_by (is_picked_by e.word e) (rules_at made last xs) ≡ 0
    → AreConsistent made xs (last + 1) changes
    × (record { states = states_to (last + 1) (λ v. rules_at made v xs); changes = changes }
    ≡ edited_by e (record { states = states_to last (λ v. rules_at made v xs); changes = changes }))
sound_idle made xs last changes sound e room modifies none =
    let shape = modified_as e.word modifies (last + 1) e (rules_at made last xs) in (
      record {
        fits = room;
        in_order = sound.in_order;
        numbered = numbered_next xs last sound.numbered;
        lives = lives_next xs last sound.lives;
        made = made_next made last sound.made;
        apart = sound.apart;
        few_changes = let so_far : changes ≤ 2 ^ 32 * last = sound.few_changes in omega arith;
      },
      pushed last (λ v. rules_at made v xs) (λ v. rules_at made v xs) changes changes e (λ v le. refl)
          (rules_next made xs last sound.numbered sound.lives sound.made ∙ sym (modified_none (is_picked_by e.word e) e (rules_at made last xs) none) ∙ sym shape.0)
          (sym (ap (λ (n : ℕ). changes + n) (shape.1 ∙ none) ∙ add-zero changes)),
    )

-- ---- deletes

-- whether edits of this kind remove rules
abbrev pub is_delete : EditWord → Bool
is_delete Delete = true
is_delete DeleteStrict = true
is_delete Add = false
is_delete Modify = false
is_delete ModifyStrict = false

deleted_as : (word : EditWord) → is_delete word ≡ true → (n : ℕ) (e : Edit) (rules : List tables.Rule)
    → (edited word n e rules ≡ without (is_picked_by word e) rules) × (changes_by word e rules ≡ count_by (is_picked_by word e) rules)
deleted_as Add is n e rules = absurd (false≢true is)
deleted_as Modify is n e rules = absurd (false≢true is)
deleted_as ModifyStrict is n e rules = absurd (false≢true is)
deleted_as Delete is n e rules = (refl, refl)
deleted_as DeleteStrict is n e rules = (refl, refl)

pub sound_deleted : (made : List Modification) (xs : List StoredRule) (last changes : ℕ) → AreConsistent made xs last changes
    → (e : Edit) → last + 1 < 2 ^ 32 → is_delete e.word ≡ true → (zs : List StoredRule) → zs ≡ map (ended_by e (last + 1)) xs
    → (count : ℕ) → count ≡ count_by (acts_on e) xs
    → AreConsistent made zs (last + 1) (changes + count)
    × (record { states = states_to (last + 1) (λ v. rules_at made v zs); changes = changes + count }
    ≡ edited_by e (record { states = states_to last (λ v. rules_at made v xs); changes = changes }))
sound_deleted made xs last changes sound e room deletes zs is count counted =
    let shape = deleted_as e.word deletes (last + 1) e (rules_at made last xs) in (
      record {
        fits = room;
        in_order = subst (λ (stored : List StoredRule). AreInOrder stored) (sym is) (in_order_ends made xs last e sound.numbered sound.lives sound.in_order);
        numbered = subst (λ (stored : List StoredRule). AreNumbered stored (last + 1)) (sym is) (numbered_next (map (ended_by e (last + 1)) xs) last (numbered_ends made xs last e sound.numbered sound.lives));
        lives = subst (λ (stored : List StoredRule). AreLives stored (last + 1)) (sym is) (lives_ends made xs last e sound.numbered sound.lives);
        made = made_next made last sound.made;
        apart = subst (λ (stored : List StoredRule). AreApart stored) (sym is) (apart_ended e (last + 1) xs sound.apart);
        few_changes =
            let so_far : changes ≤ 2 ^ 32 * last = sound.few_changes in
            let few : count_by (acts_on e) xs ≤ last = few_picked made xs last e sound.numbered in
            omega arith;
      },
      pushed last (λ v. rules_at made v xs) (λ v. rules_at made v zs) changes (changes + count) e
          (λ v le. ap (rules_at made v) is ∙ rules_before_ends made xs last e v le)
          (ap (rules_at made (last + 1)) is ∙ rules_ended made xs last e sound.numbered sound.lives sound.made ∙ sym shape.0)
          (ap (λ (n : ℕ). changes + n) (counted ∙ sym (count_picked made xs last e sound.numbered sound.lives) ∙ sym shape.1)),
    )
