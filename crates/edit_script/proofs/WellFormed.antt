-- What is true of every script, line by line.
use Rattle.std.proofs.Common.{◌≡◌, ℕ, zero, suc, ◌+◌, ◌-◌, ◌≤◌, ◌<◌, List, [], ◌∷◌, ◌++◌, length, Bool, true, Option, Some, None, IsTrue, inl, inr, refl, sym, subst, add-one, length-append, arith}
use Rattle.std.specs.Prelude.{nat_lt}
use Rattle.std.specs.List.{list_all}
use Rattle.std.proofs.lemmas.Bool.{cases_lt, lt-ltb, le-ltb, cond-true, cond-false}
use Rattle.std.proofs.lemmas.List.Folds.{list_all-append}
use Rattle.spec_tables.specs.Edits.{Edit, has_sound_actions}
use Rattle.spec_tables.specs.Bundles.{edits_through, AreBundles}
use Rattle.spec_tables.specs.declared.sync_point.SyncPoint.{SyncPoint}
use Rattle.spec_case.specs.Blocks.{bundles_through, AreInOrder}
use Rattle.spec_input.specs.Script.{Script, Begun, Reading, reads, with_bundle, with_edit_in, most_edits, most_syncs}
use Rattle.table_laws.proofs.Bundles.{few_bundles, bundles-push}
use Rattle.edit_script.specs.WellFormed.{IsWellFormed}

-- ---- bundles

-- there are no more of them than edits
pub bundles_within : (r : Reading) → IsWellFormed r → length r.said.bundles ≤ most_edits
bundles_within r formed =
    let few = few_bundles r.said.bundles (edits_through r.said.bundles (length r.said.bundles)) formed.bundles in
    omega (arith, few, formed.through, formed.edit_count)

-- ---- sync points

-- what `AreInOrder` says, step by step
Steps : List SyncPoint → ℕ → Type 0
Steps syncs bundles = (block : ℕ) → (bundles_through syncs bundles block ≤ bundles_through syncs bundles (suc block)) × (bundles_through syncs bundles block ≤ bundles)

through_more : (syncs : List SyncPoint) (bundles block : ℕ) → bundles_through syncs bundles block ≤ bundles_through syncs (bundles + 1) block
through_more [] bundles block = omega arith
through_more (s ∷ syncs) bundles zero = omega arith
through_more (s ∷ syncs) bundles (suc block) = through_more syncs bundles block

more_steps : (syncs : List SyncPoint) (bundles : ℕ) → Steps syncs bundles → Steps syncs (bundles + 1)
unfolding Steps
more_steps [] bundles steps = λ block. (omega arith, omega arith)
more_steps (s ∷ syncs) bundles steps = from (more_steps syncs bundles (λ block. steps (suc block)))
  where
    from : Steps syncs (bundles + 1) → Steps (s ∷ syncs) (bundles + 1)
    from steps_after zero = (omega (arith, (steps 0).0, through_more syncs bundles 0), omega (arith, (steps 0).1))
    from steps_after (suc block) = steps_after block

-- a bundle more after all sync points
more_bundles : (syncs : List SyncPoint) (bundles : ℕ) → AreInOrder syncs bundles → AreInOrder syncs (bundles + 1)
unfolding Steps
more_bundles syncs bundles in_order = λ block. rw (add-one block) (more_steps syncs bundles (λ k. rw (add-one k) at (in_order k)) block)

-- one sync point more, after all bundles
through_push : (syncs : List SyncPoint) (s : SyncPoint) (bundles block : ℕ) → s.after ≡ bundles
    → bundles_through (syncs ++ s ∷ []) bundles block ≡ bundles_through syncs bundles block
through_push [] s bundles zero all = all
through_push [] s bundles (suc block) all = refl
through_push (x ∷ syncs) s bundles zero all = refl
through_push (x ∷ syncs) s bundles (suc block) all = through_push syncs s bundles block all

more_syncs : (syncs : List SyncPoint) (s : SyncPoint) (bundles : ℕ) → s.after ≡ bundles → AreInOrder syncs bundles → AreInOrder (syncs ++ s ∷ []) bundles
more_syncs syncs s bundles all in_order =
    λ block. rw (through_push syncs s bundles block all, through_push syncs s bundles (block + 1) all) (in_order block)

-- ---- scripts

-- a test of each element, and one more
push_all : {X : Type 0} (p : X → Bool) (xs : List X) (x : X) → list_all p xs ≡ true → p x ≡ true → list_all p (xs ++ x ∷ []) ≡ true
push_all p xs x all one = rw (list_all-append p xs (x ∷ []), all, one) refl

-- one more edit, in a bundle
in_bundle : (r : Reading) (e : Edit) (b : Begun) → IsWellFormed r → IsTrue (has_sound_actions e) → length r.said.edits < most_edits
    → IsWellFormed (record { said = record r.said { edits = r.said.edits ++ e ∷ [] }; begun = Some b })
in_bundle r e b formed sound room = record {
  sound = push_all has_sound_actions r.said.edits e formed.sound sound;
  edit_count = omega (arith, length-append r.said.edits (e ∷ []), room);
  sync_count = formed.sync_count;
  in_order = formed.in_order;
  bundles = formed.bundles;
  through = omega (arith, length-append r.said.edits (e ∷ []), formed.through);
  whole = λ none. absurd (cc none);
}

-- all edits stand in bundles
module _ (s : Script) (begun : Option Begun) (formed : IsWellFormed (record { said = s; begun = begun })) where
  abbrev through : ℕ
  through = edits_through s.bundles (length s.bundles)

  rest : through + (length s.edits - through) ≡ length s.edits
  rest = omega (arith, formed.through)

  bundled : through < length s.edits → IsWellFormed (record { said = record s { bundles = s.bundles ++ length s.edits ∷ [] }; begun = None })
  bundled more =
      let pushed : AreBundles (s.bundles ++ (through + (length s.edits - through)) ∷ []) (through + (length s.edits - through)) =
      bundles-push s.bundles through (length s.edits - through) formed.bundles (omega arith) in
      let are : AreBundles (s.bundles ++ length s.edits ∷ []) (length s.edits) = subst (λ (n : ℕ). AreBundles (s.bundles ++ n ∷ []) n) rest pushed in
      record {
        sound = formed.sound;
        edit_count = formed.edit_count;
        sync_count = formed.sync_count;
        in_order = rw (length-append s.bundles (length s.edits ∷ [])) (more_bundles s.syncs (length s.bundles) formed.in_order);
        bundles = subst (λ (n : ℕ). AreBundles (s.bundles ++ length s.edits ∷ []) n) (sym are.whole) are;
        through = omega (arith, are.whole);
        whole = λ none. are.whole;
      }

  stays : length s.edits ≤ through → IsWellFormed (record { said = s; begun = None })
  stays all = record {
    sound = formed.sound;
    edit_count = formed.edit_count;
    sync_count = formed.sync_count;
    in_order = formed.in_order;
    bundles = formed.bundles;
    through = formed.through;
    whole = λ none. omega (arith, formed.through, all);
  }

  pub formed_with_bundle : IsWellFormed (record { said = with_bundle s; begun = None })
  formed_with_bundle =
      let P : Script → Type 0 = λ t. IsWellFormed (record { said = t; begun = None }) in
      elim (cases_lt through (length s.edits)) [
        | inl more ↦ subst P (sym (cond-true (nat_lt through (length s.edits)) (record s { bundles = s.bundles ++ length s.edits ∷ [] }) s (lt-ltb through (length s.edits) more))) (bundled more)
        | inr all ↦ subst P (sym (cond-false (nat_lt through (length s.edits)) (record s { bundles = s.bundles ++ length s.edits ∷ [] }) s (le-ltb through (length s.edits) all))) (stays all)
      ]

pub formed_with_edit : (r : Reading) (e : Edit) → IsWellFormed r → IsTrue (has_sound_actions e) → length r.said.edits < most_edits
    → IsWellFormed (reads (with_edit_in r.begun e r.said) r)
formed_with_edit r e formed sound room = by r.begun refl
  where
    by : (o : Option Begun) → r.begun ≡ o → IsWellFormed (record { said = with_edit_in o e r.said; begun = o })
    by (Some b) is = in_bundle r e b formed sound room
    by None is =
        let b : Begun = record { line = 0; column = 0 } in
        formed_with_bundle (record r.said { edits = r.said.edits ++ e ∷ [] }) (Some b) (in_bundle r e b formed sound room)

pub formed_with_sync : (r : Reading) (s : SyncPoint) → IsWellFormed r → s.after ≡ length r.said.bundles → length r.said.syncs < most_syncs
    → IsWellFormed (reads (record r.said { syncs = r.said.syncs ++ s ∷ [] }) r)
formed_with_sync r s formed all room = record {
  sound = formed.sound;
  edit_count = formed.edit_count;
  sync_count = omega (arith, length-append r.said.syncs (s ∷ []), room);
  in_order = more_syncs r.said.syncs s (length r.said.bundles) all formed.in_order;
  bundles = formed.bundles;
  through = formed.through;
  whole = formed.whole;
}

-- where a bundle is begun, none has all edits
pub formed_with_begin : (r : Reading) (b : Begun) → IsWellFormed r → IsWellFormed (record r { begun = Some b })
formed_with_begin r b formed = record {
  sound = formed.sound;
  edit_count = formed.edit_count;
  sync_count = formed.sync_count;
  in_order = formed.in_order;
  bundles = formed.bundles;
  through = formed.through;
  whole = λ none. absurd (cc none);
}
