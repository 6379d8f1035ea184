-- A look finds the one entry that covers the key.
use Rattle.std.proofs.Common.{◌≡◌, ℕ, true, List, Option, Some, None, ◌⊎◌, inl, inr, refl, sym, ap, ◌∙◌}
use Rattle.std.proofs.lemmas.Bool.{cases_eq, false≢true}
use Rattle.spec_keys.specs.Keys.{agree}
use Rattle.spec_board.specs.declared.looked.Looked.TheVariants.{Exact, Mega, Miss}
use Rattle.spec_board.specs.State.{Entry, Slot, State}
use Rattle.spec_board.specs.Results.{covering, exact_entry, found_by, looked}
use Rattle.table_laws.proofs.MemberLaws.{Among}
use Rattle.board_laws.proofs.ListLaws.{find-some, find-none}
use Rattle.board_laws.proofs.NumberLaws.{one_of_number}
use Rattle.board_laws.proofs.KeyFacts.{one_covers}
use Rattle.board_laws.proofs.Apart.{AreEntriesApart}
use Rattle.board_laws.proofs.Hits.{IsSlot, Hits, exact_hits}

module _ (s : State) (k : AreEntriesApart s) where
  -- two entries that cover one key are one
  pub covers_once : (key : List ℕ) (e f : Entry) → Among e s.entries → Among f s.entries → agree key e.key e.mask ≡ true → agree key f.key f.mask ≡ true → e ≡ f
  covers_once key e f me mf ce cf = at (cases_eq e.number f.number)
    where
      at : (e.number ≡ f.number) ⊎ (e.number ≡ f.number → ⊥) → e ≡ f
      at (inl q) = one_of_number e f s.entries k.rising me mf q
      at (inr n) = absurd (false≢true (sym (one_covers key e.key e.mask f.key f.mask (k.disjoint e f me mf n) ce) ∙ cf))

  pub covering_is : (key : List ℕ) (e : Entry) → Among e s.entries → agree key e.key e.mask ≡ true → covering key s.entries ≡ Some e
  covering_is key e m c = at (covering key s.entries) refl
    where
      at : (o : Option Entry) → covering key s.entries ≡ o → o ≡ Some e
      at None q = absurd (false≢true (sym (find-none (λ (x : Entry). agree key x.key x.mask) s.entries e q m) ∙ c))
      at (Some f) q = let r = find-some (λ (x : Entry). agree key x.key x.mask) s.entries f q in ap Some (covers_once key f e r.0 m r.1 c)

  module _ (slots : (x : Slot) → Among x s.slots → IsSlot s x) (key : List ℕ) where
    exact_covers : (d : Entry) → exact_entry key s ≡ Some d → Hits s key d.number
    exact_covers d q = exact_hits s k.rising slots key d.number (sym (ap (λ o. found_by o (covering key s.entries)) q))

    pub none_missed : covering key s.entries ≡ None → looked key s ≡ Miss
    none_missed n = at (exact_entry key s) refl
      where
        at : (o : Option Entry) → exact_entry key s ≡ o → found_by o (covering key s.entries) ≡ Miss
        at None q = ap (found_by None) n
        at (Some d) q = let h = exact_covers d q in absurd (false≢true (sym (find-none (λ (x : Entry). agree key x.key x.mask) s.entries h.entry n h.live) ∙ h.covers))

    pub found_as : (e : Entry) → Among e s.entries → agree key e.key e.mask ≡ true → (looked key s ≡ Exact e.number) ⊎ (looked key s ≡ Mega e.number)
    found_as e m c = at (exact_entry key s) refl
      where
        at : (o : Option Entry) → exact_entry key s ≡ o → (found_by o (covering key s.entries) ≡ Exact e.number) ⊎ (found_by o (covering key s.entries) ≡ Mega e.number)
        at None q = inr (ap (found_by None) (covering_is key e m c))
        at (Some d) q =
            let h = exact_covers d q in
            inl (ap Exact (sym h.number ∙ ap (λ (x : Entry). x.number) (covers_once key h.entry e h.live m h.covers c)))

    pub missed_none : looked key s ≡ Miss → covering key s.entries ≡ None
    missed_none q = at (covering key s.entries) refl
      where
        not_both : (e : Entry) → (looked key s ≡ Exact e.number) ⊎ (looked key s ≡ Mega e.number) → ⊥
        not_both e (inl x) = let z : Miss ≡ Exact e.number = sym q ∙ x in cc z
        not_both e (inr x) = let z : Miss ≡ Mega e.number = sym q ∙ x in cc z

        at : (o : Option Entry) → covering key s.entries ≡ o → o ≡ None
        at None z = refl
        at (Some e) z = let r = find-some (λ (x : Entry). agree key x.key x.mask) s.entries e z in absurd (not_both e (found_as e r.0 r.1))
