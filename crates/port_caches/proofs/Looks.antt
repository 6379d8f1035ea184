-- What knows a key, by the fields of caches.
use Rattle.std.proofs.Common.{◌≡◌, ℕ, true, false, List, Option, Some, None, refl, sym, ap, ap₂, ◌∙◌}
use Rattle.std.specs.Prelude.{is_some, ◌==◌}
use Rattle.std.specs.Option.{option_map, option_and_then}
use Rattle.std.proofs.lemmas.Bool.{eqb-true}
use Rattle.std.proofs.lemmas.Option.{none-some, same_Some}
use Rattle.spec_board.specs.State as states
use Rattle.spec_board.specs.Cache.{cached}
use Rattle.spec_board.specs.Results as board
use Rattle.spec_board.specs.declared.looked.Looked.TheVariants.{Exact, Mega, Miss}
use Rattle.exact_cache.proofs.SameSlots.{same_slots-cached}
use Rattle.megaflow_table.specs.declared.entry.Entry.{Entry}
use Rattle.megaflow_table.specs.Entries.{covering, entry_of}
use Rattle.port_caches.specs.declared.caches.PortCaches.TheInside.{Inside}
use Rattle.port_caches.specs.Views.{AreCachesOf, entry_view}
use Rattle.port_caches.specs.Kept.{caches_in}
use Rattle.port_caches.proofs.ListLaws.{found}
use Rattle.port_caches.proofs.Views.{entry_of-view, covering-view}

module _ (a : Inside) (s : states.State) (of : AreCachesOf (caches_in a) s) (key : List ℕ) where
  covered : board.covering key s.entries ≡ option_map (entry_view a.lists.items) (covering key a.flows.entries)
  covered = ap (board.covering key) of.entries ∙ covering-view a.lists.items key a.flows.entries

  named : (n : ℕ) → cached a.exact key ≡ Some n → board.exact_entry key s ≡ option_map (entry_view a.lists.items) (entry_of n a.flows.entries)
  named n is =
      ap (option_and_then (λ (number : ℕ). board.entry_of number s.entries)) (sym (same_slots-cached a.exact s.slots key of.slots) ∙ is)
      ∙ ap (board.entry_of n) of.entries ∙ entry_of-view a.lists.items n a.flows.entries

  -- no entry that the cache names is live
  abbrev pub IsNotExact : Type 0
  IsNotExact = board.exact_entry key s ≡ None

  pub not_cached : cached a.exact key ≡ None → IsNotExact
  not_cached is = ap (option_and_then (λ (number : ℕ). board.entry_of number s.entries)) (sym (same_slots-cached a.exact s.slots key of.slots) ∙ is)

  pub not_live : (n : ℕ) → cached a.exact key ≡ Some n → is_some (entry_of n a.flows.entries) ≡ false → IsNotExact
  not_live n is dead = named n is ∙ at (entry_of n a.flows.entries) dead
    where
      at : (o : Option Entry) → is_some o ≡ false → option_map (entry_view a.lists.items) o ≡ None
      at None fails = refl
      at (Some e) fails = absurd (cc fails)

  pub looked_exact : (n : ℕ) → cached a.exact key ≡ Some n → is_some (entry_of n a.flows.entries) ≡ true → Exact n ≡ board.looked key s
  looked_exact n is live = at (entry_of n a.flows.entries) refl live
    where
      at : (o : Option Entry) → entry_of n a.flows.entries ≡ o → is_some o ≡ true → Exact n ≡ board.looked key s
      at None none fails = absurd (cc fails)
      at (Some e) some passes =
          ap Exact (sym (eqb-true e.number n (found (λ (x : Entry). x.number == n) a.flows.entries e some).1))
          ∙ sym (ap (λ (o : Option states.Entry). board.found_by o (board.covering key s.entries)) (named n is ∙ ap (option_map (entry_view a.lists.items)) some))

  by_scan : IsNotExact → board.looked key s ≡ board.found_by None (option_map (entry_view a.lists.items) (covering key a.flows.entries))
  by_scan none = ap₂ (λ (x y : Option states.Entry). board.found_by x y) none covered

  pub looked_mega : IsNotExact → (n : ℕ) → Some n ≡ option_map (λ (e : Entry). e.number) (covering key a.flows.entries) → Mega n ≡ board.looked key s
  looked_mega none n is = at (covering key a.flows.entries) is ∙ sym (by_scan none)
    where
      at : (o : Option Entry) → Some n ≡ option_map (λ (e : Entry). e.number) o → Mega n ≡ board.found_by None (option_map (entry_view a.lists.items) o)
      at None fails = absurd (none-some n (sym fails))
      at (Some e) same = ap Mega (same_Some n e.number same)

  pub looked_miss : IsNotExact → None ≡ option_map (λ (e : Entry). e.number) (covering key a.flows.entries) → Miss ≡ board.looked key s
  looked_miss none is = at (covering key a.flows.entries) is ∙ sym (by_scan none)
    where
      at : (o : Option Entry) → None ≡ option_map (λ (e : Entry). e.number) o → Miss ≡ board.found_by None (option_map (entry_view a.lists.items) o)
      at None same = refl
      at (Some e) fails = absurd (none-some e.number fails)
