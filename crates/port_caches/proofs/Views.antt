-- Entries as the definitions see them: what is done with those of a table is done with theirs.
use Rattle.std.proofs.Common.{◌≡◌, ℕ, Bool, true, false, cond, ◌==◌, List, [], ◌∷◌, ◌++◌, map, length, Option, Some, None, inl, inr, refl, sym, ap, ap₂, ◌∙◌}
use Rattle.std.specs.Prelude.{IsSome, is_some, ◌≢◌}
use Rattle.std.specs.Option.{option_map}
use Rattle.std.proofs.lemmas.Bool.{eqb-true, eqb-false}
use Rattle.std.proofs.lemmas.Option.{none-some, same_Some}
use Rattle.table_laws.proofs.MemberLaws.{Among}
use Rattle.spec_keys.specs.Keys.{agree}
use Rattle.spec_board.specs.State as states
use Rattle.spec_board.specs.Results as board
use Rattle.spec_board.specs.Effects as effects
use Rattle.megaflow_table.specs.declared.entry.Entry.{Entry}
use Rattle.megaflow_table.specs.Entries.{covering, entry_of, changed, numbers_of}
use Rattle.port_caches.specs.declared.lists.HeldList.{HeldList}
use Rattle.port_caches.specs.Lists.{actions_at}
use Rattle.port_caches.specs.Views.{entry_view}
use Rattle.port_caches.specs.Kept.{AreKept}
use Rattle.port_caches.proofs.HeldLists.{pushed_actions}
use Rattle.port_caches.proofs.Kept.{kept_at}
use Rattle.port_caches.proofs.ListLaws.{find-map}

module _ (lists : List HeldList) where
  pub entry_of-view : (n : ℕ) (es : List Entry) → board.entry_of n (map (entry_view lists) es) ≡ option_map (entry_view lists) (entry_of n es)
  entry_of-view n es = find-map (entry_view lists) (λ (e : states.Entry). e.number == n) es

  pub covering-view : (key : List ℕ) (es : List Entry) → board.covering key (map (entry_view lists) es) ≡ option_map (entry_view lists) (covering key es)
  covering-view key es = find-map (entry_view lists) (λ (e : states.Entry). agree key e.key e.mask) es

  pub numbers_of-view : (es : List Entry) → board.numbers_of (map (entry_view lists) es) ≡ numbers_of es
  numbers_of-view [] = refl
  numbers_of-view (e ∷ es) = ap (λ ns. e.number ∷ ns) (numbers_of-view es)

  -- the entry of a number, from what the definitions see
  pub viewed : (n : ℕ) (es : List Entry) (e : states.Entry) → board.entry_of n (map (entry_view lists) es) ≡ Some e
      → (d : Entry) × (entry_of n es ≡ Some d) × (entry_view lists d ≡ e)
  viewed n es e is = at (entry_of n es) refl (sym (entry_of-view n es) ∙ is)
    where
      at : (o : Option Entry) → entry_of n es ≡ o → option_map (entry_view lists) o ≡ Some e → (d : Entry) × (entry_of n es ≡ Some d) × (entry_view lists d ≡ e)
      at None none same = absurd (none-some e same)
      at (Some d) some same = (d, some, same_Some (entry_view lists d) e same)

  pub viewed_some : (n : ℕ) (es : List Entry) → IsSome (board.entry_of n (map (entry_view lists) es)) → (d : Entry) × (entry_of n es ≡ Some d)
  viewed_some n es is = at (entry_of n es) refl (sym (ap is_some (entry_of-view n es)) ∙ is)
    where
      at : (o : Option Entry) → entry_of n es ≡ o → is_some (option_map (entry_view lists) o) ≡ true → (d : Entry) × (entry_of n es ≡ Some d)
      at None none same = absurd (cc same)
      at (Some d) some same = (d, some)

  -- the entry that covers a key, from its number
  pub covered_by : (key : List ℕ) (es : List Entry) (n : ℕ) → Some n ≡ option_map (λ (e : Entry). e.number) (covering key es)
      → (e : states.Entry) × (board.covering key (map (entry_view lists) es) ≡ Some e) × (e.number ≡ n)
  covered_by key es n is = at (covering key es) refl is
    where
      at : (o : Option Entry) → covering key es ≡ o → Some n ≡ option_map (λ (e : Entry). e.number) o → (e : states.Entry) × (board.covering key (map (entry_view lists) es) ≡ Some e) × (e.number ≡ n)
      at None none fails = absurd (none-some n (sym fails))
      at (Some e) some same = (entry_view lists e, covering-view key es ∙ ap (option_map (entry_view lists)) some, sym (same_Some n e.number same))

  pub uncovered_by : (key : List ℕ) (es : List Entry) → None ≡ option_map (λ (e : Entry). e.number) (covering key es) → board.covering key (map (entry_view lists) es) ≡ None
  uncovered_by key es is = covering-view key es ∙ at (covering key es) is
    where
      at : (o : Option Entry) → None ≡ option_map (λ (e : Entry). e.number) o → option_map (entry_view lists) o ≡ None
      at None same = refl
      at (Some e) fails = absurd (none-some e.number fails)

-- the entries see the same of other lists that have the same actions at their places
pub same_views : (lists lists' : List HeldList) (es : List Entry) → ((e : Entry) → Among e es → actions_at lists' e.actions ≡ actions_at lists e.actions)
    → map (entry_view lists') es ≡ map (entry_view lists) es
same_views lists lists' [] same = refl
same_views lists lists' (e ∷ es) same =
    ap₂ (λ (x : states.Entry) (xs : List states.Entry). x ∷ xs)
    (ap (λ actions. record (entry_view lists e) { actions = actions }) (same e (inl refl)))
    (same_views lists lists' es (λ d m. same d (inr m)))

-- a change of the entry of a number
pub changed-view : (lists lists' : List HeldList) (n : ℕ) (f : Entry → Entry) (g : states.Entry → states.Entry) (es : List Entry)
    → ((e : Entry) → Among e es → e.number ≡ n → entry_view lists' (f e) ≡ g (entry_view lists e))
    → ((e : Entry) → Among e es → e.number ≢ n → actions_at lists' e.actions ≡ actions_at lists e.actions)
    → map (entry_view lists') (changed n f es) ≡ effects.changed n g (map (entry_view lists) es)
changed-view lists lists' n f g [] here others = refl
changed-view lists lists' n f g (e ∷ es) here others =
    ap₂ (λ (x : states.Entry) (xs : List states.Entry). x ∷ xs) (at (e.number == n) refl)
    (changed-view lists lists' n f g es (λ d m. here d (inr m)) (λ d m. others d (inr m)))
  where
    at : (t : Bool) → (e.number == n) ≡ t → entry_view lists' (cond t (f e) e) ≡ cond t (g (entry_view lists e)) (entry_view lists e)
    at true is = here e (inl refl) (eqb-true e.number n is)
    at false fails = ap (λ actions. record (entry_view lists e) { actions = actions }) (others e (inl refl) (eqb-false e.number n fails))

-- a list more changes nothing
pub pushed_views : (lists lists' : List HeldList) (l : HeldList) (made rules : ℕ) (es : List Entry) → lists' ≡ lists ++ l ∷ [] → AreKept (length lists) made rules es
    → map (entry_view lists') es ≡ map (entry_view lists) es
pushed_views lists lists' l made rules es is kept =
    same_views lists lists' es
    (λ e m. ap (λ (ls : List HeldList). actions_at ls e.actions) is ∙ pushed_actions lists l e.actions (kept_at (length lists) made rules es e kept m).list)
