-- Places that name their actions by a list that stays.
use Rattle.std.proofs.Common.{◌≡◌, ℕ, zero, suc, ◌-◌, List, [], ◌∷◌, map, slice_index_or, slice_set, replicate, All, refl, sym, ap, ◌∙◌, subst, arith}
use Rattle.std.proofs.lemmas.List.{map-set}
use Rattle.std.proofs.lemmas.List.Elements.{All-tail, All-set, All-replicate}
use Rattle.std.specs.Option.{option_map_or}
use Rattle.spec_actions.specs.declared.action.DpAction.{DpAction}
use Rattle.spec_board.specs.State.{Waiting, Decided}
use Rattle.port_caches.specs.declared.lists.HeldList.{HeldList}
use Rattle.port_caches.specs.Views.{IsHeld, KeepsHeld, actions_at}
use Rattle.pmd_board.specs.declared.place.Place as rust_places
use Rattle.pmd_board.specs.declared.place.Place.TheVariants as rust_place
use Rattle.pmd_board.specs.Fields.{NamesList, place_view}

-- the actions of a list that stays
actions_held : (lists : List HeldList) (n : ℕ) (actions : List DpAction) → IsHeld lists n actions → actions_at lists n ≡ actions
actions_held lists n actions held = ap (λ l. option_map_or (λ (x : HeldList). x.actions) l []) held

name_held : (lists : List HeldList) (n v : ℕ) (actions : List DpAction) → IsHeld lists n actions → NamesList lists (rust_place.Decided v n)
name_held lists n v actions held = subst (λ l. IsHeld lists n l) (sym (actions_held lists n actions held)) held

-- what a place names is named as before where what decided frames name stays
name_kept : (old new : List HeldList) → KeepsHeld old new → (p : rust_places.Place) → NamesList old p → NamesList new p
name_kept old new keeps rust_place.Waiting named = tt
name_kept old new keeps rust_place.Pending named = tt
name_kept old new keeps (rust_place.Decided v n) named = name_held new n v (actions_at old n) (keeps n (actions_at old n) named)

view_kept : (old new : List HeldList) → KeepsHeld old new → (p : rust_places.Place) → NamesList old p → place_view new p ≡ place_view old p
view_kept old new keeps rust_place.Waiting named = refl
view_kept old new keeps rust_place.Pending named = refl
view_kept old new keeps (rust_place.Decided v n) named =
    ap (Decided v) (actions_held new n (actions_at old n) (keeps n (actions_at old n) named))

pub names_kept : (old new : List HeldList) (places : List rust_places.Place) → KeepsHeld old new → All (NamesList old) places → All (NamesList new) places
names_kept old new places keeps named = λ k d within. name_kept old new keeps (slice_index_or places k d) (named k d within)

pub views_kept : (old new : List HeldList) (places : List rust_places.Place) → KeepsHeld old new → All (NamesList old) places
    → map (place_view new) places ≡ map (place_view old) places
views_kept old new [] keeps named = refl
views_kept old new (p ∷ places) keeps named =
    let first = view_kept old new keeps p (named 0 p (omega arith)) in
    let others = views_kept old new places keeps (All-tail (NamesList old) p places named) in
    ap (λ v. v ∷ map (place_view new) places) first ∙ ap (λ vs. place_view old p ∷ vs) others

-- a place more is decided, by a list that stays
pub views_decided : (old new : List HeldList) (actions : List DpAction) (places : List rust_places.Place) (place v n : ℕ)
    → KeepsHeld old new → IsHeld new n actions → All (NamesList old) places
    → map (place_view new) (slice_set places (place - 1) (rust_place.Decided v n)) ≡ slice_set (map (place_view old) places) (place - 1) (Decided v actions)
views_decided old new actions places place v n keeps held named =
    map-set (place_view new) places (place - 1) (rust_place.Decided v n)
    ∙ ap (λ l. slice_set (map (place_view new) places) (place - 1) (Decided v l)) (actions_held new n actions held)
    ∙ ap (λ ps. slice_set ps (place - 1) (Decided v actions)) (views_kept old new places keeps named)

pub names_decided : (old new : List HeldList) (actions : List DpAction) (places : List rust_places.Place) (place v n : ℕ)
    → KeepsHeld old new → IsHeld new n actions → All (NamesList old) places
    → All (NamesList new) (slice_set places (place - 1) (rust_place.Decided v n))
names_decided old new actions places place v n keeps held named =
    All-set (NamesList new) places (place - 1) (rust_place.Decided v n) (name_held new n v actions held) (names_kept old new places keeps named)

-- ---- a new board

pub waits_alike : (lists : List HeldList) (n : ℕ) → map (place_view lists) (replicate n rust_place.Waiting) ≡ replicate n Waiting
waits_alike lists zero = refl
waits_alike lists (suc n) = ap (λ ps. Waiting ∷ ps) (waits_alike lists n)

pub names_none : (lists : List HeldList) (n : ℕ) → All (NamesList lists) (replicate n rust_place.Waiting)
names_none lists n = All-replicate (NamesList lists) n rust_place.Waiting tt
