-- Which files were opened, stage after stage.
use Rattle.std.proofs.Common.{◌≡◌, ℕ, List, [], ◌∷◌, ◌++◌, refl, sym, ap, ◌∙◌, append_assoc}
use Rattle.std.proofs.lemmas.List.{append-nil}
use Rattle.edge_io.specs.Shelf.{Told}
use Rattle.edge_io.specs.Opened.{HasOpened, HasOpenedPrefix}
use Rattle.switch_input.specs.declared.refusals.refusal.InputRefusal.{InputRefusal}
use Rattle.switch_input.specs.declared.refusals.refusal.InputRefusal.TheVariants.{Input, ReadFault, OutOfMemory}
use Rattle.switch_input.specs.Reading.{HasOpenedUntil}
use Rattle.switch_input.specs.Refused.{IfInput, stop_of}
use Rattle.switch_input.proofs.refusals.Reading.{opened_none, opened_both}

-- A prefix of all was opened, and these are left.
abbrev pub HasLeft : Told → Told → List (List ℕ) → List (List ℕ) → Type 0
HasLeft before now left all = (so_far : HasOpenedPrefix before now all) × (so_far.left ≡ left)

pub all_left : (t : Told) (all : List (List ℕ)) → HasLeft t t all all
all_left t all = (record { opened = []; left = all; are_names = refl; has_opened = opened_none t }, refl)

pub none_left : (before now : Told) (all : List (List ℕ)) → HasLeft before now [] all → HasOpened before now all
none_left before now all left =
    let opened = left.0.opened in
    let are : all ≡ opened = left.0.are_names ∙ ap (λ ns. opened ++ ns) left.1 ∙ append-nil opened in
    left.0.has_opened ∙ ap (λ ns. before.opened ++ ns) (sym are)

module _ (before mid now : Told) (left all : List (List ℕ)) (so_far : HasLeft before mid left all) (next later : List (List ℕ)) (split : left ≡ next ++ later) where
  are_all : all ≡ so_far.0.opened ++ (next ++ later)
  are_all = so_far.0.are_names ∙ ap (λ ns. so_far.0.opened ++ ns) (so_far.1 ∙ split)

  -- the next were opened too
  pub left_later : HasOpened mid now next → HasLeft before now later all
  left_later opened = (
    record {
      opened = so_far.0.opened ++ next;
      left = later;
      are_names = are_all ∙ sym (append_assoc so_far.0.opened next later);
      has_opened = opened_both before mid now so_far.0.opened next so_far.0.has_opened opened;
    },
    refl,
  )

  -- a refusal among the next; one of an input is the last that is opened
  pub opened_until : (r : InputRefusal) → IfInput r (λ _. later ≡ []) → HasOpenedUntil mid now next (stop_of r) → HasOpenedUntil before now all (stop_of r)
  opened_until (Input fault) last until =
      let more = left_later until in
      none_left before now all (more.0, more.1 ∙ last)
  opened_until (ReadFault name) last until =
      let done = so_far.0.opened in record {
        earlier = done ++ until.earlier;
        later = until.later ++ later;
        are_names = are_all ∙ ap (λ ns. done ++ (ns ++ later)) until.are_names ∙ ap (λ ns. done ++ ns) (append_assoc until.earlier (name.now ∷ until.later) later)
            ∙ sym (append_assoc done until.earlier (name.now ∷ (until.later ++ later)));
        has_opened = opened_both before mid now done (until.earlier ++ name.now ∷ []) so_far.0.has_opened until.has_opened ∙ ap (λ ns. before.opened ++ ns) (sym (append_assoc done until.earlier (name.now ∷ [])));
      }
  opened_until OutOfMemory last until =
      let done = so_far.0.opened in record {
        opened = done ++ until.opened;
        left = until.left ++ later;
        are_names = are_all ∙ ap (λ ns. done ++ (ns ++ later)) until.are_names ∙ ap (λ ns. done ++ ns) (append_assoc until.opened until.left later)
            ∙ sym (append_assoc done until.opened (until.left ++ later));
        has_opened = opened_both before mid now done until.opened so_far.0.has_opened until.has_opened;
      }
