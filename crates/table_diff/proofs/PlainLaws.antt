-- Of a way each step of which was decided: no lookup is among its actions.
use Rattle.std.proofs.Common.{◌≡◌, ℕ, ◌+◌, ◌-◌, Bool, true, false, ◌&&◌, not, if◌then◌else◌, List, [], ◌∷◌, ◌++◌, fold, refl, ap, ap₂}
use Rattle.std.specs.List.{list_all}
use Rattle.std.proofs.lemmas.Bool.{and_parts}
use Rattle.spec_actions.specs.declared.action.OfAction.{OfAction}
use Rattle.spec_actions.specs.declared.action.OfAction.TheVariants.{Resubmit, Goto}
use Rattle.pipe_model.specs.Events.{Event}
use Rattle.pipe_model.specs.Events.Event.{Looked, Acted}
use Rattle.spec_tools.specs.Classes.{leads}
use Rattle.table_diff.specs.Ways.{ArePlain}
use Rattle.table_diff.specs.Deciding.{tells_winner}
use Rattle.table_diff.specs.Following.{Path, is_decided, is_left_out, has_room, with_action, followed}

-- an undecided step is never made good
pub fine-back : (p : Path) (events : List Event) → (fold followed p events).fine ≡ true → p.fine ≡ true
fine-back p [] e = e
fine-back p (Looked depth table rules key ∷ events) e =
    (and_parts p.fine (tells_winner p.known rules key) (fine-back (followed p (Looked depth table rules key)) events e)).0
fine-back p (Acted x key ∷ events) e =
    (and_parts p.fine (is_decided p x key && has_room p x key) (fine-back (followed p (Acted x key)) events e)).0

plain-snoc : (actions : List OfAction) (x : OfAction) → leads x ≡ false → ArePlain actions → ArePlain (actions ++ x ∷ [])
plain-snoc [] x plain h = ap (λ (u : Bool). not u && true) plain
plain-snoc (y ∷ actions) x plain h =
    let parts = and_parts (not (leads y)) (list_all (λ (action : OfAction). not (leads action)) actions) h in
    ap₂ (λ (u v : Bool). u && v) parts.0 (plain-snoc actions x plain parts.1)

-- a lookup is never decided as an action
decided-plain : (p : Path) (x : OfAction) (key : List ℕ) → is_decided p x key ≡ true → leads x ≡ false
unfolding is_decided
decided-plain p (Resubmit table) key e = absurd (cc e)
decided-plain p (Goto table) key e = absurd (cc e)
decided-plain p x key e = refl

pub plain-path : (p : Path) (events : List Event) → ArePlain p.actions → (fold followed p events).fine ≡ true → ArePlain (fold followed p events).actions
plain-path p [] plain fine = plain
plain-path p (Looked depth table rules key ∷ events) plain fine = plain-path (followed p (Looked depth table rules key)) events plain fine
plain-path p (Acted x key ∷ events) plain fine = plain-path (with_action p x key) events (at (has_room p x key && not (is_left_out x key))) fine
  where
    decided : is_decided p x key ≡ true
    decided =
        (and_parts (is_decided p x key) (has_room p x key)
        (and_parts p.fine (is_decided p x key && has_room p x key) (fine-back (with_action p x key) events fine)).1).0

    at : (u : Bool) → ArePlain (if u then p.actions ++ x ∷ [] else p.actions)
    at true = plain-snoc p.actions x (decided-plain p x key decided) plain
    at false = plain
