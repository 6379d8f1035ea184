-- What lists of actions send.
use Rattle.std.proofs.Common.{◌≡◌, ℕ, false, List, [], ◌∷◌, ◌++◌, map, All, refl, ap, ◌∙◌}
use Rattle.std.proofs.lemmas.List.Elements.{All-head, All-tail}
use Rattle.spec_actions.specs.declared.action.DpAction.{DpAction}
use Rattle.spec_actions.specs.declared.action.DpAction.TheVariants.{Output, PopVlan, PushVlan, Set}
use Rattle.spec_exec.specs.Rewriting.{after_action}
use Rattle.spec_exec.specs.Sent.{Piece, sent, is_output}
use Rattle.exec_laws.specs.Sends.{after_actions}

-- no action of a list sends
abbrev pub AreSilent : List DpAction → Type 0
AreSilent actions = All (λ action. is_output action ≡ false) actions

silent-first : (action : DpAction) (actions : List DpAction) (frame : List ℕ) → is_output action ≡ false → sent (action ∷ actions) frame ≡ sent actions (after_action action frame)
unfolding sent
silent-first (Output port) actions frame e = absurd cc
silent-first PopVlan actions frame e = refl
silent-first (PushVlan tpid tci) actions frame e = refl
silent-first (Set f value mask) actions frame e = refl

pub sent-before : (actions others : List DpAction) (frame : List ℕ) → AreSilent actions → sent (actions ++ others) frame ≡ sent others (after_actions actions frame)
sent-before [] others frame silent = refl
sent-before (action ∷ actions) others frame silent =
    silent-first action (actions ++ others) frame (All-head (λ a. is_output a ≡ false) action actions silent)
    ∙ sent-before actions others (after_action action frame) (All-tail (λ a. is_output a ≡ false) action actions silent)

pub sent-silent : (actions : List DpAction) (frame : List ℕ) → AreSilent actions → sent actions frame ≡ []
unfolding sent
sent-silent [] frame silent = refl
sent-silent (action ∷ actions) frame silent =
    silent-first action actions frame (All-head (λ a. is_output a ≡ false) action actions silent)
    ∙ sent-silent actions (after_action action frame) (All-tail (λ a. is_output a ≡ false) action actions silent)

pub sent-outputs : (ports : List ℕ) (frame : List ℕ) → sent (map Output ports) frame ≡ map (λ n. record { port = n; bytes = frame }) ports
unfolding sent
sent-outputs [] frame = refl
sent-outputs (port ∷ ports) frame = ap (λ (pieces : List Piece). record { port = port; bytes = frame } ∷ pieces) (sent-outputs ports frame)
