-- The first piece of a frame that goes out at one of some ports: the frame as the actions before that output rewrite it.
use Rattle.std.proofs.Common.{◌≡◌, ℕ, suc, ◌<◌, ◌≤◌, Bool, true, false, List, [], ◌∷◌, Option, Some, None, length, take, refl, ◌∙◌, arith}
use Rattle.std.specs.Prelude.{not, cond}
use Rattle.std.specs.List.{list_all, take_while}
use Rattle.std.proofs.lemmas.Bool.{false≢true}
use Rattle.std.proofs.lemmas.List.Sums.{take_while-cons}
use Rattle.spec_pcap.specs.Pcap.{Frame}
use Rattle.spec_actions.specs.declared.action.DpAction.{DpAction}
use Rattle.spec_actions.specs.declared.action.DpAction.TheVariants.{Output, PopVlan, PushVlan, Set}
use Rattle.spec_exec.specs.Sent.{is_output, sent}
use Rattle.spec_input.specs.Mirrors.{is_among}
use Rattle.egress_capture.specs.Sending.{sends_to_one, frame_of, first_frame_to, next, rewritten}

-- actions that only send leave a frame as it is
pub only_sending : (actions : List DpAction) (bytes : List ℕ) → list_all is_output actions ≡ true → rewritten actions bytes ≡ bytes
unfolding rewritten next
only_sending [] bytes all = refl
only_sending (Output n ∷ actions) bytes all = only_sending actions bytes all
only_sending (PopVlan ∷ actions) bytes all = absurd (false≢true all)
only_sending (PushVlan tpid tci ∷ actions) bytes all = absurd (false≢true all)
only_sending (Set f value mask ∷ actions) bytes all = absurd (false≢true all)

module _ (ports : List ℕ) (time : ℕ) where
  abbrev out : List DpAction → List ℕ → Option Frame
  out actions bytes = first_frame_to ports time actions bytes

  abbrev pub passes : DpAction → Bool
  passes a = not (sends_to_one ports a)

  -- how many actions come before the output
  abbrev pub before : List DpAction → ℕ
  before actions = length (take_while passes actions)

  -- ---- one action and those after it

  output_first : (n : ℕ) (actions : List DpAction) (bytes : List ℕ) (test : Bool) → is_among ports n ≡ test
      → out (Output n ∷ actions) bytes ≡ cond test (Some (frame_of time bytes)) (out actions bytes)
  unfolding sent
  output_first n actions bytes true is = rw is refl
  output_first n actions bytes false is = rw is refl

  sending : (a : DpAction) (actions : List DpAction) (bytes : List ℕ) → sends_to_one ports a ≡ true → out (a ∷ actions) bytes ≡ Some (frame_of time bytes)
  sending (Output n) actions bytes is = output_first n actions bytes true is
  sending PopVlan actions bytes is = absurd (false≢true is)
  sending (PushVlan tpid tci) actions bytes is = absurd (false≢true is)
  sending (Set f value mask) actions bytes is = absurd (false≢true is)

  pub passing : (a : DpAction) (actions : List DpAction) (bytes : List ℕ) → sends_to_one ports a ≡ false → out (a ∷ actions) bytes ≡ out actions (next a bytes)
  unfolding sent next
  passing (Output n) actions bytes is = output_first n actions bytes false is
  passing PopVlan actions bytes is = refl
  passing (PushVlan tpid tci) actions bytes is = refl
  passing (Set f value mask) actions bytes is = refl

  none_before : (a : DpAction) (actions : List DpAction) → sends_to_one ports a ≡ true → before (a ∷ actions) ≡ 0
  none_before a actions is = rw (take_while-cons passes a actions, is) refl

  one_before : (a : DpAction) (actions : List DpAction) → sends_to_one ports a ≡ false → before (a ∷ actions) ≡ suc (before actions)
  one_before a actions is = rw (take_while-cons passes a actions, is) refl

  -- ---- a list

  pub none_to_send : (bytes : List ℕ) → out [] bytes ≡ None
  unfolding sent
  none_to_send bytes = refl

  -- what a list sends where an output to one of the ports is in it
  abbrev Found : List DpAction → Type 0
  Found actions = (bytes : List ℕ) → before actions < length actions → out actions bytes ≡ Some (frame_of time (rewritten (take (before actions) actions) bytes))

  found_from : (a : DpAction) (actions : List DpAction) (test : Bool) → sends_to_one ports a ≡ test → Found actions → Found (a ∷ actions)
  unfolding rewritten
  found_from a actions true is later bytes lt = rw (none_before a actions is) (sending a actions bytes is)
  found_from a actions false is later bytes lt =
      let less : before actions < length actions = omega (arith, one_before a actions is, lt) in
      rw (one_before a actions is) (passing a actions bytes is ∙ later (next a bytes) less)

  pub found : (actions : List DpAction) → Found actions
  found [] = λ bytes lt. absurd (omega (arith, lt))
  found (a ∷ actions) = found_from a actions (sends_to_one ports a) refl (found actions)

  -- and where none is
  abbrev Missed : List DpAction → Type 0
  Missed actions = (bytes : List ℕ) → length actions ≤ before actions → out actions bytes ≡ None

  missed_from : (a : DpAction) (actions : List DpAction) (test : Bool) → sends_to_one ports a ≡ test → Missed actions → Missed (a ∷ actions)
  missed_from a actions true is later bytes all = absurd (omega (arith, none_before a actions is, all))
  missed_from a actions false is later bytes all =
      let rest : length actions ≤ before actions = omega (arith, one_before a actions is, all) in
      passing a actions bytes is ∙ later (next a bytes) rest

  pub missed : (actions : List DpAction) → Missed actions
  missed [] = λ bytes all. none_to_send bytes
  missed (a ∷ actions) = missed_from a actions (sends_to_one ports a) refl (missed actions)
