-- The items of a line, one after the other.
use Rattle.std.proofs.Common.{◌≡◌, ℕ, List, [], ◌∷◌, refl}
use Rattle.std.specs.Prelude.{Ok, Err}
use Rattle.spec_flow_text.specs.declared.fault.TextFault.{TextFault}
use Rattle.spec_flow_text.specs.declared.fault.TextFault.TheVariants.{Syntax, UnknownName, Unsupported, BadValue, Repeated, TooManyActions, OutOfMemory}
use Rattle.spec_flow_text.specs.Given.{IsFault}
use Rattle.spec_flow_text.specs.Items.{Word}
use Rattle.spec_input.specs.Mirrors.{Mirror, with_item, with_items}

module _ (ports : List ℕ) (before : Mirror) where
  pub at_end : with_items ports [] before ≡ Ok before
  unfolding with_items
  at_end = refl

  module _ (w : Word) (ws : List Word) where
    pub goes_on : (after : Mirror) → with_item ports w before ≡ Ok after → with_items ports (w ∷ ws) before ≡ with_items ports ws after
    unfolding with_items
    goes_on after is = rw is refl

    fault : (e : TextFault) → with_item ports w before ≡ Err e → with_items ports (w ∷ ws) before ≡ Err e
    unfolding with_items
    fault e is = rw is refl

    pub fails : (e : TextFault) → IsFault e (with_item ports w before) → IsFault e (with_items ports (w ∷ ws) before)
    fails OutOfMemory is = tt
    fails (Syntax col) is = fault (Syntax col) is
    fails (UnknownName col) is = fault (UnknownName col) is
    fails (Unsupported col) is = fault (Unsupported col) is
    fails (BadValue col) is = fault (BadValue col) is
    fails (Repeated col) is = fault (Repeated col) is
    fails TooManyActions is = fault TooManyActions is
