-- What follows where the verdict is known, and where the words are taken.
use Rattle.std.proofs.Common.{◌≡◌, ℕ, Bool, List, ap, ◌∙◌, sym, subst}
use Rattle.std.specs.Prelude.{Result, Ok, Err, IfOk, IfErr}
use Rattle.spec_input.specs.Words as words
use Rattle.spec_run.specs.Verdict.{Refusal, Usage, command_in}
use Rattle.command_words.specs.declared.reading.Command.{Command}
use Rattle.command_words.specs.CommandViews.{command_view}
use Rattle.switch_input.specs.declared.refusals.refusal.InputFault.TheVariants as fault
use Rattle.switch_input.specs.declared.refusals.refusal.InputRefusal.{InputRefusal}
use Rattle.switch_input.specs.declared.refusals.refusal.InputRefusal.TheVariants.{Input}
use Rattle.switch_input.specs.Refused.{TakesWords, TellsUsage, Explains}
use Rattle.switch_input.specs.declared.inputs.Inputs.{Inputs}
use Rattle.switch_input.specs.Known.{IsKnownInput, IsKnownCommand, IsKnown}

pub known_input : (tells : Bool) (said : List (List ℕ)) (c : words.Command) → command_in said ≡ Ok c → IsKnown tells said → IsKnownInput tells c.input
known_input tells said c e known = subst (λ (r : Result words.Command Refusal). IsKnownCommand tells r) e known

-- words are told to be refused where they are
pub usage_explained : (said : List (List ℕ)) (r : InputRefusal) → Explains (command_in said) r → TellsUsage r → command_in said ≡ Err Usage
usage_explained said r why is = rw is at why

-- and never where they are taken
pub usage_never : {A : Type 0} (P : Type 0) (result : Result A InputRefusal) → IfErr result TakesWords → IfErr result (λ r. TellsUsage r → P)
usage_never P (Ok a) taken = tt
usage_never P (Err r) taken = λ is. absurd (rw is at taken)

pub command_is : (said : List (List ℕ)) (c : Command) → command_in said ≡ Ok (command_view c) → (result : Result Inputs InputRefusal) → IfOk result (λ i. i.command ≡ c)
    → IfOk result (λ i. command_in said ≡ Ok (command_view i.command))
command_is said c e (Ok i) same = e ∙ ap (λ (x : Command). let r : Result words.Command Refusal = Ok (command_view x) in r) (sym same)
command_is said c e (Err r) same = tt
