-- Arguments in brackets.
use Rattle.std.specs.Prelude.{ℕ, ◌==◌, List, Result}
use Rattle.std.specs.List.{slice_split}
use Rattle.spec_actions.specs.declared.action.OfAction.{OfAction}
use Rattle.spec_flow_text.specs.Characters.{comma}
use Rattle.spec_flow_text.specs.declared.fault.TextFault.{TextFault}
use Rattle.spec_flow_text.specs.Items.{Word}
use Rattle.spec_flow_text.specs.Actions.{table_of_arguments}

-- the arguments of a text, with commas between them
abbrev pub arguments_of : List ℕ → List (List ℕ)
arguments_of text = slice_split (λ c. c == comma) text

-- what the arguments of a text in the brackets of an item say
abbrev pub said : Word → Word → List ℕ → Result OfAction TextFault
said item inside text = table_of_arguments item inside (arguments_of text)
