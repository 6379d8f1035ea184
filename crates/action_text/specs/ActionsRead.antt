-- What was read of an item, as the definitions see it.
use Rattle.std.specs.Prelude.{Bool, true, List, [], ◌∷◌, Option, Some, None, Result, Ok, Err, Vec}
use Rattle.std.specs.declared.alloc.Global.{Global}
use Rattle.spec_actions.specs.declared.action.OfAction.{OfAction}
use Rattle.spec_actions.specs.declared.action.OfAction.TheVariants.{SetVid, SetPcp}
use Rattle.spec_actions.specs.Sound.{is_written, last_vid, last_pcp}
use Rattle.spec_flow_text.specs.declared.fault.TextFault.{TextFault}
use Rattle.spec_flow_text.specs.declared.names.ActionName.{ActionName}
use Rattle.spec_flow_text.specs.declared.names.ActionName.TheVariants.{Mod}
use Rattle.spec_flow_text.specs.Items.{◌>>=◌, Word}
use Rattle.spec_flow_text.specs.Actions.{number_argument}

-- the actions of an item: one, or none where it is `drop`
abbrev pub listed : Option OfAction → List OfAction
listed None = []
listed (Some action) = action ∷ []

abbrev pub actions_read : Result (Option OfAction) TextFault → Result (List OfAction) TextFault
actions_read (Ok action) = Ok (listed action)
actions_read (Err e) = Err e

-- whether the field of a name of an action, if it has one, can be written
abbrev pub names_written : ActionName → Bool
names_written (Mod f) = is_written f
names_written _ = true

-- a write of a VLAN identifier, and of a priority
abbrev pub vid_of : Word → Result OfAction TextFault
vid_of w = number_argument last_vid w >>= (λ n. Ok (SetVid n))

abbrev pub pcp_of : Word → Result OfAction TextFault
pcp_of w = number_argument last_pcp w >>= (λ n. Ok (SetPcp n))

-- ---- lists

abbrev pub list_view : List OfAction → List OfAction
list_view list = list

abbrev pub vector_view : Vec OfAction Global → List OfAction
vector_view list = list.items
