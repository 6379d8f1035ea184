-- What is done to the packets of a class, as the definitions see it.
use Rattle.std.specs.Prelude.{Bool, IsTrue}
use Rattle.std.specs.List.{list_all}
use Rattle.spec_actions.specs.Sound.{is_sound}
use Rattle.spec_flow_text.specs.Within.{is_within_field}
use Rattle.spec_tools.specs.Classes as diff
use Rattle.table_diff.specs.declared.deed.Deed.{Deed}
use Rattle.table_diff.specs.declared.deed.Deed.TheVariants.{Datapath, Flow}

abbrev pub deed_view : Deed → diff.Deed
deed_view (Datapath actions) = diff.Deed.Datapath actions
deed_view (Flow actions) = diff.Deed.Flow actions.items

-- whether values and masks are within the fields that they are written to, and flow actions are sound
abbrev pub can_print : Deed → Bool
can_print (Datapath actions) = list_all is_within_field actions
can_print (Flow actions) = list_all is_sound actions.items

abbrev pub CanPrint : Deed → Type 0
CanPrint deed = IsTrue (can_print deed)
