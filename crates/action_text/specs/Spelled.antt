-- Slices as they are spelled, as the definitions see them.
use Rattle.std.specs.Prelude.{Option}
use Rattle.std.specs.Option.{option_map}
use Rattle.spec_actions.specs.declared.action.Slice.{Slice}
use Rattle.spec_flow_text.specs.Actions.{slice}
use Rattle.action_text.specs.declared.slices.SpelledSlice.{SpelledSlice}

abbrev pub spelled_view : SpelledSlice → Slice
spelled_view s = slice s.name s.low s.high

abbrev pub spelled_found : Option SpelledSlice → Option Slice
spelled_found o = option_map spelled_view o
