-- What is written of a run, as the definitions see it.
use Rattle.std.specs.Prelude.{Option}
use Rattle.std.specs.Option.{option_map}
use Rattle.spec_run.specs.Outputs as outputs
use Rattle.switch_output.specs.declared.outlets.Outlets.{Outlets}

abbrev pub outlets_view : Outlets → outputs.Outlets
outlets_view o = record { out = o.out.now; netflow = o.netflow; mirrors = o.mirrors.now }

-- what is written, where something is
abbrev pub outlets_in : Option Outlets → Option outputs.Outlets
outlets_in outlets = option_map outlets_view outlets
