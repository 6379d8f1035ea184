-- A frame without headers.
use Rattle.std.specs.Prelude.{false}
use Rattle.spec_frames.specs.declared.layout.Layout.{Layout}
use Rattle.spec_frames.specs.declared.layout.L3.TheVariants.{None}
use Rattle.spec_frames.specs.declared.layout.L4.TheVariants as transport

-- where no header stands
abbrev pub no_headers : Layout
no_headers = record { tags = 0; l3 = None; l4 = transport.None; routed = false }
