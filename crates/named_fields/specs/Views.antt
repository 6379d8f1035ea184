-- What a name stands for, as the definitions see it.
use Rattle.spec_actions.specs.Named as table
use Rattle.named_fields.specs.declared.names.NamedBits.{NamedBits}

abbrev pub named_view : NamedBits → table.Named
named_view n = record { field = n.field; low = n.low; bits = n.bits; writable = n.writable; maskable = n.maskable; write_needs = n.write_needs }
