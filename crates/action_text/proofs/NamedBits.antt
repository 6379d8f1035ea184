-- A named field has bits, and all of them make a sound slice.
use Rattle.std.proofs.Common.{◌<◌, lit<, refl}
use Rattle.std.specs.Prelude.{IsTrue, not}
use Rattle.spec_actions.specs.declared.named_field.NamedField.{NamedField}
use Rattle.spec_actions.specs.declared.named_field.NamedField.TheVariants as field
use Rattle.spec_actions.specs.Named.{named, is_printed_alone}
use Rattle.spec_actions.specs.Sound.{is_sound_slice}
use Rattle.spec_flow_text.specs.Actions.{whole_slice}

pub some_bits : (f : NamedField) → 0 < (named f).bits
some_bits field.InPort = lit< tt
some_bits _ = lit< tt

pub whole_is_sound : (f : NamedField) → IsTrue (not (is_printed_alone f)) → IsTrue (is_sound_slice (whole_slice f))
whole_is_sound field.InPort in_text = refl
whole_is_sound field.VlanTpid in_text = cc
whole_is_sound field.VlanTci2 in_text = cc
whole_is_sound field.VlanTpid2 in_text = cc
whole_is_sound _ in_text = refl
