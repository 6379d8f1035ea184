-- Where a bundle was begun, as the definitions see it.
use Rattle.std.specs.Prelude.{Option}
use Rattle.std.specs.Option.{option_map}
use Rattle.spec_input.specs.Script as scripts
use Rattle.edit_script.specs.declared.word_lines.Begun.{Begun}

abbrev pub begun_view : Option Begun → Option scripts.Begun
begun_view o = option_map (λ (b : Begun). let begun : scripts.Begun = record { line = b.line; column = b.column } in begun) o
