-- Words that were read of an item, as the definitions see them.
use Rattle.std.specs.Prelude.{Option, Result, Ok, Err}
use Rattle.std.specs.Option.{option_map}
use Rattle.spec_flow_text.specs.declared.fault.TextFault.{TextFault}
use Rattle.spec_flow_text.specs.Items as items
use Rattle.field_text.specs.declared.line.Word.{Word}
use Rattle.field_text.specs.WordViews.{word_view}

abbrev pub word_found : Option Word → Option items.Word
word_found o = option_map word_view o

abbrev pub word_read : Result Word TextFault → Result items.Word TextFault
word_read (Ok w) = Ok (word_view w)
word_read (Err e) = Err e

abbrev pub ends_view : Word × Word → items.Word × items.Word
ends_view ends = (word_view ends.0, word_view ends.1)

abbrev pub ends_found : Option (Word × Word) → Option (items.Word × items.Word)
ends_found o = option_map ends_view o

abbrev pub ends_read : Result (Word × Word) TextFault → Result (items.Word × items.Word) TextFault
ends_read (Ok ends) = Ok (ends_view ends)
ends_read (Err e) = Err e
