-- Words of a line, as the definitions see them.
use Rattle.std.specs.Prelude.{ℕ, List, Result, Ok, Err}
use Rattle.spec_flow_text.specs.declared.fault.TextFault.{TextFault}
use Rattle.spec_flow_text.specs.Items as items
use Rattle.field_text.specs.declared.line.Word.{Word}

abbrev pub word_view : Word → items.Word
word_view w = record { at = w.at; text = w.text.now }

-- the bytes of a word that was read
abbrev pub text_read : Result Word TextFault → Result (List ℕ) TextFault
text_read (Ok w) = Ok w.text.now
text_read (Err e) = Err e
