use Rattle.std.proofs.Common.{◌≡◌, ◌++◌, take, string_bytes}
use Rattle.std.specs.Prelude.{codes, All}
use Rattle.spec_board.specs.Texts.{numbers_text}
use Rattle.board_steps.specs.Printable.{IsPrintable}
use Rattle.board_steps.proofs.step_text.push_dropped.Given as goal

abbrev pub invariant-numbers : goal.invariant-numbers
invariant-numbers l = record {
  text : string_bytes l.line ≡ string_bytes l.fn.line ++ (codes " drop" ++ numbers_text (take l.entry-index l.dropped));
  printable : All IsPrintable (take l.entry-index l.dropped);
}
