-- The dumps that are written board by board.
use Rattle.std.specs.Prelude.{ℕ, List}
use Rattle.std.specs.List.{flat_map}
use Rattle.spec_case.specs.Run.{Run}
use Rattle.spec_board.specs.Texts.{Journal, journal_text}
use Rattle.spec_run.specs.Megaflows.{port_megaflows_text}
use Rattle.board_steps.specs.Printable.{IsPrintableJournal}
use Rattle.flow_dump.specs.declared.boards.OfBoard.{OfBoard}
use Rattle.flow_dump.specs.declared.boards.OfBoard.TheVariants as what

abbrev pub board_text : OfBoard → Run → Journal → List ℕ
board_text what.Journal run j = journal_text j
board_text what.Megaflows run j = port_megaflows_text run j

abbrev pub dump_text : OfBoard → Run → List Journal → List ℕ
dump_text w run journals = flat_map (board_text w run) journals

-- a journal that is written has numbers that can be printed
abbrev pub IsPrintedWell : OfBoard → Journal → Type 0
IsPrintedWell what.Journal j = IsPrintableJournal j
IsPrintedWell what.Megaflows j = Unit {0}
