use Rattle.std.proofs.Common.{◌≡◌, ℕ, refl, ap, subst, arith}
use Rattle.pmd_board.specs.BoardView.{BoardView, journal_view}
use Rattle.port_caches.specs.Sums.{total_of}
use Rattle.flow_dump.specs.Sums.{sums_view, with_total}
use Rattle.flow_dump.specs.Counted.{IsBoundedAt, counts_at}
use Rattle.flow_dump.proofs.sums.Boards.{has_room, one_board_more, all_counted}
use Rattle.flow_dump.proofs.sums.counting.add_boards.Goals as goal

pub boards-init : goal.boards-init
boards-init g c = record {
  long = c.requires.rules;
  each = λ rule. c.requires.none rule;
  packets = λ rule. omega (arith, ap (λ t. t.packets) (c.requires.none rule));
  bytes = λ rule. omega (arith, ap (λ t. t.bytes) (c.requires.none rule));
}

pub add_board-requires-clause-room : goal.add_board-requires-clause-room
add_board-requires-clause-room g c rule =
    has_room g.C.Case.run c.args.boards.now c.boards.board-index c.boards.counts c.boards.invariant
    (omega arith) rule

pub boards-preserved : goal.boards-preserved
boards-preserved g c =
    let run = g.C.Case.run in
    let now = c.add_board.new.counts in
    let P : BoardView → Type 0 = λ b. (rule : ℕ) → total_of (sums_view now) rule ≡ with_total (counts_at run (journal_view b) rule) (total_of (sums_view c.boards.counts) rule) in
    let Q : BoardView → Type 0 = λ b. (rule : ℕ) → IsBoundedAt run (journal_view b) rule in
    one_board_more run c.args.boards.now c.boards.board-index c.boards.counts c.boards.invariant _ c.boards-test.true now c.add_board.auto.counts
    (subst P c.board-item.is c.add_board.ensures.counted) (subst Q c.board-item.is c.add_board.ensures.bounded)

pub returns : goal.returns
returns g c = all_counted g.C.Case.run c.args.boards.now c.boards.board-index c.boards.counts c.boards.invariant (omega arith) _ refl
