use Rattle.std.proofs.Common.{◌<◌, ◌≤◌, length, sym, ◌∙◌, arith}
use Rattle.std.proofs.lemmas.Bool.{eqb-true, eqb-false}
use Rattle.edge_io.proofs.InTurn.{none_yet}
use Rattle.egress_capture.proofs.First.{before, found, missed, only_sending}
use Rattle.egress_capture.proofs.first_sent.send_first.Goals as goal

pub returns-then-is_empty-clause-writes : goal.returns-then-is_empty-clause-writes
returns-then-is_empty-clause-writes g c =
    let none = eqb-true _ 0 (sym c.is_empty.ensures ∙ c.if-is_empty.true) in
    let all : length c.args.actions.now ≤ before c.args.ports.now c.args.time c.args.actions.now = omega (arith, none, c.split_at.ensures.back_len, c.before_output.ensures) in
    rw (missed c.args.ports.now c.args.time c.args.actions.now c.args.bytes.now all) (none_yet g.S.Shelf c.args.shelf.now c.requires.in_use)

pub returns-then-only_send-clause-writes : goal.returns-then-only_send-clause-writes
returns-then-only_send-clause-writes g c =
    let others = eqb-false _ 0 (sym c.is_empty.ensures ∙ c.if-is_empty.false) in
    let some : before c.args.ports.now c.args.time c.args.actions.now < length c.args.actions.now = omega (arith, others, c.split_at.ensures.back_len, c.before_output.ensures) in
    let sends = rw (c.split_at.ensures.front, c.before_output.ensures) at (sym c.only_send.ensures ∙ c.if-only_send.true) in
    rw (found c.args.ports.now c.args.time c.args.actions.now c.args.bytes.now some, only_sending _ c.args.bytes.now sends) c.frame.ensures.writes

pub returns-clause-writes : goal.returns-clause-writes
returns-clause-writes g c =
    let others = eqb-false _ 0 (sym c.is_empty.ensures ∙ c.if-is_empty.false) in
    let some : before c.args.ports.now c.args.time c.args.actions.now < length c.args.actions.now = omega (arith, others, c.split_at.ensures.back_len, c.before_output.ensures) in
    let rewritten = rw (c.split_at.ensures.front, c.before_output.ensures, c.in_ok-load.ensures.ok) at c.in_ok-rewrite.ensures.frame in
    let w = rw (c.as_slice.ensures, rewritten) at c.frame-2.ensures.writes in
    rw (found c.args.ports.now c.args.time c.args.actions.now c.args.bytes.now some) w
