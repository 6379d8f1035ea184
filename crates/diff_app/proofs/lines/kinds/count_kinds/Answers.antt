use Rattle.std.proofs.Common.{◌≡◌, ◌+◌, List, length, ap, ◌∙◌, arith}
use Rattle.std.proofs.lemmas.List.{take_rest}
use Rattle.spec_tools.specs.DiffTexts.{kinds_in, kinds_of}
use Rattle.class_list.specs.declared.line.Line.{Line}
use Rattle.class_list.specs.LineViews.{said_view, lines_view}
use Rattle.diff_app.specs.Pieces.{last_kind}
use Rattle.diff_app.proofs.lines.KindLaws.{own_kind, later_kinds, count_step, no_kinds, at_most}
use Rattle.diff_app.proofs.lines.kinds.count_kinds.Goals as goal

pub lines-preserved : goal.lines-preserved
lines-preserved c =
    let lines = c.args.lines.now in
    let x = c.index-lines-i.result in
    let one : c.count_last-count.result ≡ length (last_kind (own_kind x) (later_kinds lines (c.lines.i + 1))) =
    c.count_last-count.ensures ∙ ap (λ (z : List Line). length (last_kind (own_kind x) (kinds_in (lines_view z)))) (take_rest lines (c.lines.i + 1)) in
    record {
      counted = count_step lines c.lines.i x c.lines.count c.count_last-count.result (length (kinds_of (kinds_in (lines_view lines)))) c.lines-test.true c.index-lines-i.is one c.lines.invariant.counted;
      few = let few = c.lines.invariant.few in let small = at_most (said_view x.class) (later_kinds lines (c.lines.i + 1)) in omega (arith, few, small, one);
    }

pub returns : goal.returns
returns c =
    let none = ap length (no_kinds c.args.lines.now c.lines.i c.lines-test.false) in
    let counted = c.lines.invariant.counted in
    omega (arith, none, counted)
