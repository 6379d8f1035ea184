use Rattle.std.proofs.Common.{sym, ◌∙◌, arith}
use Rattle.std.proofs.lemmas.Result.{err_from_is_err_and}
use Rattle.text_numbers.proofs.Cuts.{shorter}
use Rattle.line_files.proofs.LineTexts.{last_line, next_line, fails}
use Rattle.line_files.proofs.lines.read_lines.Goals as goal

pub returns-in_err-read-clause-value : goal.returns-in_err-read-clause-value
returns-in_err-read-clause-value g c =
    let p = err_from_is_err_and c.from_residual.result c.from_residual.ensures.1 in
    let failed = fails (g.R.LineReader.after_line c.args.reader.now) c.lines.number (g.R.LineReader.said c.lines.read) c.lines.rest.now _ _ c.in-Some.ensures
    c.in_err-read.field-0.0 c.in_err-read.ensures.value in
    rw (p.1, p.2, ← c.lines.invariant.so_far) failed

pub lines-preserved : goal.lines-preserved
lines-preserved g c = record {
  so_far = sym (next_line (g.R.LineReader.after_line c.args.reader.now) c.lines.number (g.R.LineReader.said c.lines.read) c.lines.rest.now _ _ c.in-Some.ensures
      _ c.in_ok-read.ensures.value)
      ∙ c.lines.invariant.so_far;
  kept = c.in_ok-read.ensures.kept;
  room = omega (arith, c.lines.invariant.room, shorter 10 c.lines.rest.now _ _ c.in-Some.ensures);
}

pub returns-clause-value : goal.returns-clause-value
returns-clause-value g c =
    rw (← c.lines.invariant.so_far, last_line (g.R.LineReader.after_line c.args.reader.now) c.lines.number (g.R.LineReader.said c.lines.read) c.lines.rest.now c.in_default.ensures)
    c.read_next-2.ensures.value
