use Rattle.std.proofs.Common.{◌≡◌, ◌+◌, ◌≤◌, length}
use Rattle.spec_input.specs.Lines.{with_lines, lines_of, said_by}
use Rattle.line_files.proofs.lines.read_lines.Given as goal

-- what the lines so far and those to come say is what all of them say
abbrev pub invariant-lines : goal.invariant-lines
invariant-lines g l = record {
  so_far :
      with_lines (g.R.LineReader.after_line l.reader) l.number (lines_of l.rest) (g.R.LineReader.said l.read)
      ≡ said_by (g.R.LineReader.after_line l.reader) l.bytes (g.R.LineReader.said l.fn.nothing);
  kept : g.R.LineReader.is_kept l.read;
  room : l.number + length l.rest ≤ 4294967295;
}

abbrev pub decreases-lines : goal.decreases-lines
decreases-lines g l = length l.rest
