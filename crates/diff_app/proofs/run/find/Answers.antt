use Rattle.std.proofs.Common.{ℕ, List, sym, ap, ◌∙◌, subst}
use Rattle.spec_tools.specs.Classes.{IsDifference}
use Rattle.spec_tools.specs.Lines.{IsListed}
use Rattle.spec_xlate.specs.Translation.{switch_of}
use Rattle.dump_lines.specs.Live.{live_in}
use Rattle.table_diff.specs.declared.class.Class.{Class}
use Rattle.table_diff.specs.Cubes.{classes_view}
use Rattle.class_list.specs.declared.line.Line.{Line}
use Rattle.class_list.specs.LineViews.{lines_view}
use Rattle.spec_tools.specs.DiffTexts.{text_of_lines}
use Rattle.spec_tools.specs.DiffStatuses.{found_status}
use Rattle.diff_app.proofs.run.find.Goals as goal

pub lines_of-requires-clause-difference : goal.lines_of-requires-clause-difference
lines_of-requires-clause-difference c =
    let i = c.args.inputs.now in
    let ports = c.as_slice-ports.result.now in
    subst (λ (cs : List Class). IsDifference (switch_of (live_in i.old) ports) (switch_of (live_in i.new) ports) ports (classes_view cs))
    (sym c.as_slice.ensures.value) c.in_ok-classes.ensures.ok

pub returns-clause-ok : goal.returns-clause-ok
returns-clause-ok c =
    let i = c.args.inputs.now in
    let lines = lines_view c.in_ok-lines.lines.items in
    record {
      lines = lines;
      is_listed = subst (λ (ports : List ℕ). IsListed (switch_of (live_in i.old) ports) (switch_of (live_in i.new) ports) ports lines)
          c.as_slice-ports.ensures.value c.in_ok-lines.ensures;
      is_text = c.in_ok-told.ensures.text ∙ ap (λ (ls : List Line). text_of_lines i.brief (lines_view ls)) c.as_slice-2.ensures.value;
      is_status = c.in_ok-told.ensures.status ∙ ap (λ (ls : List Line). found_status (lines_view ls)) c.as_slice-2.ensures.value;
    }
