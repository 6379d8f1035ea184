use Rattle.std.proofs.Common.{◌≡◌, ◌+◌, ◌++◌, List, string_bytes, ap, sym, ◌∙◌}
use Rattle.std.proofs.lemmas.List.{append-nil, take_rest}
use Rattle.std.specs.List.{flat_map}
use Rattle.spec_tools.specs.DiffTexts.{Kind, kinds_in, kinds_of, kind_line, kinds_text}
use Rattle.class_list.specs.declared.line.Line.{Line}
use Rattle.class_list.specs.LineViews.{lines_view}
use Rattle.diff_app.specs.Pieces.{last_kind_text}
use Rattle.diff_app.proofs.lines.KindLaws.{own_kind, later_kinds, kind_parts, text_step, begins_more, no_kinds}
use Rattle.diff_app.proofs.lines.text.print_kinds.Goals as goal

pub lines-preserved : goal.lines-preserved
lines-preserved c =
    let lines = c.args.lines.now in
    let all = kinds_in (lines_view lines) in
    let x = c.index-lines-i.result in
    let later = later_kinds lines (c.lines.i + 1) in
    let old = string_bytes c.args.out.now in
    let mid = string_bytes c.lines.out in
    let new = string_bytes c.print_last_kind.new.out in
    let part = last_kind_text all (own_kind x) later in
    let one : new ≡ mid ++ part =
    c.in_ok-print_last_kind.ensures.text
    ∙ ap (λ (z : List Line). mid ++ last_kind_text all (own_kind x) (kinds_in (lines_view z))) (take_rest lines (c.lines.i + 1)) in
    record {
      whole = text_step old mid (old ++ kinds_text all) part (flat_map (kind_line all) (kinds_of later))
          (flat_map (kind_line all) (kinds_of (later_kinds lines c.lines.i))) new c.lines.invariant.whole
          (kind_parts all lines c.lines.i x c.lines-test.true c.index-lines-i.is) one;
      begins = begins_more old mid new part c.lines.invariant.begins one;
    }

pub returns : goal.returns
returns c =
    let all = kinds_in (lines_view c.args.lines.now) in record {
      text = sym (append-nil (string_bytes c.lines.out))
          ∙ ap (λ (z : List Kind). string_bytes c.lines.out ++ flat_map (kind_line all) z) (sym (no_kinds c.args.lines.now c.lines.i c.lines-test.false))
          ∙ c.lines.invariant.whole;
      kept = tt;
    }
