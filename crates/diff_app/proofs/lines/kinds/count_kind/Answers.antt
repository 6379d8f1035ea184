use Rattle.std.proofs.Common.{◌≡◌, ℕ, ◌≤◌, Bool, true, false, ap, ◌∙◌, arith}
use Rattle.std.specs.List.{count_by}
use Rattle.spec_tools.specs.Classes.{one_if}
use Rattle.spec_tools.specs.DiffTexts.{is_same_kind}
use Rattle.diff_app.specs.Pieces.{kind_view}
use Rattle.diff_app.proofs.lines.KindLaws.{counted_in, no_later}
use Rattle.diff_app.proofs.lines.kinds.count_kind.Goals as goal

one_at_most : (t : Bool) (m : ℕ) → m ≡ one_if t → m ≤ 1
one_at_most true m e = omega arith
one_at_most false m e = omega arith

pub others-preserved : goal.others-preserved
others-preserved c =
    let kind = is_same_kind (kind_view c.args.class.now) in
    let one = c.one_if-count.ensures ∙ ap one_if c.is_of_kind.ensures in
    let parts = counted_in kind c.args.others.now c.others.other-index c.other-item.result c.others-test.true c.other-item.is in
    let so_far = c.others.invariant.counted in
    record {
      counted = omega (arith, one, parts, so_far);
      few = let few = c.others.invariant.few in let small = one_at_most _ c.one_if-count.result c.one_if-count.ensures in omega (arith, few, small);
    }

pub returns : goal.returns
returns c =
    let none = ap (count_by (is_same_kind (kind_view c.args.class.now))) (no_later c.args.others.now c.others.other-index c.others-test.false) in
    let counted = c.others.invariant.counted in
    omega (arith, none, counted)
