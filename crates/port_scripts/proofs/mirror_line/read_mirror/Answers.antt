use Rattle.std.proofs.Common.{sym, ◌∙◌}
use Rattle.std.proofs.lemmas.Result.{err_from_is_err_and}
use Rattle.field_text.specs.WordViews.{word_view}
use Rattle.port_scripts.proofs.ItemSteps.{at_end, goes_on, fails}
use Rattle.port_scripts.proofs.mirror_line.read_mirror.Goals as goal

pub returns-in_err-mirror : goal.returns-in_err-mirror
returns-in_err-mirror c =
    let p = err_from_is_err_and c.from_residual-in_err-mirror.result c.from_residual-in_err-mirror.ensures.1 in
    let failed = fails c.args.ports.now c.items.mirror (word_view c.in-Some.item) _ c.in_err-mirror.field-0.0 c.in_err-mirror.ensures in
    rw (p.1, p.2, ← c.items.invariant, c.in-Some.ensures.some) failed

pub items-preserved : goal.items-preserved
items-preserved c =
    sym (goes_on c.args.ports.now c.items.mirror (word_view c.in-Some.item) _ c.in_ok-mirror.mirror c.in_ok-mirror.ensures)
    ∙ rw (← c.in-Some.ensures.some) c.items.invariant

pub returns : goal.returns
returns c = sym c.items.invariant ∙ rw c.in_default.ensures.none (at_end c.args.ports.now c.items.mirror)
