use Rattle.std.proofs.Common.{◌≡◌, sym, ap, ◌∙◌}
use Rattle.table_diff.proofs.WayLaws.{deed_then, deed_else}
use Rattle.table_diff.proofs.ways.deed_of.Goals as goal

pub returns-then-way-nothing : goal.returns-then-way-nothing
returns-then-way-nothing c sw key mask sure h =
    deed_then sw key mask c.args.way sure h c.is_none-nothing.result (λ e. sym c.as_slice.ensures ∙ c.is_none-nothing.ensures.none e) c.if-way-nothing.true

pub returns-else-way-nothing : goal.returns-else-way-nothing
returns-else-way-nothing c sw key mask sure h =
    deed_else sw key mask c.args.way sure h c.is_none-nothing.result (λ e same. c.is_none-nothing.ensures.some e (c.as_slice.ensures ∙ same)) c.if-way-nothing.false
