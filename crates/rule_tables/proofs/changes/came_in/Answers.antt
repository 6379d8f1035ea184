use Rattle.std.proofs.Common.{Some, None, sym, ap, ◌∙◌}
use Rattle.std.specs.Option.{option_map}
use Rattle.std.proofs.lemmas.Bool.{cond-true, cond-false}
use Rattle.std.proofs.lemmas.Option.{slice_get-get_or}
use Rattle.rule_tables.specs.declared.stored.StoredRule.{StoredRule}
use Rattle.rule_tables.specs.Bare.{bare_view}
use Rattle.rule_tables.specs.Changes.{came_at}
use Rattle.rule_tables.specs.Stored.{is_alive}
use Rattle.rule_tables.proofs.changes.came_in.Goals as goal

pub returns-then-is_live : goal.returns-then-is_live
returns-then-is_live c =
    let s : StoredRule = c.index-added-place.result in
    ap (option_map (came_at c.args.after)) (slice_get-get_or c.args.added.now c.args.place s c.requires ∙ ap Some (sym c.index-added-place.is))
    ∙ ap Some (cond-true (is_alive c.args.after s) (Some (bare_view s.rule)) None (sym c.is_live.ensures ∙ c.if-is_live.true))

pub returns-else-is_live : goal.returns-else-is_live
returns-else-is_live c =
    let s : StoredRule = c.index-added-place.result in
    ap (option_map (came_at c.args.after)) (slice_get-get_or c.args.added.now c.args.place s c.requires ∙ ap Some (sym c.index-added-place.is))
    ∙ ap Some (cond-false (is_alive c.args.after s) (Some (bare_view s.rule)) None (sym c.is_live.ensures ∙ c.if-is_live.false))
