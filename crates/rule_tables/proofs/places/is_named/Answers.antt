use Rattle.std.proofs.Common.{◌≡◌, [], get_or, sym, ap, ◌∙◌}
use Rattle.std.proofs.lemmas.Option.{same_Some, slice_get-get_or}
use Rattle.spec_tables.specs.Edits.{is_named_by}
use Rattle.rule_tables.specs.declared.stored.StoredRule.{StoredRule}
use Rattle.rule_tables.specs.Views.{rule_view}
use Rattle.rule_tables.proofs.places.is_named.Goals as goal

pub returns : goal.returns
returns c s at =
    let there : StoredRule = get_or c.args.rules.now c.args.place c.index-rules-place.result in
    let same : there ≡ s = same_Some there s (sym (slice_get-get_or c.args.rules.now c.args.place c.index-rules-place.result c.requires) ∙ at) in
    c.names.ensures ∙ ap (λ (x : StoredRule). is_named_by c.args.edit.now (rule_view x.rule [])) same
