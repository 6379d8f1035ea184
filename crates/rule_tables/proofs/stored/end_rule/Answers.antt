use Rattle.std.proofs.Common.{◌<◌, length, sym, ap, ◌∙◌}
use Rattle.std.specs.Prelude.{slice_index_or}
use Rattle.std.proofs.lemmas.Option.{slice_get-get_or}
use Rattle.rule_tables.specs.Ends.{with_ending}
use Rattle.rule_tables.specs.Stored.{with_end}
use Rattle.rule_tables.proofs.Ends.{set-ended}
use Rattle.rule_tables.proofs.stored.end_rule.Goals as goal

pub push_reserved-requires : goal.push_reserved-requires
push_reserved-requires c = c.requires.room c.in-Some.place c.in-Some.is

pub returns-in-Some-clause-rules : goal.returns-in-Some-clause-rules
returns-in-Some-clause-rules c =
    let within : c.in-Some.place < length c.args.rules.now = c.requires.within c.in-Some.place c.in-Some.is in
    set-ended c.args.rules.now c.in-Some.place c.args.gone (slice_index_or c.args.rules.now c.in-Some.place c.index-rules-place.result)
    (slice_get-get_or c.args.rules.now c.in-Some.place c.index-rules-place.result within)
    ∙ sym (ap (λ place. with_end place c.args.gone c.args.rules.now) c.in-Some.is)

pub returns-in-Some-clause-ends : goal.returns-in-Some-clause-ends
returns-in-Some-clause-ends c =
    c.push_reserved.ensures.items ∙ sym (ap (λ place. with_ending place c.args.gone c.args.ends.now.items) c.in-Some.is)
