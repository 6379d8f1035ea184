use Rattle.std.proofs.Common.{◌≡◌, Some, refl, sym, ap, ◌∙◌, subst}
use Rattle.std.specs.Prelude.{slice_get}
use Rattle.std.specs.Option.{option_map}
use Rattle.rule_tables.specs.Bare.{bare_view}
use Rattle.tuple_classifier.specs.ByTable.{AreClassified, HaveRuleOf}
use Rattle.tuple_classifier.specs.Changing.{but}
use Rattle.tuple_classifier.proofs.ComeLaws.{has_rule}
use Rattle.tuple_classifier.proofs.GoLaws.{go_among, go_distinct, go_more}
use Rattle.tuple_classifier.proofs.Told.{told_same}
use Rattle.tuple_classifier.proofs.changing.take_at.Goals as goal

pub take_from-requires : goal.take_from-requires
take_from-requires c =
    let r = bare_view c.in-Some.rule.now in
    let at : slice_get c.args.change.now.went c.args.place ≡ Some (Some r) = c.went.ensures ∙ ap (λ o. Some (option_map (λ s. bare_view s.now) o)) c.in-Some.is in
    subst (HaveRuleOf c.args.tables.now.items r.table r.matching) (sym c.rank_of.ensures)
    (has_rule c.args.tables.now.items _ r c.requires.can.2 (go_among c.requires.can.0 c.args.change.now.went c.args.place r c.requires.can.1 at))

pub returns-in-Some : goal.returns-in-Some
returns-in-Some c rules can have =
    let r = bare_view c.in-Some.rule.now in
    let at : slice_get c.args.change.now.went c.args.place ≡ Some (Some r) = c.went.ensures ∙ ap (λ o. Some (option_map (λ s. bare_view s.now) o)) c.in-Some.is in
    subst (AreClassified c.take_from.new.tables.items) (go_more rules c.args.change.now.went c.args.place r can at)
    (c.take_from.ensures _ r have (go_distinct rules c.args.change.now.went c.args.place r can at) (go_among rules c.args.change.now.went c.args.place r can at) refl refl (sym c.rank_of.ensures))

pub returns-in_default : goal.returns-in_default
returns-in_default c rules can have =
    subst (λ gone. AreClassified c.args.tables.now.items (but gone rules)) (sym (told_same c.args.change.now.went c.args.place c.in_default.ensures)) have
