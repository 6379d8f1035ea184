use Rattle.std.proofs.Common.{◌≡◌, ◌++◌, Some, refl, sym, ap, ◌∙◌, subst}
use Rattle.std.specs.Prelude.{slice_get}
use Rattle.std.specs.Option.{option_map}
use Rattle.rule_tables.specs.Bare.{bare_view}
use Rattle.tuple_classifier.specs.ByTable.{AreClassified, HaveRuleOf}
use Rattle.tuple_classifier.proofs.ComeLaws.{come_among, come_distinct, come_back, has_rule}
use Rattle.tuple_classifier.proofs.Told.{told_same}
use Rattle.tuple_classifier.proofs.changing.take_back_at.Goals as goal

pub take_from-requires : goal.take_from-requires
take_from-requires c =
    let r = bare_view c.in-Some.rule.now in
    let at : slice_get c.args.change.now.came c.args.place ≡ Some (Some r) = c.came.ensures ∙ ap (λ o. Some (option_map (λ s. bare_view s.now) o)) c.in-Some.is in
    subst (HaveRuleOf c.args.tables.now.items r.table r.matching) (sym c.rank_of.ensures)
    (has_rule c.args.tables.now.items _ r c.requires.can.2 (come_among c.requires.can.0 c.args.change.now.came c.args.place r c.requires.can.1 at))

pub returns-in-Some : goal.returns-in-Some
returns-in-Some c rules can have =
    let r = bare_view c.in-Some.rule.now in
    let at : slice_get c.args.change.now.came c.args.place ≡ Some (Some r) = c.came.ensures ∙ ap (λ o. Some (option_map (λ s. bare_view s.now) o)) c.in-Some.is in
    subst (AreClassified c.take_from.new.tables.items) (come_back rules c.args.change.now.came c.args.place r can at)
    (c.take_from.ensures _ r have (come_distinct rules c.args.change.now.came c.args.place r can at) (come_among rules c.args.change.now.came c.args.place r can at) refl refl (sym c.rank_of.ensures))

pub returns-in_default : goal.returns-in_default
returns-in_default c rules can have =
    subst (λ rs. AreClassified c.args.tables.now.items (rules ++ rs)) (told_same c.args.change.now.came c.args.place c.in_default.ensures) have
