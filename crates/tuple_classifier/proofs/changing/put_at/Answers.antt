use Rattle.std.proofs.Common.{◌≡◌, ◌++◌, take, Some, refl, sym, ap, ◌∙◌, subst}
use Rattle.std.specs.Prelude.{slice_get}
use Rattle.std.specs.Option.{option_map}
use Rattle.std.proofs.lemmas.Result.{on_ok_weaker}
use Rattle.rule_tables.specs.Bare.{bare_view, told}
use Rattle.tuple_classifier.specs.ByTable.{AreClassified, HaveNoRule}
use Rattle.tuple_classifier.proofs.ComeLaws.{come_more, come_few, come_new}
use Rattle.tuple_classifier.proofs.Told.{told_same}
use Rattle.tuple_classifier.proofs.changing.put_at.Goals as goal

pub insert_in-requires-clause-new : goal.insert_in-requires-clause-new
insert_in-requires-clause-new c =
    let at : slice_get c.args.change.now.came c.args.place ≡ Some (Some (bare_view c.in-Some.rule.now)) = c.came.ensures ∙ ap (λ o. Some (option_map (λ r. bare_view r.now) o)) c.in-Some.is in
    subst (λ k. HaveNoRule k.number c.args.tables.now.items) (sym c.rank_of.ensures)
    (come_new c.requires.can.0 c.args.change.now.came c.args.place (bare_view c.in-Some.rule.now) c.requires.can.1 at c.args.tables.now.items c.requires.can.2)

pub insert_in-requires-clause-few : goal.insert_in-requires-clause-few
insert_in-requires-clause-few c =
    let at : slice_get c.args.change.now.came c.args.place ≡ Some (Some (bare_view c.in-Some.rule.now)) = c.came.ensures ∙ ap (λ o. Some (option_map (λ r. bare_view r.now) o)) c.in-Some.is in
    (c.requires.can.0 ++ told (take c.args.place c.args.change.now.came), c.requires.can.2, come_few c.requires.can.0 c.args.change.now.came c.args.place (bare_view c.in-Some.rule.now) c.requires.can.1 at)

pub returns-in-Some-clause-ok : goal.returns-in-Some-clause-ok
returns-in-Some-clause-ok c =
    let at : slice_get c.args.change.now.came c.args.place ≡ Some (Some (bare_view c.in-Some.rule.now)) = c.came.ensures ∙ ap (λ o. Some (option_map (λ r. bare_view r.now) o)) c.in-Some.is in
    on_ok_weaker c.insert_in.result (λ inserts rules can have.
    subst (AreClassified c.insert_in.new.tables.items) (sym (come_more rules c.args.change.now.came c.args.place (bare_view c.in-Some.rule.now) can at))
    (inserts _ (bare_view c.in-Some.rule.now) have refl refl (sym c.rank_of.ensures))) c.insert_in.ensures.ok

pub returns-in-None-clause-ok : goal.returns-in-None-clause-ok
returns-in-None-clause-ok c = λ rules can have.
    subst (λ rs. AreClassified c.args.tables.now.items (rules ++ rs))
    (sym (told_same c.args.change.now.came c.args.place (c.came.ensures ∙ ap (λ o. Some (option_map (λ r. bare_view r.now) o)) c.in-None.is))) have
