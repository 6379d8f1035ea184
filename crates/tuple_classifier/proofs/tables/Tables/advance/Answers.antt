use Rattle.std.proofs.Common.{◌+◌, ◌<◌, ◌≤◌, ◌++◌, map, subst, arith}
use Rattle.rule_tables.specs.Bare.{bare, told}
use Rattle.rule_tables.specs.History.{newest, rules_of}
use Rattle.tuple_classifier.specs.Versions.{Version}
use Rattle.tuple_classifier.proofs.NextVersion.{may_come, may_go, next_distinct, first_came, back_came, all_came, all_gone}
use Rattle.tuple_classifier.proofs.tables.Tables.advance.Goals as goal

pub invariant_of-self : goal.invariant_of-self
invariant_of-self c =
    let h = c.self.inside.store.now in
    let v = c.self.inside.version in
    let change = c.change-change.result in
    let came = c.change-change.ensures.came in
    let went = c.change-change.ensures.went in
    let law = c.change_laws.ensures in
    record {
      made = c.self.invariant.made;
      distinct = c.self.invariant.distinct;
      classified =
          back_came h v change came went law.bare law.rising law.few c.put_all.new.tables.items
          (c.in_err-put_all.ensures.err (map bare (rules_of h v)) (may_come h v change came went law.bare law.rising law.few)
          (first_came h v change came went law.bare law.rising law.few c.self.inside.tables.items c.self.invariant.classified));
    }

pub take_all-requires : goal.take_all-requires
take_all-requires c =
    let h = c.self.inside.store.now in
    let v = c.self.inside.version in
    let change = c.change-change.result in
    let came = c.change-change.ensures.came in
    let went = c.change-change.ensures.went in
    let law = c.change_laws.ensures in (
      map bare (rules_of h v) ++ told change.came,
      may_go h v change came went law.bare law.rising law.few,
      all_came h v change came went law.bare law.rising law.few c.put_all.new.tables.items
          (c.in_ok-put_all.ensures.ok (map bare (rules_of h v)) (may_come h v change came went law.bare law.rising law.few)
          (first_came h v change came went law.bare law.rising law.few c.self.inside.tables.items c.self.invariant.classified)),
    )

pub invariant_of-self-2 : goal.invariant_of-self-2
invariant_of-self-2 c =
    let h = c.self.inside.store.now in
    let v = c.self.inside.version in
    let change = c.change-change.result in
    let came = c.change-change.ensures.came in
    let went = c.change-change.ensures.went in
    let law = c.change_laws.ensures in
    record {
      made = subst (λ (w : Version). w.number < newest w.history → v + 1 ≤ newest h) c.self.view_is (λ lt. omega arith) c.requires;
      distinct = next_distinct h v change came went law.bare law.rising law.few;
      classified =
          all_gone h v change came went law.bare law.rising law.few c.take_all.new.tables.items
          (c.take_all.ensures (map bare (rules_of h v) ++ told change.came) (may_go h v change came went law.bare law.rising law.few)
          (all_came h v change came went law.bare law.rising law.few c.put_all.new.tables.items
          (c.in_ok-put_all.ensures.ok (map bare (rules_of h v)) (may_come h v change came went law.bare law.rising law.few)
          (first_came h v change came went law.bare law.rising law.few c.self.inside.tables.items c.self.invariant.classified))));
    }
