use Rattle.std.proofs.Common.{ℕ, ◌≤◌, map, subst}
use Rattle.rule_tables.specs.History.{applied}
use Rattle.rule_tables.specs.Views.{match_view}
use Rattle.dump_lines.specs.Live.{live_in}
use Rattle.rule_changes.specs.Pairs.{IsCovered}
use Rattle.rule_changes.proofs.NumberLaws.{none_yet, one_more, all_done}
use Rattle.rule_changes.proofs.OrderLaws.{covered_more}
use Rattle.rule_changes.proofs.comparing.set_all_aside.Goals as goal

pub numbers-init : goal.numbers-init
numbers-init c = record {
  kept = λ m among. among;
  covered = none_yet (IsCovered c.args.side c.args.pairs.now (map match_view c.args.aside.now.items)) c.args.rules.now c.requires.of_edits;
}

pub numbers-preserved : goal.numbers-preserved
numbers-preserved c =
    let before = map match_view c.numbers.aside.items in
    let after = map match_view c.set_aside.new.aside.items in
    record {
      kept = λ m among. c.in_ok-set_aside.ensures.kept m (c.numbers.invariant.kept m among);
      covered = one_more (IsCovered c.args.side c.args.pairs.now after) (live_in c.args.rules.now) c.requires.runnable c.numbers.before
          (λ r i le. covered_more c.args.side c.args.pairs.now before after r c.in_ok-set_aside.ensures.kept (c.numbers.invariant.covered r i le))
          c.in_ok-set_aside.ensures.covered;
    }

pub returns-clause-covered : goal.returns-clause-covered
returns-clause-covered c =
    let past : applied c.args.rules.now.edits ≤ c.numbers.before = subst (λ (n : ℕ). n ≤ c.numbers.before) c.edits-before-end.ensures c.numbers-test.false in
    all_done (IsCovered c.args.side c.args.pairs.now (map match_view c.numbers.aside.items)) c.args.rules.now c.requires.of_edits c.numbers.before
    c.numbers.invariant.covered past
