use Rattle.std.proofs.Common.{ℕ, ◌+◌, List, length, sym, ◌∙◌, arith, rules}
use Rattle.std.proofs.lemmas.Iterator.Consumers.{YieldsList-turn, YieldsList-end}
use Rattle.std.proofs.lemmas.Iterator.Adapters.{YieldsList-from_vec}
use Rattle.std.proofs.lemmas.List.{length_push, at_drop_all}
use Rattle.spec_tables.specs.Edits.{Edit}
use Rattle.rule_tables.specs.Edited.{adds, modifies}
use Rattle.rule_tables.specs.History.{edited_by_all}
use Rattle.rule_tables.proofs.Applying.{history_next_left, length_next_left, room_left, room_next_left, states_next}
use Rattle.rule_tables.proofs.edited.EditedRules.apply_all.Goals as goal

pub apply-requires : goal.apply-requires
apply-requires c =
    let all : List Edit = c.args.edits.items in
    let turn = YieldsList-turn (YieldsList-from_vec {s = c.into_iter-edit-iterator.result} all (search rules) (search rules))
    c.edits.yielded c.edits.edit-iterator c.edits.yielded_by c.next.result c.next.new.self c.in-Some.edit c.in-Some.is c.next.ensures.steps in
    let left = length_next_left all (length c.edits.yielded) c.in-Some.edit turn.0 turn.1 (length c.edits.yielded + 1) (omega arith) in
    record {
      few = omega (arith, left, c.edits.invariant.count, c.requires.few);
      add = λ its. room_left all (length c.edits.yielded) c.in-Some.edit turn.0 turn.1 adds c.edits.self.adds c.edits.invariant.adds its;
      modify = λ its. room_left all (length c.edits.yielded) c.in-Some.edit turn.0 turn.1 modifies c.edits.self.modifies c.edits.invariant.modifies its;
    }

pub edits-preserved : goal.edits-preserved
edits-preserved c =
    let all : List Edit = c.args.edits.items in
    let n : ℕ = length c.edits.yielded in
    let e : Edit = c.in-Some.edit in
    let turn = YieldsList-turn (YieldsList-from_vec {s = c.into_iter-edit-iterator.result} all (search rules) (search rules))
    c.edits.yielded c.edits.edit-iterator c.edits.yielded_by c.next.result c.next.new.self c.in-Some.edit c.in-Some.is c.next.ensures.steps in
    let next = length_push c.edits.yielded e in
    let states = states_next e c.edits.self.history c.apply.new.self.history c.apply.ensures.edited c.edits.invariant.states in
    record {
      history = history_next_left all n e turn.0 turn.1 c.edits.self.history c.apply.new.self.history _ next c.apply.ensures.edited ∙ c.edits.invariant.history;
      count = omega (arith, states.0, length_next_left all n e turn.0 turn.1 _ next, c.edits.invariant.count);
      states = states.1;
      adds = room_next_left all n e turn.0 turn.1 adds c.edits.self.adds c.apply.new.self.adds _ next c.edits.invariant.adds c.apply.ensures.adds;
      modifies = room_next_left all n e turn.0 turn.1 modifies c.edits.self.modifies c.apply.new.self.modifies _ next c.edits.invariant.modifies c.apply.ensures.modifies;
    }

pub returns-clause-edited : goal.returns-clause-edited
returns-clause-edited c =
    let all : List Edit = c.args.edits.items in
    let end = YieldsList-end (YieldsList-from_vec {s = c.into_iter-edit-iterator.result} all (search rules) (search rules))
    c.edits.yielded c.edits.edit-iterator c.edits.yielded_by c.next.result c.next.new.self c.in-None.is c.next.ensures.steps in
    sym (at_drop_all (λ (rest : List Edit). edited_by_all rest c.edits.self.history) all (length c.edits.yielded) (omega (arith, end.1))) ∙ c.edits.invariant.history

pub returns-clause-applied : goal.returns-clause-applied
returns-clause-applied c =
    let all : List Edit = c.args.edits.items in
    let end = YieldsList-end (YieldsList-from_vec {s = c.into_iter-edit-iterator.result} all (search rules) (search rules))
    c.edits.yielded c.edits.edit-iterator c.edits.yielded_by c.next.result c.next.new.self c.in-None.is c.next.ensures.steps in
    omega (arith, at_drop_all (λ (rest : List Edit). length rest) all (length c.edits.yielded) (omega (arith, end.1)), c.edits.invariant.count)
