use Rattle.std.proofs.Common.{◌≡◌, true, nat_lt, Some, None, arith, subst}
use Rattle.std.specs.Prelude.{IfNone}
use Rattle.std.specs.List.{find}
use Rattle.std.specs.Option.{option_map}
use Rattle.std.proofs.lemmas.Bool.{false_from_ne_true}
use Rattle.ovs_fields.specs.Packed.{numbers}
use Rattle.spec_case.specs.Run.{Run}
use Rattle.spec_board.specs.State.{Entry, State}
use Rattle.spec_board.specs.Results.{entry_of}
use Rattle.spec_board.specs.Effects.{is_among}
use Rattle.board_laws.proofs.NumberLaws.{is_among-Among}
use Rattle.pmd_board.specs.BoardView.{BoardView, state_of}
use Rattle.step_runner.proofs.Progress.{listed_rising}
use Rattle.given_steps.proofs.Entries.{found_among, found_above, least_above, none_above}
use Rattle.given_steps.proofs.steps.listed_key.Goals as goal

pub returns-in-Some-clause-some : goal.returns-in-Some-clause-some
returns-in-Some-clause-some g c =
    let run : Run = g.C.Case.run in
    let s : State = state_of run c.args.board.now in
    let found = c.in-Some.ensures.some in
    subst (λ n. (is_among s.listed n ≡ true) × (option_map (λ (e : Entry). e.key) (entry_of n s.entries) ≡ Some (numbers c.in-Some.key)))
    c.if-found-number.true
    (found_among c.saturating_sub.result c.in-Some.found s.listed found.0, found.1)

pub returns-in_default-clause-none : goal.returns-in_default-clause-none
returns-in_default-clause-none g c =
    let run : Run = g.C.Case.run in
    let b : BoardView = c.args.board.now in
    let ns = (state_of run b).listed in
    let a = c.saturating_sub.result in
    let after = c.saturating_sub.ensures in
    let n = c.in-Some.found in
    let found = c.in-Some.ensures.some.0 in
    let rises = listed_rising run b c.journal.ensures.legal in
    false_from_ne_true (is_among ns c.args.number)
    (λ is.
    let among = is_among-Among ns c.args.number is in
    let from_one = rises.0 c.args.number among in
    let least = least_above a n c.args.number ns rises.1 found among (omega (arith, after, from_one)) in
    let above = found_above a n ns found in
    c.if-found-number.false (omega (arith, least, above, after, from_one)))

pub returns-in_default-2-clause-none : goal.returns-in_default-2-clause-none
returns-in_default-2-clause-none g c =
    let run : Run = g.C.Case.run in
    let b : BoardView = c.args.board.now in
    let ns = (state_of run b).listed in
    let a = c.saturating_sub.result in
    let after = c.saturating_sub.ensures in
    let rises = listed_rising run b c.journal.ensures.legal in
    false_from_ne_true (is_among ns c.args.number)
    (λ is.
    let among = is_among-Among ns c.args.number is in
    let from_one = rises.0 c.args.number among in
    none_above a c.args.number ns (subst (λ r. IfNone r (find (λ n. nat_lt a n) ns ≡ None)) c.in_default.is c.next_check.ensures.none) among (omega (arith, after, from_one)))
