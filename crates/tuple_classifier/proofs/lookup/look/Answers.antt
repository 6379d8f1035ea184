use Rattle.std.proofs.Common.{sym, ap, ◌∙◌, arith}
use Rattle.std.proofs.lemmas.Option.{slice_get_within, get_or_from_slice_get}
use Rattle.spec_tables.specs.Rules.{winner}
use Rattle.ovs_fields.specs.Packed.{numbers, bits}
use Rattle.masked_map.specs.Unions.{union_of}
use Rattle.tuple_classifier.specs.Kept.{ranked}
use Rattle.tuple_classifier.specs.Parts.{of_mask, reaches}
use Rattle.tuple_classifier.proofs.PassLaws.{passed_none, passed_more, stopped, winner_at_end, all_consulted}
use Rattle.tuple_classifier.proofs.WinnerLaws.{number_of_best}
use Rattle.tuple_classifier.proofs.lookup.look.Goals as goal

pub subtables-init : goal.subtables-init
subtables-init c rs are of = (c.none-known.ensures (numbers c.args.key.now.key.now) rs, passed_none (numbers c.args.key.now.key.now) (union_of c.args.consulted.now) rs (ranked c.args.subtables.now))

pub returns-then-not-reaches-clause-winner : goal.returns-then-not-reaches-clause-winner
returns-then-not-reaches-clause-winner c rs are of distinct =
    let key = numbers c.args.key.now.key.now in
    let ss = ranked c.args.subtables.now in
    let s = c.at-subtable.result.now in
    let own = of_mask (bits s.staged.mask) rs in
    let there = c.at-subtable.ensures in
    let none = sym (ap (λ f. reaches f own) c.priority_to_beat.ensures) ∙ sym (c.reaches.ensures (bits s.staged.mask) own (are.subtables.each c.subtables.i s there).indexed) ∙ c.if-not-reaches.true in
    c.number_of.ensures
    ∙ number_of_best c.subtables.best (winner rs key) (winner_at_end key (union_of c.args.consulted.now) rs ss are c.subtables.i c.subtables.best (union_of c.subtables.consulted) (c.subtables.invariant rs are of).1 (stopped key (union_of c.args.consulted.now) rs ss are c.subtables.i s _ there none) distinct)

pub returns-then-not-reaches-clause-consulted : goal.returns-then-not-reaches-clause-consulted
returns-then-not-reaches-clause-consulted c rs are of distinct =
    let key = numbers c.args.key.now.key.now in
    let ss = ranked c.args.subtables.now in
    let s = c.at-subtable.result.now in
    let own = of_mask (bits s.staged.mask) rs in
    let there = c.at-subtable.ensures in
    let none = sym (ap (λ f. reaches f own) c.priority_to_beat.ensures) ∙ sym (c.reaches.ensures (bits s.staged.mask) own (are.subtables.each c.subtables.i s there).indexed) ∙ c.if-not-reaches.true in
    all_consulted key (union_of c.args.consulted.now) rs ss are c.subtables.i c.subtables.best (union_of c.subtables.consulted) (c.subtables.invariant rs are of).1 (stopped key (union_of c.args.consulted.now) rs ss are c.subtables.i s _ there none) distinct

pub subtables-preserved : goal.subtables-preserved
subtables-preserved c rs are of =
    let key = numbers c.args.key.now.key.now in
    let ss = ranked c.args.subtables.now in
    let s = c.at-subtable.result.now in
    let own = of_mask (bits s.staged.mask) rs in
    let there = c.at-subtable.ensures in
    let so_far = c.subtables.invariant rs are of in
    let rules = are.subtables.each c.subtables.i s there in
    let test = sym (ap (λ f. reaches f own) c.priority_to_beat.ensures) ∙ sym (c.reaches.ensures (bits s.staged.mask) own (are.subtables.each c.subtables.i s there).indexed) ∙ c.if-not-reaches.false in (
      c.probe-winner.ensures.known rs of so_far.0,
      passed_more key (union_of c.args.consulted.now) rs ss are c.subtables.i s c.probe-winner.result c.subtables.best c.best_of_two-best.result (union_of c.subtables.consulted) (union_of c.probe-winner.new.consulted)
          (slice_get_within ss c.subtables.i s there) (sym (get_or_from_slice_get ss c.subtables.i s s there)) test (c.probe-winner.ensures.best rs rules of so_far.0) (c.probe-winner.ensures.consulted rs rules of so_far.0) c.best_of_two-best.ensures so_far.1,
    )

pub returns-clause-winner : goal.returns-clause-winner
returns-clause-winner c rs are of distinct =
    let key = numbers c.args.key.now.key.now in
    let ss = ranked c.args.subtables.now in
    let past = c.subtables-test.false in
    let all = c.len-i-end.ensures in
    c.number_of-2.ensures
    ∙ number_of_best c.subtables.best (winner rs key) (winner_at_end key (union_of c.args.consulted.now) rs ss are c.subtables.i c.subtables.best (union_of c.subtables.consulted) (c.subtables.invariant rs are of).1
    (λ j t le at. let l = slice_get_within ss j t at in absurd (omega (arith, past, all, le, l))) distinct)

pub returns-clause-consulted : goal.returns-clause-consulted
returns-clause-consulted c rs are of distinct =
    let key = numbers c.args.key.now.key.now in
    let ss = ranked c.args.subtables.now in
    let past = c.subtables-test.false in
    let all = c.len-i-end.ensures in
    all_consulted key (union_of c.args.consulted.now) rs ss are c.subtables.i c.subtables.best (union_of c.subtables.consulted) (c.subtables.invariant rs are of).1
    (λ j t le at. let l = slice_get_within ss j t at in absurd (omega (arith, past, all, le, l))) distinct
