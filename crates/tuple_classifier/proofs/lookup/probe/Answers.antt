use Rattle.std.proofs.Common.{◌≡◌, ◌<◌, List, [], ◌∷◌, IfSome, refl, sym, ap, subst, ◌∙◌}
use Rattle.std.specs.Option.{option_map}
use Rattle.spec_keys.specs.Keys.{joined}
use Rattle.spec_keys.specs.Stages.{network_stage}
use Rattle.spec_tables.specs.Rules.{Rule}
use Rattle.spec_xlate.specs.Lookup as xlate
use Rattle.spec_xlate.specs.Lookup.{added, when, stage_test, tracked_fields}
use Rattle.ovs_fields.specs.Packed.{numbers, bits}
use Rattle.masked_map.specs.Compact.{list_of}
use Rattle.masked_map.specs.Unions.{union_of}
use Rattle.staged_lookup.specs.Subtables as lookup
use Rattle.staged_lookup.specs.Subtables.{IsProbe, IsEarly}
use Rattle.staged_lookup.proofs.ProbeLaws.{ended_none}
use Rattle.tuple_classifier.specs.Parts.{of_mask}
use Rattle.tuple_classifier.specs.Ranks.{rank_of}
use Rattle.tuple_classifier.proofs.ConsultLaws.{beside, ended_early, passed_early, passed_any, has_passed, of_these}
use Rattle.tuple_classifier.proofs.MatchLaws.{no_winner}
use Rattle.tuple_classifier.proofs.lookup.probe.Goals as goal

pub returns-in-Some-clause-best : goal.returns-in-Some-clause-best
returns-in-Some-clause-best c rs is of known =
    let key = numbers c.args.key.now.key.now in
    let x = c.args.subtable.now in
    let mask = bits x.staged.mask in
    let own = of_mask mask rs in
    let ended = subst (λ o. IfSome o (λ p. (qs : List Rule) → lookup.IsSubtableOf x.staged qs → IsProbe p mask key qs)) c.in-Some.ensures.ended c.probe_early-early.ensures.some own is.staged in
    sym (ap (option_map rank_of) (ended_none mask key own is.staged.of_mask c.in-Some.stage ended))

pub returns-in-Some-clause-consulted : goal.returns-in-Some-clause-consulted
returns-in-Some-clause-consulted c rs is of known =
    let key = numbers c.args.key.now.key.now in
    let x = c.args.subtable.now in
    let mask = bits x.staged.mask in
    let own = of_mask mask rs in
    let ended = subst (λ o. IfSome o (λ p. (qs : List Rule) → lookup.IsSubtableOf x.staged qs → IsProbe p mask key qs)) c.in-Some.ensures.ended c.probe_early-early.ensures.some own is.staged in
    let early : c.in-Some.stage < network_stage = subst (λ o. IfSome o IsEarly) c.in-Some.ensures.ended c.probe_early-early.ensures.early in
    c.add_part_to.ensures own is.staged ∙ sym (ended_early rs key mask c.in-Some.stage (union_of c.args.consulted.now) early ended)

pub returns-then-not-test-clause-best : goal.returns-then-not-test-clause-best
returns-then-not-test-clause-best c rs is of known =
    let key = numbers c.args.key.now.key.now in
    let mask = bits c.args.subtable.now.staged.mask in
    sym (ap (option_map rank_of) (no_winner key mask rs (c.test.ensures.unmatched rs mask of known is.indexed.prefixed c.if-not-test.true)))

pub returns-then-not-test-clause-consulted : goal.returns-then-not-test-clause-consulted
returns-then-not-test-clause-consulted c rs is of known =
    let key = numbers c.args.key.now.key.now in
    let x = c.args.subtable.now in
    let mask = bits x.staged.mask in
    let own = of_mask mask rs in
    let passed = has_passed c.probe_early-early.result mask key own (c.in_default.ensures.goes_on refl)
    (of_these c.probe_early-early.result (λ qs. lookup.IsSubtableOf x.staged qs) (λ p qs. IsProbe p mask key qs) own c.probe_early-early.ensures.some is.staged)
    (λ none. c.probe_early-early.ensures.none none own is.staged) in
    let last = stage_test rs key mask network_stage (mask ∷ []) in
    let to_tests : added (union_of c.args.consulted.now) (xlate.probe rs key mask) ≡ added (union_of c.add_part_to-2.new.union) (xlate.prefix_tests rs key mask tracked_fields last) =
    passed_early rs key mask (union_of c.args.consulted.now) (passed_any rs key mask is.staged.of_mask c.probe_early-early.result passed)
    ∙ ap (λ z. added z (xlate.prefix_tests rs key mask tracked_fields last)) (sym (c.add_part_to-2.ensures own is.staged)) in
    let u = c.add_part_to-2.new.union in
    let compact = list_of u.compact.fields in
    let rest = bits c.test.new.consulted in
    let to_last = to_tests ∙ beside (bits u.rest) rest compact (xlate.prefix_tests rs key mask tracked_fields last) (when c.test.result last) (c.test.ensures.consulted rs mask of known is.indexed.prefixed last) in
    sym (to_last ∙ ap (λ t. added (joined rest compact) (when t last)) c.if-not-test.true)

pub returns-clause-best : goal.returns-clause-best
returns-clause-best c rs is of known =
    let key = numbers c.args.key.now.key.now in
    let x = c.args.subtable.now in
    let mask = bits x.staged.mask in
    let own = of_mask mask rs in
    let passed = has_passed c.probe_early-early.result mask key own (c.in_default.ensures.goes_on refl)
    (of_these c.probe_early-early.result (λ qs. lookup.IsSubtableOf x.staged qs) (λ p qs. IsProbe p mask key qs) own c.probe_early-early.ensures.some is.staged)
    (λ none. c.probe_early-early.ensures.none none own is.staged) in
    c.finish.ensures.best own is.staged passed

pub returns-clause-consulted : goal.returns-clause-consulted
returns-clause-consulted c rs is of known =
    let key = numbers c.args.key.now.key.now in
    let x = c.args.subtable.now in
    let mask = bits x.staged.mask in
    let own = of_mask mask rs in
    let passed = has_passed c.probe_early-early.result mask key own (c.in_default.ensures.goes_on refl)
    (of_these c.probe_early-early.result (λ qs. lookup.IsSubtableOf x.staged qs) (λ p qs. IsProbe p mask key qs) own c.probe_early-early.ensures.some is.staged)
    (λ none. c.probe_early-early.ensures.none none own is.staged) in
    let last = stage_test rs key mask network_stage (mask ∷ []) in
    let to_tests : added (union_of c.args.consulted.now) (xlate.probe rs key mask) ≡ added (union_of c.add_part_to-2.new.union) (xlate.prefix_tests rs key mask tracked_fields last) =
    passed_early rs key mask (union_of c.args.consulted.now) (passed_any rs key mask is.staged.of_mask c.probe_early-early.result passed)
    ∙ ap (λ z. added z (xlate.prefix_tests rs key mask tracked_fields last)) (sym (c.add_part_to-2.ensures own is.staged)) in
    let u = c.add_part_to-2.new.union in
    let compact = list_of u.compact.fields in
    let rest = bits c.test.new.consulted in
    let to_last = to_tests ∙ beside (bits u.rest) rest compact (xlate.prefix_tests rs key mask tracked_fields last) (when c.test.result last) (c.test.ensures.consulted rs mask of known is.indexed.prefixed last) in
    c.finish.ensures.consulted rs is.staged passed
    ∙ sym (to_last ∙ ap (λ t. added (joined rest compact) (when t last)) c.if-not-test.false)
