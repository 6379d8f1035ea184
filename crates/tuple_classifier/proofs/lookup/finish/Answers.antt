use Rattle.std.proofs.Common.{sym, subst, ◌∙◌}
use Rattle.ovs_fields.specs.Packed.{numbers, bits}
use Rattle.masked_map.specs.Unions.{union_of}
use Rattle.staged_lookup.proofs.ProbeLaws.{found_is}
use Rattle.tuple_classifier.specs.Passes.{HasPassed}
use Rattle.tuple_classifier.specs.Parts.{of_mask}
use Rattle.tuple_classifier.proofs.ConsultLaws.{finished, passed_any, probe_of}
use Rattle.tuple_classifier.proofs.lookup.finish.Goals as goal

pub returns-in-Some-clause-consulted : goal.returns-in-Some-clause-consulted
returns-in-Some-clause-consulted c rs is passed =
    let mask = bits c.args.staged.now.mask in
    let key = numbers c.args.key.now.key.now in
    let own = of_mask mask rs in
    c.told.ensures.consulted own is
    ∙ sym (finished rs key mask is.of_mask c.in-Some.probe (union_of c.args.consulted.now) (probe_of c.in-Some.probe mask key own (subst (λ o. HasPassed o mask key own) c.in-Some.is passed)) (passed_any rs key mask is.of_mask c.args.early passed))

pub returns-in-None-clause-best : goal.returns-in-None-clause-best
returns-in-None-clause-best c own is passed =
    let mask = bits c.args.staged.now.mask in
    let key = numbers c.args.key.now.key.now in
    c.told-in-None.ensures.found ∙ found_is mask key own is.of_mask c.probe_late.result (c.probe_late.ensures own is (subst (λ o. HasPassed o mask key own) c.in-None.is passed))

pub returns-in-None-clause-consulted : goal.returns-in-None-clause-consulted
returns-in-None-clause-consulted c rs is passed =
    let mask = bits c.args.staged.now.mask in
    let key = numbers c.args.key.now.key.now in
    let own = of_mask mask rs in
    let passes = subst (λ o. HasPassed o mask key own) c.in-None.is passed in
    c.told-in-None.ensures.consulted own is ∙ sym (finished rs key mask is.of_mask c.probe_late.result (union_of c.args.consulted.now) (c.probe_late.ensures own is passes) passes)
