use Rattle.std.proofs.Common.{◌≡◌, ap, subst, ◌∙◌}
use Rattle.std.specs.Option.{option_map}
use Rattle.spec_tables.specs.Rules.{Rule, winner}
use Rattle.spec_xlate.specs.Lookup.{added, consults}
use Rattle.ovs_fields.specs.declared.key.Key.{Key}
use Rattle.ovs_fields.specs.Packed.{numbers}
use Rattle.masked_map.specs.Unions.{union_of}
use Rattle.tuple_classifier.proofs.KeptLaws.{ranked_of}
use Rattle.tuple_classifier.proofs.table.Table.look.Goals as goal

pub returns-clause-winner : goal.returns-clause-winner
returns-clause-winner c rs are distinct =
    subst (λ (k : Key). c.look-winner.result ≡ option_map (λ (r : Rule). r.number) (winner rs (numbers k))) c.new.ensures
    (c.look-winner.ensures.winner rs (ranked_of c.args.self.now.subtables rs are.kept) are.prefixed distinct)

pub returns-clause-consulted : goal.returns-clause-consulted
returns-clause-consulted c rs are distinct =
    c.mask.ensures
    ∙ subst (λ (k : Key). union_of c.look-winner.new.consulted ≡ added (union_of c.of-union.result) (consults rs (numbers k))) c.new.ensures
    (c.look-winner.ensures.consulted rs (ranked_of c.args.self.now.subtables rs are.kept) are.prefixed distinct)
    ∙ ap (λ m. added m (consults rs (numbers c.args.key.now))) c.of-union.ensures
