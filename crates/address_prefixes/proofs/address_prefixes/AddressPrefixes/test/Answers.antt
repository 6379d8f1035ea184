use Rattle.std.proofs.Common.{◌∷◌, [], sym, ◌∙◌}
use Rattle.std.proofs.lemmas.Bool.{false≢true}
use Rattle.spec_keys.specs.declared.field_id.FieldId.TheVariants.{Ipv6Src, Ipv6Dst}
use Rattle.spec_xlate.specs.Lookup.{prefix_tests}
use Rattle.ovs_fields.specs.Packed.{numbers}
use Rattle.address_prefixes.proofs.address_prefixes.AddressPrefixes.test.Goals as goal

pub returns-clause-known : goal.returns-clause-known
returns-clause-known c rs are known = record {
  ipv4 = c.test_pair-ipv4.ensures.known rs are.ipv4 known.ipv4;
  ipv6 = c.test_pair.ensures.known rs are.ipv6 known.ipv6;
}

pub returns-clause-consulted : goal.returns-clause-consulted
returns-clause-consulted c rs mask are known of further =
    c.test_pair-ipv4.ensures.consulted rs mask are.ipv4 known.ipv4 of.ipv4 (prefix_tests rs (numbers c.args.key.now) mask (Ipv6Src ∷ Ipv6Dst ∷ []) further)
    ∙ c.test_pair.ensures.consulted rs mask are.ipv6 known.ipv6 of.ipv6 further

pub returns-clause-unmatched : goal.returns-clause-unmatched
returns-clause-unmatched c rs mask are known of ended =
    c.test_pair.ensures.unmatched rs mask are.ipv6 known.ipv6 of.ipv6
    (λ e. c.test_pair-ipv4.ensures.unmatched rs mask are.ipv4 known.ipv4 of.ipv4 (λ f. absurd (false≢true (sym f))) e) ended
