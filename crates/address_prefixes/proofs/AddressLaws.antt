-- The prefixes of the addresses, as rules come and go.
use Rattle.std.proofs.Common.{◌≡◌, List, map, sym, ap, subst, ◌∙◌}
use Rattle.spec_keys.specs.declared.field_id.FieldId.TheVariants.{NwSrc, NwDst, Ipv6Src, Ipv6Dst}
use Rattle.spec_keys.specs.Keys.{masked}
use Rattle.spec_tables.specs.Rules.{Rule}
use Rattle.table_laws.specs.Members.{Among}
use Rattle.ovs_fields.specs.Packed.{numbers, bits}
use Rattle.rule_tables.specs.declared.matching.Match.{Match}
use Rattle.rule_tables.specs.Views.{match_view}
use Rattle.address_prefixes.specs.declared.address_prefixes.AddressPrefixes.{AddressPrefixes}
use Rattle.address_prefixes.specs.declared.address_prefixes.MaskPrefixes.{MaskPrefixes}
use Rattle.address_prefixes.specs.Addresses.{AreOfMask, AreOf}
use Rattle.address_prefixes.specs.Pairs.{PairTries, ArePrefixesOf, AreTriesOf, HaveOnceMore, AreThere}
use Rattle.address_prefixes.specs.RuleLists.{HasOneMore}
use Rattle.address_prefixes.proofs.PairLaws.{pair_more, pair_less, pair_has, pair_same}

-- a rule with a match, and the prefixes of the match's mask
module _ (m : Match) (p : MaskPrefixes) (of : AreOfMask p (bits m.mask)) (r : Rule) (is : r.matching ≡ match_view m) where
  normalised : masked r.matching.key r.matching.mask ≡ r.matching.key
  normalised = ap (λ n. masked n.key n.mask) is ∙ m.normalised ∙ sym (ap (λ n. n.key) is)

  ipv4 : ArePrefixesOf p.ipv4 NwSrc NwDst r.matching.mask
  ipv4 = subst (ArePrefixesOf p.ipv4 NwSrc NwDst) (sym (ap (λ n. n.mask) is)) of.ipv4

  ipv6 : ArePrefixesOf p.ipv6 Ipv6Src Ipv6Dst r.matching.mask
  ipv6 = subst (ArePrefixesOf p.ipv6 Ipv6Src Ipv6Dst) (sym (ap (λ n. n.mask) is)) of.ipv6

  pub ipv4_more : (old new : PairTries) (rs all : List Rule) → AreTriesOf old NwSrc NwDst rs → HaveOnceMore p.ipv4 (numbers m.key) old new → HasOneMore r rs all → AreTriesOf new NwSrc NwDst all
  ipv4_more = pair_more NwSrc NwDst r (numbers m.key) p.ipv4 ipv4 normalised (ap (λ n. n.key) is)

  pub ipv6_more : (old new : PairTries) (rs all : List Rule) → AreTriesOf old Ipv6Src Ipv6Dst rs → HaveOnceMore p.ipv6 (numbers m.key) old new → HasOneMore r rs all → AreTriesOf new Ipv6Src Ipv6Dst all
  ipv6_more = pair_more Ipv6Src Ipv6Dst r (numbers m.key) p.ipv6 ipv6 normalised (ap (λ n. n.key) is)

  pub ipv4_less : (old new : PairTries) (rs left : List Rule) → AreTriesOf old NwSrc NwDst rs → HaveOnceMore p.ipv4 (numbers m.key) new old → HasOneMore r left rs → AreTriesOf new NwSrc NwDst left
  ipv4_less = pair_less NwSrc NwDst r (numbers m.key) p.ipv4 ipv4 normalised (ap (λ n. n.key) is)

  pub ipv6_less : (old new : PairTries) (rs left : List Rule) → AreTriesOf old Ipv6Src Ipv6Dst rs → HaveOnceMore p.ipv6 (numbers m.key) new old → HasOneMore r left rs → AreTriesOf new Ipv6Src Ipv6Dst left
  ipv6_less = pair_less Ipv6Src Ipv6Dst r (numbers m.key) p.ipv6 ipv6 normalised (ap (λ n. n.key) is)

  pub ipv4_has : (t : PairTries) (rs : List Rule) → AreTriesOf t NwSrc NwDst rs → Among r rs → AreThere p.ipv4 (numbers m.key) t
  ipv4_has = pair_has NwSrc NwDst r (numbers m.key) p.ipv4 ipv4 normalised (ap (λ n. n.key) is)

  pub ipv6_has : (t : PairTries) (rs : List Rule) → AreTriesOf t Ipv6Src Ipv6Dst rs → Among r rs → AreThere p.ipv6 (numbers m.key) t
  ipv6_has = pair_has Ipv6Src Ipv6Dst r (numbers m.key) p.ipv6 ipv6 normalised (ap (λ n. n.key) is)

-- rules of the same matches state the same prefixes
pub are_same : {X : Type 0} (g h : X → Rule) → ((x : X) → (g x).matching ≡ (h x).matching) → (a : AddressPrefixes) (xs : List X) → AreOf a (map g xs) → AreOf a (map h xs)
are_same g h same a xs is = record { ipv4 = pair_same g h same a.ipv4 NwSrc NwDst xs is.ipv4; ipv6 = pair_same g h same a.ipv6 Ipv6Src Ipv6Dst xs is.ipv6 }
