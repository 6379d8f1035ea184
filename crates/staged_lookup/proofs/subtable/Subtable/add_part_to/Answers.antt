use Rattle.std.proofs.Common.{◌≡◌, ℕ, false, nat_le, sym, ap, ◌∙◌, arith}
use Rattle.std.proofs.lemmas.Bool.{cond-false}
use Rattle.std.proofs.lemmas.Bool.Decides.{nat_tests}
use Rattle.spec_keys.specs.Keys.{joined}
use Rattle.spec_keys.specs.Stages.{staged, network_stage}
use Rattle.ovs_fields.specs.Packed.{bits}
use Rattle.masked_map.specs.Unions.{union_of}
use Rattle.staged_lookup.specs.Subtables.{part_through}
use Rattle.staged_lookup.proofs.subtable.Subtable.add_part_to.Goals as goal

pub returns-in-0 : goal.returns-in-0
returns-in-0 c rs is = c.add_part_to.ensures _ _ _ rs is.metadata ∙ ap (λ (s : ℕ). joined (union_of c.args.union.now) (part_through s (bits c.args.self.now.mask))) (sym c.in-0.is)

pub returns-in-1 : goal.returns-in-1
returns-in-1 c rs is = c.add_part_to-in-1.ensures _ _ _ rs is.ethernet ∙ ap (λ (s : ℕ). joined (union_of c.args.union.now) (part_through s (bits c.args.self.now.mask))) (sym c.in-1.is)

pub returns-in-2 : goal.returns-in-2
returns-in-2 c rs is = c.add_part_to-in-2.ensures _ _ _ rs is.network ∙ ap (λ (s : ℕ). joined (union_of c.args.union.now) (part_through s (bits c.args.self.now.mask))) (sym c.in-2.is)

pub returns-in_default : goal.returns-in_default
returns-in_default c rs is =
    let late : nat_le c.args.stage network_stage ≡ false = grind (arith, nat_tests) in
    c.add_mask_to.ensures rs is
    ∙ ap (joined (union_of c.args.union.now)) (sym (cond-false (nat_le c.args.stage network_stage) (staged c.args.stage (bits c.args.self.now.mask)) (bits c.args.self.now.mask) late))
