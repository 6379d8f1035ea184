use Rattle.std.proofs.Common.{◌≡◌, if◌then◌else◌, ℕ, List, length, ◌+◌, filter, sym, refl, ap, ap₂, ◌∙◌, subst, arith}
use Rattle.spec_keys.specs.Keys.{none, masked, same}
use Rattle.spec_keys.specs.Stages.{staged, metadata_stage, ethernet_stage, network_stage}
use Rattle.ovs_fields.specs.Packed.{numbers, bits}
use Rattle.masked_map.specs.Maps.{mask_of}
use Rattle.staged_lookup.specs.Numbered.{without}
use Rattle.staged_lookup.specs.Ranks.{rank_of, is_other}
use Rattle.staged_lookup.specs.Stages.{IsStage}
use Rattle.staged_lookup.specs.Subtables.{ranks_with}
use Rattle.staged_lookup.proofs.OtherRules.{has_some, has_too, one_less}
use Rattle.staged_lookup.proofs.RankLaws.{among_without, ranks_less, ranks_some}
use Rattle.staged_lookup.proofs.Removed.{distinct_without}
use Rattle.staged_lookup.proofs.StageLaws.{stage_has}
use Rattle.staged_lookup.proofs.subtable.Subtable.remove.Goals as goal

pub take_rank-requires : goal.take_rank-requires
take_rank-requires c none =
    let is = c.requires.1 in
    let h = c.requires.2 in
    ranks_some h.0 c.requires.0 h.1
    (ap (λ q. ranks_with q c.requires.0) (sym (is.of_mask h.0 h.1).normalised ∙ ap₂ masked h.3 (sym is.masks)) ∙ sym (is.ranked _) ∙ none)

pub take-requires : goal.take-requires
take-requires c =
    let h = c.requires.2 in
    stage_has c.args.self.now.metadata _ _ _ (numbers c.args.key.now) c.requires.0 h.0 c.requires.1.metadata h.1 h.3

pub take-requires-2 : goal.take-requires-2
take-requires-2 c =
    let h = c.requires.2 in
    stage_has c.args.self.now.ethernet _ _ _ (numbers c.args.key.now) c.requires.0 h.0 c.requires.1.ethernet h.1 h.3

pub take-requires-3 : goal.take-requires-3
take-requires-3 c =
    let h = c.requires.2 in
    stage_has c.args.self.now.network _ _ _ (numbers c.args.key.now) c.requires.0 h.0 c.requires.1.network h.1 h.3

pub overflow_sub-self : goal.overflow_sub-self
overflow_sub-self c =
    let is = c.requires.1.count in
    let some = has_some c.requires.2.0 c.requires.0 c.requires.2.1 in
    omega (arith, is, some)

pub returns-clause-removed : goal.returns-clause-removed
returns-clause-removed c rs is =
    let given = c.requires.2 in
    let h = has_too c.requires.0 rs (λ q. sym (c.requires.1.ranked q) ∙ is.ranked q) given.0 given.1 in
    let mask = bits c.args.self.now.mask in
    let key = numbers c.args.key.now in
    let of_number : h.0.number ≡ c.args.number = h.2 ∙ given.2 in
    let of_key : h.0.matching.key ≡ key = h.3 ∙ given.3 in
    let masked_key : masked key (mask_of c.args.self.now.buckets) ≡ key = ap₂ masked (sym of_key) is.masks ∙ (is.of_mask h.0 h.1).normalised ∙ of_key in
    let less = subst (λ (n : ℕ). length (without n rs) + 1 ≡ length rs) of_number (one_less h.0 rs h.1 is.distinct) in
    record {
      of_mask = λ x a. is.of_mask x (among_without c.args.number x rs a);
      masks = c.take_rank.ensures.mask ∙ is.masks;
      distinct = distinct_without c.args.number rs is.distinct;
      narrow = λ x a. is.narrow x (among_without c.args.number x rs a);
      ranked = λ q.
          c.take_rank.ensures.ranks q ∙ ap₂ (λ ranks (l : List ℕ). if same q l then filter (is_other c.args.number) ranks else ranks) (is.ranked q) masked_key
          ∙ subst (λ (n : ℕ). (if same q key then filter (is_other n) (ranks_with q rs) else ranks_with q rs) ≡ ranks_with q (without n rs)) of_number
          (ranks_less q key (rank_of h.0) rs h.0 is.distinct h.1 of_key refl);
      metadata = subst (λ (n : ℕ). IsStage c.take.new.self none (staged metadata_stage mask) mask (without n rs)) of_number (c.take.ensures _ _ mask rs h.0 is.metadata is.distinct h.1 of_key);
      ethernet = subst (λ (n : ℕ). IsStage c.take-2.new.self (staged metadata_stage mask) (staged ethernet_stage mask) mask (without n rs)) of_number (c.take-2.ensures _ _ mask rs h.0 is.ethernet is.distinct h.1 of_key);
      network = subst (λ (n : ℕ). IsStage c.take-3.new.self (staged ethernet_stage mask) (staged network_stage mask) mask (without n rs)) of_number (c.take-3.ensures _ _ mask rs h.0 is.network is.distinct h.1 of_key);
      count = omega (arith, is.count, less);
    }
