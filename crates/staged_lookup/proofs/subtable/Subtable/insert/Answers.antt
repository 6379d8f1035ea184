use Rattle.std.proofs.Common.{◌≡◌, ℕ, ◌+◌, ◌<◌, ◌^◌, List, ◌++◌, ◌∷◌, [], length, length-append, sym, ap, ap₂, ◌∙◌, subst, arith}
use Rattle.std.specs.Prelude.{if◌then◌else◌}
use Rattle.spec_keys.specs.Keys.{masked, same}
use Rattle.ovs_fields.specs.Equality.{equal_from_same}
use Rattle.ovs_fields.specs.Packed.{numbers, bits}
use Rattle.masked_map.specs.Maps.{mask_of}
use Rattle.staged_lookup.specs.declared.rank.Rank.{Rank}
use Rattle.spec_tables.specs.Rules.{Rule}
use Rattle.staged_lookup.specs.Numbered.{AreDistinct, HasNoNumber}
use Rattle.table_laws.specs.Members.{Among}
use Rattle.staged_lookup.proofs.OtherRules.{few_below, lacks_too}
use Rattle.staged_lookup.proofs.StageLaws.{stage_few}
use Rattle.staged_lookup.proofs.RankLaws.{narrow_more, of_mask_more, ranks_more, rank_is}
use Rattle.staged_lookup.proofs.Removed.{distinct_more}
use Rattle.staged_lookup.proofs.Results.{on_err_always}
use Rattle.staged_lookup.proofs.subtable.Subtable.insert.Goals as goal

-- they are no more than there are numbers, so none is counted too often
few : (rs : List Rule) → AreDistinct rs → ((r : Rule) → Among r rs → r.number < 2 ^ 32) → length rs < 2 ^ 63
few rs distinct narrow = let f = few_below (2 ^ 32) rs distinct narrow in omega (arith, f)

pub add-requires-clause-few : goal.add-requires-clause-few
add-requires-clause-few c =
    let rs = c.requires.new.0 in
    let is = c.requires.new.1 in
    stage_few c.reserve.new.self _ _ _ rs (c.reserve.ensures.same _ _ _ rs is.metadata) (few rs is.distinct is.narrow)

pub add-requires-2-clause-few : goal.add-requires-2-clause-few
add-requires-2-clause-few c =
    let rs = c.requires.new.0 in
    let is = c.requires.new.1 in
    stage_few c.reserve-2.new.self _ _ _ rs (c.reserve-2.ensures.same _ _ _ rs is.ethernet) (few rs is.distinct is.narrow)

pub add-requires-3-clause-few : goal.add-requires-3-clause-few
add-requires-3-clause-few c =
    let rs = c.requires.new.0 in
    let is = c.requires.new.1 in
    stage_few c.reserve-3.new.self _ _ _ rs (c.reserve-3.ensures.same _ _ _ rs is.network) (few rs is.distinct is.narrow)

pub overflow_add-self : goal.overflow_add-self
overflow_add-self c =
    let is = c.requires.new.1 in
    let count = is.count in
    let bound = few c.requires.new.0 is.distinct is.narrow in
    omega (arith, count, bound)

pub returns-in_err-reserve-clause-err : goal.returns-in_err-reserve-clause-err
returns-in_err-reserve-clause-err c = on_err_always c.from_residual.result _ (λ rs is.
    let mask = bits c.args.self.now.mask in
    record {
      of_mask = is.of_mask;
      masks = is.masks;
      distinct = is.distinct;
      narrow = is.narrow;
      ranked = is.ranked;
      metadata = c.reserve.ensures.same _ _ mask rs is.metadata;
      ethernet = is.ethernet;
      network = is.network;
      count = is.count;
    })

pub returns-in_err-reserve-2-clause-err : goal.returns-in_err-reserve-2-clause-err
returns-in_err-reserve-2-clause-err c = on_err_always c.from_residual-in_err-reserve-2.result _ (λ rs is.
    let mask = bits c.args.self.now.mask in
    record {
      of_mask = is.of_mask;
      masks = is.masks;
      distinct = is.distinct;
      narrow = is.narrow;
      ranked = is.ranked;
      metadata = c.reserve.ensures.same _ _ mask rs is.metadata;
      ethernet = c.reserve-2.ensures.same _ _ mask rs is.ethernet;
      network = is.network;
      count = is.count;
    })

pub returns-in_err-reserve-3-clause-err : goal.returns-in_err-reserve-3-clause-err
returns-in_err-reserve-3-clause-err c = on_err_always c.from_residual-in_err-reserve-3.result _ (λ rs is.
    let mask = bits c.args.self.now.mask in
    record {
      of_mask = is.of_mask;
      masks = is.masks;
      distinct = is.distinct;
      narrow = is.narrow;
      ranked = is.ranked;
      metadata = c.reserve.ensures.same _ _ mask rs is.metadata;
      ethernet = c.reserve-2.ensures.same _ _ mask rs is.ethernet;
      network = c.reserve-3.ensures.same _ _ mask rs is.network;
      count = is.count;
    })

pub returns-in_err-add_rank-clause-err : goal.returns-in_err-add_rank-clause-err
returns-in_err-add_rank-clause-err c = on_err_always c.from_residual-in_err-add_rank.result _ (λ rs is.
    let mask = bits c.args.self.now.mask in
    record {
      of_mask = is.of_mask;
      masks = c.add_rank.ensures.mask ∙ is.masks;
      distinct = is.distinct;
      narrow = is.narrow;
      ranked = λ q. c.in_err-add_rank.ensures.err q ∙ is.ranked q;
      metadata = c.reserve.ensures.same _ _ mask rs is.metadata;
      ethernet = c.reserve-2.ensures.same _ _ mask rs is.ethernet;
      network = c.reserve-3.ensures.same _ _ mask rs is.network;
      count = is.count;
    })

pub returns-clause-ok : goal.returns-clause-ok
returns-clause-ok c rs r is of_number of_priority of_match =
    let mask = bits c.args.self.now.mask in
    let matching = c.args.matching.now in
    let rank : Rank = record { priority = c.args.priority; number = c.args.number } in
    let same_mask : bits matching.mask ≡ mask = equal_from_same _ _ c.requires.mask in
    let of_key : r.matching.key ≡ numbers matching.key = ap (λ m. m.key) of_match in
    let masked_key : masked (numbers matching.key) (mask_of c.args.self.now.buckets) ≡ numbers matching.key = ap (masked (numbers matching.key)) (is.masks ∙ sym same_mask) ∙ matching.normalised in
    let fresh = lacks_too c.requires.new.0 rs c.args.number (λ q. sym (c.requires.new.1.ranked q) ∙ is.ranked q) c.requires.new.2 in
    record {
      of_mask = of_mask_more mask rs r is.of_mask (record {
        mask_is = ap (λ m. m.mask) of_match ∙ same_mask;
        normalised = ap₂ masked of_key (sym same_mask) ∙ matching.normalised ∙ sym of_key;
        fields = ap length of_key ∙ matching.key.is_key.fields;
      });
      masks = c.add_rank.ensures.mask ∙ is.masks;
      distinct = distinct_more rs r is.distinct (subst (λ n. HasNoNumber n rs) (sym of_number) fresh);
      narrow = narrow_more rs r is.narrow (subst (λ n. n < 2 ^ 32) (sym of_number) (omega (arith, c.ranges.number.fits)));
      ranked = λ q.
          c.in_ok-add_rank.ensures.ok q ∙ ap₂ (λ ranks (key : List ℕ). ranks ++ (if same q key then rank ∷ [] else [])) (is.ranked q) masked_key
          ∙ ranks_more q (numbers matching.key) rank rs r of_key (rank_is r c.args.priority c.args.number of_priority of_number);
      metadata = c.add.ensures _ _ mask rs r (c.reserve.ensures.same _ _ mask rs is.metadata) of_key;
      ethernet = c.add-2.ensures _ _ mask rs r (c.reserve-2.ensures.same _ _ mask rs is.ethernet) of_key;
      network = c.add-3.ensures _ _ mask rs r (c.reserve-3.ensures.same _ _ mask rs is.network) of_key;
      count = ap (λ n. n + 1) is.count ∙ sym (length-append rs (r ∷ []));
    }
