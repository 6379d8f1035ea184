use Rattle.std.proofs.Common.{◌≡◌, ◌≤◌, ◌+◌, ◌-◌, length, false, inl, inr, arith}
use Rattle.std.proofs.lemmas.Bool.{cases_lt}
use Rattle.std.proofs.lemmas.List.{get_or_default}
use Rattle.egress_capture.proofs.Passed.{absent_in, piece-at, piece-within}
use Rattle.egress_capture.specs.Filters.{bit_of}
use Rattle.egress_capture.proofs.port_filter.next_with_bit.Goals as goal

pub several-preserved : goal.several-preserved
several-preserved c = record {
  from = omega arith;
  within = omega arith;
  passed = λ k f from lt.
      let filters = c.args.filters.now in
      let at = c.several.at in
      let none = absent_in _ _ _ c.mask_of-mask.ensures c.if-joined_bits-mask-eq0.true in
      let full : at + 8 ≤ length filters = omega arith in
      elim (cases_lt k at) [
        | inl before ↦ c.several.invariant.passed k f from before
        | inr after ↦
            rw (← piece-at filters at 8 k f full after lt)
            (c.joined_bits.ensures (bit_of c.args.port) none (k - at) f (piece-within filters at 8 k f full after lt))
      ];
}

pub each-preserved : goal.each-preserved
each-preserved c = record {
  from = omega arith;
  within = omega arith;
  passed = λ k f from lt.
      let filters = c.args.filters.now in
      let at = c.each.at in
      elim (cases_lt k at) [
        | inl before ↦ c.each.invariant.passed k f from before
        | inr after ↦
            let same : k ≡ at = omega (arith, lt, after) in
            rw (same, get_or_default filters at f (record { bits = 0; port = 0; single = false }) c.each-test.true)
            (absent_in _ _ _ c.mask_of-mask.ensures c.if-filters-at-eq0.true)
      ];
}
