use Rattle.std.proofs.Common.{◌≡◌, false, inl, inr, arith}
use Rattle.std.proofs.lemmas.Bool.{cases_lt}
use Rattle.std.proofs.lemmas.List.{get_or_default}
use Rattle.egress_capture.proofs.Passed.{in_neither}
use Rattle.egress_capture.proofs.port_filter.joined_bits.Goals as goal

pub filters-preserved : goal.filters-preserved
filters-preserved c = λ n absent k f lt.
    let filters = c.args.filters.now in
    let at = c.filters.filter-index in
    let parts = in_neither _ _ n absent in
    elim (cases_lt k at) [
      | inl before ↦ c.filters.invariant n parts.0 k f before
      | inr after ↦
          let same : k ≡ at = omega (arith, lt, after) in
          rw (same, get_or_default filters at f (record { bits = 0; port = 0; single = false }) c.filters-test.true) parts.1
    ]
