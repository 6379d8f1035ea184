use Rattle.std.proofs.Common.{◌≡◌, ◌≢◌, arith, sym, ◌∙◌}
use Rattle.spec_base.specs.Bits.{leading_bits}
use Rattle.text_numbers.proofs.Lengths.{found, goes_on, zero_found, none_found}
use Rattle.text_numbers.proofs.printing.ipv4_prefix_length.Goals as goal

pub returns-then-ipv4_prefix-mask : goal.returns-then-ipv4_prefix-mask
returns-then-ipv4_prefix-mask c =
    let here : leading_bits 32 c.lengths.length ≡ c.args.mask = sym c.ipv4_prefix.ensures ∙ c.if-ipv4_prefix-mask.true in
    sym (found 32 c.args.mask c.lengths.length c.lengths-test.true here) ∙ c.lengths.invariant.same

pub lengths-preserved : goal.lengths-preserved
lengths-preserved c =
    let other : leading_bits 32 c.lengths.length ≢ c.args.mask = λ e. c.if-ipv4_prefix-mask.false (c.ipv4_prefix.ensures ∙ e) in
    record {
      within = omega arith;
      same = goes_on 32 c.args.mask c.lengths.length c.lengths-test.true other ∙ c.lengths.invariant.same;
    }

pub returns-then-mask-eq0 : goal.returns-then-mask-eq0
returns-then-mask-eq0 c = sym (zero_found 32 c.args.mask c.lengths.length (omega arith) c.if-mask-eq0.true) ∙ c.lengths.invariant.same

pub returns-else-mask-eq0 : goal.returns-else-mask-eq0
returns-else-mask-eq0 c = sym (none_found 32 c.args.mask c.lengths.length (omega arith) c.if-mask-eq0.false) ∙ c.lengths.invariant.same
