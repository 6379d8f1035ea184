use Rattle.std.proofs.Common.{sym, ap, ◌∙◌, le_refl}
use Rattle.spec_xlate.specs.Lookup.{length_up_to}
use Rattle.address_prefixes.proofs.Lengths.{length_of_none}
use Rattle.address_prefixes.proofs.prefix.prefix_length.Goals as goal

pub returns-then-bits-eq0-clause-length : goal.returns-then-bits-eq0-clause-length
returns-then-bits-eq0-clause-length c = sym (ap (λ b. length_up_to c.args.width b c.args.width) c.if-bits-eq0.true ∙ length_of_none c.args.width c.args.width (le_refl c.args.width))
