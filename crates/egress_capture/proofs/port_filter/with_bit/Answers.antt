use Rattle.egress_capture.proofs.Filters.{with_output}
use Rattle.egress_capture.proofs.port_filter.with_bit.Goals as goal

pub returns-in-Output : goal.returns-in-Output
returns-in-Output c = λ port absent.
    let both = with_output c.args.bits c.in-Output.port port (rw c.mask_of.ensures at absent) in
    rw c.in-Output.is both
