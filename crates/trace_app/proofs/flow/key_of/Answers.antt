use Rattle.spec_tools.specs.TraceVerdict.{key_of}
use Rattle.trace_app.proofs.flow.key_of.Goals as goal

pub returns : goal.returns
unfolding key_of
returns c = c.clear.ensures
