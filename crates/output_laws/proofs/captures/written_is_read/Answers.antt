use Rattle.output_laws.proofs.captures.RoundTripLaws.{written_is_read}
use Rattle.output_laws.proofs.captures.written_is_read.Goals as goal

pub returns : goal.returns
returns c = written_is_read
