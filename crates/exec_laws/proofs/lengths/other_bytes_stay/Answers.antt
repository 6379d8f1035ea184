use Rattle.exec_laws.proofs.EachField.{any-untouched}
use Rattle.exec_laws.proofs.lengths.other_bytes_stay.Goals as goal

pub returns : goal.returns
returns c f value mask frame i elsewhere = any-untouched f value mask frame i elsewhere.no_place elsewhere.no_sum
