use Rattle.frame_laws.proofs.PaddingLaws.{key_of-padded, layout_of-padded}
use Rattle.frame_laws.proofs.padding.bytes_after_the_packet_do_not_count.Goals as goal

pub returns-clause-key : goal.returns-clause-key
returns-clause-key c port frame padding some whole = key_of-padded frame padding some whole port

pub returns-clause-layout : goal.returns-clause-layout
returns-clause-layout c = layout_of-padded
