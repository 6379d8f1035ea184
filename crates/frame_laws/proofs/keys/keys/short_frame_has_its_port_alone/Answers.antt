use Rattle.frame_laws.proofs.keys.Forms.{short-key, short-layout}
use Rattle.frame_laws.proofs.keys.keys.short_frame_has_its_port_alone.Goals as goal

pub returns-clause-key : goal.returns-clause-key
returns-clause-key c = short-key

pub returns-clause-layout : goal.returns-clause-layout
returns-clause-layout c = short-layout
