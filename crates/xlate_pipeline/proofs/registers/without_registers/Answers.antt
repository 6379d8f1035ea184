use Rattle.std.proofs.Common.{◌∙◌}
use Rattle.xlate_pipeline.proofs.PacketPart.{with_part-without}
use Rattle.xlate_pipeline.proofs.registers.without_registers.Goals as goal

pub returns : goal.returns
returns c = c.part_of.ensures ∙ with_part-without c.args.mask.now.fields
