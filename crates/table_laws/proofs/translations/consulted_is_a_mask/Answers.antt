use Rattle.table_laws.proofs.MaskLaws.{has_in_port, has_dl_type, has_no_registers, is_within}
use Rattle.table_laws.proofs.translations.consulted_is_a_mask.Goals as goal

pub returns-clause-in_port : goal.returns-clause-in_port
returns-clause-in_port c = has_in_port

pub returns-clause-dl_type : goal.returns-clause-dl_type
returns-clause-dl_type c = has_dl_type

pub returns-clause-no_registers : goal.returns-clause-no_registers
returns-clause-no_registers c = has_no_registers

pub returns-clause-within : goal.returns-clause-within
returns-clause-within c = is_within
