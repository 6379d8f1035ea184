use Rattle.output_laws.proofs.rule_text.FromFiles.{script_read}
use Rattle.output_laws.proofs.rule_text.lines.edits_of_files_were_read.Goals as goal

pub returns : goal.returns
returns c = script_read
