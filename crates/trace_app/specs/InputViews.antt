-- What is traced, as the definitions see it.
use Rattle.ovs_fields.specs.Packed.{numbers}
use Rattle.pipe_model.specs.Runnable.{AreRunnable}
use Rattle.dump_lines.specs.Live.{IsOfEdits, live_in}
use Rattle.spec_tools.specs.TraceVerdict as verdicts
use Rattle.trace_app.specs.declared.inputs.Inputs.{Inputs}

abbrev pub accepted_view : Inputs → verdicts.Accepted
accepted_view i = record { rules = live_in i.rules; ports = i.ports.items; key = numbers i.key }

-- Some edits of sound actions made the rules, and those of the last version can be run.
pub record IsTraceable (i : Inputs) : Type 0 where
  pub of_edits : IsOfEdits i.rules
  pub runnable : AreRunnable (live_in i.rules)
