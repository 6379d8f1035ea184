-- The quantities that have a limit: their names and their greatest numbers (this profile).
use Rattle.std.specs.Prelude.{ℕ, List, codes}
use Rattle.spec_flow_text.specs.Actions.{most_actions}
use Rattle.spec_input.specs.Lines.{most_line_bytes}
use Rattle.spec_input.specs.Script.{most_edits, most_syncs}
use Rattle.spec_input.specs.Steps.{most_steps}
use Rattle.spec_input.specs.Mirrors.{most_mirrors_bytes, most_mirrors}
use Rattle.spec_run.specs.declared.quantity.Quantity.{Quantity}
use Rattle.spec_run.specs.declared.quantity.Quantity.TheVariants.{EditsBytes, StepsBytes, MirrorsBytes, Line, Edits, Syncs, Actions, Steps, Mirrors, Changes, TraceBytes, Frames}

-- 32 MiB
abbrev pub most_edits_bytes : ℕ
most_edits_bytes = 33554432

-- 4 MiB
abbrev pub most_steps_bytes : ℕ
most_steps_bytes = 4194304

abbrev pub most_changes : ℕ
most_changes = 1048576

-- 256 MiB
abbrev pub most_trace_bytes : ℕ
most_trace_bytes = 268435456

abbrev pub most_frames : ℕ
most_frames = 131072

abbrev pub limit_of : Quantity → ℕ
limit_of EditsBytes = most_edits_bytes
limit_of StepsBytes = most_steps_bytes
limit_of MirrorsBytes = most_mirrors_bytes
limit_of Line = most_line_bytes
limit_of Edits = most_edits
limit_of Syncs = most_syncs
limit_of Actions = most_actions
limit_of Steps = most_steps
limit_of Mirrors = most_mirrors
limit_of Changes = most_changes
limit_of TraceBytes = most_trace_bytes
limit_of Frames = most_frames

abbrev pub quantity_name : Quantity → List ℕ
quantity_name EditsBytes = codes "edits-bytes"
quantity_name StepsBytes = codes "steps-bytes"
quantity_name MirrorsBytes = codes "mirrors-bytes"
quantity_name Line = codes "line"
quantity_name Edits = codes "edits"
quantity_name Syncs = codes "syncs"
quantity_name Actions = codes "actions"
quantity_name Steps = codes "steps"
quantity_name Mirrors = codes "mirrors"
quantity_name Changes = codes "changes"
quantity_name TraceBytes = codes "trace-bytes"
quantity_name Frames = codes "frames"
