-- With which status a call ends, by the verdict alone.
use Rattle.std.specs.Prelude.{◌≡◌, ℕ, ◌⊎◌}
use Rattle.spec_base.specs.Counts.{Rose}
use Rattle.spec_tools.specs.TraceVerdict.{Refusal}
use Rattle.spec_run.specs.Statuses.{done_status, read_fault_status, out_of_memory_status}
use Rattle.spec_tools.specs.TraceStatuses.{status_of}
use Rattle.edge_io.specs.declared.outside.Shelf as shelf
use Rattle.edge_io.specs.declared.outside.Sink as sink

-- What is refused ends with the status of its refusal, unless reading fails or memory runs out before.
abbrev pub IsStatusOfRefused : Refusal → ℕ → Type 0
IsStatusOfRefused r status = (status ≡ status_of r) ⊎ ((status ≡ read_fault_status) ⊎ (status ≡ out_of_memory_status))

-- What is accepted is traced, unless a call of the outside failed, which a count tells, or memory ran out.
abbrev pub EndsAccepted : {S K : Type 0} → shelf.Ghosts S → sink.Ghosts K → S → S → K → K → ℕ → Type 0
EndsAccepted g h old new said saying status =
    ¬ Rose (g.counts old).reading (g.counts new).reading → ¬ Rose (h.faults said) (h.faults saying) → (status ≡ done_status) ⊎ (status ≡ out_of_memory_status)
