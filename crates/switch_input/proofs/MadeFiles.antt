-- What a number makes is the list of files that its sources name.
use Rattle.std.proofs.Common.{◌≡◌, ℕ, List, [], ◌∷◌, map, refl, ap, ◌∙◌}
use Rattle.std.specs.Fmt.{decimal, digits}
use Rattle.spec_base.specs.Files.{File}
use Rattle.spec_input.specs.Made.{edits_made, traces_made}
use Rattle.spec_run.specs.Verdict.{made_sources, made_list}
use Rattle.trace_gen.specs.declared.made.MadeTrace.{MadeTrace}
use Rattle.trace_gen.specs.Made.{trace_view}
use Rattle.switch_input.specs.MadeViews.{file_by_port}

abbrev named_by_port : ℕ × List ℕ → File
named_by_port trace = (decimal trace.0, trace.1)

by_view : (traces : List MadeTrace) → map file_by_port traces ≡ map named_by_port (map trace_view traces)
by_view [] = refl
by_view (t ∷ traces) = ap (λ files. file_by_port t ∷ files) (by_view traces)

all_named : (number : ℕ) → (made_sources.edits, edits_made number) ∷ map named_by_port (traces_made number) ≡ made_list number
unfolding digits
all_named number = refl

pub made_are_files : (number : ℕ) (edits : List ℕ) (traces : List MadeTrace) → edits ≡ edits_made number → map trace_view traces ≡ traces_made number
    → (made_sources.edits, edits) ∷ map file_by_port traces ≡ made_list number
made_are_files number edits traces are_edits are_traces =
    ap (λ files. (made_sources.edits, edits) ∷ files) (by_view traces ∙ ap (map named_by_port) are_traces)
    ∙ ap (λ bytes. (made_sources.edits, bytes) ∷ map named_by_port (traces_made number)) are_edits ∙ all_named number
