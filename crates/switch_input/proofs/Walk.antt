-- The traces of the ports, one after the other, as a loop reads them.
use Rattle.std.proofs.Common.{◌≡◌, ℕ, ◌+◌, ◌-◌, ◌≤◌, ◌<◌, List, [], ◌∷◌, ◌++◌, length, get_or, drop, refl, sym, ap, ◌∙◌}
use Rattle.std.specs.Prelude.{Result, Ok, Err}
use Rattle.std.proofs.lemmas.List.{drop_more, drop_all}
use Rattle.spec_pcap.specs.Pcap.{Capture}
use Rattle.spec_run.specs.Verdict.{Files, Refusal, TraceFile, trace_in, if_passed, trace_names, traces_after, traces_opened}
use Rattle.edge_io.specs.Shelf.{Told}
use Rattle.edge_io.specs.ReadAll.{OnlyRead}
use Rattle.edge_io.specs.Opened.{HasOpened}
use Rattle.command_words.specs.declared.ports.PortWord.{PortWord}
use Rattle.switch_input.specs.declared.refusals.refusal.InputRefusal.{InputRefusal}
use Rattle.switch_input.specs.declared.refusals.refusal.InputRefusal.TheVariants.{Input, ReadFault, OutOfMemory}
use Rattle.switch_input.specs.Reading.{HasOpenedUntil}
use Rattle.switch_input.specs.Refused.{IfInput, Explains, stop_of}
use Rattle.command_words.specs.PortViews.{port_view, ports_view}
use Rattle.switch_input.proofs.Opened.{HasLeft, none_left, left_later, opened_until}

here : (ports : List PortWord) (i : ℕ) (d : PortWord) → i < length ports → ports_view (drop i ports) ≡ port_view (get_or ports i d) ∷ ports_view (drop (i + 1) ports)
here ports i d lt = ap ports_view (drop_more ports i d lt)

module _ (files : Files) (bytes_left frames_left : ℕ) (ports : List PortWord) (i : ℕ) where
  pub next_trace : (before : List Capture) (d : PortWord) (t : TraceFile) (all : Result (List Capture) Refusal) → i < length ports
      → trace_in files bytes_left frames_left (port_view (get_or ports i d)) ≡ Ok t → traces_after files before bytes_left frames_left (ports_view (drop i ports)) ≡ all
      → traces_after files (before ++ t.capture ∷ []) (bytes_left - t.size) (frames_left - length t.capture.frames) (ports_view (drop (i + 1) ports)) ≡ all
  unfolding traces_after
  next_trace before d t all lt read so_far =
      let step : traces_after files before bytes_left frames_left (ports_view (drop i ports)) ≡ traces_after files (before ++ t.capture ∷ []) (bytes_left - t.size) (frames_left - length t.capture.frames) (ports_view (drop (i + 1) ports)) =
      rw (here ports i d lt, read) refl in
      sym step ∙ so_far

  pub no_next_trace : (before : List Capture) (d : PortWord) (e : Refusal) (all : Result (List Capture) Refusal) → i < length ports
      → trace_in files bytes_left frames_left (port_view (get_or ports i d)) ≡ Err e → traces_after files before bytes_left frames_left (ports_view (drop i ports)) ≡ all → all ≡ Err e
  unfolding traces_after
  no_next_trace before d e all lt refused so_far =
      let step : traces_after files before bytes_left frames_left (ports_view (drop i ports)) ≡ Err e = rw (here ports i d lt, refused) refl in
      sym so_far ∙ step

  pub all_traces : (before : List Capture) (all : Result (List Capture) Refusal) → length ports ≤ i
      → traces_after files before bytes_left frames_left (ports_view (drop i ports)) ≡ all → all ≡ Ok before
  unfolding traces_after
  all_traces before all le so_far =
      let step : traces_after files before bytes_left frames_left (ports_view (drop i ports)) ≡ Ok before = rw (drop_all i ports le) refl in
      sym so_far ∙ step

  module _ (d : PortWord) (lt : i < length ports) where
    -- what is opened after this port's trace
    abbrev later : List (List ℕ)
    later = if_passed (trace_in files bytes_left frames_left (port_view (get_or ports i d))) (λ t. traces_opened files (bytes_left - t.size) (frames_left - length t.capture.frames) (ports_view (drop (i + 1) ports)))

    names_here : traces_opened files bytes_left frames_left (ports_view (drop i ports)) ≡ trace_names (port_view (get_or ports i d)) ++ later
    unfolding traces_opened
    names_here = rw (here ports i d lt) refl

    none_later : (r : InputRefusal) → Explains (trace_in files bytes_left frames_left (port_view (get_or ports i d))) r → IfInput r (λ _. later ≡ [])
    none_later (Input fault) why = rw why refl
    none_later (ReadFault name) why = tt
    none_later OutOfMemory why = tt

    module _ (before mid now : Told) (all : List (List ℕ)) (left : HasLeft before mid (traces_opened files bytes_left frames_left (ports_view (drop i ports))) all) where
      -- this port's trace is refused
      pub opened_here : (r : InputRefusal) → Explains (trace_in files bytes_left frames_left (port_view (get_or ports i d))) r
          → HasOpenedUntil mid now (trace_names (port_view (get_or ports i d))) (stop_of r) → HasOpenedUntil before now all (stop_of r)
      opened_here r why until = opened_until before mid now _ all left (trace_names (port_view (get_or ports i d))) later names_here r (none_later r why) until

      -- it is read
      pub opened_more : (t : TraceFile) → trace_in files bytes_left frames_left (port_view (get_or ports i d)) ≡ Ok t → HasOpened mid now (trace_names (port_view (get_or ports i d)))
          → HasLeft before now (traces_opened files (bytes_left - t.size) (frames_left - length t.capture.frames) (ports_view (drop (i + 1) ports))) all
      opened_more t read opened =
          let more : HasLeft before now later all = left_later before mid now _ all left (trace_names (port_view (get_or ports i d))) later names_here opened in
          rw read at more

  pub all_opened : (before now : Told) (all : List (List ℕ)) → length ports ≤ i → HasLeft before now (traces_opened files bytes_left frames_left (ports_view (drop i ports))) all
      → HasOpened before now all
  unfolding traces_opened
  all_opened before now all le left = none_left before now all (rw (drop_all i ports le) at left)

  -- a refusal of a trace is the refusal of all
  pub explained : (before : List Capture) (d : PortWord) (all : Result (List Capture) Refusal) (r : InputRefusal) → i < length ports
      → Explains (trace_in files bytes_left frames_left (port_view (get_or ports i d))) r → traces_after files before bytes_left frames_left (ports_view (drop i ports)) ≡ all
      → Explains all r
  explained before d all (Input fault) lt why so_far = no_next_trace before d _ all lt why so_far
  explained before d all (ReadFault name) lt why so_far = tt
  explained before d all OutOfMemory lt why so_far = tt

-- ---- what was read so far

pub holds_kept : (a b : Told) → OnlyRead a b → b.holds ≡ a.holds
holds_kept a b told = ap (λ (w : Told). w.holds) told
