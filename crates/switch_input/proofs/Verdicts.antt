-- The verdict, and what is opened, from the stages.
use Rattle.std.proofs.Common.{◌≡◌, ℕ, List, [], ◌∷◌, ◌++◌, refl, sym, ap, subst, ◌∙◌}
use Rattle.std.specs.Prelude.{Result, Ok, Err, IfOk, IfErr}
use Rattle.std.proofs.lemmas.List.{append-nil}
use Rattle.spec_pcap.specs.Pcap.{Capture}
use Rattle.spec_case.specs.declared.run_step.RunStep.{RunStep}
use Rattle.spec_input.specs.Script.{Script}
use Rattle.spec_input.specs.Mirrors.{Mirror}
use Rattle.spec_run.specs.Limits.{most_trace_bytes, most_frames}
use Rattle.spec_run.specs.Verdict.{Files, Refusal, MirroredRun, Accepted, Sources, ports_said, run_of, command_in, script_in, steps_in, mirrors_in, traces_in, run_in, files_for, verdict, if_passed, given_names, traces_opened, last_opened, later_opened, sources_opened, opened_for, files_opened}
use Rattle.command_words.specs.declared.reading.Command.{Command}
use Rattle.command_words.specs.CommandViews.{input_view, command_view}
use Rattle.switch_input.specs.declared.inputs.Inputs.{Inputs}
use Rattle.switch_input.specs.InputViews.{sources_for, mirrored_view, accepted_view}
use Rattle.switch_input.specs.declared.refusals.refusal.InputRefusal.{InputRefusal}
use Rattle.switch_input.specs.declared.refusals.refusal.InputRefusal.TheVariants.{Input, ReadFault, OutOfMemory}
use Rattle.switch_input.specs.Reading.{HasOpenedUntil, ReadsWhere}
use Rattle.switch_input.specs.Refused.{IfInput, TellsNoFault, Explains, stop_of}
use Rattle.switch_input.proofs.refusals.Reading.{opened_none, none_yet, reads_unbegun}
use Rattle.edge_io.specs.declared.outside.Shelf as shelf
use Rattle.edge_io.specs.Shelf.{Told}
use Rattle.edge_io.specs.Opened.{HasOpened, HasOpenedPrefix}
use Rattle.switch_input.proofs.Opened.{HasLeft, all_left, none_left, left_later, opened_until}

-- what is read

module _ (files : Files) (flow_limit : ℕ) (s : Sources) where
  -- ---- the edits

  pub script_explains : (r : InputRefusal) → Explains (script_in files s.edits) r → Explains (run_in files flow_limit s) r
  unfolding run_in
  script_explains (Input fault) why = rw why refl
  script_explains (ReadFault name) why = tt
  script_explains OutOfMemory why = tt

  -- what is opened after the edits
  abbrev later : List (List ℕ)
  later = if_passed (script_in files s.edits) (λ _. later_opened files s)

  edits_first : sources_opened files s ≡ s.edits ∷ later
  unfolding sources_opened
  edits_first = refl

  none_later : (r : InputRefusal) → Explains (script_in files s.edits) r → IfInput r (λ _. later ≡ [])
  none_later (Input fault) why = rw why refl
  none_later (ReadFault name) why = tt
  none_later OutOfMemory why = tt

  pub edits_opened : (old now : Told) (r : InputRefusal) → Explains (script_in files s.edits) r → HasOpenedUntil old now (s.edits ∷ []) (stop_of r)
      → HasOpenedUntil old now (sources_opened files s) (stop_of r)
  edits_opened old now r why until =
      opened_until old old now _ _ (all_left old (sources_opened files s)) (s.edits ∷ []) later edits_first r (none_later r why) until

  module _ (script : Script) (is_script : script_in files s.edits ≡ Ok script) where
    -- ---- the steps

    pub steps_explain : (r : InputRefusal) → Explains (steps_in files (ports_said s.ports) s.steps) r → Explains (run_in files flow_limit s) r
    unfolding run_in
    steps_explain (Input fault) why = rw (is_script, why) refl
    steps_explain (ReadFault name) why = tt
    steps_explain OutOfMemory why = tt

    -- what is opened after the steps file
    abbrev after_steps : List (List ℕ)
    after_steps = if_passed (steps_in files (ports_said s.ports) s.steps) (λ _. last_opened files s)

    steps_next : sources_opened files s ≡ s.edits ∷ (given_names s.steps ++ after_steps)
    unfolding sources_opened later_opened
    steps_next = rw is_script refl

    none_after_steps : (r : InputRefusal) → Explains (steps_in files (ports_said s.ports) s.steps) r → IfInput r (λ _. after_steps ≡ [])
    none_after_steps (Input fault) why = rw why refl
    none_after_steps (ReadFault name) why = tt
    none_after_steps OutOfMemory why = tt

    module _ (old mid : Told) (first : HasOpened old mid (s.edits ∷ [])) where
      edits_done : HasLeft old mid (given_names s.steps ++ after_steps) (sources_opened files s)
      edits_done = left_later old old mid _ _ (all_left old (sources_opened files s)) (s.edits ∷ []) (given_names s.steps ++ after_steps) steps_next first

      pub steps_opened : (now : Told) (r : InputRefusal) → Explains (steps_in files (ports_said s.ports) s.steps) r → HasOpenedUntil mid now (given_names s.steps) (stop_of r)
          → HasOpenedUntil old now (sources_opened files s) (stop_of r)
      steps_opened now r why until = opened_until old mid now _ _ edits_done (given_names s.steps) after_steps refl r (none_after_steps r why) until

    module _ (steps : List RunStep) (are_steps : steps_in files (ports_said s.ports) s.steps ≡ Ok steps) where
      -- ---- the mirrors

      pub mirrors_explain : (r : InputRefusal) → Explains (mirrors_in files (ports_said s.ports) s.mirrors) r → Explains (run_in files flow_limit s) r
      unfolding run_in
      mirrors_explain (Input fault) why = rw (is_script, are_steps, why) refl
      mirrors_explain (ReadFault name) why = tt
      mirrors_explain OutOfMemory why = tt

      -- what is opened after the mirrors file
      abbrev after_mirrors : List (List ℕ)
      after_mirrors = if_passed (mirrors_in files (ports_said s.ports) s.mirrors) (λ _. traces_opened files most_trace_bytes most_frames s.ports)

      mirrors_next : after_steps ≡ given_names s.mirrors ++ after_mirrors
      unfolding last_opened
      mirrors_next = rw are_steps refl

      none_after_mirrors : (r : InputRefusal) → Explains (mirrors_in files (ports_said s.ports) s.mirrors) r → IfInput r (λ _. after_mirrors ≡ [])
      none_after_mirrors (Input fault) why = rw why refl
      none_after_mirrors (ReadFault name) why = tt
      none_after_mirrors OutOfMemory why = tt

      module _ (old mid late : Told) (first : HasOpened old mid (s.edits ∷ [])) (second : HasOpened mid late (given_names s.steps)) where
        steps_done : HasLeft old late (given_names s.mirrors ++ after_mirrors) (sources_opened files s)
        steps_done =
            let left : HasLeft old late after_steps (sources_opened files s) = left_later old mid late _ _ (edits_done old mid first) (given_names s.steps) after_steps refl second in
            rw mirrors_next at left

        pub mirrors_opened : (now : Told) (r : InputRefusal) → Explains (mirrors_in files (ports_said s.ports) s.mirrors) r → HasOpenedUntil late now (given_names s.mirrors) (stop_of r)
            → HasOpenedUntil old now (sources_opened files s) (stop_of r)
        mirrors_opened now r why until = opened_until old late now _ _ steps_done (given_names s.mirrors) after_mirrors refl r (none_after_mirrors r why) until

      module _ (mirrors : List Mirror) (are_mirrors : mirrors_in files (ports_said s.ports) s.mirrors ≡ Ok mirrors) where
        -- ---- the traces

        pub traces_explain : (r : InputRefusal) → Explains (traces_in files s.ports) r → Explains (run_in files flow_limit s) r
        unfolding run_in
        traces_explain (Input fault) why = rw (is_script, are_steps, are_mirrors, why) refl
        traces_explain (ReadFault name) why = tt
        traces_explain OutOfMemory why = tt

        abbrev traces : List (List ℕ)
        traces = traces_opened files most_trace_bytes most_frames s.ports

        none_after : (r : InputRefusal) → IfInput r (λ _. let none : List (List ℕ) = [] in none ≡ [])
        none_after (Input fault) = refl
        none_after (ReadFault name) = tt
        none_after OutOfMemory = tt

        module _ (old mid late last : Told) (first : HasOpened old mid (s.edits ∷ [])) (second : HasOpened mid late (given_names s.steps)) (third : HasOpened late last (given_names s.mirrors)) where
          mirrors_done : HasLeft old last traces (sources_opened files s)
          mirrors_done =
              let left : HasLeft old last after_mirrors (sources_opened files s) = left_later old late last _ _ (steps_done old mid late first second) (given_names s.mirrors) after_mirrors refl third in
              rw are_mirrors at left

          pub traces_until : (now : Told) (r : InputRefusal) → HasOpenedUntil last now traces (stop_of r) → HasOpenedUntil old now (sources_opened files s) (stop_of r)
          traces_until now r until = opened_until old last now _ _ mirrors_done traces [] (sym (append-nil traces)) r (none_after r) until

          pub all_opened : (now : Told) → HasOpened last now traces → HasOpened old now (sources_opened files s)
          all_opened now opened = none_left old now _ (left_later old last now _ _ mirrors_done traces [] (sym (append-nil traces)) opened)

        -- ---- the whole

        pub gives_run : (traces : List Capture) → traces_in files s.ports ≡ Ok traces
            → run_in files flow_limit s ≡ Ok (record { run = run_of flow_limit s script steps traces; mirrors = mirrors })
        unfolding run_in
        gives_run traces are_traces = rw (is_script, are_steps, are_mirrors, are_traces) refl

        pub gives_run_of : (other : Sources) → s ≡ other → (traces : List Capture) → traces_in files s.ports ≡ Ok traces
            → run_in files flow_limit other ≡ Ok (record { run = run_of flow_limit other script steps traces; mirrors = mirrors })
        gives_run_of other same traces are_traces =
            subst (λ (x : Sources). run_in files flow_limit x ≡ Ok (record { run = run_of flow_limit x script steps traces; mirrors = mirrors })) same (gives_run traces are_traces)

-- the words, and what is read for them

module _ (words : List (List ℕ)) (files : Files) where
  pub command_explains : (r : InputRefusal) → Explains (command_in words) r → Explains (verdict words files) r
  unfolding verdict
  command_explains (Input fault) why = rw why refl
  command_explains (ReadFault name) why = tt
  command_explains OutOfMemory why = tt

  pub words_opened : (t : Told) (r : InputRefusal) → Explains (command_in words) r → TellsNoFault r → HasOpenedUntil t t (files_opened words files) (stop_of r)
  unfolding files_opened
  words_opened t (Input fault) why never = rw why (opened_none t)
  words_opened t (ReadFault name) why never = absurd never
  words_opened t OutOfMemory why never = none_yet t (files_opened words files)

  pub words_read : (knows : Type 0) {S : Type 0} (g : shelf.Ghosts S) (s : S) (r : InputRefusal) → Explains (command_in words) r → TellsNoFault r
      → ReadsWhere knows g s s (files_opened words files) (stop_of r)
  words_read knows g s (Input fault) why never = record {
    counts = refl;
    since = λ k. tt;
    named = λ k. tt;
    only_read = λ k. refl;
    opened = λ k. words_opened (g.told s) (Input fault) why never;
  }
  words_read knows g s (ReadFault name) why never = absurd never
  words_read knows g s OutOfMemory why never = reads_unbegun knows g s (files_opened words files)

  module _ (command : Command) (is_command : command_in words ≡ Ok (command_view command)) where
    -- what is read for the command
    abbrev run_for : Result MirroredRun Refusal
    run_for = run_in (files_for files (input_view command.input)) command.flow_limit (sources_for command)

    explains_run : (r : InputRefusal) → Explains run_for r → Explains (verdict words files) r
    unfolding verdict
    explains_run (Input fault) why = rw (is_command, why) refl
    explains_run (ReadFault name) why = tt
    explains_run OutOfMemory why = tt

    accepts_run : (given : MirroredRun) → run_for ≡ Ok given → verdict words files ≡ Ok (record { command = command_view command; run = given.run; mirrors = given.mirrors })
    unfolding verdict
    accepts_run given is_run = rw (is_command, is_run) refl

    pub run_explains : (result : Result Inputs InputRefusal) → IfErr result (Explains run_for) → IfErr result (Explains (verdict words files))
    run_explains (Ok i) why = tt
    run_explains (Err r) why = explains_run r why

    pub accepts : (result : Result Inputs InputRefusal) → IfOk result (λ i. i.command ≡ command) → IfOk result (λ i. run_for ≡ Ok (mirrored_view i))
        → IfOk result (λ i. verdict words files ≡ Ok (accepted_view i))
    accepts (Ok i) same is_run =
        accepts_run (mirrored_view i) is_run
        ∙ ap (λ (c : Command). let a : Result Accepted Refusal = Ok (record { command = command_view c; run = (mirrored_view i).run; mirrors = i.mirrors.items }) in a) (sym same)
    accepts (Err r) same is_run = tt

    pub names_for : files_opened words files ≡ opened_for files (input_view command.input)
    unfolding files_opened
    names_for = rw is_command refl
