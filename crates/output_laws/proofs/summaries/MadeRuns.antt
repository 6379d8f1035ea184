-- A run that a number makes has edits and frames apart.
use Rattle.std.proofs.Common.{◌≡◌, ℕ, Bool, true, false, if◌then◌else◌, List, ◌++◌, length, Some, refl, sym, ap, ◌∙◌, subst, append_assoc}
use Rattle.std.specs.Prelude.{nat_lt, Result, Ok, Err, codes}
use Rattle.std.specs.Option.{ok_or}
use Rattle.spec_tables.specs.Changes.{changes_to}
use Rattle.spec_input.specs.Words.{Input, Made}
use Rattle.spec_input.specs.declared.fault.FileFault.{FileFault}
use Rattle.spec_input.specs.Script.{Script, script_of}
use Rattle.spec_input.specs.Made.{subnets, subnet_lines, register_values, register_lines, edits_made}
use Rattle.spec_run.specs.Limits.{most_edits_bytes, most_changes}
use Rattle.spec_run.specs.declared.quantity.Quantity.TheVariants.{EditsBytes, Changes}
use Rattle.spec_run.specs.Journals.{HasEditsApart}
use Rattle.spec_run.specs.Verdict.{Files, Refusal, Missing, Limit, MirroredRun, Accepted, Sources, ◌>>=◌, command_in, files_for, sources_of, ports_said, text_or_refusal, script_within, with_few_changes, script_in, steps_in, mirrors_in, traces_in, run_of, run_in, verdict}
use Rattle.output_laws.proofs.summaries.MadeApart.{script_ends, apart_by_script}

module _ {A B : Type 0} where
  pub followed : (m : Result A Refusal) (f : A → Result B Refusal) (b : B) → (m >>= f) ≡ Ok b → (a : A) × (m ≡ Ok a) × (f a ≡ Ok b)
  followed (Ok a) f b is = (a, refl, is)
  followed (Err e) f b is = absurd (cc is)

-- ---- the script of a file

-- a script that isn't refused is what the file says
few : (s t : Script) → with_few_changes s ≡ Ok t → s ≡ t
few s t is = at (nat_lt most_changes (changes_to s.edits (length s.edits))) is
  where
    at : (b : Bool) → (if b then Err (Limit Changes) else Ok s) ≡ Ok t → s ≡ t
    at true is = absurd (cc is)
    at false is = cc is

within : (name bytes : List ℕ) (s : Script) → script_within name bytes ≡ Ok s → script_of bytes ≡ Ok s
within name bytes s is = at (nat_lt most_edits_bytes (length bytes)) (script_of bytes) refl is
  where
    at : (b : Bool) (read : Result Script FileFault) → script_of bytes ≡ read
        → (if b then Err (Limit EditsBytes) else text_or_refusal name read) ≡ Ok s → script_of bytes ≡ Ok s
    at true read was is = absurd (cc is)
    at false (Ok t) was is = let same : t ≡ s = cc is in was ∙ ap Ok same
    at false (Err e) was is = absurd (cc is)

script_is : (files : Files) (name bytes : List ℕ) (s : Script) → files name ≡ Some bytes → script_in files name ≡ Ok s → script_of bytes ≡ Ok s
unfolding script_in
script_is files name bytes s there is =
    let here : (Ok bytes >>= script_within name >>= with_few_changes) ≡ Ok s = ap (λ o. ok_or o (Missing name) >>= script_within name >>= with_few_changes) (sym there) ∙ is in
    let t = followed (script_within name bytes) with_few_changes s here in
    within name bytes t.0 t.1 ∙ ap Ok (few t.0 s t.2)

-- ---- the run of files

module _ (files : Files) (flow_limit : ℕ) (sources : Sources) (given : MirroredRun) (is : run_in files flow_limit sources ≡ Ok given) where
  record Given : Type 0 where
    script : Script
    is_script : script_in files sources.edits ≡ Ok script
    bundles : given.run.bundles ≡ script.bundles
    syncs : given.run.syncs ≡ script.syncs

  of_files : Given
  unfolding run_in
  of_files =
      let script = followed (script_in files sources.edits) _ given is in
      let steps = followed (steps_in files (ports_said sources.ports) sources.steps) _ given script.2 in
      let mirrors = followed (mirrors_in files (ports_said sources.ports) sources.mirrors) _ given steps.2 in
      let traces = followed (traces_in files sources.ports) _ given mirrors.2 in
      let made : MirroredRun = record { run = run_of flow_limit sources script.0 steps.0 traces.0; mirrors = mirrors.0 } in
      let same : made ≡ given = cc traces.2 in
      record {
        script = script.0;
        is_script = script.1;
        bundles = sym (ap (λ (g : MirroredRun). g.run.bundles) same);
        syncs = sym (ap (λ (g : MirroredRun). g.run.syncs) same);
      }

  pub apart_by_file : (text : List ℕ) → files sources.edits ≡ Some (text ++ codes "\nsync 0\n") → HasEditsApart given.run
  apart_by_file text there =
      apart_by_script given.run of_files.script of_files.bundles of_files.syncs
      (script_ends text of_files.script (script_is files sources.edits (text ++ codes "\nsync 0\n") of_files.script there of_files.is_script))

-- ---- the run of a number

-- the lines before the last one
abbrev lines_before : ℕ → List ℕ
lines_before number = subnet_lines number subnets ++ (register_lines register_values ++ codes "table=0,priority=0,actions=drop")

last_line : (number : ℕ) → edits_made number ≡ lines_before number ++ codes "\nsync 0\n"
last_line number =
    let drops : codes "table=0,priority=0,actions=drop\nsync 0\n" ≡ codes "table=0,priority=0,actions=drop" ++ codes "\nsync 0\n" = refl in
    ap (λ l. subnet_lines number subnets ++ (register_lines register_values ++ l)) drops
    ∙ ap (λ l. subnet_lines number subnets ++ l) (sym (append_assoc (register_lines register_values) (codes "table=0,priority=0,actions=drop") (codes "\nsync 0\n")))
    ∙ sym (append_assoc (subnet_lines number subnets) (register_lines register_values ++ codes "table=0,priority=0,actions=drop") (codes "\nsync 0\n"))

pub made_apart : (number : ℕ) (files : Files) (flow_limit : ℕ) (given : MirroredRun)
    → run_in (files_for files (Made number)) flow_limit (sources_of (Made number)) ≡ Ok given → HasEditsApart given.run
made_apart number files flow_limit given is =
    apart_by_file (files_for files (Made number)) flow_limit (sources_of (Made number)) given is (lines_before number) (ap Some (last_line number))

pub accepted_apart : (words : List (List ℕ)) (files : Files) (accepted : Accepted) (number : ℕ) → verdict words files ≡ Ok accepted
    → accepted.command.input ≡ Made number → HasEditsApart accepted.run
unfolding verdict
accepted_apart words files accepted number is made =
    let command = followed (command_in words) _ accepted is in
    let given = followed (run_in (files_for files command.0.input) command.0.flow_limit (sources_of command.0.input)) _ accepted command.2 in
    let of_both : Accepted = record { command = command.0; run = given.0.run; mirrors = given.0.mirrors } in
    let same : of_both ≡ accepted = cc given.2 in
    let input : command.0.input ≡ Made number = ap (λ (a : Accepted). a.command.input) same ∙ made in
    subst HasEditsApart (ap (λ (a : Accepted). a.run) same)
    (made_apart number files command.0.flow_limit given.0 (subst (λ (i : Input). run_in (files_for files i) command.0.flow_limit (sources_of i) ≡ Ok given.0) input given.1))
