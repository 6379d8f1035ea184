use Rattle.std.proofs.Common.{◌≡◌, ℕ, ◌==◌, false, true, List, length, sym, ap, ap₂, ◌∙◌}
use Rattle.std.specs.Prelude.{Ok, Err, Result}
use Rattle.std.specs.List.{list_any}
use Rattle.std.proofs.lemmas.Result.{err_from_is_err_and}
use Rattle.spec_tables.specs.Rules.{Rule}
use Rattle.spec_tables.specs.Bundles.{version}
use Rattle.spec_xlate.specs.Translation.{in_port_of}
use Rattle.rule_tables.specs.Views.{match_view}
use Rattle.edit_script.specs.ScriptViews.{script_view}
use Rattle.dump_lines.specs.Live.{live_in}
use Rattle.spec_tools.specs.TraceVerdict.{Refusal, NoPort, Accepted, key_of}
use Rattle.trace_app.proofs.Stages.{case_explains, case-no_port, case-accepted, of_edits, live-version, runnable_by}
use Rattle.trace_app.proofs.inputs.inputs_of.Goals as goal

pub returns-in_err-matching-clause-err : goal.returns-in_err-matching-clause-err
returns-in_err-matching-clause-err c =
    let p = err_from_is_err_and c.from_residual.result c.from_residual.ensures.1 in
    rw (p.1, p.2) (case_explains c.args.flow.now c.args.ports.items (script_view c.args.edits.script) c.in_err-matching.field-0.0 c.in_err-matching.ensures.err)

pub returns-then-not-names_port-clause-err : goal.returns-then-not-names_port-clause-err
returns-then-not-names_port-clause-err c =
    let m = match_view c.in_ok-matching.matching in
    let same : c.in_port-port.result ≡ in_port_of (key_of m) = c.in_port-port.ensures ∙ ap in_port_of c.key_of-key.ensures in
    let none : list_any (λ p. p == in_port_of (key_of m)) c.args.ports.items ≡ false =
    ap₂ (λ (q : ℕ) (ps : List ℕ). list_any (λ p. p == q) ps) (sym same) (sym c.deref.ensures.value) ∙ sym c.if-not-names_port.ensures in
    let refused : ℕ → Result Accepted Refusal = λ q. Err (NoPort q) in
    case-no_port c.args.flow.now c.args.ports.items (script_view c.args.edits.script) m c.in_ok-matching.ensures.ok none
    ∙ ap refused (sym same)

pub returns-clause-ok : goal.returns-clause-ok
returns-clause-ok c =
    let m = match_view c.in_ok-matching.matching in
    let edits = (script_view c.args.edits.script).edits in
    let bundles = c.args.edits.script.bundles.items in
    let same : c.in_port-port.result ≡ in_port_of (key_of m) = c.in_port-port.ensures ∙ ap in_port_of c.key_of-key.ensures in
    let there : list_any (λ p. p == in_port_of (key_of m)) c.args.ports.items ≡ true =
    ap₂ (λ (q : ℕ) (ps : List ℕ). list_any (λ p. p == q) ps) (sym same) (sym c.deref.ensures.value) ∙ sym c.if-not-names_port.ensures in
    let rules : version edits bundles (length bundles) ≡ live_in c.args.edits.rules =
    live-version edits bundles c.requires.bundles c.requires.sound c.args.edits.rules c.requires.rules in
    let taken : List Rule → List ℕ → Result Accepted Refusal = λ rs key. Ok (record { rules = rs; ports = c.args.ports.items; key = key }) in
    case-accepted c.args.flow.now c.args.ports.items (script_view c.args.edits.script) m c.in_ok-matching.ensures.ok there
    ∙ ap₂ taken rules (sym c.key_of-key.ensures)

pub returns-clause-within : goal.returns-clause-within
returns-clause-within c =
    let edits = (script_view c.args.edits.script).edits in
    let bundles = c.args.edits.script.bundles.items in
    let rules : version edits bundles (length bundles) ≡ live_in c.args.edits.rules =
    live-version edits bundles c.requires.bundles c.requires.sound c.args.edits.rules c.requires.rules in record {
      of_edits = of_edits edits bundles c.requires.bundles c.requires.sound c.args.edits.rules c.requires.rules;
      runnable = runnable_by edits bundles c.requires.bundles c.requires.sound c.args.edits.rules c.requires.rules (live_in c.args.edits.rules) (sym rules);
    }
