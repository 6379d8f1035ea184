use Rattle.std.proofs.Common.{ℕ, List, ◌++◌, sym, ap, ◌∙◌, subst}
use Rattle.std.specs.Prelude.{All}
use Rattle.spec_flow_text.specs.Within.{AreWithinFields}
use Rattle.spec_tables.specs.Rules.{Rule}
use Rattle.spec_xlate.specs.Translation.{Translation, switch_of, pipe}
use Rattle.spec_xlate.specs.Consulted.{consulted}
use Rattle.ovs_fields.specs.Packed.{numbers}
use Rattle.dump_lines.specs.Live.{live_in}
use Rattle.tuple_classifier.specs.Versions.{Version}
use Rattle.pipe_model.specs.Runnable.{AreRunnable}
use Rattle.spec_tools.specs.Paths.{path_of, last_of}
use Rattle.spec_tools.specs.TraceTexts.{told_text, traced_text}
use Rattle.ofp_trace.specs.Winners.{HasLiveWinner}
use Rattle.trace_app.proofs.Printed.{told-traced}
use Rattle.trace_app.proofs.run.text_of.Goals as goal

pub trace-requires : goal.trace-requires
trace-requires c = subst AreRunnable (sym (ap (λ (v : Version). v.rules) c.in_ok-tables.ensures)) c.requires.runnable

pub print_trace-requires-clause-live : goal.print_trace-requires-clause-live
print_trace-requires-clause-live c =
    subst (λ (rules : List Rule). All (HasLiveWinner rules) c.in_ok-traced.traced.path.items) (ap (λ (v : Version). v.rules) c.in_ok-tables.ensures) c.in_ok-traced.ensures.winners

pub print_trace-requires-clause-within : goal.print_trace-requires-clause-within
print_trace-requires-clause-within c =
    let i = c.args.inputs.now in
    let tables = c.in_ok-tables.tables in
    subst (λ (t : Translation). AreWithinFields t.actions) (sym c.in_ok-traced.ensures.translation)
    (c.translation_is_within_fields.ensures (switch_of tables.rules c.deref.result.now) (numbers i.key) i.key.is_key)

pub returns : goal.returns
returns c =
    let i = c.args.inputs.now in
    let tables = c.in_ok-tables.tables in
    let t = c.in_ok-traced.traced in
    let key = numbers i.key in
    let text = told_text (live_in i.rules) key t.path.items (numbers t.last) t.translated.mask t.translated.translation.actions in
    let to = c.deref.ensures.value in
    c.in_ok-print_trace.ensures.text ∙ ap (λ (z : List ℕ). z ++ text) c.new-text.ensures.bytes
    ∙ told-traced (live_in i.rules) tables.rules i.ports.items key t.path.items (numbers t.last) t.translated.mask t.translated.translation.actions (ap (λ (v : Version). v.rules) c.in_ok-tables.ensures)
    (c.in_ok-traced.ensures.path ∙ ap (λ (ps : List ℕ). path_of (switch_of tables.rules ps) key) to)
    (c.in_ok-traced.ensures.last ∙ ap (λ (ps : List ℕ). last_of (switch_of tables.rules ps) key) to)
    (c.in_ok-traced.ensures.mask ∙ ap (λ (ps : List ℕ). consulted (switch_of tables.rules ps) key) to)
    (ap (λ (tr : Translation). tr.actions) c.in_ok-traced.ensures.translation ∙ ap (λ (ps : List ℕ). (pipe (switch_of tables.rules ps) key).actions) to)
    ∙ ap (λ (rules : List Rule). traced_text rules i.ports.items key) (ap (λ (v : Version). v.rules) c.in_ok-tables.ensures)
