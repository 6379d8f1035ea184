use Rattle.std.proofs.Common.{◌≡◌, ℕ, List, Err, sym, ap, subst, ◌∙◌}
use Rattle.std.specs.Prelude.{All, length}
use Rattle.std.proofs.lemmas.Result.{err_from_is_err_and}
use Rattle.spec_board.specs.Texts.{Journal}
use Rattle.edge_io.specs.Written.{WritesFile}
use Rattle.rule_tables.specs.History.{applied}
use Rattle.spec_run.specs.declared.rule_counts.RuleCounts.{RuleCounts}
use Rattle.dump_lines.specs.declared.rules.places.RulePlace.{RulePlace}
use Rattle.dump_lines.specs.Live.{IsLiveIn, IsOfEdits}
use Rattle.flow_dump.specs.Counted.{AreCounts}
use Rattle.flow_dump.proofs.RuleTexts.{text_is, counts_long, not_created}
use Rattle.flow_dump.proofs.rules.write_rules.Goals as goal

pub returns-in_err-counts : goal.returns-in_err-counts
returns-in_err-counts g c =
    let p = err_from_is_err_and c.from_residual.result c.from_residual.ensures.1 in
    record { file = not_created g.S.Shelf c.args.shelf.now _ c.from_residual.result (p.1 ∙ ap Err p.2) c.requires.in_use }

pub write_file-requires-clause-callable : goal.write_file-requires-clause-callable
write_file-requires-clause-callable g c s created =
    let run = g.C.Case.run in
    let h = c.args.rules.now in
    let journals = c.boards.ensures.journals in
    let counts = subst (λ (js : List Journal). AreCounts run js c.in_ok-counts.counts.items) journals c.in_ok-counts.ensures in
    let long = counts_long run c.args.finished.now c.in_ok-counts.counts.items counts h c.requires.edits in
    let of : IsOfEdits h = record { edits = run.edits; bundles = run.bundles; history = c.requires.edits; whole = c.edit_count.ensures.bundled; sound = c.requires.sound } in
    let live = subst (λ (ps : List RulePlace). All (λ (p : RulePlace). IsLiveIn h p.number) ps) (sym c.as_slice-order.ensures.value) c.in_ok-order.ensures.live in
    let counted = subst (λ (cs : List RuleCounts). length cs ≡ applied h.edits) (sym c.as_slice-counts.ensures.value) long in
    (created, (of, (live, counted)))

pub write_file-requires-clause-fills : goal.write_file-requires-clause-fills
write_file-requires-clause-fills g c = (_, λ before r after created call. call)

pub returns : goal.returns
returns g c =
    let run = g.C.Case.run in
    let h = c.args.rules.now in
    let journals = c.boards.ensures.journals in
    let counts = subst (λ (js : List Journal). AreCounts run js c.in_ok-counts.counts.items) journals c.in_ok-counts.ensures in
    let counts_now = subst (λ (cs : List RuleCounts). AreCounts run c.args.finished.now cs) (sym c.as_slice-counts.ensures.value) counts in
    let order = c.as_slice-order.ensures.value ∙ c.in_ok-order.ensures.places in
    let text = text_is run c.args.finished.now c.as_slice-counts.result.now counts_now c.edit_count.ensures.bundled c.requires.sound h c.requires.edits c.as_slice-order.result.now order in
    let written = c.write_file.ensures.file _ (λ before r after created call. call) in
    record { file = subst (λ (bytes : List ℕ). WritesFile g.S.Shelf c.args.shelf.now c.write_file.new.shelf (c.args.name.now, bytes) c.write_file.result) text written }
