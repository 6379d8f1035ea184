use Rattle.std.proofs.Common.{◌≡◌, ◌≤◌, ◌<◌, length, arith}
use Rattle.std.proofs.lemmas.Bool.Decides.{nat_tests}
use Rattle.spec_input.specs.Script.{most_edits, most_syncs}
use Rattle.edit_script.specs.ScriptViews.{reading_view}
use Rattle.edit_script.proofs.WellFormed.{bundles_within, formed_with_sync}
use Rattle.edit_script.proofs.script.with_sync.Goals as goal

pub overflow_cast-after : goal.overflow_cast-after
overflow_cast-after c =
    let few : length c.args.reading.kept.said.bundles.items ≤ most_edits = bundles_within (reading_view c.args.reading) c.requires.formed in
    omega (arith, c.len-after.ensures, few)

pub returns-clause-formed : goal.returns-clause-formed
returns-clause-formed c =
    let all : c.len-after.result ≡ length c.args.reading.kept.said.bundles.items = omega (arith, c.len-after.ensures) in
    let room : length c.args.reading.kept.said.syncs.items < most_syncs = grind (arith, nat_tests) in
    rw c.in_ok-push.ensures.items
    (formed_with_sync (reading_view c.args.reading) (record { time = c.in_ok-time.time; after = c.len-after.result }) c.requires.formed all room)
