use Rattle.std.proofs.Common.{rules, ◌≡◌, ℕ, ◌<◌, drop}
use Rattle.left_right.specs.Sides.{view}
use Rattle.spec_case.specs.Run.{last_version}
use Rattle.table_publish.proofs.Views.{comes-pending, shows-next}
use Rattle.table_publish.proofs.editor.Editor.publish_next.Goals as goal

pub publish_as-writer-requires : goal.publish_as-writer-requires
publish_as-writer-requires g c next is = let w = c.prepare.new.writer in comes-pending (λ (t : ℕ). t) _ _ w.desk.shown.value next (drop w.behind w.log.items) is

pub invariant_of-editor-2 : goal.invariant_of-editor-2
invariant_of-editor-2 g c =
    let w = c.prepare.new.writer in
    let made = c.publish_as-writer.result in
    let shown : w.desk.shown.value ≡ c.self.inside.version = search rules in
    let more : c.self.inside.version < last_version g.C.Case.run = search rules in
    shows-next made.1 c.in-Ok-done.field-0 c.self.inside.version (last_version g.C.Case.run) (view w.desk.place) w.desk.shown.value (view made.0.desk.place) made.0.desk.shown.value
    (drop w.behind w.log.items) (drop made.0.behind made.0.log.items) _ _ c.in-Ok-done.is shown more c.in-Ok.ensures.pending c.publish_as-writer.ensures.values c.publish_as-writer.ensures.rule
