use Rattle.std.proofs.Common.{◌≡◌, sym, ap, ◌∙◌, subst}
use Rattle.spec_xlate.specs.Translation.{Translation, switch_of}
use Rattle.spec_flow_text.specs.Within.{AreWithinFields}
use Rattle.dump_lines.specs.Live.{live_in}
use Rattle.ovs_fields.specs.Packed.{numbers, bits}
use Rattle.table_diff.proofs.WayLaws.{way-holds}
use Rattle.table_diff.proofs.way.way_of.Goals as goal

pub returns : goal.returns
returns c =
    let sw = switch_of (live_in c.args.rules.now) c.args.ports.now in
    let key = numbers c.args.key.now in
    let made = c.in_ok-made in
    let path = c.in_ok-path in
    way-holds sw key (bits c.args.mask.now) _ c.args.key.now.is_key c.requires.clean
    (ap (λ (t : Translation). t.actions) made.ensures.translation) (λ e. sym made.ensures.told ∙ e) path.ensures.actions path.ensures.fine path.ensures.sent
    (subst (λ (t : Translation). AreWithinFields t.actions) (sym made.ensures.translation) (c.translation_is_within_fields.ensures sw key c.args.key.now.is_key))
    path.ensures.sound
