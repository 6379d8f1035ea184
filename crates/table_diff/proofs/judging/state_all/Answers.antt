use Rattle.std.proofs.Common.{◌≡◌, refl, sym, subst, ◌∙◌}
use Rattle.spec_xlate.specs.Translation.{Translation, switch_of}
use Rattle.spec_flow_text.specs.Within.{AreWithinFields}
use Rattle.pipe_model.specs.Plains.{translation_in}
use Rattle.dump_lines.specs.Live.{live_in}
use Rattle.ovs_fields.specs.Packed.{numbers, bits}
use Rattle.table_diff.proofs.JudgeLaws.{both_do}
use Rattle.table_diff.proofs.judging.state_all.Goals as goal

pub returns-then-are_same-clause-holds : goal.returns-then-are_same-clause-holds
returns-then-are_same-clause-holds c other frame h =
    let cube = c.args.cube.now in
    let key = numbers cube.key in
    let o = switch_of (live_in c.args.old.now) c.args.ports.now in
    let n = switch_of (live_in c.args.new.now) c.args.ports.now in
    let made = c.in_ok-before in
    let then = c.in_ok-after in
    let both = both_do o n key (bits c.propose-2.new.mask) (bits c.deciding-mask.result) made.old_told then.new_told cube.key.is_key cube.clean
    c.deciding-mask.ensures.decided c.deciding-mask.ensures.open made.ensures.told then.ensures.told (translation_in made.before) (translation_in then.after)
    made.ensures.translation then.ensures.translation in
    let same : made.before.actions ≡ then.after.actions = sym c.as_slice.ensures ∙ c.are_same.ensures.same c.if-are_same.true ∙ c.as_slice-2.ensures in
    both.0 other frame h ∙ same ∙ sym (both.1 other frame h)

pub returns-else-are_same-clause-holds : goal.returns-else-are_same-clause-holds
returns-else-are_same-clause-holds c =
    let cube = c.args.cube.now in
    let key = numbers cube.key in
    let o = switch_of (live_in c.args.old.now) c.args.ports.now in
    let n = switch_of (live_in c.args.new.now) c.args.ports.now in
    let made = c.in_ok-before in
    let then = c.in_ok-after in
    let both = both_do o n key (bits c.propose-2.new.mask) (bits c.deciding-mask.result) made.old_told then.new_told cube.key.is_key cube.clean
    c.deciding-mask.ensures.decided c.deciding-mask.ensures.open made.ensures.told then.ensures.told (translation_in made.before) (translation_in then.after)
    made.ensures.translation then.ensures.translation in
    record {
      old = both.0;
      new = both.1;
      plain = refl;
      differ = λ other frame h same.
          c.are_same.ensures.other c.if-are_same.false (c.as_slice.ensures ∙ sym (both.0 other frame h) ∙ same ∙ both.1 other frame h ∙ sym c.as_slice-2.ensures);
    }

pub returns-else-are_same-clause-printable : goal.returns-else-are_same-clause-printable
returns-else-are_same-clause-printable c =
    let key = numbers c.args.cube.now.key in
    let within = c.translation_is_within_fields.ensures in
    let o = switch_of (live_in c.args.old.now) c.args.ports.now in
    let n = switch_of (live_in c.args.new.now) c.args.ports.now in
    let old : AreWithinFields c.in_ok-before.before.actions =
    subst (λ (t : Translation). AreWithinFields t.actions) (sym c.in_ok-before.ensures.translation) (within o key c.args.cube.now.key.is_key) in
    let new : AreWithinFields c.in_ok-after.after.actions =
    subst (λ (t : Translation). AreWithinFields t.actions) (sym c.in_ok-after.ensures.translation) (within n key c.args.cube.now.key.is_key) in
    (old.within, new.within)
