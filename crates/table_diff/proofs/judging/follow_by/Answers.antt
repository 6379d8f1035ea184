use Rattle.std.proofs.Common.{◌≡◌, ℕ, List, refl, sym, subst}
use Rattle.spec_keys.specs.Keys.{IsClean}
use Rattle.spec_xlate.specs.Translation.{Switch, switch_of}
use Rattle.dump_lines.specs.Live.{live_in}
use Rattle.ovs_fields.specs.Packed.{numbers, bits}
use Rattle.table_diff.specs.declared.judging.Judged.{Judged}
use Rattle.table_diff.specs.Ways.{IsWay, IsFound}
use Rattle.table_diff.proofs.WayLaws.{found_map}
use Rattle.table_diff.proofs.judging.follow_by.Goals as goal

pub returns-clause-holds : goal.returns-clause-holds
returns-clause-holds c =
    let key = numbers c.args.cube.now.key in
    let o = switch_of (live_in c.args.old.now) c.args.ports.now in
    let n = switch_of (live_in c.args.new.now) c.args.ports.now in
    let old : IsWay o key (bits c.stated.result) c.in_ok-before.before = subst (λ (m : List ℕ). IsWay o key m c.in_ok-before.before) (sym c.stated.ensures.bits) c.in_ok-before.ensures in
    let new : IsWay n key (bits c.stated.result) c.in_ok-after.after = subst (λ (m : List ℕ). IsWay n key m c.in_ok-after.after) (sym c.stated.ensures.bits) c.in_ok-after.ensures in
    found_map c.judge_ways.result c.judge_ways.ensures (λ judged found. (found o n refl old new).holds)

pub returns-clause-clean : goal.returns-clause-clean
returns-clause-clean c =
    let key = numbers c.args.cube.now.key in
    let o = switch_of (live_in c.args.old.now) c.args.ports.now in
    let n = switch_of (live_in c.args.new.now) c.args.ports.now in
    let old : IsWay o key (bits c.stated.result) c.in_ok-before.before = subst (λ (m : List ℕ). IsWay o key m c.in_ok-before.before) (sym c.stated.ensures.bits) c.in_ok-before.ensures in
    let new : IsWay n key (bits c.stated.result) c.in_ok-after.after = subst (λ (m : List ℕ). IsWay n key m c.in_ok-after.after) (sym c.stated.ensures.bits) c.in_ok-after.ensures in
    found_map c.judge_ways.result c.judge_ways.ensures (λ judged found. subst IsClean (sym (found o n refl old new).same_mask) c.stated.ensures.clean)

pub returns-clause-printable : goal.returns-clause-printable
returns-clause-printable c =
    let key = numbers c.args.cube.now.key in
    let o = switch_of (live_in c.args.old.now) c.args.ports.now in
    let n = switch_of (live_in c.args.new.now) c.args.ports.now in
    let old : IsWay o key (bits c.stated.result) c.in_ok-before.before = subst (λ (m : List ℕ). IsWay o key m c.in_ok-before.before) (sym c.stated.ensures.bits) c.in_ok-before.ensures in
    let new : IsWay n key (bits c.stated.result) c.in_ok-after.after = subst (λ (m : List ℕ). IsWay n key m c.in_ok-after.after) (sym c.stated.ensures.bits) c.in_ok-after.ensures in
    found_map c.judge_ways.result c.judge_ways.ensures (λ judged found. (found o n refl old new).printable)
