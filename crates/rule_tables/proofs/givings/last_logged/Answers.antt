use Rattle.std.proofs.Common.{◌<◌, ◌≤◌, length, get_or, None, sym, ◌∙◌, arith, rules}
use Rattle.std.proofs.lemmas.Option.{slice_get_within}
use Rattle.rule_tables.proofs.GivingLog.{newest, back_by, modification_there, last_found, last_before, last_nothing}
use Rattle.rule_tables.proofs.givings.last_logged.Goals as goal

pub bounds-givings-place : goal.bounds-givings-place
bounds-givings-place c =
    let found = newest c.args.givings.now _ c.back.invariant.0 c.back.next c.in-Some.place (record { modification = 0; before = None }) c.in-Some.is c.back.invariant.2 in
    slice_get_within c.args.givings.now c.in-Some.place _ found.at

pub offset_bounds-givings-place : goal.offset_bounds-givings-place
offset_bounds-givings-place c =
    let found = newest c.args.givings.now _ c.back.invariant.0 c.back.next c.in-Some.place (record { modification = 0; before = None }) c.in-Some.is c.back.invariant.2 in
    let within : c.in-Some.place < length c.args.givings.now = slice_get_within c.args.givings.now c.in-Some.place _ found.at in
    search rules

pub bounds-modifications-giving : goal.bounds-modifications-giving
bounds-modifications-giving c =
    let found = newest c.args.givings.now _ c.back.invariant.0 c.back.next c.in-Some.place (record { modification = 0; before = None }) c.in-Some.is c.back.invariant.2 in
    let below : (get_or c.args.givings.now c.in-Some.place (record { modification = 0; before = None })).modification < c.back.invariant.0 = found.below in
    let within : c.back.invariant.0 ≤ length c.args.modifications.now = c.back.invariant.1 in
    omega arith

pub offset_bounds-modifications-giving : goal.offset_bounds-modifications-giving
offset_bounds-modifications-giving c =
    let found = newest c.args.givings.now _ c.back.invariant.0 c.back.next c.in-Some.place (record { modification = 0; before = None }) c.in-Some.is c.back.invariant.2 in
    let below : (get_or c.args.givings.now c.in-Some.place (record { modification = 0; before = None })).modification < c.back.invariant.0 = found.below in
    let enough : c.back.invariant.0 ≤ length c.args.modifications.now = c.back.invariant.1 in
    let within : (get_or c.args.givings.now c.in-Some.place (record { modification = 0; before = None })).modification < length c.args.modifications.now = omega arith in
    search rules

pub returns-then-modification-after : goal.returns-then-modification-after
returns-then-modification-after c =
    let found = newest c.args.givings.now _ c.back.invariant.0 c.back.next c.in-Some.place (record { modification = 0; before = None }) c.in-Some.is c.back.invariant.2 in
    sym (last_found c.args.modifications.now c.args.stored.now c.args.after c.requires.live c.args.givings.now c.back.invariant.0 c.in-Some.place _ c.index-modifications-giving.result c.back.invariant.1 found
    (modification_there c.args.modifications.now _ c.back.invariant.0 _ c.back.invariant.1 found.below c.index-modifications-giving.is) c.if-modification-after.true)
    ∙ c.back.invariant.3

pub back-smaller : goal.back-smaller
back-smaller c =
    let found = newest c.args.givings.now _ c.back.invariant.0 c.back.next c.in-Some.place (record { modification = 0; before = None }) c.in-Some.is c.back.invariant.2 in
    back_by c.back.next c.in-Some.place _ c.in-Some.is found.back

pub back-preserved : goal.back-preserved
back-preserved c =
    let found = newest c.args.givings.now _ c.back.invariant.0 c.back.next c.in-Some.place (record { modification = 0; before = None }) c.in-Some.is c.back.invariant.2 in
    let below : (get_or c.args.givings.now c.in-Some.place (record { modification = 0; before = None })).modification < c.back.invariant.0 = found.below in
    let enough : c.back.invariant.0 ≤ length c.args.modifications.now = c.back.invariant.1 in (
      (get_or c.args.givings.now c.in-Some.place (record { modification = 0; before = None })).modification,
      omega arith,
      found.rest,
      sym (last_before c.args.modifications.now c.args.stored.now c.args.after c.requires.live c.args.givings.now c.back.invariant.0 c.in-Some.place _ c.index-modifications-giving.result c.back.invariant.1 found
          (modification_there c.args.modifications.now _ c.back.invariant.0 _ c.back.invariant.1 found.below c.index-modifications-giving.is) c.if-modification-after.false)
          ∙ c.back.invariant.3,
    )

pub returns : goal.returns
returns c =
    sym (last_nothing c.args.modifications.now c.args.stored.now c.args.after c.requires.live c.args.givings.now c.back.invariant.0 c.back.next c.back.invariant.1 c.in_default.is c.back.invariant.2)
    ∙ c.back.invariant.3
