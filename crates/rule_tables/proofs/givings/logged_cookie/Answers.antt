use Rattle.std.proofs.Common.{◌<◌, ◌≤◌, ℕ, length, get_or, None, sym, ap, ◌∙◌, subst, arith, rules}
use Rattle.std.proofs.lemmas.Option.{slice_get_within}
use Rattle.rule_tables.specs.declared.stored.Modification.{Modification}
use Rattle.rule_tables.proofs.GivingLog.{newest, back_by, modification_there, cookie_found, cookie_before, cookie_kept, cookie_nothing}
use Rattle.rule_tables.proofs.givings.logged_cookie.Goals as goal

pub bounds-givings-place : goal.bounds-givings-place
bounds-givings-place c =
    let found = newest c.args.givings.now _ c.back.invariant.0 c.back.next c.in-Some.place (record { modification = 0; before = None }) c.in-Some.is c.back.invariant.2 in
    slice_get_within c.args.givings.now c.in-Some.place _ found.at

pub offset_bounds-givings-place : goal.offset_bounds-givings-place
offset_bounds-givings-place c =
    let found = newest c.args.givings.now _ c.back.invariant.0 c.back.next c.in-Some.place (record { modification = 0; before = None }) c.in-Some.is c.back.invariant.2 in
    let within : c.in-Some.place < length c.args.givings.now = slice_get_within c.args.givings.now c.in-Some.place _ found.at in
    search rules

pub bounds-modifications-giving : goal.bounds-modifications-giving
bounds-modifications-giving c =
    let found = newest c.args.givings.now _ c.back.invariant.0 c.back.next c.in-Some.place (record { modification = 0; before = None }) c.in-Some.is c.back.invariant.2 in
    let below : (get_or c.args.givings.now c.in-Some.place (record { modification = 0; before = None })).modification < c.back.invariant.0 = found.below in
    let within : c.back.invariant.0 ≤ length c.args.modifications.now = c.back.invariant.1 in
    omega arith

pub offset_bounds-modifications-giving : goal.offset_bounds-modifications-giving
offset_bounds-modifications-giving c =
    let found = newest c.args.givings.now _ c.back.invariant.0 c.back.next c.in-Some.place (record { modification = 0; before = None }) c.in-Some.is c.back.invariant.2 in
    let below : (get_or c.args.givings.now c.in-Some.place (record { modification = 0; before = None })).modification < c.back.invariant.0 = found.below in
    let enough : c.back.invariant.0 ≤ length c.args.modifications.now = c.back.invariant.1 in
    let within : (get_or c.args.givings.now c.in-Some.place (record { modification = 0; before = None })).modification < length c.args.modifications.now = omega arith in
    search rules

pub returns-in-Some-cookie : goal.returns-in-Some-cookie
returns-in-Some-cookie c =
    let found = newest c.args.givings.now _ c.back.invariant.0 c.back.next c.in-Some.place (record { modification = 0; before = None }) c.in-Some.is c.back.invariant.2 in
    sym (cookie_found c.args.modifications.now c.args.stored.now c.args.after c.requires.live c.args.givings.now c.back.invariant.0 c.in-Some.place _ c.index-modifications-giving.result c.back.invariant.1 found
    (modification_there c.args.modifications.now _ c.back.invariant.0 _ c.back.invariant.1 found.below c.index-modifications-giving.is) c.in-Some-cookie.cookie (ap (λ (k : Modification). k.edit.cookie) (sym c.modification.view_is) ∙ c.in-Some-cookie.is)
    (subst (λ (number : ℕ). number ≤ c.args.after) (ap (λ (k : Modification). k.number) c.modification.view_is) c.if-modification-after.true))
    ∙ c.back.invariant.3

pub back-smaller-in_default-cookie : goal.back-smaller-in_default-cookie
back-smaller-in_default-cookie c =
    let found = newest c.args.givings.now _ c.back.invariant.0 c.back.next c.in-Some.place (record { modification = 0; before = None }) c.in-Some.is c.back.invariant.2 in
    back_by c.back.next c.in-Some.place _ c.in-Some.is found.back

pub back-preserved-in_default-cookie : goal.back-preserved-in_default-cookie
back-preserved-in_default-cookie c =
    let found = newest c.args.givings.now _ c.back.invariant.0 c.back.next c.in-Some.place (record { modification = 0; before = None }) c.in-Some.is c.back.invariant.2 in
    let below : (get_or c.args.givings.now c.in-Some.place (record { modification = 0; before = None })).modification < c.back.invariant.0 = found.below in
    let enough : c.back.invariant.0 ≤ length c.args.modifications.now = c.back.invariant.1 in (
      (get_or c.args.givings.now c.in-Some.place (record { modification = 0; before = None })).modification,
      omega arith,
      found.rest,
      sym (cookie_kept c.args.modifications.now c.args.stored.now c.args.after c.requires.live c.args.givings.now c.back.invariant.0 c.in-Some.place _ c.index-modifications-giving.result c.back.invariant.1 found
          (modification_there c.args.modifications.now _ c.back.invariant.0 _ c.back.invariant.1 found.below c.index-modifications-giving.is) (ap (λ (k : Modification). k.edit.cookie) (sym c.modification.view_is) ∙ c.in_default-cookie.is))
          ∙ c.back.invariant.3,
    )

pub back-smaller : goal.back-smaller
back-smaller c =
    let found = newest c.args.givings.now _ c.back.invariant.0 c.back.next c.in-Some.place (record { modification = 0; before = None }) c.in-Some.is c.back.invariant.2 in
    back_by c.back.next c.in-Some.place _ c.in-Some.is found.back

pub back-preserved : goal.back-preserved
back-preserved c =
    let found = newest c.args.givings.now _ c.back.invariant.0 c.back.next c.in-Some.place (record { modification = 0; before = None }) c.in-Some.is c.back.invariant.2 in
    let below : (get_or c.args.givings.now c.in-Some.place (record { modification = 0; before = None })).modification < c.back.invariant.0 = found.below in
    let enough : c.back.invariant.0 ≤ length c.args.modifications.now = c.back.invariant.1 in (
      (get_or c.args.givings.now c.in-Some.place (record { modification = 0; before = None })).modification,
      omega arith,
      found.rest,
      sym (cookie_before c.args.modifications.now c.args.stored.now c.args.after c.requires.live c.args.givings.now c.back.invariant.0 c.in-Some.place _ c.index-modifications-giving.result c.back.invariant.1 found
          (modification_there c.args.modifications.now _ c.back.invariant.0 _ c.back.invariant.1 found.below c.index-modifications-giving.is) (subst (λ (number : ℕ). c.args.after < number) (ap (λ (k : Modification). k.number) c.modification.view_is) c.if-modification-after.false))
          ∙ c.back.invariant.3,
    )

pub returns : goal.returns
returns c =
    sym (cookie_nothing c.args.modifications.now c.args.stored.now c.args.after c.requires.live c.args.givings.now c.back.invariant.0 c.back.next c.back.invariant.1 c.in_default.is c.back.invariant.2)
    ∙ c.back.invariant.3
