use Rattle.std.proofs.Common.{◌<◌, refl, sym, ap, subst, ◌∙◌, arith}
use Rattle.std.specs.Option.{option_copied_mut}
use Rattle.std.proofs.lemmas.Option.{none-some, same_Some}
use Rattle.ovs_fields.specs.Packed.{bits}
use Rattle.megaflow_table.specs.Subtables.{Subtable, subtable_of, order_of, HasRoomUnder}
use Rattle.masked_map.specs.Maps.{room_of}
use Rattle.std.proofs.lemmas.Result.{IfOk-weaker}
use Rattle.megaflow_table.proofs.SubtableLaws.{kept_subtables, same_subtables, written_here}
use Rattle.megaflow_table.proofs.OrderLaws.{written_order}
use Rattle.megaflow_table.proofs.subtables.reserve_under.Goals as goal

pub returns-in-Some-clause-keeps : goal.returns-in-Some-clause-keeps
returns-in-Some-clause-keeps c =
    let after = record c.in-Some.subtable.now { numbers = c.reserve.new.self } in
    kept_subtables c.args.subtables.now (c.get_mut.follows.lender after) c.args.mask.now c.in-Some.subtable.now after (sym c.in-Some.ensures.value) (c.get_mut.follows.holds after)
    c.reserve.ensures.entries c.reserve.ensures.keeps c.reserve.ensures.mask

pub returns-in-Some-clause-ok : goal.returns-in-Some-clause-ok
returns-in-Some-clause-ok c =
    let after = record c.in-Some.subtable.now { numbers = c.reserve.new.self } in
    IfOk-weaker c.reserve.result (λ _. 0 < room_of c.reserve.new.self) (λ _. HasRoomUnder (c.get_mut.follows.lender after) (bits c.args.mask.now))
    (λ _ room subtable at. subst (λ (i : Subtable). 0 < room_of i.numbers) (same_Some after subtable
    (sym (written_here c.args.subtables.now (c.get_mut.follows.lender after) c.args.mask.now c.in-Some.subtable.now after (sym c.in-Some.ensures.value) (c.get_mut.follows.holds after)) ∙ at)) (omega (arith, room)))
    c.reserve.ensures.room

pub returns-in-None-clause-keeps : goal.returns-in-None-clause-keeps
returns-in-None-clause-keeps c = same_subtables c.args.subtables.now c.get_mut.follows.lender-at-none c.get_mut.follows.holds-at-none

pub returns-in-None-clause-ok : goal.returns-in-None-clause-ok
returns-in-None-clause-ok c subtable at =
    absurd (none-some subtable (sym (sym c.get_mut.ensures.value ∙ ap option_copied_mut c.in-None.is) ∙ sym (ap (λ t. subtable_of t (bits c.args.mask.now)) c.get_mut.follows.holds-at-none) ∙ at))

pub returns-in-Some-clause-order : goal.returns-in-Some-clause-order
returns-in-Some-clause-order c =
    let after = record c.in-Some.subtable.now { numbers = c.reserve.new.self } in
    written_order c.args.subtables.now (c.get_mut.follows.lender after) c.args.mask.now c.in-Some.subtable.now after (sym c.in-Some.ensures.value) (c.get_mut.follows.holds after) refl

pub returns-in-None-clause-order : goal.returns-in-None-clause-order
returns-in-None-clause-order c = ap order_of c.get_mut.follows.holds-at-none
