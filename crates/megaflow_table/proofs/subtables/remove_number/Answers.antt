use Rattle.std.proofs.Common.{ℕ, List, None, refl, sym, ap, subst, ◌∙◌, arith}
use Rattle.std.specs.Option.{option_copied_mut}
use Rattle.masked_map.specs.Maps.{entries_of}
use Rattle.spec_keys.specs.Keys.{masked}
use Rattle.ovs_fields.specs.Packed.{numbers, bits}
use Rattle.megaflow_table.specs.Subtables.{Subtables, SubtableChangesOnly, subtable_of, order_of}
use Rattle.megaflow_table.proofs.SubtableLaws.{written_at, put_changes, put_room, nothing_to_remove, same_room, written_here}
use Rattle.megaflow_table.proofs.OrderLaws.{written_order, first_of, in_use, none_in_use}
use Rattle.megaflow_table.proofs.subtables.remove_number.Goals as goal

pub returns-in-Some-clause-changes : goal.returns-in-Some-clause-changes
returns-in-Some-clause-changes c =
    let after = record c.in-Some.subtable.now { numbers = c.swap_remove.new.self } in
    put_changes c.args.subtables.now (c.get_mut.follows.lender after) (bits c.args.mask.now) c.in-Some.subtable.now after (sym c.in-Some.ensures.value)
    (written_at c.args.subtables.now (c.get_mut.follows.lender after) c.args.mask.now c.in-Some.subtable.now after (sym c.in-Some.ensures.value) (c.get_mut.follows.holds after))
    (masked (numbers c.args.key.now) (bits c.args.mask.now)) None
    (subst (λ (m : List ℕ). SubtableChangesOnly c.in-Some.subtable.now after (masked (numbers c.args.key.now) m) None) (c.requires (bits c.args.mask.now) c.in-Some.subtable.now (sym c.in-Some.ensures.value)) c.swap_remove.ensures.values)

pub returns-in-Some-clause-room : goal.returns-in-Some-clause-room
returns-in-Some-clause-room c =
    let after = record c.in-Some.subtable.now { numbers = c.swap_remove.new.self } in
    put_room c.args.subtables.now (c.get_mut.follows.lender after) (bits c.args.mask.now) c.in-Some.subtable.now after (sym c.in-Some.ensures.value)
    (written_at c.args.subtables.now (c.get_mut.follows.lender after) c.args.mask.now c.in-Some.subtable.now after (sym c.in-Some.ensures.value) (c.get_mut.follows.holds after))
    (let spares = (c.get_mut.follows.holds after).6 in omega (arith, spares)) c.swap_remove.ensures.room c.swap_remove.ensures.mask

pub returns-in-Some-clause-order : goal.returns-in-Some-clause-order
returns-in-Some-clause-order c =
    let after = record c.in-Some.subtable.now { numbers = c.swap_remove.new.self } in
    written_order c.args.subtables.now (c.get_mut.follows.lender after) c.args.mask.now c.in-Some.subtable.now after (sym c.in-Some.ensures.value) (c.get_mut.follows.holds after) refl

pub returns-in-Some-clause-emptied : goal.returns-in-Some-clause-emptied
returns-in-Some-clause-emptied c empty =
    let after = record c.in-Some.subtable.now { numbers = c.swap_remove.new.self } in (
      after,
      written_here c.args.subtables.now (c.get_mut.follows.lender after) c.args.mask.now c.in-Some.subtable.now after (sym c.in-Some.ensures.value) (c.get_mut.follows.holds after),
      c.is_empty.ensures.0 empty,
    )

pub returns-in-Some-clause-in_use : goal.returns-in-Some-clause-in_use
returns-in-Some-clause-in_use c not_empty =
    let after = record c.in-Some.subtable.now { numbers = c.swap_remove.new.self } in
    let there = first_of (entries_of c.swap_remove.new.self) c.is_empty.result c.is_empty.ensures.1 not_empty in
    in_use (c.get_mut.follows.lender after) (bits c.args.mask.now) after there.0 there.1
    (written_here c.args.subtables.now (c.get_mut.follows.lender after) c.args.mask.now c.in-Some.subtable.now after (sym c.in-Some.ensures.value) (c.get_mut.follows.holds after))
    there.2

pub returns-in-None-clause-changes : goal.returns-in-None-clause-changes
returns-in-None-clause-changes c =
    nothing_to_remove c.args.subtables.now c.get_mut.follows.lender-at-none (bits c.args.mask.now) (masked (numbers c.args.key.now) (bits c.args.mask.now)) c.get_mut.follows.holds-at-none (sym c.get_mut.ensures.value ∙ ap option_copied_mut c.in-None.is)

pub returns-in-None-clause-room : goal.returns-in-None-clause-room
returns-in-None-clause-room c = same_room c.args.subtables.now c.get_mut.follows.lender-at-none c.get_mut.follows.holds-at-none

pub returns-in-None-clause-order : goal.returns-in-None-clause-order
returns-in-None-clause-order c = ap order_of c.get_mut.follows.holds-at-none

pub returns-in-None-clause-in_use : goal.returns-in-None-clause-in_use
returns-in-None-clause-in_use c not_empty =
    none_in_use c.get_mut.follows.lender-at-none (bits c.args.mask.now)
    (ap (λ (t : Subtables). subtable_of t (bits c.args.mask.now)) c.get_mut.follows.holds-at-none ∙ sym c.get_mut.ensures.value ∙ ap option_copied_mut c.in-None.is)
