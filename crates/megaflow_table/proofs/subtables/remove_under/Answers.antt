use Rattle.std.proofs.Common.{List, None, refl, sym, ap, subst, ◌∙◌}
use Rattle.std.proofs.lemmas.Bool.{cond-true}
use Rattle.spec_keys.specs.Keys.{same, masked}
use Rattle.ovs_fields.specs.Equality.{same_from_equal}
use Rattle.ovs_fields.specs.declared.mask.Mask.{Mask}
use Rattle.ovs_fields.specs.Packed.{numbers, bits}
use Rattle.megaflow_table.specs.Order.{hits_of, AreFalling}
use Rattle.megaflow_table.specs.Subtables.{Subtable, subtable_of}
use Rattle.megaflow_table.proofs.SubtableLaws.{updated_at, emptied_goes, gone_room, joined_rooms}
use Rattle.megaflow_table.proofs.RankLaws.{counts, removed_falling}
use Rattle.megaflow_table.proofs.OrderLaws.{removed_used, none_in_use, gone_kept, same_ranked}
use Rattle.megaflow_table.proofs.subtables.remove_under.Goals as goal

pub returns-then-remove_number-clause-changes : goal.returns-then-remove_number-clause-changes
returns-then-remove_number-clause-changes c m k =
    let empty = c.remove_number.ensures.emptied c.if-remove_number.true in
    emptied_goes c.remove_number.new.subtables c.shift_remove.new.self (bits c.args.mask.now) empty.0 empty.1 empty.2
    (updated_at {K = Mask} (λ (r : Mask). bits r) c.remove_number.new.subtables c.shift_remove.new.self (bits c.args.mask.now) None c.shift_remove.ensures.updates) m k
    ∙ c.remove_number.ensures.changes m k

pub returns-then-remove_number-clause-room : goal.returns-then-remove_number-clause-room
returns-then-remove_number-clause-room c =
    joined_rooms c.args.subtables.now c.remove_number.new.subtables c.shift_remove.new.self c.remove_number.ensures.room
    (gone_room c.remove_number.new.subtables c.shift_remove.new.self (bits c.args.mask.now)
    (updated_at {K = Mask} (λ (r : Mask). bits r) c.remove_number.new.subtables c.shift_remove.new.self (bits c.args.mask.now) None c.shift_remove.ensures.updates) c.shift_remove.ensures.room.0)

pub returns-then-remove_number-clause-hits : goal.returns-then-remove_number-clause-hits
returns-then-remove_number-clause-hits c =
    gone_kept c.args.subtables.now c.remove_number.new.subtables c.shift_remove.new.self (bits c.args.mask.now) c.remove_number.ensures.order
    (updated_at {K = Mask} (λ (r : Mask). bits r) c.remove_number.new.subtables c.shift_remove.new.self (bits c.args.mask.now) None c.shift_remove.ensures.updates)

pub returns-then-remove_number-clause-used : goal.returns-then-remove_number-clause-used
returns-then-remove_number-clause-used c =
    let gone = updated_at {K = Mask} (λ (r : Mask). bits r) c.remove_number.new.subtables c.shift_remove.new.self (bits c.args.mask.now) None c.shift_remove.ensures.updates in
    removed_used c.args.subtables.now c.shift_remove.new.self (bits c.args.mask.now) (masked (numbers c.args.key.now) (bits c.args.mask.now))
    (returns-then-remove_number-clause-changes c) (returns-then-remove_number-clause-room c) c.requires.were_used
    (none_in_use c.shift_remove.new.self (bits c.args.mask.now)
    (gone (bits c.args.mask.now)
    ∙ cond-true (same (bits c.args.mask.now) (bits c.args.mask.now)) None (subtable_of c.remove_number.new.subtables (bits c.args.mask.now)) (same_from_equal (bits c.args.mask.now) (bits c.args.mask.now) refl)))

pub returns-then-remove_number-clause-ranked : goal.returns-then-remove_number-clause-ranked
returns-then-remove_number-clause-ranked c =
    subst (λ (es : List (Mask × Subtable)). AreFalling (counts es)) (sym c.shift_remove.ensures.entries)
    (removed_falling (λ (r : Mask). same (bits c.args.mask.now) (bits r)) c.remove_number.new.subtables.entries
    (same_ranked c.args.subtables.now c.remove_number.new.subtables c.remove_number.ensures.order c.requires.was_ranked))

pub returns-else-remove_number-clause-hits : goal.returns-else-remove_number-clause-hits
returns-else-remove_number-clause-hits c m some = ap (hits_of m) c.remove_number.ensures.order

pub returns-else-remove_number-clause-used : goal.returns-else-remove_number-clause-used
returns-else-remove_number-clause-used c =
    removed_used c.args.subtables.now c.remove_number.new.subtables (bits c.args.mask.now) (masked (numbers c.args.key.now) (bits c.args.mask.now)) c.remove_number.ensures.changes c.remove_number.ensures.room c.requires.were_used
    (c.remove_number.ensures.in_use c.if-remove_number.false)

pub returns-else-remove_number-clause-ranked : goal.returns-else-remove_number-clause-ranked
returns-else-remove_number-clause-ranked c = same_ranked c.args.subtables.now c.remove_number.new.subtables c.remove_number.ensures.order c.requires.was_ranked
