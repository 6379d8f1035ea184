use Rattle.std.proofs.Common.{ℕ, List, Some, None, sym, ap, subst, ◌∙◌}
use Rattle.std.specs.Prelude.{is_some}
use Rattle.std.specs.Option.{unwrap_or}
use Rattle.indexmap.specs.IndexMap.{with_value_at}
use Rattle.indexmap.proofs.CallerLemmas.{insert_entry-new}
use Rattle.spec_keys.specs.Keys.{same, masked}
use Rattle.ovs_fields.specs.declared.mask.Mask.{Mask}
use Rattle.ovs_fields.specs.Packed.{numbers, bits}
use Rattle.megaflow_table.specs.Order.{AreFalling}
use Rattle.megaflow_table.specs.Subtables.{Subtable, subtable_of, SubtableChangesOnly}
use Rattle.megaflow_table.proofs.SubtableLaws.{updated_at, put_changes, put_masked, new_mask, fresh_under}
use Rattle.megaflow_table.proofs.OrderLaws.{put_adds, hits_found, same_ranked, none_from}
use Rattle.megaflow_table.proofs.RankLaws.{counts, added_falling, ranks-set_value_at}
use Rattle.megaflow_table.proofs.HitLaws.{found_by_index, put_by_index}
use Rattle.megaflow_table.proofs.subtables.insert_under.Goals as goal

pub insert_number-requires : goal.insert_number-requires
insert_number-requires c =
    c.requires.subtable c.pair_mut-subtable.result.1.now
    (found_by_index c.args.subtables.now c.args.mask.now c.in-Some.place (c.pair_mut-subtable.result.0.now, c.pair_mut-subtable.result.1.now) c.in-Some.ensures.index c.in-Some.ensures.within c.pair_mut-subtable.ensures.value c.pair_mut-subtable.ensures.unique)

pub returns-in-Some-clause-changes : goal.returns-in-Some-clause-changes
returns-in-Some-clause-changes c =
    let before = c.pair_mut-subtable.result.1.now in
    let after = c.insert_number.new.subtable in
    let found = found_by_index c.args.subtables.now c.args.mask.now c.in-Some.place (c.pair_mut-subtable.result.0.now, before) c.in-Some.ensures.index c.in-Some.ensures.within c.pair_mut-subtable.ensures.value c.pair_mut-subtable.ensures.unique in
    put_changes c.args.subtables.now (with_value_at c.args.subtables.now c.in-Some.place after) (bits c.args.mask.now) before after found
    (put_by_index c.args.subtables.now c.args.mask.now c.in-Some.place (c.pair_mut-subtable.result.0.now, before) c.in-Some.ensures.index c.in-Some.ensures.within c.pair_mut-subtable.ensures.value c.pair_mut-subtable.ensures.unique after)
    (masked (numbers c.args.key.now) (bits c.args.mask.now)) (Some c.args.number)
    (subst (λ (m : List ℕ). SubtableChangesOnly before after (masked (numbers c.args.key.now) m) (Some c.args.number)) (c.requires.were_masked (bits c.args.mask.now) before found) c.insert_number.ensures.numbers)

pub returns-in-Some-clause-order : goal.returns-in-Some-clause-order
returns-in-Some-clause-order c =
    let before = c.pair_mut-subtable.result.1.now in
    let after = c.insert_number.new.subtable in
    let found = found_by_index c.args.subtables.now c.args.mask.now c.in-Some.place (c.pair_mut-subtable.result.0.now, before) c.in-Some.ensures.index c.in-Some.ensures.within c.pair_mut-subtable.ensures.value c.pair_mut-subtable.ensures.unique in
    put_adds c.args.subtables.now (with_value_at c.args.subtables.now c.in-Some.place after) (bits c.args.mask.now) after
    (put_by_index c.args.subtables.now c.args.mask.now c.in-Some.place (c.pair_mut-subtable.result.0.now, before) c.in-Some.ensures.index c.in-Some.ensures.within c.pair_mut-subtable.ensures.value c.pair_mut-subtable.ensures.unique after)
    (ap (λ o. unwrap_or o 0) (hits_found c.args.subtables.now (bits c.args.mask.now) (Some before) found) ∙ sym c.insert_number.ensures.hits)

pub returns-in-Some-clause-masked : goal.returns-in-Some-clause-masked
returns-in-Some-clause-masked c =
    let before = c.pair_mut-subtable.result.1.now in
    let after = c.insert_number.new.subtable in
    let found = found_by_index c.args.subtables.now c.args.mask.now c.in-Some.place (c.pair_mut-subtable.result.0.now, before) c.in-Some.ensures.index c.in-Some.ensures.within c.pair_mut-subtable.ensures.value c.pair_mut-subtable.ensures.unique in
    put_masked c.args.subtables.now (with_value_at c.args.subtables.now c.in-Some.place after) (bits c.args.mask.now) after
    (put_by_index c.args.subtables.now c.args.mask.now c.in-Some.place (c.pair_mut-subtable.result.0.now, before) c.in-Some.ensures.index c.in-Some.ensures.within c.pair_mut-subtable.ensures.value c.pair_mut-subtable.ensures.unique after)
    (c.insert_number.ensures.mask ∙ c.requires.were_masked (bits c.args.mask.now) before found) c.requires.were_masked

pub returns-in-Some-clause-ranked : goal.returns-in-Some-clause-ranked
returns-in-Some-clause-ranked c =
    same_ranked c.args.subtables.now (with_value_at c.args.subtables.now c.in-Some.place c.insert_number.new.subtable)
    (ranks-set_value_at c.args.subtables.now.entries c.in-Some.place (c.pair_mut-subtable.result.0.now, c.pair_mut-subtable.result.1.now) c.insert_number.new.subtable c.pair_mut-subtable.ensures.value c.insert_number.ensures.hits)
    c.requires.was_ranked

pub insert_number-requires-2 : goal.insert_number-requires-2
insert_number-requires-2 c = (fresh_under c.args.fresh.now (bits c.args.mask.now) c.in-Some-take.field-0 c.requires.is_fresh c.requires.has_fresh (sym c.in-Some-take.ensures.value)).room

pub returns-clause-changes : goal.returns-clause-changes
returns-clause-changes c =
    let empty = fresh_under c.args.fresh.now (bits c.args.mask.now) c.in-Some-take.field-0 c.requires.is_fresh c.requires.has_fresh (sym c.in-Some-take.ensures.value) in
    new_mask c.args.subtables.now c.insert.new.self (bits c.args.mask.now) (masked (numbers c.args.key.now) (bits c.args.mask.now)) c.insert_number-2.new.subtable c.args.number
    (none_from (subtable_of c.args.subtables.now (bits c.args.mask.now)) (sym c.get_index_of.ensures.found ∙ ap is_some c.in_default.is))
    c.in-Some-take.field-0.subtable empty.numbers
    (subst (λ (m : List ℕ). SubtableChangesOnly c.in-Some-take.field-0.subtable c.insert_number-2.new.subtable (masked (numbers c.args.key.now) m) (Some c.args.number)) empty.under c.insert_number-2.ensures.numbers)
    (updated_at {K = Mask} (λ (r : Mask). bits r) c.args.subtables.now c.insert.new.self (bits c.args.mask.now) (Some c.insert_number-2.new.subtable) c.in-Ok.ensures.updates)

pub returns-clause-order : goal.returns-clause-order
returns-clause-order c =
    put_adds c.args.subtables.now c.insert.new.self (bits c.args.mask.now) c.insert_number-2.new.subtable
    (updated_at {K = Mask} (λ (r : Mask). bits r) c.args.subtables.now c.insert.new.self (bits c.args.mask.now) (Some c.insert_number-2.new.subtable) c.in-Ok.ensures.updates)
    (ap (λ o. unwrap_or o 0)
    (hits_found c.args.subtables.now (bits c.args.mask.now) None (none_from (subtable_of c.args.subtables.now (bits c.args.mask.now)) (sym c.get_index_of.ensures.found ∙ ap is_some c.in_default.is)))
    ∙ sym (c.insert_number-2.ensures.hits ∙ (fresh_under c.args.fresh.now (bits c.args.mask.now) c.in-Some-take.field-0 c.requires.is_fresh c.requires.has_fresh (sym c.in-Some-take.ensures.value)).hits))

pub returns-clause-masked : goal.returns-clause-masked
returns-clause-masked c =
    let empty = fresh_under c.args.fresh.now (bits c.args.mask.now) c.in-Some-take.field-0 c.requires.is_fresh c.requires.has_fresh (sym c.in-Some-take.ensures.value) in
    put_masked c.args.subtables.now c.insert.new.self (bits c.args.mask.now) c.insert_number-2.new.subtable
    (updated_at {K = Mask} (λ (r : Mask). bits r) c.args.subtables.now c.insert.new.self (bits c.args.mask.now) (Some c.insert_number-2.new.subtable) c.in-Ok.ensures.updates)
    (c.insert_number-2.ensures.mask ∙ empty.under) c.requires.were_masked

pub returns-clause-ranked : goal.returns-clause-ranked
returns-clause-ranked c =
    subst (λ (es : List (Mask × Subtable)). AreFalling (counts es))
    (sym (c.in-Ok.ensures.entries
    ∙ insert_entry-new (λ (a b : Mask). same (bits a) (bits b)) c.args.subtables.now c.args.mask.now c.insert_number-2.new.subtable
    (none_from (subtable_of c.args.subtables.now (bits c.args.mask.now)) (sym c.get_index_of.ensures.found ∙ ap is_some c.in_default.is))))
    (added_falling c.args.subtables.now.entries (c.args.mask.now, c.insert_number-2.new.subtable)
    (c.insert_number-2.ensures.hits ∙ (fresh_under c.args.fresh.now (bits c.args.mask.now) c.in-Some-take.field-0 c.requires.is_fresh c.requires.has_fresh (sym c.in-Some-take.ensures.value)).hits)
    c.requires.was_ranked)
