use Rattle.std.proofs.Common.{Some, sym, ap, ◌∙◌, subst, ◌<◌}
use Rattle.std.specs.Prelude.{if◌then◌else◌}
use Rattle.std.specs.Map.{lookup}
use Rattle.spec_keys.specs.Keys.{masked, same}
use Rattle.ovs_fields.specs.Packed.{numbers}
use Rattle.masked_map.specs.Compact.{list_of}
use Rattle.masked_map.specs.Maps.{listed, mask_in, entries_in, room_in}
use Rattle.masked_map.proofs.MapLaws.{lookup_at, updated_at_key}
use Rattle.masked_map.proofs.map.MaskedMap.insert.Goals as goal

pub insert-requires : goal.insert-requires
insert-requires g c none =
    subst (λ e. 0 < room_in e) c.in-Compact.is
    (c.requires
    (ap (λ e. lookup (same (masked (numbers c.args.key.now) (mask_in e))) (entries_in e)) c.in-Compact.is
    ∙ sym (ap (λ l. lookup (same l) (listed list_of c.in-Compact.map.by_key.entries)) c.masked.ensures) ∙ none))

pub put-requires : goal.put-requires
put-requires g c none =
    subst (λ e. 0 < room_in e) c.in-Whole.is
    (c.requires
    (ap (λ e. lookup (same (masked (numbers c.args.key.now) (mask_in e))) (entries_in e)) c.in-Whole.is
    ∙ sym (lookup_at numbers c.in-Whole.map.entries c.masked-in-Whole.result _ c.masked-in-Whole.ensures) ∙ none))

pub returns-in-Compact-clause-old : goal.returns-in-Compact-clause-old
returns-in-Compact-clause-old g c =
    c.insert.ensures.old ∙ ap (λ l. lookup (same l) (listed list_of c.in-Compact.map.by_key.entries)) c.masked.ensures
    ∙ ap (λ e. lookup (same (masked (numbers c.args.key.now) (mask_in e))) (entries_in e)) (sym c.in-Compact.is)

pub returns-in-Compact-clause-values : goal.returns-in-Compact-clause-values
returns-in-Compact-clause-values g c q =
    c.insert.ensures.values q
    ∙ ap (λ l. if same q l then Some c.args.value else lookup (same q) (listed list_of c.in-Compact.map.by_key.entries)) c.masked.ensures
    ∙ ap (λ e. if same q (masked (numbers c.args.key.now) (mask_in e)) then Some c.args.value else lookup (same q) (entries_in e)) (sym c.in-Compact.is)

pub returns-in-Whole-clause-old : goal.returns-in-Whole-clause-old
returns-in-Whole-clause-old g c =
    c.put.ensures.old ∙ lookup_at numbers c.in-Whole.map.entries c.masked-in-Whole.result _ c.masked-in-Whole.ensures
    ∙ ap (λ e. lookup (same (masked (numbers c.args.key.now) (mask_in e))) (entries_in e)) (sym c.in-Whole.is)

pub returns-in-Whole-clause-values : goal.returns-in-Whole-clause-values
returns-in-Whole-clause-values g c q =
    updated_at_key numbers c.in-Whole.map c.put.new.map c.masked-in-Whole.result _ (Some c.args.value) c.masked-in-Whole.ensures c.put.ensures.updates q
    ∙ ap (λ e. if same q (masked (numbers c.args.key.now) (mask_in e)) then Some c.args.value else lookup (same q) (entries_in e)) (sym c.in-Whole.is)
