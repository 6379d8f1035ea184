use Rattle.std.proofs.Common.{None, sym, ap, ◌∙◌}
use Rattle.std.specs.Prelude.{if◌then◌else◌}
use Rattle.std.specs.Map.{lookup}
use Rattle.spec_keys.specs.Keys.{masked, same}
use Rattle.ovs_fields.specs.Packed.{numbers}
use Rattle.masked_map.specs.Compact.{list_of}
use Rattle.masked_map.specs.Maps.{listed, mask_in, entries_in}
use Rattle.masked_map.proofs.MapLaws.{lookup_at, updated_at_key}
use Rattle.masked_map.proofs.map.MaskedMap.swap_remove.Goals as goal

pub returns-in-Compact-clause-old : goal.returns-in-Compact-clause-old
returns-in-Compact-clause-old g c =
    c.swap_remove.ensures.old ∙ ap (λ l. lookup (same l) (listed list_of c.in-Compact.map.by_key.entries)) c.masked.ensures
    ∙ ap (λ e. lookup (same (masked (numbers c.args.key.now) (mask_in e))) (entries_in e)) (sym c.in-Compact.is)

pub returns-in-Compact-clause-values : goal.returns-in-Compact-clause-values
returns-in-Compact-clause-values g c q =
    c.swap_remove.ensures.values q
    ∙ ap (λ l. if same q l then None else lookup (same q) (listed list_of c.in-Compact.map.by_key.entries)) c.masked.ensures
    ∙ ap (λ e. if same q (masked (numbers c.args.key.now) (mask_in e)) then None else lookup (same q) (entries_in e)) (sym c.in-Compact.is)

pub returns-in-Whole-clause-old : goal.returns-in-Whole-clause-old
returns-in-Whole-clause-old g c =
    c.swap_remove-in-Whole.ensures.value ∙ lookup_at numbers c.in-Whole.map.entries c.masked-in-Whole.result _ c.masked-in-Whole.ensures
    ∙ ap (λ e. lookup (same (masked (numbers c.args.key.now) (mask_in e))) (entries_in e)) (sym c.in-Whole.is)

pub returns-in-Whole-clause-values : goal.returns-in-Whole-clause-values
returns-in-Whole-clause-values g c q =
    updated_at_key numbers c.in-Whole.map c.swap_remove-in-Whole.new.self c.masked-in-Whole.result _ None c.masked-in-Whole.ensures c.swap_remove-in-Whole.ensures.updates q
    ∙ ap (λ e. if same q (masked (numbers c.args.key.now) (mask_in e)) then None else lookup (same q) (entries_in e)) (sym c.in-Whole.is)
