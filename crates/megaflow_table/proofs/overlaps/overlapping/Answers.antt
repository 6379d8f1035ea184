use Rattle.std.proofs.Common.{subst, sym, ap, ◌∙◌, ◌++◌, arith}
use Rattle.std.proofs.lemmas.Option.{same_Some}
use Rattle.ovs_fields.specs.declared.mask.Mask.{Mask}
use Rattle.ovs_fields.specs.Packed.{numbers, bits}
use Rattle.megaflow_table.specs.Subtables.{Subtable}
use Rattle.megaflow_table.specs.Overlaps.{overlapping_in, IsScanned}
use Rattle.megaflow_table.proofs.FindLaws.{one_more, none_past}
use Rattle.megaflow_table.proofs.OverlappingLaws.{added_one}
use Rattle.megaflow_table.proofs.overlaps.overlapping.Goals as goal

pub subtables-preserved : goal.subtables-preserved
subtables-preserved c =
    let found = overlapping_in (numbers c.args.key.now.key.now) (bits c.args.mask.now) in
    let here : Mask × Subtable = (c.in-Some.subtable_mask.now, c.in-Some.subtable.now) in (
      c.in_ok-add_overlapping.ensures.found ∙ ap (λ ns. ns ++ found here) c.subtables.invariant.0 ∙ added_one found c.args.subtables.now.entries c.subtables.i here (sym c.in-Some.ensures.entry),
      one_more (IsScanned (bits c.args.mask.now)) c.args.subtables.now.entries c.subtables.i
          (λ u at. subst (IsScanned (bits c.args.mask.now)) (same_Some here u (c.in-Some.ensures.entry ∙ at)) c.in_ok-add_overlapping.ensures.scanned) c.subtables.invariant.1,
    )

pub returns-clause-scanned : goal.returns-clause-scanned
returns-clause-scanned c j t at =
    c.subtables.invariant.1 j t (none_past c.args.subtables.now.entries c.subtables.i j t (omega (arith, c.subtables-test.false, c.len-i-end.ensures.len)) at) at
