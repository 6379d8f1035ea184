use Rattle.std.proofs.Common.{ℕ, List, sym, ap, subst, ◌∙◌}
use Rattle.std.specs.Prelude.{filter}
use Rattle.std.specs.List.Sorted.{IsPermutation}
use Rattle.std.proofs.lemmas.List.Sorted.{IsNonDecreasingBy-from_sort}
use Rattle.std.specs.List.{flat_map}
use Rattle.ovs_fields.specs.declared.key.Key.{Key}
use Rattle.ovs_fields.specs.Packed.{numbers, bits}
use Rattle.megaflow_table.specs.Entries.{Flows, overlaps, numbers_of}
use Rattle.megaflow_table.specs.Overlaps.{overlapping_in}
use Rattle.megaflow_table.specs.Parts.{look_in}
use Rattle.megaflow_table.proofs.EntryLaws.{numbers-filter}
use Rattle.megaflow_table.proofs.OverlappingLaws.{sorted_overlapping}
use Rattle.megaflow_table.proofs.megaflows.Megaflows.overlaps.Goals as goal

pub returns : goal.returns
returns c =
    let a = c.self.inside in
    let p = overlaps (numbers c.args.key.now) (bits c.args.mask.now) in
    let found = c.in_ok-found.ensures.found ∙ ap (λ (k : Key). flat_map (overlapping_in (numbers k) (bits c.args.mask.now)) a.subtables.entries) c.new.ensures in
    let sorted = c.sort_unstable.new.self.items in
    sorted_overlapping a.live.items (look_in a) a.subtables c.self.invariant.consistent (numbers c.args.key.now) (bits c.args.mask.now) sorted
    c.in_ok-found.ensures.masks c.in_ok-found.ensures.scanned
    (subst (λ (ns : List ℕ). IsPermutation ns sorted) found c.sort_unstable.ensures.permutation)
    (IsNonDecreasingBy-from_sort (λ (n : ℕ). n) sorted c.sort_unstable.ensures.sorted)
    ∙ sym (numbers-filter (look_in a) p a.live.items c.self.invariant.consistent.found)
    ∙ ap (λ (f : Flows). numbers_of (filter p f.entries)) c.self.view_is
