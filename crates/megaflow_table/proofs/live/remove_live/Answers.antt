use Rattle.std.proofs.Common.{Ok, sym, subst, ◌∙◌}
use Rattle.std.specs.List.Sorted.{IsBinarySearchResult}
use Rattle.std.specs.Ordering.{nat_cmp}
use Rattle.megaflow_table.specs.Live.{IsIn, IsRising}
use Rattle.megaflow_table.proofs.LiveLaws.{removed_at, searched_at, not_missed}
use Rattle.megaflow_table.proofs.live.remove_live.Goals as goal

pub unreachable-requires : goal.unreachable-requires
unreachable-requires c =
    not_missed c.args.number c.deref.result.now (subst IsRising (sym c.deref.ensures.value) c.requires.rising) (subst (IsIn c.args.number) (sym c.deref.ensures.value) c.requires.is_live)
    c.in_default.field-0 (subst (IsBinarySearchResult (λ y. nat_cmp y c.args.number) c.deref.result.now) c.in_default.is c.binary_search.ensures.position)

pub returns-clause-items : goal.returns-clause-items
returns-clause-items c =
    let position = subst (IsBinarySearchResult (λ y. nat_cmp y c.args.number) c.deref.result.now) c.in-Ok.is c.binary_search.ensures.position in
    let there = searched_at c.args.number c.args.live.now.items c.requires.rising c.in-Ok.place (subst (λ xs. IsBinarySearchResult (λ y. nat_cmp y c.args.number) xs (Ok c.in-Ok.place)) c.deref.ensures.value position) in
    c.remove.ensures.items ∙ removed_at c.args.number c.args.live.now.items c.requires.rising c.in-Ok.place there.0 there.1
