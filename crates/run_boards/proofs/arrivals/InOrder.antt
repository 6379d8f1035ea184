-- A stable sort by `arrival_cmp` puts arrivals in order.
use Rattle.std.proofs.Common.{◌≡◌, List}
use Rattle.std.proofs.lemmas.Cmp.{then_total, on_total, nat_cmp_total}
use Rattle.std.proofs.lemmas.List.Sorted.{ranks_by}
use Rattle.std.specs.Cmp.{IsStrictWeakOrder}
use Rattle.std.specs.List.Sorted.{IsSorted, IsStable}
use Rattle.spec_case.specs.declared.arrival.Arrival.{Arrival}
use Rattle.spec_case.specs.Arrivals.{arrival_cmp, comes_before, in_order}
use Rattle.board_laws.proofs.StableSorts.{sorted_stably}

-- by three numbers, one after the other
order : IsStrictWeakOrder comes_before
order =
    let time = on_total (λ (a : Arrival). a.time) nat_cmp_total in
    let port = on_total (λ (a : Arrival). a.port) nat_cmp_total in
    let place = on_total (λ (a : Arrival). a.place) nat_cmp_total in
    ranks_by (then_total time (then_total port place)) (λ a. a)

pub in_order-from_sort : (xs ys : List Arrival) → IsSorted arrival_cmp ys → IsStable arrival_cmp xs ys → ys ≡ in_order xs
in_order-from_sort xs ys sorted stable = sorted_stably comes_before order xs ys sorted stable
