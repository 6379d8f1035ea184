use Rattle.std.proofs.Common.{◌≡◌, ℕ, ◌+◌, ◌<◌, ◌==◌, List, get_or, length, if◌then◌else◌, subst, ap, arith}
use Rattle.std.proofs.lemmas.List.{get_or-map}
use Rattle.tuple_classifier.specs.declared.sorted.Counted.{Counted}
use Rattle.tuple_classifier.specs.Numbers.{times, numbers_in, entry_numbers, entry_counts}
use Rattle.tuple_classifier.proofs.CountedLaws.{times_without}
use Rattle.tuple_classifier.proofs.sorted.SortedNumbers.remove.Goals as goal

pub returns-else-count-gt1 : goal.returns-else-count-gt1
returns-else-count-gt1 c n =
    let value = c.deref.ensures.value in
    let within : c.place_of-place.result < length c.args.self.now.items.items = (let a = c.place_of-place.ensures.within in let l = ap length value in omega (arith, a, l)) in
    let number : get_or (entry_numbers c.args.self.now.items.items) c.place_of-place.result 0 ≡ c.args.number =
    subst (λ (es : List Counted). get_or (entry_numbers es) c.place_of-place.result 0 ≡ c.args.number) value c.place_of-place.ensures.number in
    let one : get_or (entry_counts c.args.self.now.items.items) c.place_of-place.result 0 ≡ 1 =
    (let few = c.if-count-gt1.false in
    let is = ap (λ (e : Counted). e.count) c.index.ensures in
    let some = c.args.self.now.counted c.place_of-place.result c.index.result.now within in
    let at = get_or-map (λ (e : Counted). e.count) c.args.self.now.items.items c.place_of-place.result c.index.result.now 0 within in
    omega (arith, few, is, some, at)) in
    subst (λ (v : ℕ). times n (numbers_in c.remove.new.self.items) + (if v == n then 1 else 0) ≡ times n (numbers_in c.args.self.now.items.items)) number
    (times_without n c.args.self.now.items.items c.remove.new.self.items c.place_of-place.result within one c.remove.ensures.items)
