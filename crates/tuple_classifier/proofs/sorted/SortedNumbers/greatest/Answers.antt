use Rattle.std.proofs.Common.{◌≡◌, ◌<◌, ◌-◌, length, sym, ap, ◌∙◌, arith}
use Rattle.std.specs.Prelude.{nat_le}
use Rattle.std.proofs.lemmas.List.{get_or-map, length-map}
use Rattle.tuple_classifier.specs.declared.sorted.Counted.{Counted}
use Rattle.tuple_classifier.specs.Numbers.{entry_numbers}
use Rattle.tuple_classifier.proofs.CountedLaws.{any_numbers, entries_rising, nothing_in}
use Rattle.tuple_classifier.proofs.Nearest.{reached}
use Rattle.tuple_classifier.proofs.sorted.SortedNumbers.greatest.Goals as goal

pub returns-then-count-eq0-clause-none : goal.returns-then-count-eq0-clause-none
returns-then-count-eq0-clause-none c none =
    let l = c.args.self.now.items.ok.0 in
    let zero = c.if-count-eq0.true in
    nothing_in c.args.self.now.items.items (omega (arith, l, zero, c.len-count.ensures))

pub returns-clause-some : goal.returns-clause-some
returns-clause-some c floor =
    let all : c.len-count.result ≡ length c.args.self.now.items.items = (let l = c.args.self.now.items.ok.0 in omega (arith, l, c.len-count.ensures)) in
    let some = c.if-count-eq0.false in
    let last : c.len-count.result - 1 < length c.args.self.now.items.items = omega (arith, all, some) in
    any_numbers (λ n. nat_le floor n) c.args.self.now.items.items c.args.self.now.counted
    ∙ sym (reached floor (entry_numbers c.args.self.now.items.items) c.len-count.result c.index.result.now.number (entries_rising c.args.self.now.items.items c.args.self.now.rising)
    (all ∙ sym (length-map c.args.self.now.items.items (λ (e : Counted). e.number))) (omega (arith, some))
    (ap (λ (e : Counted). e.number) c.index.ensures ∙ sym (get_or-map (λ (e : Counted). e.number) c.args.self.now.items.items (c.len-count.result - 1) c.index.result.now c.index.result.now.number last)))
