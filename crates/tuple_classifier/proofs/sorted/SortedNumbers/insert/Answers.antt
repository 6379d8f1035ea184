use Rattle.std.proofs.Common.{◌<◌, ◌≤◌, List, All, length, subst, sym, ap, refl, arith}
use Rattle.std.specs.List.Sorted.{IsNonDecreasingBy}
use Rattle.tuple_classifier.specs.declared.sorted.Counted.{Counted}
use Rattle.tuple_classifier.proofs.CountedLaws.{counted_inserted, is_beyond, rising_inserted, times_inserted}
use Rattle.tuple_classifier.proofs.sorted.SortedNumbers.insert.Goals as goal

pub invariant_of-self-in-None : goal.invariant_of-self-in-None
invariant_of-self-in-None c =
    let is = is_beyond c.args.number c.args.self.now.items.items c.deref.result.now c.first_beyond-beyond.result c.deref.ensures.value c.first_beyond-beyond.ensures.within c.first_beyond-beyond.ensures.up_to c.first_beyond-beyond.ensures.beyond in
    let within : c.first_beyond-beyond.result ≤ length c.args.self.now.items.items = (let a = c.first_beyond-beyond.ensures.within in let l = ap length c.deref.ensures.value in omega (arith, a, l)) in
    record {
      rising = subst (λ (es : List Counted). IsNonDecreasingBy (λ (e : Counted). e.number) es) (sym c.insert_entry.ensures) (rising_inserted c.args.self.now.items.items c.first_beyond-beyond.result _ is within c.args.self.now.rising);
      counted = subst (λ (es : List Counted). All (λ (e : Counted). 0 < e.count) es) (sym c.insert_entry.ensures) (counted_inserted c.args.self.now.items.items c.first_beyond-beyond.result _ within (omega arith) c.args.self.now.counted);
    }

pub returns-in-None : goal.returns-in-None
returns-in-None c n = times_inserted n c.args.self.now.items.items _ c.first_beyond-beyond.result _ c.insert_entry.ensures refl
