use Rattle.std.proofs.Common.{◌≡◌, ℕ, zero, suc, ◌<◌, ◌≤◌, Bool, true, false, List, [], ◌∷◌, length, rules, arith, subst}
use Rattle.std.specs.Prelude.{All}
use Rattle.std.specs.Bool.{MatchBool}
use Rattle.std.specs.List.{AllWithin}
use Rattle.std.proofs.lemmas.Bool.{false≢true}
use Rattle.std.proofs.lemmas.Iterator.{cases_from_all, YieldsList-from_slice}
use borrow.Author.Tests.{tests}
use Rattle.megaflow_table.specs.declared.entry.Entry.{Entry}
use Rattle.megaflow_table.specs.Entries.{numbers_of}
use Rattle.table_tests.proofs.megaflows.is_greatest.Goals as goal

at_true : (r : Bool) (P Q : Type 0) → MatchBool r P Q → r ≡ true → P
at_true true P Q holds is = holds
at_true false P Q holds is = absurd (false≢true is)

below : (number : ℕ) (es : List Entry) → AllWithin (λ n. n < number) (numbers_of es) 0 (length (numbers_of es)) → All (λ (e : Entry). e.number < number) es
below number [] all k d lt = absurd (omega arith)
below number (e ∷ es) all zero d lt = all 0 0 (omega arith) (omega arith)
below number (e ∷ es) all (suc k) d lt = below number es (λ j x from to. all (suc j) x (omega arith) (omega arith)) k d (omega arith)

pub returns : goal.returns
returns c holds =
    let cases = cases_from_all _ _ _ (λ n. n < c.args.number) (λ n. c.args.number ≤ n) c.all.ensures.ran (YieldsList-from_slice c.numbers.result.now c.iter.ensures.rest) (λ x q k. search (rules, tests)) (λ x q k. search (rules, tests)) in
    let all = at_true c.all.result _ _ cases holds in
    below c.args.number c.args.table.now.entries (subst (λ ns. AllWithin (λ n. n < c.args.number) ns 0 (length ns)) c.numbers.ensures all)
