use Rattle.std.proofs.Common.{if◌then◌else◌, [], ◌∷◌, inl, refl, arith, lit<}
use Rattle.std.proofs.lemmas.List.Sums.{sum_by-cons}
use Rattle.spec_tables.specs.Rules.{Match, Rule}
use Rattle.rule_tables.specs.Views.{match_view}
use Rattle.address_prefixes.specs.RuleLists.{HasOneMore}
use Rattle.structure_tests.proofs.addresses.test_by_two_masks.Goals as goal

one_of_none : (r : Rule) → HasOneMore r [] (r ∷ [])
one_of_none r p = let one = sum_by-cons (λ (x : Rule). if p x then 1 else 0) r [] in omega (arith, one)

-- the rule of the test, by its match
abbrev rule_with : Match → Rule
rule_with m = record { number = 7; table = 0; priority = 100; cookie = 0; matching = m; actions = [] }

pub insert-requires : goal.insert-requires
insert-requires g c = ([], c.requires, lit< tt)

pub test-requires : goal.test-requires
test-requires g c =
    let r = rule_with (match_view c.args.every.now) in
    (r ∷ [], c.in_ok-insert.ensures.ok [] (r ∷ []) r c.requires refl (one_of_none r))

pub test-requires-2 : goal.test-requires-2
test-requires-2 g c =
    let r = rule_with (match_view c.args.every.now) in
    (r ∷ [], c.in_ok-insert.ensures.ok [] (r ∷ []) r c.requires refl (one_of_none r))

pub remove-requires : goal.remove-requires
remove-requires g c =
    let r = rule_with (match_view c.args.every.now) in
    (r ∷ [], r, c.in_ok-insert.ensures.ok [] (r ∷ []) r c.requires refl (one_of_none r), inl refl, refl)
