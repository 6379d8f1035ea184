-- Numbers that stand in lists.
use Rattle.std.proofs.Common.{ℕ, ◌<◌, ◌==◌, List, refl, subst, eqb-true, eq-eqb}
use Rattle.table_laws.specs.Members.{Among}
use Rattle.staged_lookup.proofs.Members.{counted_among, counted_from}
use Rattle.tuple_classifier.specs.Numbers.{times}

pub stands : (v : ℕ) (xs : List ℕ) → Among v xs → 0 < times v xs
stands v xs m = counted_from (λ x. x == v) v xs m (eq-eqb v v refl)

pub stood : (v : ℕ) (xs : List ℕ) → 0 < times v xs → Among v xs
stood v xs some = let m = counted_among (λ x. x == v) xs some in subst (λ (u : ℕ). Among u xs) (eqb-true m.0 v m.2) m.1
