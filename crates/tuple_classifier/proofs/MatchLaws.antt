-- Where a key matches none of the rules of a mask none of them wins.
use Rattle.std.proofs.Common.{◌≡◌, ℕ, false, List, [], ◌∷◌, None, inl, inr, refl, ◌∙◌}
use Rattle.std.proofs.lemmas.Bool.{cond-false}
use Rattle.spec_tables.specs.Rules.{Rule, is_matched, better, winner}
use Rattle.table_laws.specs.Members.{Among}
use Rattle.address_prefixes.specs.RuleLists.{NoneMatches}
use Rattle.tuple_classifier.specs.Parts.{of_mask}
use Rattle.tuple_classifier.proofs.PartLaws.{in_part}

none_matched : (key : List ℕ) (rs : List Rule) → ((r : Rule) → Among r rs → is_matched key r.matching ≡ false) → winner rs key ≡ None
unfolding winner
none_matched key [] none = refl
none_matched key (r ∷ rs) none = cond-false (is_matched key r.matching) (better r (winner rs key)) (winner rs key) (none r (inl refl)) ∙ none_matched key rs (λ s m. none s (inr m))

pub no_winner : (key mask : List ℕ) (rs : List Rule) → NoneMatches key mask rs → winner (of_mask mask rs) key ≡ None
no_winner key mask rs none = none_matched key (of_mask mask rs) (λ r m. let own = in_part mask rs r m in none r own.0 own.1)
