use Rattle.std.proofs.Common.{◌≡◌, Bool, true, false, if◌then◌else◌, List, [], ◌∷◌, ◌++◌, All}
use Rattle.std.specs.Prelude.{is_ok}
use Rattle.std.proofs.lemmas.List.Elements.{All-push}
use Rattle.field_text.specs.Views.{IsWithin}
use Rattle.match_text.proofs.stating.with_part.Goals as goal

-- what holds of each element and of one more, whether or not it was pushed
pushed : {A : Type 0} (P : A → Type 0) (is_pushed : Bool) (xs ys : List A) (x : A) → ys ≡ (if is_pushed then xs ++ x ∷ [] else xs) → All P xs → P x → All P ys
pushed P true xs ys x is all one = rw is (All-push P xs x all one)
pushed P false xs ys x is all one = rw is all

pub invariant_of-sofar : goal.invariant_of-sofar
invariant_of-sofar c = record {
  are_within = pushed IsWithin (is_ok c.push.result) c.args.sofar.now.parts.items _ c.args.part c.push.ensures.items c.args.sofar.now.are_within c.requires;
}
