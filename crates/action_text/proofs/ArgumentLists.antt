-- The arguments of an item in brackets, with commas between them.
use Rattle.std.proofs.Common.{◌≡◌, ℕ, ◌<◌, List, [], ◌∷◌, length, Some, None, Err, refl, sym, ap, ◌∙◌, arith}
use Rattle.std.specs.Prelude.{◌==◌}
use Rattle.std.specs.Option.{option_map}
use Rattle.std.proofs.lemmas.List.Splits.{length-slice_split}
use Rattle.spec_actions.specs.Sound.{last_table}
use Rattle.spec_actions.specs.declared.action.OfAction.TheVariants.{Resubmit}
use Rattle.spec_flow_text.specs.Characters.{comma}
use Rattle.spec_flow_text.specs.Numbers.{split_once, number_upto}
use Rattle.spec_flow_text.specs.declared.fault.TextFault.TheVariants as fault
use Rattle.spec_flow_text.specs.Items.{Word, column}
use Rattle.spec_flow_text.specs.Actions.{skipping, value_or_fault, table_of_arguments}
use Rattle.text_numbers.proofs.Cuts.{none_cut, some_split}
use Rattle.action_text.specs.Arguments.{arguments_of, said}

pub one_argument : (w inside : Word) (text : List ℕ) → None ≡ split_once comma text → 0 < length text → said w inside text ≡ Err (fault.Unsupported (column w))
one_argument w inside text none lt = ap (table_of_arguments w inside) (none_cut comma text (sym none)) ∙ alone text lt
  where
    alone : (t : List ℕ) → 0 < length t → table_of_arguments w inside (t ∷ []) ≡ Err (fault.Unsupported (column w))
    alone [] h = absurd (omega arith)
    alone (c ∷ cs) h = refl

pub no_argument : (w inside : Word) (text : List ℕ) → length text ≡ 0 → said w inside text ≡ Err (fault.Syntax (column w))
no_argument w inside [] e = refl
no_argument w inside (c ∷ cs) e = absurd (omega arith)

pub with_port : (w inside : Word) (text port rest : List ℕ) → Some (port, rest) ≡ split_once comma text → 0 < length port → said w inside text ≡ Err (fault.Unsupported (column w))
with_port w inside text port rest is lt = ap (table_of_arguments w inside) (some_split comma text port rest (sym is)) ∙ first port lt
  where
    first : (p : List ℕ) → 0 < length p → table_of_arguments w inside (p ∷ arguments_of rest) ≡ Err (fault.Unsupported (column w))
    first [] h = absurd (omega arith)
    first (c ∷ cs) h = refl

pub without_table : (w inside : Word) (text port rest : List ℕ) → Some (port, rest) ≡ split_once comma text → length port ≡ 0 → length rest ≡ 0 → said w inside text ≡ Err (fault.Syntax (column w))
without_table w inside text [] [] is p r = ap (table_of_arguments w inside) (some_split comma text [] [] (sym is))
without_table w inside text [] (c ∷ cs) is p r = absurd (omega arith)
without_table w inside text (c ∷ cs) rest is p r = absurd (omega arith)

pub three_arguments : (w inside : Word) (text port rest table more : List ℕ) → Some (port, rest) ≡ split_once comma text → length port ≡ 0 → Some (table, more) ≡ split_once comma rest
    → said w inside text ≡ Err (fault.Unsupported (column w))
three_arguments w inside text (c ∷ cs) rest table more is p then = absurd (omega arith)
three_arguments w inside text [] rest table more is p then =
    ap (table_of_arguments w inside) (some_split comma text [] rest (sym is) ∙ ap (λ (ts : List (List ℕ)). [] ∷ ts) (some_split comma rest table more (sym then)))
    ∙ third table (arguments_of more) (omega (arith, length-slice_split (λ c. c == comma) more))
  where
    third : (t : List ℕ) (others : List (List ℕ)) → 0 < length others → table_of_arguments w inside ([] ∷ t ∷ others) ≡ Err (fault.Unsupported (column w))
    third t [] h = absurd (omega arith)
    third [] (o ∷ os) h = refl
    third (c ∷ cs) (o ∷ os) h = refl

pub table_argument : (w inside : Word) (text port rest : List ℕ) → Some (port, rest) ≡ split_once comma text → length port ≡ 0 → None ≡ split_once comma rest → 0 < length rest
    → said w inside text ≡ value_or_fault (skipping 1 inside) (option_map (λ n. Resubmit n) (number_upto last_table rest))
table_argument w inside text (c ∷ cs) rest is p none lt = absurd (omega arith)
table_argument w inside text [] rest is p none lt =
    ap (table_of_arguments w inside) (some_split comma text [] rest (sym is) ∙ ap (λ (ts : List (List ℕ)). [] ∷ ts) (none_cut comma rest (sym none))) ∙ table rest lt
  where
    table : (t : List ℕ) → 0 < length t → table_of_arguments w inside ([] ∷ t ∷ []) ≡ value_or_fault (skipping 1 inside) (option_map (λ n. Resubmit n) (number_upto last_table t))
    table [] h = absurd (omega arith)
    table (c ∷ cs) h = refl
