use Rattle.std.proofs.Common.{◌≡◌, ℕ, Bool, true, false, List, [], ◌∷◌, ◌++◌, Option, Ok, String, refl, sym, ap, ◌∙◌}
use Rattle.std.specs.List.{flat_map}
use Rattle.spec_keys.specs.declared.field_id.FieldId.{FieldId}
use Rattle.spec_keys.specs.declared.field_id.FieldId.TheVariants.{InPort}
use Rattle.spec_keys.specs.Fields.{fields}
use Rattle.spec_tables.specs.Rules.{Match}
use Rattle.spec_flow_text.specs.declared.shorthand.Shorthand.{Shorthand}
use Rattle.spec_flow_text.specs.Printed.{Shown, shorthand_of, shown_field, shown, match_printed}
use Rattle.rule_tables.specs.Views.{match_view}
use Rattle.text_numbers.specs.Added.{Adds}
use Rattle.text_numbers.proofs.Adding.{then, same_text, stopped}
use Rattle.match_text.specs.Parts.{registers, ethernet, network, others}
use Rattle.match_text.specs.Shown.{items_text, begun_after}
use Rattle.match_text.proofs.ItemTexts.{joined, both_printed, parts_printed}
use Rattle.match_text.proofs.printing.print_match.Goals as goal

-- the items of all parts are those of all fields
text_of_parts : (f : FieldId → List Shown) (a b c d : Bool) → a ≡ begun_after false (f InPort) → b ≡ begun_after a (flat_map f registers)
    → c ≡ begun_after b (flat_map f ethernet) → d ≡ begun_after c (flat_map f network)
    → items_text false (f InPort) ++ (items_text a (flat_map f registers) ++ (items_text b (flat_map f ethernet)
    ++ (items_text c (flat_map f network) ++ items_text d (flat_map f others)))) ≡ items_text false (flat_map f fields)
text_of_parts f a b c d is_a is_b is_c is_d =
    ap (λ t. items_text false (f InPort) ++ (items_text a (flat_map f registers) ++ (items_text b (flat_map f ethernet) ++ t))) (parts_printed f c d network others is_d)
    ∙ ap (λ t. items_text false (f InPort) ++ (items_text a (flat_map f registers) ++ t)) (parts_printed f b c ethernet (network ++ others) is_c)
    ∙ ap (λ t. items_text false (f InPort) ++ t) (parts_printed f a b registers (ethernet ++ (network ++ others)) is_b)
    ∙ both_printed false a (f InPort) (flat_map f (registers ++ (ethernet ++ (network ++ others)))) (flat_map f fields) is_a refl

text_of : (m : Match) (h : Option Shorthand) → h ≡ shorthand_of m → items_text false (flat_map (shown_field m h) fields) ≡ match_printed m
unfolding shown match_printed
text_of m h is_shorthand = rw is_shorthand (joined (flat_map (shown_field m (shorthand_of m)) fields))

-- what was added, whatever was answered
done : {Z A B E F : Type 0} {old new : String Z} {text : List ℕ} {a : A} {b : B} → Adds {E = E} old new text (Ok a) → Adds {E = F} old new text (Ok b)
done added = record { text = added.text; kept = tt }

pub print_part-requires : goal.print_part-requires
print_part-requires c all = c.registers_are_unstated.ensures all c.shorthand_of-shorthand.result

pub print_part-requires-2 : goal.print_part-requires-2
print_part-requires-2 c all = c.network_is_unstated.ensures all c.shorthand_of-shorthand.result

pub print_part-requires-3 : goal.print_part-requires-3
print_part-requires-3 c all = c.others_are_unstated.ensures all c.shorthand_of-shorthand.result

pub returns : goal.returns
returns c =
    let f = shown_field (match_view c.args.m.now) c.shorthand_of-shorthand.result in
    same_text (text_of_parts f c.in_ok-begun.begun c.in_ok-begun-2.begun c.in_ok-begun-3.begun c.in_ok-begun-4.begun
    c.in_ok-begun.ensures.begun c.in_ok-begun-2.ensures.begun c.in_ok-begun-3.ensures.begun c.in_ok-begun-4.ensures.begun
    ∙ text_of (match_view c.args.m.now) c.shorthand_of-shorthand.result c.shorthand_of-shorthand.ensures) (
    then c.in_ok-begun.ensures.added (then c.in_ok-begun-2.ensures.added (then c.in_ok-begun-3.ensures.added (
    then c.in_ok-begun-4.ensures.added (done c.in_ok-print_part.ensures.added)))))

pub returns-in_err-begun : goal.returns-in_err-begun
returns-in_err-begun c = stopped c.from_residual.ensures.0 c.in_err-begun.ensures.added

pub returns-in_err-begun-2 : goal.returns-in_err-begun-2
returns-in_err-begun-2 c = stopped c.from_residual-in_err-begun-2.ensures.0 (then c.in_ok-begun.ensures.added c.in_err-begun-2.ensures.added)

pub returns-in_err-begun-3 : goal.returns-in_err-begun-3
returns-in_err-begun-3 c =
    stopped c.from_residual-in_err-begun-3.ensures.0 (then c.in_ok-begun.ensures.added (then c.in_ok-begun-2.ensures.added
    c.in_err-begun-3.ensures.added))

pub returns-in_err-begun-4 : goal.returns-in_err-begun-4
returns-in_err-begun-4 c =
    stopped c.from_residual-in_err-begun-4.ensures.0 (then c.in_ok-begun.ensures.added (then c.in_ok-begun-2.ensures.added (then
    c.in_ok-begun-3.ensures.added c.in_err-begun-4.ensures.added)))

pub returns-in_err-print_part : goal.returns-in_err-print_part
returns-in_err-print_part c =
    stopped c.from_residual-in_err-print_part.ensures.0 (then c.in_ok-begun.ensures.added (then c.in_ok-begun-2.ensures.added (then
    c.in_ok-begun-3.ensures.added (then c.in_ok-begun-4.ensures.added c.in_err-print_part.ensures.added))))
