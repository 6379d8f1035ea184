use Rattle.std.proofs.Common.{◌≡◌, ◌+◌, ◌∷◌, length, drop, sym, ap, ◌∙◌, arith}
use Rattle.spec_flow_text.specs.Items.{Word}
use Rattle.field_text.specs.WordViews.{word_view}
use Rattle.action_text.specs.ItemStarts.{items_in}
use Rattle.action_text.proofs.ItemLists.{cut, cut_shorter}
use Rattle.action_text.proofs.items.cut_item.Goals as goal

pub returns-clause-items : goal.returns-clause-items
returns-clause-items c =
    cut c.args.word.at c.in_ok-end.end.count c.args.word.text.now c.requires.some (c.requires.begins c.requires.some) c.in_ok-end.ensures.count c.in_ok-end.ensures.within
    ∙ ap (λ (w : Word). w ∷ items_in (record { at = c.args.word.at + c.in_ok-end.end.count; text = drop c.in_ok-end.end.count c.args.word.text.now })) (sym c.first.ensures)
    ∙ ap (λ ws. word_view c.first.result ∷ ws) (sym (c.after_separators.ensures.items ∙ ap items_in c.skipping.ensures))

pub returns-clause-shorter : goal.returns-clause-shorter
returns-clause-shorter c =
    let cut_off = cut_shorter c.in_ok-end.end.count c.args.word.text.now c.requires.some (c.requires.begins c.requires.some) c.in_ok-end.ensures.count c.in_ok-end.ensures.within in
    let rest : length c.skipping.result.text.now ≡ length (drop c.in_ok-end.end.count c.args.word.text.now) = ap (λ (w : Word). length w.text) c.skipping.ensures in
    omega (arith, cut_off, rest, c.after_separators.ensures.within)
