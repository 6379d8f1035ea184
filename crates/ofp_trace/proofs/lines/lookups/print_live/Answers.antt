use Rattle.std.proofs.Common.{◌≡◌, ◌∙◌, ℕ, List, refl, sym, ap, subst}
use Rattle.spec_tools.specs.TraceTexts.{winner_text}
use Rattle.text_numbers.specs.Added.{Adds}
use Rattle.dump_lines.proofs.rules.Added.{live_as, live_is, live_is_sound}
use Rattle.ofp_trace.proofs.lines.lookups.print_live.Goals as goal

pub print_rule-requires : goal.print_rule-requires
print_rule-requires c =
    live_is_sound c.args.rules.now c.requires.of_edits c.args.number c.requires.live c.in-Some.rule.now c.in-Some.ensures.some
    c.version-version.result c.version-version.ensures c.actions.result.now c.actions.ensures

pub unreachable-requires : goal.unreachable-requires
unreachable-requires c =
    let none = c.in-None.ensures.none.0 refl in
    let l = live_as c.args.rules.now c.requires.of_edits c.args.number c.requires.live in
    let clash = sym none ∙ l.was in
    cc

pub returns : goal.returns
returns c =
    let T : List ℕ → Type 0 = λ text. Adds c.args.out.now c.print_rule.new.out text c.print_rule.result in
    let rule =
    live_is c.args.rules.now c.requires.of_edits c.args.number c.requires.live c.in-Some.rule.now c.in-Some.ensures.some
    c.version-version.result c.version-version.ensures c.actions.result.now c.actions.ensures c.cookie.result c.cookie.ensures in
    subst T (sym (ap winner_text rule)) c.print_rule.ensures
