use Rattle.std.proofs.Common.{◌∙◌, ℕ, List, [], refl, sym, ap, subst}
use Rattle.std.specs.Option.{option_map_or}
use Rattle.spec_run.specs.Rules.{rule_line_with}
use Rattle.text_numbers.specs.Added.{Adds}
use Rattle.dump_lines.proofs.rules.Added.{live_as, live_is, live_is_sound}
use Rattle.dump_lines.proofs.rules.live.push_live.Goals as goal

pub push_rule-requires : goal.push_rule-requires
push_rule-requires c =
    live_is_sound c.args.rules.now c.requires.of_edits c.args.number c.requires.live c.in-Some.rule.now c.in-Some.ensures.some
    c.version-version.result c.version-version.ensures c.actions.result.now c.actions.ensures

pub unreachable-requires : goal.unreachable-requires
unreachable-requires c =
    let none = c.in-None.ensures.none.0 refl in
    let l = live_as c.args.rules.now c.requires.of_edits c.args.number c.requires.live in
    let clash = sym none ∙ l.was in
    cc

pub returns : goal.returns
returns c =
    let T : List ℕ → Type 0 = λ text. Adds c.args.line.now c.push_rule.new.line text c.push_rule.result in
    let rule =
    live_is c.args.rules.now c.requires.of_edits c.args.number c.requires.live c.in-Some.rule.now c.in-Some.ensures.some
    c.version-version.result c.version-version.ensures c.actions.result.now c.actions.ensures c.cookie.result c.cookie.ensures in
    subst T (sym (ap (λ o. option_map_or (rule_line_with c.args.counts) o []) rule)) c.push_rule.ensures
