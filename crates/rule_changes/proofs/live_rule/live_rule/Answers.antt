use Rattle.std.proofs.Common.{◌≡◌, ℕ, refl, sym, ap, ◌∙◌, true, false}
use Rattle.spec_tables.specs.Live.{is_live}
use Rattle.rule_tables.specs.History.{rules_of}
use Rattle.dump_lines.specs.Live.{live_in}
use Rattle.dump_lines.proofs.rules.Added.{live_as}
use Rattle.rule_changes.proofs.NumberLaws.{not_found, made_live}
use Rattle.rule_changes.proofs.live_rule.live_rule.Goals as goal

pub returns-then-not-live-clause-none : goal.returns-then-not-live-clause-none
returns-then-not-live-clause-none c =
    let dead : is_live c.args.number (live_in c.args.rules.now) ≡ false =
    ap (λ (v : ℕ). is_live c.args.number (rules_of c.args.rules.now v)) (sym c.version-version.ensures) ∙ sym c.live.ensures ∙ c.if-not-live.true in
    not_found c.args.number (live_in c.args.rules.now) dead

pub unreachable-requires : goal.unreachable-requires
unreachable-requires c =
    let live : is_live c.args.number (live_in c.args.rules.now) ≡ true =
    ap (λ (v : ℕ). is_live c.args.number (rules_of c.args.rules.now v)) (sym c.version-version.ensures) ∙ sym c.live.ensures ∙ c.if-not-live.false in
    let none = c.in-None.ensures.none.0 refl in
    let l = live_as c.args.rules.now c.requires c.args.number live in
    let clash = sym none ∙ l.was in
    cc

pub returns-clause-some : goal.returns-clause-some
returns-clause-some c =
    let live : is_live c.args.number (live_in c.args.rules.now) ≡ true =
    ap (λ (v : ℕ). is_live c.args.number (rules_of c.args.rules.now v)) (sym c.version-version.ensures) ∙ sym c.live.ensures ∙ c.if-not-live.false in
    made_live c.args.rules.now c.requires c.args.number live c.in-Some.rule.now c.in-Some.ensures.some c.version-version.result c.version-version.ensures
    c.actions.result.now c.actions.ensures
