use Rattle.std.proofs.Common.{not, sym, ap, ◌∙◌}
use Rattle.spec_tables.specs.Live.{is_live}
use Rattle.rule_tables.specs.History.{rules_of}
use Rattle.dump_lines.proofs.rules.Added.{not_gone}
use Rattle.dump_lines.proofs.rules.live.is_gone.Goals as goal

pub returns-else-not-live : goal.returns-else-not-live
returns-else-not-live c =
    let live = c.live.ensures ∙ ap (λ v. is_live c.args.number (rules_of c.args.rules.now v)) c.version.ensures in
    ap not c.if-not-live.false ∙ not_gone c.args.rules.now c.requires c.args.number (sym live ∙ c.if-not-live.false)
