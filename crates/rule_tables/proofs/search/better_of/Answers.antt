use Rattle.std.proofs.Common.{Some, sym, ap, ◌∙◌}
use Rattle.std.proofs.lemmas.Bool.{cond-true, cond-false}
use Rattle.std.specs.Option.{option_map}
use Rattle.spec_tables.specs.Rules.{better}
use Rattle.rule_tables.specs.Stored.{stored_in}
use Rattle.rule_tables.proofs.search.better_of.Goals as goal

pub returns-then-is_beaten_by : goal.returns-then-is_beaten_by
returns-then-is_beaten_by c made v =
    ap (λ o. better (stored_in made v c.args.rule.now) (option_map (λ s. stored_in made v s.now) o)) c.in-Some.is
    ∙ cond-true _ (Some (stored_in made v c.in-Some.other.now)) (Some (stored_in made v c.args.rule.now)) (sym (c.is_beaten_by.ensures made v) ∙ c.if-is_beaten_by.true)

pub returns-else-is_beaten_by : goal.returns-else-is_beaten_by
returns-else-is_beaten_by c made v =
    ap (λ o. better (stored_in made v c.args.rule.now) (option_map (λ s. stored_in made v s.now) o)) c.in-Some.is
    ∙ cond-false _ (Some (stored_in made v c.in-Some.other.now)) (Some (stored_in made v c.args.rule.now)) (sym (c.is_beaten_by.ensures made v) ∙ c.if-is_beaten_by.false)
