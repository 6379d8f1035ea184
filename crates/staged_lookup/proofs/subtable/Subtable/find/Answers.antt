use Rattle.std.proofs.Common.{◌∙◌, ◌==◌, sym, ap, []}
use Rattle.std.specs.List.{find}
use Rattle.std.specs.Option.{option_map, option_map_or, option_copied}
use Rattle.ovs_fields.specs.Packed.{numbers}
use Rattle.staged_lookup.specs.Counts.{ranks_in}
use Rattle.staged_lookup.specs.declared.rank.Rank.{Rank}
use Rattle.staged_lookup.proofs.RankLaws.{find_priority}
use Rattle.staged_lookup.proofs.subtable.Subtable.find.Goals as goal

pub returns-in-Some : goal.returns-in-Some
returns-in-Some c rs is =
    c.number_of_priority.ensures
    ∙ ap (λ rs. option_map (λ (k : Rank). k.number) (find (λ (k : Rank). k.priority == c.args.priority) rs)) (c.ranks.ensures ∙ ap (λ o. option_map_or ranks_in o []) c.in-Some.ensures ∙ is.ranked _)
    ∙ find_priority (numbers c.args.key.now) c.args.priority rs

pub returns-in-None : goal.returns-in-None
returns-in-None c rs is =
    ap (λ rs. option_map (λ (k : Rank). k.number) (find (λ (k : Rank). k.priority == c.args.priority) rs)) (ap (λ o. option_map_or ranks_in o []) (sym (ap option_copied c.in-None.is) ∙ c.get_exact.ensures) ∙ is.ranked _)
    ∙ find_priority (numbers c.args.key.now) c.args.priority rs
