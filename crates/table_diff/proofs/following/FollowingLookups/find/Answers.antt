use Rattle.std.proofs.Common.{ℕ, List, ap, ◌∙◌}
use Rattle.spec_tables.specs.Rules.{rules_in}
use Rattle.dump_lines.specs.Live.{live_in}
use Rattle.ovs_fields.specs.Packed.{numbers}
use Rattle.table_diff.specs.Deciding.{tells_winner}
use Rattle.table_diff.specs.Following.{looked}
use Rattle.table_diff.specs.Paths.{path_view}
use Rattle.table_diff.proofs.following.FollowingLookups.find.Goals as goal

pub returns-clause-noted : goal.returns-clause-noted
returns-clause-noted c =
    let path = path_view c.args.path.now in
    let rules = rules_in c.args.table (live_in c.args.self.now.rules.now) in
    c.look.ensures
    ∙ ap (looked path) (c.tells_winner-told.ensures ∙ ap (λ (m : List ℕ). tells_winner m rules (numbers c.args.key.now)) c.known.ensures)
