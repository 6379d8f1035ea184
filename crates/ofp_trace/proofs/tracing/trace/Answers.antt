use Rattle.std.proofs.Common.{List, fold, sym, ap, ◌∙◌, subst}
use Rattle.std.specs.Prelude.{All}
use Rattle.spec_xlate.specs.Translation.{switch_of}
use Rattle.ovs_fields.specs.Packed.{numbers}
use Rattle.pipe_model.specs.Events.{events_of}
use Rattle.spec_tools.specs.declared.lookup.Lookup.{Lookup}
use Rattle.spec_tools.specs.Paths.{last_of}
use Rattle.ofp_trace.specs.Notes.{with_event}
use Rattle.ofp_trace.specs.Winners.{HasLiveWinner}
use Rattle.ofp_trace.proofs.LiveWinners.{path_live}
use Rattle.ofp_trace.proofs.Noted.{path-noted}
use Rattle.ofp_trace.proofs.tracing.trace.Goals as goal

pub returns-clause-path : goal.returns-clause-path
returns-clause-path c =
    let sw = switch_of c.args.tables.now.rules c.args.ports.now in
    let key = numbers c.args.key.now in
    c.into_lookups.ensures ∙ c.in_ok-ended.ensures.noted
    ∙ ap (λ (z : List Lookup). fold with_event z (events_of sw key)) c.in_ok-path.ensures ∙ path-noted sw key

pub returns-clause-last : goal.returns-clause-last
unfolding last_of
returns-clause-last c = c.in_ok-ended.ensures.last

pub returns-clause-winners : goal.returns-clause-winners
returns-clause-winners c =
    let rules = c.args.tables.now.rules in
    subst (λ (z : List Lookup). All (HasLiveWinner rules) z) (sym (returns-clause-path c)) (path_live rules c.args.ports.now c.requires (numbers c.args.key.now))
