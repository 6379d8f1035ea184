use Rattle.std.proofs.Common.{fold, ap, ◌∙◌}
use Rattle.spec_xlate.specs.Translation.{State, look, last_state, pipe, translation_of}
use Rattle.pipe_model.specs.Events.{look_events, events_of}
use Rattle.pipe_model.proofs.interpreter.run_through.Goals as goal

pub returns-clause-translation : goal.returns-clause-translation
unfolding pipe last_state
returns-clause-translation g c =
    c.finish.ensures ∙ ap translation_of (c.in_ok-look.ensures.state ∙ ap (look (g.L.Lookups.switch c.args.sw.now) 65 0) c.start-state.ensures)

pub returns-clause-last : goal.returns-clause-last
unfolding last_state
returns-clause-last g c =
    c.current-last.ensures ∙ ap (λ (s : State). s.current) (c.in_ok-look.ensures.state ∙ ap (look (g.L.Lookups.switch c.args.sw.now) 65 0) c.start-state.ensures)

pub returns-clause-noted : goal.returns-clause-noted
unfolding events_of
returns-clause-noted g c =
    c.in_ok-look.ensures.noted
    ∙ ap (λ (s : State). fold g.L.Lookups.after (g.L.Lookups.noted c.args.notes.now) (look_events (g.L.Lookups.switch c.args.sw.now) 65 0 s)) c.start-state.ensures
