use Rattle.std.proofs.Common.{◌≡◌, fold, sym, ap, ◌∙◌}
use Rattle.spec_xlate.specs.Translation.{switch_of}
use Rattle.dump_lines.specs.Live.{live_in}
use Rattle.pipe_model.specs.Events.{events_of}
use Rattle.ovs_fields.specs.Packed.{numbers}
use Rattle.table_diff.specs.Following.{Path, followed, sent_bits}
use Rattle.table_diff.proofs.following.follow_path.Goals as goal

pub returns-clause-actions : goal.returns-clause-actions
returns-clause-actions c =
    let events = events_of (switch_of (live_in c.args.rules.now) c.args.ports.now) (numbers c.args.key.now) in
    c.finish.ensures.actions ∙ ap (λ (p : Path). p.actions) (c.in_ok-_made.ensures.noted ∙ ap (λ (p : Path). fold followed p events) c.in_ok-path.ensures)

pub returns-clause-fine : goal.returns-clause-fine
returns-clause-fine c =
    let events = events_of (switch_of (live_in c.args.rules.now) c.args.ports.now) (numbers c.args.key.now) in
    c.finish.ensures.fine ∙ ap (λ (p : Path). p.fine) (c.in_ok-_made.ensures.noted ∙ ap (λ (p : Path). fold followed p events) c.in_ok-path.ensures)

pub returns-clause-sent : goal.returns-clause-sent
returns-clause-sent c =
    let events = events_of (switch_of (live_in c.args.rules.now) c.args.ports.now) (numbers c.args.key.now) in
    c.finish.ensures.sent ∙ ap sent_bits (c.in_ok-_made.ensures.noted ∙ ap (λ (p : Path). fold followed p events) c.in_ok-path.ensures)
