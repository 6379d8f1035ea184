use Rattle.std.proofs.Common.{◌≡◌, drop, fold, ◌+◌, ◌*◌}
use Rattle.spec_xlate.specs.Translation.{run, look}
use Rattle.pipe_model.specs.Events.{run_events, look_events}
use Rattle.pipe_model.specs.States.{state_of}
use Rattle.pipe_model.proofs.interpreter.+look.Given as goal

abbrev pub decreases-act : goal.decreases-act
decreases-act g l = 3 * l.depths + 1

abbrev pub decreases-run : goal.decreases-run
decreases-run g l = 3 * l.depths + 2

abbrev pub decreases-look : goal.decreases-look
decreases-look g l = 3 * l.depths

-- what is left of the list leads where the whole list leads, and adds to the notes what the whole list has left
abbrev pub invariant-run-actions : goal.invariant-run-actions
invariant-run-actions g l =
    let sw = g.L.Lookups.switch l.sw in
    let after = g.L.Lookups.after in
    let noted = g.L.Lookups.noted in record {
      state : run sw (look sw l.depths) (drop l.action-index l.actions) (state_of l.state) ≡ run sw (look sw l.depths) l.actions (state_of l.fn.state);
      noted : fold after (noted l.notes) (run_events sw (look sw l.depths) (look_events sw l.depths) (drop l.action-index l.actions) (state_of l.state))
          ≡ fold after (noted l.fn.notes) (run_events sw (look sw l.depths) (look_events sw l.depths) l.actions (state_of l.fn.state));
    }
