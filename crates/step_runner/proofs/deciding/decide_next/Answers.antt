use Rattle.std.proofs.Common.{◌≡◌, ◌+◌, None, sym, ap, ◌∙◌, subst}
use Rattle.std.proofs.lemmas.Result.{on_ok_weaker}
use Rattle.spec_case.specs.Run.{Run}
use Rattle.spec_board.specs.declared.looked.Looked.{Looked}
use Rattle.spec_board.specs.declared.looked.Looked.TheVariants.{Miss}
use Rattle.spec_board.specs.Steps as steps
use Rattle.spec_board.specs.Refusals.{look_fault, settle_fault}
use Rattle.pmd_board.specs.BoardView.{BoardView, Appends, HasSettled, state_of}
use Rattle.step_runner.proofs.Frames.{is_next, look_allowed, hit_decides, hit_scheduled, settle_allowed, settled_decides_next, settled_scheduled}
use Rattle.step_runner.proofs.Progress.{next_swept, plans_one}
use Rattle.step_runner.proofs.deciding.decide_next.Goals as goal

pub look-requires-clause-may : goal.look-requires-clause-may
look-requires-clause-may g c =
    let run : Run = g.C.Case.run in
    let b : BoardView = c.args.board.now in
    let place = c.args.place in
    let at = c.keyed-at.result in
    let is = c.keyed-at.ensures.place in
    let port : at.port ≡ b.port = c.keyed-at.ensures.port ∙ c.port.ensures.same in
    let next = is_next run b c.args.block place at.port at.place c.journal.ensures.legal c.journal.ensures.lawful c.requires.swept c.requires.turn c.requires.place c.requires.in_block port is at.has_key in
    subst (λ i. look_fault run b.port (state_of run b) i ≡ None) (sym is) (look_allowed run b c.args.block place next)

pub upcall-requires-clause-may : goal.upcall-requires-clause-may
upcall-requires-clause-may g c _ _ =
    let run : Run = g.C.Case.run in
    let b : BoardView = c.args.board.now in
    let place = c.args.place in
    let at = c.keyed-at.result in
    let is = c.keyed-at.ensures.place in
    let port : at.port ≡ b.port = c.keyed-at.ensures.port ∙ c.port.ensures.same in
    let next = is_next run b c.args.block place at.port at.place c.journal.ensures.legal c.journal.ensures.lawful c.requires.swept c.requires.turn c.requires.place c.requires.in_block port is at.has_key in
    let missed : BoardView = c.look.new.board in
    let looked = subst (λ i. Appends run b (steps.Look i Miss) missed) is (subst (λ (r : Looked). Appends run b (steps.Look at.place r) missed) c.in-Miss.is c.look.ensures) in
    subst (λ i. settle_fault run (state_of run missed) i c.args.tables.now ≡ None) (sym is)
    (settle_allowed run b c.args.block place next missed looked c.args.tables.now c.requires.version)

pub returns-in-Exact : goal.returns-in-Exact
returns-in-Exact g c =
    let run : Run = g.C.Case.run in
    let b : BoardView = c.args.board.now in
    let place = c.args.place in
    let at = c.keyed-at.result in
    let is = c.keyed-at.ensures.place in
    let port : at.port ≡ b.port = c.keyed-at.ensures.port ∙ c.port.ensures.same in
    let next = is_next run b c.args.block place at.port at.place c.journal.ensures.legal c.journal.ensures.lawful c.requires.swept c.requires.turn c.requires.place c.requires.in_block port is at.has_key in
    let new : BoardView = c.look.new.board in
    let looked = subst (λ i. Appends run b (steps.Look i c.look.result) new) is c.look.ensures in
    let decides = hit_decides run b c.args.block place next c.look.result new looked c.in-Exact.is in record {
      port = record { port = ap (λ (x : BoardView). x.port) looked.appended; limit = ap (λ (x : BoardView). x.flow_limit) looked.appended };
      swept = next_swept run b.port (state_of run b) (state_of run new) c.args.block place c.requires.swept decides;
      next = decides.next ∙ ap (λ n. n + 1) c.requires.turn;
      only_plans = plans_one run b.port (state_of run b) (state_of run new) place decides.others decides.decided;
      scheduled = hit_scheduled run b c.args.block place next c.look.result new looked c.in-Exact.is c.args.tables.now;
    }

pub returns-in-Miss-clause-swept : goal.returns-in-Miss-clause-swept
returns-in-Miss-clause-swept g c =
    let run : Run = g.C.Case.run in
    let b : BoardView = c.args.board.now in
    let place = c.args.place in
    let v = c.args.tables.now in
    let at = c.keyed-at.result in
    let is = c.keyed-at.ensures.place in
    let port : at.port ≡ b.port = c.keyed-at.ensures.port ∙ c.port.ensures.same in
    let next = is_next run b c.args.block place at.port at.place c.journal.ensures.legal c.journal.ensures.lawful c.requires.swept c.requires.turn c.requires.place c.requires.in_block port is at.has_key in
    let missed : BoardView = c.look.new.board in
    let new : BoardView = c.upcall.new.board in
    let looked = subst (λ i. Appends run b (steps.Look i Miss) missed) is (subst (λ (r : Looked). Appends run b (steps.Look at.place r) missed) c.in-Miss.is c.look.ensures) in
    on_ok_weaker c.upcall.result
    (λ settles.
    let decides = settled_decides_next run b c.args.block place next missed looked v c.requires.version new (subst (λ i. HasSettled run missed i v new) is settles) in
    next_swept run b.port (state_of run b) (state_of run new) c.args.block place c.requires.swept decides)
    c.upcall.ensures

pub returns-in-Miss-clause-next : goal.returns-in-Miss-clause-next
returns-in-Miss-clause-next g c =
    let run : Run = g.C.Case.run in
    let b : BoardView = c.args.board.now in
    let place = c.args.place in
    let v = c.args.tables.now in
    let at = c.keyed-at.result in
    let is = c.keyed-at.ensures.place in
    let port : at.port ≡ b.port = c.keyed-at.ensures.port ∙ c.port.ensures.same in
    let next = is_next run b c.args.block place at.port at.place c.journal.ensures.legal c.journal.ensures.lawful c.requires.swept c.requires.turn c.requires.place c.requires.in_block port is at.has_key in
    let missed : BoardView = c.look.new.board in
    let new : BoardView = c.upcall.new.board in
    let looked = subst (λ i. Appends run b (steps.Look i Miss) missed) is (subst (λ (r : Looked). Appends run b (steps.Look at.place r) missed) c.in-Miss.is c.look.ensures) in
    on_ok_weaker c.upcall.result
    (λ settles.
    let decides = settled_decides_next run b c.args.block place next missed looked v c.requires.version new (subst (λ i. HasSettled run missed i v new) is settles) in
    decides.next ∙ ap (λ n. n + 1) c.requires.turn)
    c.upcall.ensures

pub returns-in-Miss-clause-only_plans : goal.returns-in-Miss-clause-only_plans
returns-in-Miss-clause-only_plans g c =
    let run : Run = g.C.Case.run in
    let b : BoardView = c.args.board.now in
    let place = c.args.place in
    let v = c.args.tables.now in
    let at = c.keyed-at.result in
    let is = c.keyed-at.ensures.place in
    let port : at.port ≡ b.port = c.keyed-at.ensures.port ∙ c.port.ensures.same in
    let next = is_next run b c.args.block place at.port at.place c.journal.ensures.legal c.journal.ensures.lawful c.requires.swept c.requires.turn c.requires.place c.requires.in_block port is at.has_key in
    let missed : BoardView = c.look.new.board in
    let new : BoardView = c.upcall.new.board in
    let looked = subst (λ i. Appends run b (steps.Look i Miss) missed) is (subst (λ (r : Looked). Appends run b (steps.Look at.place r) missed) c.in-Miss.is c.look.ensures) in
    on_ok_weaker c.upcall.result
    (λ settles.
    let decides = settled_decides_next run b c.args.block place next missed looked v c.requires.version new (subst (λ i. HasSettled run missed i v new) is settles) in
    plans_one run b.port (state_of run b) (state_of run new) place decides.others decides.decided)
    c.upcall.ensures

pub returns-in-Miss-clause-scheduled : goal.returns-in-Miss-clause-scheduled
returns-in-Miss-clause-scheduled g c =
    let run : Run = g.C.Case.run in
    let b : BoardView = c.args.board.now in
    let place = c.args.place in
    let v = c.args.tables.now in
    let at = c.keyed-at.result in
    let is = c.keyed-at.ensures.place in
    let port : at.port ≡ b.port = c.keyed-at.ensures.port ∙ c.port.ensures.same in
    let next = is_next run b c.args.block place at.port at.place c.journal.ensures.legal c.journal.ensures.lawful c.requires.swept c.requires.turn c.requires.place c.requires.in_block port is at.has_key in
    let missed : BoardView = c.look.new.board in
    let new : BoardView = c.upcall.new.board in
    let looked = subst (λ i. Appends run b (steps.Look i Miss) missed) is (subst (λ (r : Looked). Appends run b (steps.Look at.place r) missed) c.in-Miss.is c.look.ensures) in
    on_ok_weaker c.upcall.result
    (λ settles. settled_scheduled run b c.args.block place next missed looked v c.requires.version new (subst (λ i. HasSettled run missed i v new) is settles) c.requires.limit)
    c.upcall.ensures
