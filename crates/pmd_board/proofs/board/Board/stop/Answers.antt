use Rattle.std.proofs.Common.{arith, None, vec_capacity, vec_len, ◌≡◌, ◌+◌, ◌≤◌, Bool, true, length, refl, sym, ◌∙◌, subst}
use Rattle.spec_case.specs.Run.{Run}
use Rattle.spec_case.specs.Blocks.{last_block}
use Rattle.spec_board.specs.State.{State}
use Rattle.spec_board.specs.Refusals.{end_fault}
use Rattle.board_laws.proofs.Refusals.{may_end}
use Rattle.board_steps.specs.declared.step.Step.TheVariants as rust
use Rattle.pmd_board.specs.BoardView.{BoardView, state_of}
use Rattle.pmd_board.specs.Fields.{view_of, steps_left}
use Rattle.pmd_board.proofs.Caches.{recast}
use Rattle.pmd_board.proofs.Pushed.{appends, pushed}
use Rattle.pmd_board.proofs.board.Board.stop.Goals as goal

pub invariant_of-self : goal.invariant_of-self
invariant_of-self g c =
    let b = c.self.inside in
    let run : Run = g.C.Case.run in
    let k = c.self.invariant in
    let s : State = state_of run (view_of b) in
    let may : end_fault s ≡ None = subst (λ (x : BoardView). end_fault (state_of run x) ≡ None) (sym c.self.view_is) c.requires in
    let sweeps : b.sweeping ≡ true = sym k.versions.is_sweeping ∙ (may_end s may).0 in
    let push = c.push_reserved.ensures in
    let Room = λ (t : Bool).
    vec_len b.journal + steps_left (vec_len b.places) b.next (last_block run) b.block t (length b.listed) ≤ vec_capacity b.journal in
    let room : Room true = subst Room sweeps k.room.steps in
    pushed run b _ rust.End k (record { port = refl; limit = refl; items = push.items }) refl may k.has_keys
    (record { block = k.versions.block; newest = k.versions.newest; floor = k.versions.floor; done = k.versions.floor; is_sweeping = refl })
    (record { next = k.places.next; clock = k.places.clock; pending = k.places.pending; views = k.places.views; named = k.places.named })
    (record {
      caches = recast b.caches s _ refl refl refl (λ rule. refl) k.caches.caches;
      listed = k.caches.listed;
      rules = k.caches.rules;
      made = k.caches.made;
    })
    (record {
      few_places = k.room.few_places;
      few_blocks = k.room.few_blocks;
      few_entries = k.room.few_entries;
      few_listed = k.room.few_listed;
      places = k.room.places;
      short = k.room.short;
      lists = k.room.lists;
      steps = omega (arith, push.len, push.capacity, room);
    })

pub push_reserved-requires : goal.push_reserved-requires
push_reserved-requires g c =
    let b = c.self.inside in
    let run : Run = g.C.Case.run in
    let k = c.self.invariant in
    let s : State = state_of run (view_of b) in
    let may : end_fault s ≡ None = subst (λ (x : BoardView). end_fault (state_of run x) ≡ None) (sym c.self.view_is) c.requires in
    let sweeps : b.sweeping ≡ true = sym k.versions.is_sweeping ∙ (may_end s may).0 in
    let Room = λ (t : Bool).
    vec_len b.journal + steps_left (vec_len b.places) b.next (last_block run) b.block t (length b.listed) ≤ vec_capacity b.journal in
    let room : Room true = subst Room sweeps k.room.steps in
    omega (arith, room)

pub returns : goal.returns
returns g c =
    let run : Run = g.C.Case.run in
    let may = subst (λ (x : BoardView). end_fault (state_of run x) ≡ None) (sym c.self.view_is) c.requires in
    appends run c.self.inside rust.End c.args.self.now _ _ _ c.self.view_is refl refl c.push_reserved.ensures.items may
