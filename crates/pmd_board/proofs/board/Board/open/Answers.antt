use Rattle.std.proofs.Common.{arith, None, ◌≡◌, refl, sym, subst}
use Rattle.spec_case.specs.Run.{Run}
use Rattle.spec_board.specs.State.{State}
use Rattle.spec_board.specs.Refusals.{open_fault}
use Rattle.board_laws.proofs.Refusals.{MayOpen, may_open}
use Rattle.board_steps.specs.declared.step.Step.TheVariants as rust
use Rattle.pmd_board.specs.BoardView.{BoardView, state_of}
use Rattle.pmd_board.specs.Fields.{view_of}
use Rattle.pmd_board.proofs.Caches.{recast}
use Rattle.pmd_board.proofs.Pushed.{appends, pushed}
use Rattle.pmd_board.proofs.board.Board.open.Goals as goal

pub invariant_of-self : goal.invariant_of-self
invariant_of-self g c =
    let b = c.self.inside in
    let run : Run = g.C.Case.run in
    let k = c.self.invariant in
    let s : State = state_of run (view_of b) in
    let may : open_fault run b.port s c.args.block ≡ None =
    subst (λ (x : BoardView). open_fault run x.port (state_of run x) c.args.block ≡ None) (sym c.self.view_is) c.requires in
    let m : MayOpen run b.port s c.args.block = may_open run b.port s c.args.block may in
    let push = c.push_reserved.ensures in
    pushed run b _ (rust.Open c.args.block) k (record { port = refl; limit = refl; items = push.items }) refl may k.has_keys
    (record { block = refl; newest = k.versions.newest; floor = k.versions.floor; done = k.versions.done; is_sweeping = k.versions.is_sweeping })
    (record { next = k.places.next; clock = k.places.clock; pending = k.places.pending; views = k.places.views; named = k.places.named })
    (record {
      caches = recast b.caches s _ refl refl refl (λ rule. refl) k.caches.caches;
      listed = k.caches.listed;
      rules = k.caches.rules;
      made = k.caches.made;
    })
    (record {
      few_places = k.room.few_places;
      few_blocks = k.room.few_blocks;
      few_entries = k.room.few_entries;
      few_listed = k.room.few_listed;
      places = k.room.places;
      short = k.room.short;
      lists = k.room.lists;
      steps = omega (arith, push.len, push.capacity, k.room.steps, m.next, m.there, k.versions.block);
    })

pub push_reserved-requires : goal.push_reserved-requires
push_reserved-requires g c =
    let b = c.self.inside in
    let run : Run = g.C.Case.run in
    let k = c.self.invariant in
    let s : State = state_of run (view_of b) in
    let may : open_fault run b.port s c.args.block ≡ None =
    subst (λ (x : BoardView). open_fault run x.port (state_of run x) c.args.block ≡ None) (sym c.self.view_is) c.requires in
    let m : MayOpen run b.port s c.args.block = may_open run b.port s c.args.block may in
    omega (arith, k.room.steps, m.next, m.there, k.versions.block)

pub returns : goal.returns
returns g c =
    let run : Run = g.C.Case.run in
    let may = subst (λ (x : BoardView). open_fault run x.port (state_of run x) c.args.block ≡ None) (sym c.self.view_is) c.requires in
    appends run c.self.inside (rust.Open c.args.block) c.args.self.now _ _ _ c.self.view_is refl refl c.push_reserved.ensures.items may
