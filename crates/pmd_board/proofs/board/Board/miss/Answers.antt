use Rattle.std.proofs.Common.{arith, None, ◌≡◌, ◌-◌, refl, sym, ap, ◌∙◌, subst}
use Rattle.std.proofs.lemmas.List.{map-set}
use Rattle.std.proofs.lemmas.List.Elements.{All-set}
use Rattle.spec_case.specs.Run.{Run, frame_at}
use Rattle.spec_board.specs.declared.looked.Looked.TheVariants.{Miss}
use Rattle.spec_board.specs.State as states
use Rattle.spec_board.specs.Steps as steps
use Rattle.spec_board.specs.Refusals.{look_fault}
use Rattle.spec_board.specs.Journals.{Legal}
use Rattle.board_laws.proofs.PlaceLaws.{pending_written}
use Rattle.board_steps.specs.declared.step.Step.TheVariants as rust
use Rattle.pmd_board.specs.declared.place.Place.TheVariants as rust_place
use Rattle.pmd_board.specs.BoardView.{BoardView, state_of}
use Rattle.pmd_board.specs.Fields.{view_of, place_view, NamesList}
use Rattle.pmd_board.proofs.Caches.{recast}
use Rattle.pmd_board.proofs.LookedUp.{found_there, look_ready, looked_room, turn_of}
use Rattle.pmd_board.proofs.Pushed.{appends, key_looked_up, pushed}
use Rattle.pmd_board.proofs.board.Board.miss.Goals as goal

pub invariant_of-self : goal.invariant_of-self
invariant_of-self g c =
    let b = c.self.inside in
    let run : Run = g.C.Case.run in
    let k = c.self.invariant in
    let s : states.State = state_of run (view_of b) in
    let at = c.args.at.now in
    let port : at.port ≡ b.port = c.requires.port ∙ ap (λ (x : BoardView). x.port) (sym c.self.view_is) in
    let may : look_fault run b.port s at.place ≡ None =
    subst (λ (x : BoardView). look_fault run x.port (state_of run x) at.place ≡ None) (sym c.self.view_is) c.requires.may in
    let missed = found_there run b c.args.self.now at.port at.place _ Miss c.self.view_is at.key_is c.requires.port c.requires.missed in
    let legal : Legal run b.port b.caches.limit s (steps.Look at.place Miss) = (may, sym missed) in
    let turn = turn_of run b at.place k may (rw (← port) at.has_place) in
    let keys = key_looked_up run b.port s.next k.has_keys at.place turn.turn (rw (← port) at.has_key) in
    let time : at.time ≡ (frame_at run b.port at.place).time = rw (← port) at.time_is in
    let push = c.push_reserved.ensures in
    pushed run b _ (rust.Look at.place Miss) k (record { port = refl; limit = refl; items = push.items }) refl legal keys
    (record {
      block = k.versions.block;
      newest = k.versions.newest;
      floor = k.versions.floor;
      done = k.versions.done;
      is_sweeping = k.versions.is_sweeping;
    })
    (record {
      next = omega (arith, k.places.next);
      clock = rw (k.places.clock, ← time) (sym c.max-self-inside.ensures);
      pending = omega (arith, pending_written s.places at.place turn.first turn.last turn.waits, k.places.pending);
      views = rw k.places.views (sym (map-set (place_view b.caches.lists) b.places.items (at.place - 1) rust_place.Pending));
      named = All-set (NamesList b.caches.lists) b.places.items (at.place - 1) rust_place.Pending tt k.places.named;
    })
    (record {
      caches = recast b.caches s _ refl refl refl (λ rule. refl) k.caches.caches;
      listed = k.caches.listed;
      rules = k.caches.rules;
      made = omega (arith, k.caches.made);
    })
    (looked_room run b _ at.place rust_place.Pending k turn
    (record {
      next = refl;
      places = refl;
      count = refl;
      blocks = refl;
      block = refl;
      sweeping = refl;
      listed = refl;
      limit = refl;
      room = refl;
      len = push.len;
      capacity = push.capacity;
      port = refl;
    }))

pub returns : goal.returns
returns g c =
    let b = c.self.inside in
    let run : Run = g.C.Case.run in
    let at = c.args.at.now in
    let may = subst (λ (x : BoardView). look_fault run x.port (state_of run x) at.place ≡ None) (sym c.self.view_is) c.requires.may in
    let missed = found_there run b c.args.self.now at.port at.place _ Miss c.self.view_is at.key_is c.requires.port c.requires.missed in
    appends run b (rust.Look at.place Miss) c.args.self.now _ _ _ c.self.view_is refl refl c.push_reserved.ensures.items
    (may, sym missed)

pub overflow_add-self : goal.overflow_add-self
overflow_add-self g c =
    let ready = look_ready g.C.Case.run c.self.inside c.args.self.now c.args.at.now.port c.args.at.now.place c.self.invariant c.self.view_is c.requires.port c.requires.may c.args.at.now.has_place in
    omega (arith, ready.next)

pub overflow_add-self-2 : goal.overflow_add-self-2
overflow_add-self-2 g c =
    let ready = look_ready g.C.Case.run c.self.inside c.args.self.now c.args.at.now.port c.args.at.now.place c.self.invariant c.self.view_is c.requires.port c.requires.may c.args.at.now.has_place in
    omega (arith, ready.pending)

pub overflow_sub-at : goal.overflow_sub-at
overflow_sub-at g c = c.args.at.now.has_place.0

pub index_mut-requires : goal.index_mut-requires
index_mut-requires g c = (look_ready g.C.Case.run c.self.inside c.args.self.now c.args.at.now.port c.args.at.now.place c.self.invariant c.self.view_is c.requires.port c.requires.may c.args.at.now.has_place).index

pub push_reserved-requires : goal.push_reserved-requires
push_reserved-requires g c = (look_ready g.C.Case.run c.self.inside c.args.self.now c.args.at.now.port c.args.at.now.place c.self.invariant c.self.view_is c.requires.port c.requires.may c.args.at.now.has_place).room
