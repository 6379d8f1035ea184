use Rattle.std.proofs.Common.{arith, None, ◌≡◌, ◌^◌, ◌<◌, max, refl, sym, ap, ◌∙◌, subst}
use Rattle.spec_case.specs.Run.{Run, frame_at}
use Rattle.spec_board.specs.State as states
use Rattle.spec_board.specs.Steps as steps
use Rattle.spec_board.specs.Results.{entry_of, key_at}
use Rattle.spec_board.specs.Effects.{advanced, decided_by}
use Rattle.spec_board.specs.Refusals.{look_fault}
use Rattle.spec_board.specs.Journals.{Legal}
use Rattle.board_steps.specs.declared.step.Step.TheVariants as rust
use Rattle.board_steps.specs.StepViews.{steps_view}
use Rattle.ovs_fields.specs.Packed.{numbers}
use Rattle.exact_cache.specs.SameSlots.{AreSameSlots}
use Rattle.port_caches.specs.Views.{Caches, IsHeld, KeepsHeld}
use Rattle.pmd_board.specs.declared.place.Place.TheVariants as rust_place
use Rattle.pmd_board.specs.BoardView.{BoardView, state_of}
use Rattle.pmd_board.specs.Fields.{view_of}
use Rattle.pmd_board.specs.Remembered.{slots_after}
use Rattle.pmd_board.proofs.Caches.{can_hit, found_live, hit_is, hit_state, recast, remembered}
use Rattle.pmd_board.proofs.LookedUp.{few_frames, found_there, hit_places, look_ready, looked_room, turn_of}
use Rattle.pmd_board.proofs.Pushed.{appends, key_looked_up, pushed_as}
use Rattle.pmd_board.proofs.board.Board.hit.Goals as goal

pub hit-hit-requires : goal.hit-hit-requires
hit-hit-requires g c =
    let b = c.self.inside in
    let run : Run = g.C.Case.run in
    let k = c.self.invariant in
    let s : states.State = state_of run (view_of b) in
    let at = c.args.at.now in
    let port : at.port ≡ b.port = c.requires.port ∙ ap (λ (x : BoardView). x.port) (sym c.self.view_is) in
    let found = found_there run b c.args.self.now at.port at.place _ c.args.found c.self.view_is at.key_is c.requires.port c.requires.found in
    let few : s.next < 2 ^ 32 = (let f = few_frames run b k in omega (arith, f, k.lawful.next_within)) in
    can_hit run b.port b.caches.limit (steps_view b.journal.items) b.caches c.args.number at.length at.place k.legal k.room.short k.caches.caches few
    (rw (← port) at.length_is)
    (found_live run b.port b.caches.limit (steps_view b.journal.items) k.legal (key_at run b.port at.place) c.args.found c.args.number c.requires.number found)

pub invariant_of-self : goal.invariant_of-self
invariant_of-self g c =
    let b = c.self.inside in
    let run : Run = g.C.Case.run in
    let k = c.self.invariant in
    let s : states.State = state_of run (view_of b) in
    let at = c.args.at.now in
    let number = c.args.number in
    let r = c.args.found in
    let port : at.port ≡ b.port = c.requires.port ∙ ap (λ (x : BoardView). x.port) (sym c.self.view_is) in
    let may : look_fault run b.port s at.place ≡ None =
    subst (λ (x : BoardView). look_fault run x.port (state_of run x) at.place ≡ None) (sym c.self.view_is) c.requires.may in
    let found = found_there run b c.args.self.now at.port at.place _ r c.self.view_is at.key_is c.requires.port c.requires.found in
    let legal : Legal run b.port b.caches.limit s (steps.Look at.place r) = (may, sym found) in
    let turn = turn_of run b at.place k may (rw (← port) at.has_place) in
    let keys = key_looked_up run b.port s.next k.has_keys at.place turn.turn (rw (← port) at.has_key) in
    let frame = frame_at run b.port at.place in
    let time : at.time ≡ frame.time = rw (← port) at.time_is in
    let live = found_live run b.port b.caches.limit (steps_view b.journal.items) k.legal (key_at run b.port at.place) r number c.requires.number found in
    let hit = c.hit-hit.ensures in
    let decided = hit.decided live.0 (ap (λ es. entry_of number es) (sym k.caches.caches.entries) ∙ live.1) in
    let key : numbers c.args.key.key.now ≡ key_at run b.port at.place = ap numbers c.requires.key ∙ at.key_is ∙ ap (λ q. key_at run q at.place) port in
    let rest = c.remember.ensures.rest in
    let caches_hit = hit.effect (advanced frame s) at.place frame (record { length_is = rw (← port) at.length_is; time_is = time })
    (recast b.caches s (advanced frame s) refl refl refl (λ rule. refl) k.caches.caches) in
    let caches = remembered c.hit-hit.new.self c.remember.new.caches (decided_by number at.place frame (advanced frame s)) (key_at run b.port at.place) r caches_hit rest
    (subst (λ y. AreSameSlots c.remember.new.caches.slots (slots_after r y c.hit-hit.new.self.slots)) key c.remember.ensures.slots) in
    let limit = ap (λ (x : Caches). x.limit) rest ∙ hit.same.limit in
    let lists : c.hit-hit.new.self.lists ≡ c.remember.new.caches.lists = sym (ap (λ (x : Caches). x.lists) rest) in
    let keeps = subst (KeepsHeld b.caches.lists) lists hit.same.held in
    let held = subst (λ l. IsHeld l c.hit-hit.result.list live.0.actions) lists decided.1 in
    let push = c.push_reserved.ensures in
    pushed_as run b _ (rust.Look at.place r) (hit_state run b.port at.place number r s) (hit_is run b.port at.place number r s c.requires.number) k
    (record { port = refl; limit = limit; items = push.items }) refl legal keys
    (record {
      block = k.versions.block;
      newest = k.versions.newest;
      floor = k.versions.floor;
      done = k.versions.done;
      is_sweeping = k.versions.is_sweeping;
    })
    (hit_places run b _ at.place number c.hit-hit.result.version c.hit-hit.result.list frame live.0 (slots_after r (key_at run b.port at.place) s.slots) k turn
    (record { next = refl; places = refl; count = refl; blocks = refl; block = refl; sweeping = refl; listed = refl; limit = limit; room = ap (λ (x : Caches). x.room) rest ∙ hit.room; len = push.len; capacity = push.capacity; port = refl }) live.1 keeps decided.0 held
    (c.max-self-inside.ensures ∙ ap (max b.clock) time) refl)
    (record {
      caches = caches;
      listed = k.caches.listed;
      rules = ap (λ (x : Caches). x.rules) rest ∙ hit.same.rules ∙ k.caches.rules;
      made = (let m = sym caches.made ∙ k.caches.caches.made in omega (arith, m, k.caches.made));
    })
    (looked_room run b _ at.place (rust_place.Decided c.hit-hit.result.version c.hit-hit.result.list) k turn
    (record { next = refl; places = refl; count = refl; blocks = refl; block = refl; sweeping = refl; listed = refl; limit = limit; room = ap (λ (x : Caches). x.room) rest ∙ hit.room; len = push.len; capacity = push.capacity; port = refl }))

pub returns : goal.returns
returns g c =
    let b = c.self.inside in
    let run : Run = g.C.Case.run in
    let at = c.args.at.now in
    let may = subst (λ (x : BoardView). look_fault run x.port (state_of run x) at.place ≡ None) (sym c.self.view_is) c.requires.may in
    let found = found_there run b c.args.self.now at.port at.place _ c.args.found c.self.view_is at.key_is c.requires.port c.requires.found in
    appends run b (rust.Look at.place c.args.found) c.args.self.now _ _ _ c.self.view_is refl
    (ap (λ (x : Caches). x.limit) c.remember.ensures.rest ∙ c.hit-hit.ensures.same.limit)
    c.push_reserved.ensures.items (may, sym found)

pub overflow_add-self : goal.overflow_add-self
overflow_add-self g c =
    let ready = look_ready g.C.Case.run c.self.inside c.args.self.now c.args.at.now.port c.args.at.now.place c.self.invariant c.self.view_is c.requires.port c.requires.may c.args.at.now.has_place in
    omega (arith, ready.next)

pub overflow_sub-at : goal.overflow_sub-at
overflow_sub-at g c = c.args.at.now.has_place.0

pub index_mut-requires : goal.index_mut-requires
index_mut-requires g c = (look_ready g.C.Case.run c.self.inside c.args.self.now c.args.at.now.port c.args.at.now.place c.self.invariant c.self.view_is c.requires.port c.requires.may c.args.at.now.has_place).index

pub push_reserved-requires : goal.push_reserved-requires
push_reserved-requires g c = (look_ready g.C.Case.run c.self.inside c.args.self.now c.args.at.now.port c.args.at.now.place c.self.invariant c.self.view_is c.requires.port c.requires.may c.args.at.now.has_place).room
