use Rattle.std.proofs.Common.{arith, None, ◌≡◌, ◌-◌, ◌+◌, ◌≤◌, ◌++◌, ◌∷◌, [], length, length-set, max, vec_len, refl, sym, ap, ◌∙◌, subst}
use Rattle.spec_xlate.specs.Translation.{Translation}
use Rattle.spec_case.specs.Run.{Run, frames_of}
use Rattle.spec_case.specs.Blocks.{last_block}
use Rattle.spec_board.specs.State as states
use Rattle.spec_board.specs.Steps as steps
use Rattle.spec_board.specs.Results.{key_at, mask_for, translated}
use Rattle.spec_board.specs.Effects.{effect}
use Rattle.spec_board.specs.Refusals.{settle_fault}
use Rattle.spec_board.specs.Journals.{Legal}
use Rattle.board_laws.specs.Entries.{HasKeys}
use Rattle.board_laws.proofs.Refusals.{may_settle}
use Rattle.board_laws.proofs.PlaceLaws.{decided_written}
use Rattle.ovs_fields.specs.Packed.{bits, numbers}
use Rattle.pipe_model.specs.Plains.{translation_in}
use Rattle.board_steps.specs.declared.step.Step.TheVariants as rust
use Rattle.board_steps.specs.StepViews.{settled_view, steps_view}
use Rattle.port_caches.specs.Views.{IsHeld}
use Rattle.pmd_board.specs.declared.place.Place.TheVariants as rust_place
use Rattle.pmd_board.specs.BoardView.{BoardView, state_of}
use Rattle.pmd_board.specs.Fields.{view_of, steps_left}
use Rattle.pmd_board.specs.SweepLists.{without_dropped}
use Rattle.pmd_board.proofs.HeldLists.{views_decided, names_decided}
use Rattle.pmd_board.proofs.LookedUp.{few_frames, place_there, places_counted}
use Rattle.pmd_board.proofs.Pushed.{appends_as, pushed}
use Rattle.pmd_board.proofs.Roomier.{kept_roomier}
use Rattle.pmd_board.proofs.Settles.{IsMadeOf, can_settle, made_one, settled_caches, totals_fit, visits_rules}
use Rattle.pmd_board.proofs.Sweeps.{dropped_left, settled_of, steps_fewer}
use Rattle.pmd_board.proofs.board.Board.fill.Goals as goal

pub invariant_of-self : goal.invariant_of-self
invariant_of-self g c =
    let b = c.self.inside in
    let reserve = c.in_err-reserve.ensures in
    kept_roomier g.C.Case.run b c.reserve.new.self b.caches c.self.invariant (record { items = reserve.items; len = reserve.len; capacity = reserve.capacity }) (refl, omega arith)

pub settle-requires-clause-rules : goal.settle-requires-clause-rules
settle-requires-clause-rules g c =
    let b = c.self.inside in
    let run : Run = g.C.Case.run in
    let k = c.self.invariant in
    let s : states.State = state_of run (view_of b) in
    let at = c.args.at.now in
    let v = c.version-version.result in
    let version : v ≡ c.args.made.version = c.version-version.ensures in
    let own = c.args.made.key in
    let may : settle_fault run s at.place v ≡ None =
    rw version (subst (λ (x : BoardView). settle_fault run (state_of run x) at.place c.args.made.version ≡ None) (sym c.self.view_is) c.requires.may) in
    let made : IsMadeOf run own v own (mask_for run v own) (translation_in c.into_parts-made.result.0) =
    record { key_is = refl; mask_is = refl; translation_is = c.into_parts-made.ensures.translation ∙ ap (λ x. translated run x own) (sym version) } in
    visits_rules run own v b.caches.rules own (mask_for run v own) (translation_in c.into_parts-made.result.0) made k.caches.rules k.bundled k.in_order s.block (may_settle run s at.place v may).not_ahead

pub settle-requires-clause-fits : goal.settle-requires-clause-fits
settle-requires-clause-fits g c =
    let b = c.self.inside in
    let run : Run = g.C.Case.run in
    let k = c.self.invariant in
    let s : states.State = state_of run (view_of b) in
    let at = c.args.at.now in
    let v = c.version-version.result in
    let can = can_settle run b c.args.self.now at.port at.place v c.args.made.version at.length at.time (numbers at.key) (bits c.into_parts-made.result.1) c.args.made.key
    (translation_in c.into_parts-made.result.0) c.self.view_is c.requires.port c.version-version.ensures c.requires.may at.key_is c.requires.key c.into_parts-made.ensures.mask
    c.into_parts-made.ensures.translation (record { length_is = at.length_is; time_is = at.time_is }) in
    totals_fit run b.port b.caches.limit (steps_view b.journal.items) b.caches at.place v at.length at.time (numbers at.key) (bits c.into_parts-made.result.1)
    (translation_in c.into_parts-made.result.0) can.made k.in_order k.legal k.has_keys k.room.short (few_frames run b k) k.caches.caches can.frame can.may

pub invariant_of-self-in_err-settled : goal.invariant_of-self-in_err-settled
invariant_of-self-in_err-settled g c =
    let b = c.self.inside in
    let reserve = c.in_ok-reserve.ensures in
    kept_roomier g.C.Case.run b c.reserve.new.self c.settle.new.self c.self.invariant (record { items = reserve.items; len = reserve.len; capacity = reserve.capacity }) c.in_err-settled.ensures.err

pub overflow_sub-self : goal.overflow_sub-self
overflow_sub-self g c =
    let b = c.self.inside in
    let run : Run = g.C.Case.run in
    let s : states.State = state_of run (view_of b) in
    let place = c.args.at.now.place in
    let v = c.args.made.version in
    let may : settle_fault run s place v ≡ None =
    subst (λ (x : BoardView). settle_fault run (state_of run x) place v ≡ None) (sym c.self.view_is) c.requires.may in
    let fewer = decided_written s.places place 0 [] (may_settle run s place v may).pending in
    omega (arith, fewer, c.self.invariant.places.pending)

pub invariant_of-self-2 : goal.invariant_of-self-2
invariant_of-self-2 g c =
    let b = c.self.inside in
    let run : Run = g.C.Case.run in
    let k = c.self.invariant in
    let s : states.State = state_of run (view_of b) in
    let at = c.args.at.now in
    let v = c.version-version.result in
    let can = can_settle run b c.args.self.now at.port at.place v c.args.made.version at.length at.time (numbers at.key) (bits c.into_parts-made.result.1) c.args.made.key
    (translation_in c.into_parts-made.result.0) c.self.view_is c.requires.port c.version-version.ensures c.requires.may at.key_is c.requires.key c.into_parts-made.ensures.mask
    c.into_parts-made.ensures.translation (record { length_is = at.length_is; time_is = at.time_is }) in
    let own = key_at run b.port at.place in
    let r = settled_view c.in_ok-settled.settled.settled in
    let list = c.in_ok-settled.settled.list in
    let settle = c.in_ok-settled.ensures in
    let did = settled_caches run b.port at.place v at.length at.time b.caches c.settle.new.self r s (numbers at.key) (bits c.into_parts-made.result.1)
    (translation_in c.into_parts-made.result.0) can.made settle.settled can.frame k.caches.caches in
    let legal : Legal run b.port b.caches.limit s (steps.Settle at.place v r) = (can.may, did.0) in
    let now = settled_of run b.port at.place v r s in
    let same = settle.settled.same in
    let held : IsHeld c.settle.new.self.lists list (translated run v own).actions =
    subst (λ (t : Translation). IsHeld c.settle.new.self.lists list t.actions) can.made.translation_is settle.list in
    let reserve = c.in_ok-reserve.ensures in
    let push = c.push_reserved.ensures in
    let step = rust.Settle at.place v c.in_ok-settled.settled.settled in
    let items = push.items ∙ ap (λ steps. steps ++ step ∷ []) reserve.items in
    let newest = c.max-self-inside.ensures in
    let fewer = decided_written s.places at.place v (translated run v own).actions (may_settle run s at.place v can.may).pending in
    let pending : states.pending_count (effect run b.port s (steps.Settle at.place v r)) + 1 ≡ states.pending_count s = rw now.places fewer in
    let one = made_one run b.port b.caches.limit at.place v r s did.0 in
    let caches = did.1 in
    let listed = c.forget_dropped.ensures in
    let shorter : length c.forget_dropped.new.self ≤ length b.listed = rw listed (dropped_left r b.listed) in
    pushed run b _ step k (record { port = refl; limit = same.limit; items = items }) refl legal
    (subst (HasKeys run b.port) (sym now.next) k.has_keys)
    (record {
      block = now.block ∙ k.versions.block;
      newest = now.newest ∙ ap (λ x. max x v) k.versions.newest ∙ sym newest;
      floor = now.floor ∙ k.versions.floor;
      done = now.done ∙ k.versions.done;
      is_sweeping = now.is_sweeping ∙ k.versions.is_sweeping;
    })
    (record {
      next = now.next ∙ k.places.next;
      clock = now.clock ∙ k.places.clock;
      pending = omega (arith, pending, k.places.pending);
      views =
          now.places
          ∙ rw k.places.views
          (sym (views_decided b.caches.lists c.settle.new.self.lists (translated run v own).actions b.places.items at.place v list same.held held k.places.named));
      named = names_decided b.caches.lists c.settle.new.self.lists (translated run v own).actions b.places.items at.place v list same.held held k.places.named;
    })
    (record {
      caches = caches;
      listed = now.listed ∙ ap (without_dropped r) k.caches.listed ∙ sym listed;
      rules = same.rules ∙ k.caches.rules;
      made = (let m = sym caches.made in let n = k.caches.caches.made in let p = k.places.pending in omega (arith, one, m, n, p, pending, k.caches.made));
    })
    (record {
      few_places = k.room.few_places;
      few_blocks = k.room.few_blocks;
      few_entries = rw same.limit k.room.few_entries;
      few_listed = rw same.limit (omega (arith, shorter, k.room.few_listed));
      places = length-set b.places.items (at.place - 1) (rust_place.Decided v list) ∙ k.room.places;
      short = k.room.short;
      lists = (let room = settle.room in omega (arith, room, shorter, c.len.ensures));
      steps = (
          let left : c.room_needed-room.result ≡ steps_left (length (frames_of run b.port)) s.next (last_block run) s.block s.is_sweeping (length s.listed) =
          subst
          (λ (x : BoardView). c.room_needed-room.result
          ≡ steps_left (length (frames_of run x.port)) (state_of run x).next (last_block run) (state_of run x).block (state_of run x).is_sweeping (length (state_of run x).listed))
          (sym c.self.view_is) c.room_needed-room.ensures.left in
          let more = steps_fewer (length (frames_of run b.port)) (vec_len b.places) s.next b.next (last_block run) s.block b.block s.is_sweeping b.sweeping s.listed b.listed c.forget_dropped.new.self
          (places_counted run b k) k.places.next k.versions.block k.versions.is_sweeping k.caches.listed shorter in
          let room = reserve.ok in
          omega (arith, room, push.len, push.capacity, reserve.len, left, more));
    })

pub returns-clause-filled : goal.returns-clause-filled
returns-clause-filled g c =
    let b = c.self.inside in
    let run : Run = g.C.Case.run in
    let k = c.self.invariant in
    let s : states.State = state_of run (view_of b) in
    let at = c.args.at.now in
    let v = c.version-version.result in
    let can = can_settle run b c.args.self.now at.port at.place v c.args.made.version at.length at.time (numbers at.key) (bits c.into_parts-made.result.1) c.args.made.key
    (translation_in c.into_parts-made.result.0) c.self.view_is c.requires.port c.version-version.ensures c.requires.may at.key_is c.requires.key c.into_parts-made.ensures.mask
    c.into_parts-made.ensures.translation (record { length_is = at.length_is; time_is = at.time_is }) in
    let r = settled_view c.in_ok-settled.settled.settled in
    let settle = c.in_ok-settled.ensures in
    let did = settled_caches run b.port at.place v at.length at.time b.caches c.settle.new.self r s (numbers at.key) (bits c.into_parts-made.result.1)
    (translation_in c.into_parts-made.result.0) can.made settle.settled can.frame k.caches.caches in
    let step = rust.Settle at.place v c.in_ok-settled.settled.settled in
    let items = c.push_reserved.ensures.items ∙ ap (λ steps. steps ++ step ∷ []) c.in_ok-reserve.ensures.items in
    record {
      result = r;
      appends = appends_as run b step (steps.Settle at.place c.args.made.version r) c.args.self.now _ _ _ (ap (λ x. steps.Settle at.place x r) c.version-version.ensures)
          c.self.view_is refl settle.settled.same.limit items (can.may, did.0);
    }

pub overflow_add-room : goal.overflow_add-room
overflow_add-room g c = omega (arith, c.room_needed-room.ensures.few)

pub settle-requires-clause-few : goal.settle-requires-clause-few
settle-requires-clause-few g c =
    let k = c.self.invariant in
    let few = few_frames g.C.Case.run c.self.inside k in
    omega (arith, k.caches.made, k.places.next, k.lawful.next_within, few)

pub overflow_sub-at : goal.overflow_sub-at
overflow_sub-at g c = c.args.at.now.has_place.0

pub index_mut-requires : goal.index_mut-requires
index_mut-requires g c = place_there g.C.Case.run c.self.inside c.args.self.now c.args.at.now.port c.args.at.now.place c.self.invariant c.self.view_is c.requires.port c.args.at.now.has_place

pub push_reserved-requires : goal.push_reserved-requires
push_reserved-requires g c =
    let reserve = c.in_ok-reserve.ensures in
    omega (arith, reserve.ok, reserve.len)

pub returns-clause-unchanged : goal.returns-clause-unchanged
returns-clause-unchanged g c = tt
