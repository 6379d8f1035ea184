use Rattle.std.proofs.Common.{arith, None, ◌≡◌, ◌≤◌, false, [], ◌∷◌, ◌++◌, length, max, vec_len, refl, sym, ap, ◌∙◌, subst}
use Rattle.std.proofs.lemmas.List.{length-map}
use Rattle.spec_case.specs.Run.{Run, frames_of}
use Rattle.spec_case.specs.Blocks.{last_block}
use Rattle.spec_board.specs.State as states
use Rattle.spec_board.specs.Results.{numbers_of}
use Rattle.spec_board.specs.Refusals.{begin_fault}
use Rattle.board_laws.proofs.Kept.{kept_after}
use Rattle.board_laws.proofs.Refusals.{may_begin}
use Rattle.board_steps.specs.declared.step.Step.TheVariants as rust
use Rattle.board_steps.specs.StepViews.{steps_view}
use Rattle.port_caches.specs.Views.{Caches}
use Rattle.pmd_board.specs.BoardView.{BoardView, state_of}
use Rattle.pmd_board.specs.Fields.{view_of, steps_left}
use Rattle.megaflow_table.specs.Live.{IsRising}
use Rattle.pmd_board.proofs.Caches.{recast, roomier}
use Rattle.pmd_board.proofs.Listed.{numbers_rise}
use Rattle.pmd_board.proofs.LookedUp.{numbers_few, places_counted}
use Rattle.pmd_board.proofs.Pushed.{appends, pushed}
use Rattle.pmd_board.proofs.Roomier.{kept_roomier}
use Rattle.pmd_board.proofs.Sweeps.{steps_fewer}
use Rattle.pmd_board.proofs.board.Board.start.Goals as goal

pub of-requires : goal.of-requires
of-requires g c =
    let b = c.self.inside in
    let run : Run = g.C.Case.run in
    let k = c.self.invariant in
    let numbers : c.numbers-2.result.now ≡ numbers_of (state_of run (view_of b)).entries = c.numbers-2.ensures ∙ ap numbers_of (sym k.caches.caches.entries) in
    subst IsRising (sym numbers) (numbers_rise _ (kept_after run b.port b.caches.limit (steps_view b.journal.items) k.legal).apart.rising)

pub invariant_of-self-2 : goal.invariant_of-self-2
invariant_of-self-2 g c =
    let b = c.self.inside in
    let run : Run = g.C.Case.run in
    let k = c.self.invariant in
    let v = c.args.version in
    let s : states.State = state_of run (view_of b) in
    let may : begin_fault run s v ≡ None = subst (λ (x : BoardView). begin_fault run (state_of run x) v ≡ None) (sym c.self.view_is) c.requires in
    let rests : b.sweeping ≡ false = sym k.versions.is_sweeping ∙ (may_begin run s v may).0 in
    let push = c.push_reserved.ensures in
    let reserve = c.in_ok-reserve.ensures in
    let items = push.items ∙ ap (λ steps. steps ++ rust.Begin v ∷ []) reserve.items in
    let same = c.reserve-2.ensures.same in
    let limit = ap (λ (x : Caches). x.limit) same.0 in
    let lists = ap (λ (x : Caches). x.lists) same.0 in
    let listed : numbers_of s.entries ≡ c.in_ok-listed.listed =
    ap numbers_of k.caches.caches.entries ∙ sym c.numbers-2.ensures ∙ sym c.in_ok-listed.ensures in
    let count : length c.in_ok-listed.listed ≡ length s.entries = ap length (sym listed) ∙ length-map s.entries (λ (e : states.Entry). e.number) in
    let counted : length c.numbers.result.now ≡ length s.entries =
    ap length (c.numbers.ensures ∙ ap numbers_of (sym k.caches.caches.entries)) ∙ length-map s.entries (λ (e : states.Entry). e.number) in
    let few : length s.entries ≤ b.caches.limit = k.lawful.few in
    pushed run b _ (rust.Begin v) k (record { port = refl; limit = limit; items = items }) refl may k.has_keys
    (record {
      block = k.versions.block;
      newest = ap (λ x. max x v) k.versions.newest ∙ sym c.max-self-inside.ensures;
      floor = ap (λ x. max x v) k.versions.floor ∙ sym c.max-self-inside-2.ensures;
      done = k.versions.done;
      is_sweeping = refl;
    })
    (record {
      next = k.places.next;
      clock = k.places.clock;
      pending = k.places.pending;
      views = rw lists k.places.views;
      named = rw lists k.places.named;
    })
    (record {
      caches = roomier b.caches c.reserve-2.new.self _ same (recast b.caches s _ refl refl refl (λ rule. refl) k.caches.caches);
      listed = listed;
      rules = ap (λ (x : Caches). x.rules) same.0 ∙ k.caches.rules;
      made = rw (ap (λ (x : Caches). x.made) same.0) k.caches.made;
    })
    (record {
      few_places = k.room.few_places;
      few_blocks = k.room.few_blocks;
      few_entries = rw limit k.room.few_entries;
      few_listed = rw limit (omega (arith, count, few));
      places = k.room.places;
      short = k.room.short;
      lists = (let room = c.in_ok-reserve-2.ensures.room in omega (arith, room, c.len.ensures));
      steps = (
          let left : c.room_needed-room.result ≡ steps_left (length (frames_of run b.port)) s.next (last_block run) s.block s.is_sweeping (length s.listed) =
          subst
          (λ (x : BoardView). c.room_needed-room.result
          ≡ steps_left (length (frames_of run x.port)) (state_of run x).next (last_block run) (state_of run x).block (state_of run x).is_sweeping (length (state_of run x).listed))
          (sym c.self.view_is) c.room_needed-room.ensures.left in
          let more = steps_fewer (length (frames_of run b.port)) (vec_len b.places) s.next b.next (last_block run) s.block b.block s.is_sweeping b.sweeping s.listed b.listed b.listed
          (places_counted run b k) k.places.next k.versions.block k.versions.is_sweeping k.caches.listed (omega arith) in
          let resting : steps_left (vec_len b.places) b.next (last_block run) b.block false (length b.listed) ≤ c.room_needed-room.result =
          subst (λ t. steps_left (vec_len b.places) b.next (last_block run) b.block t (length b.listed) ≤ c.room_needed-room.result) rests (omega (arith, left, more)) in
          let room = reserve.ok in
          omega (arith, room, push.len, push.capacity, reserve.len, resting, count, counted));
    })

pub overflow_add-room : goal.overflow_add-room
overflow_add-room g c =
    let few = numbers_few g.C.Case.run c.self.inside c.numbers.result.now c.self.invariant c.numbers.ensures in
    omega (arith, few, c.room_needed-room.ensures.few)

pub overflow_add-room-2 : goal.overflow_add-room-2
overflow_add-room-2 g c =
    let few = numbers_few g.C.Case.run c.self.inside c.numbers.result.now c.self.invariant c.numbers.ensures in
    omega (arith, few, c.room_needed-room.ensures.few)

pub invariant_of-self : goal.invariant_of-self
invariant_of-self g c =
    let b = c.self.inside in
    let reserve = c.in_err-reserve.ensures in
    kept_roomier g.C.Case.run b c.reserve.new.self b.caches c.self.invariant (record { items = reserve.items; len = reserve.len; capacity = reserve.capacity }) (refl, omega arith)

pub invariant_of-self-in_err-listed : goal.invariant_of-self-in_err-listed
invariant_of-self-in_err-listed g c =
    let b = c.self.inside in
    let reserve = c.in_ok-reserve.ensures in
    kept_roomier g.C.Case.run b c.reserve.new.self b.caches c.self.invariant (record { items = reserve.items; len = reserve.len; capacity = reserve.capacity }) (refl, omega arith)

pub invariant_of-self-in_err-reserve-2 : goal.invariant_of-self-in_err-reserve-2
invariant_of-self-in_err-reserve-2 g c =
    let b = c.self.inside in
    let reserve = c.in_ok-reserve.ensures in
    kept_roomier g.C.Case.run b c.reserve.new.self c.reserve-2.new.self c.self.invariant (record { items = reserve.items; len = reserve.len; capacity = reserve.capacity }) c.reserve-2.ensures.same

pub push_reserved-requires : goal.push_reserved-requires
push_reserved-requires g c =
    let reserve = c.in_ok-reserve.ensures in
    omega (arith, reserve.ok, reserve.len)

pub returns-clause-begun : goal.returns-clause-begun
returns-clause-begun g c =
    let b = c.self.inside in
    let run : Run = g.C.Case.run in
    let step = rust.Begin c.args.version in
    let may = subst (λ (x : BoardView). begin_fault run (state_of run x) c.args.version ≡ None) (sym c.self.view_is) c.requires in
    appends run b step c.args.self.now _ _ _ c.self.view_is refl (ap (λ (x : Caches). x.limit) c.reserve-2.ensures.same.0)
    (c.push_reserved.ensures.items ∙ ap (λ steps. steps ++ step ∷ []) c.in_ok-reserve.ensures.items) may

pub returns-clause-unchanged : goal.returns-clause-unchanged
returns-clause-unchanged g c = tt
