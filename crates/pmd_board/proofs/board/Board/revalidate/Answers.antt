use Rattle.std.proofs.Common.{arith, None, Some, ◌≡◌, ◌+◌, ◌≤◌, Bool, true, not, ◌==◌, count_by, filter, length, max, vec_len, vec_capacity, refl, sym, ap, ap₂, ◌∙◌, subst}
use Rattle.std.specs.Option.{option_map}
use Rattle.spec_case.specs.Run.{Run}
use Rattle.spec_case.specs.Blocks.{last_block}
use Rattle.spec_board.specs.State as states
use Rattle.spec_board.specs.Steps as steps
use Rattle.spec_board.specs.Results.{entry_of, mask_for, put_done, translated}
use Rattle.spec_board.specs.Effects.{key_of_entry}
use Rattle.spec_board.specs.Refusals.{put_fault}
use Rattle.spec_board.specs.Journals.{Legal}
use Rattle.board_laws.specs.Entries.{HasKeys}
use Rattle.board_laws.proofs.NumberLaws.{is_among-Among}
use Rattle.board_laws.proofs.Refusals.{may_put}
use Rattle.ovs_fields.specs.Packed.{bits}
use Rattle.pipe_model.specs.Plains.{translation_in}
use Rattle.board_steps.specs.declared.step.Step.TheVariants as rust
use Rattle.board_steps.specs.StepViews.{steps_view}
use Rattle.pmd_board.specs.BoardView.{BoardView, state_of}
use Rattle.pmd_board.specs.Fields.{view_of, steps_left}
use Rattle.pmd_board.proofs.HeldLists.{names_kept, views_kept}
use Rattle.pmd_board.proofs.LookedUp.{few_frames}
use Rattle.pmd_board.proofs.Pushed.{appends_as, pushed}
use Rattle.pmd_board.proofs.Settles.{IsMadeOf, listed_live, put_caches, put_totals_fit, visits_rules}
use Rattle.pmd_board.proofs.Sweeps.{fewer_left, put_of_state, sweeps_where_listed}
use Rattle.pmd_board.proofs.board.Board.revalidate.Goals as goal

pub put-revalidated-requires-clause-rules : goal.put-revalidated-requires-clause-rules
put-revalidated-requires-clause-rules g c =
    let b = c.self.inside in
    let run : Run = g.C.Case.run in
    let k = c.self.invariant in
    let s : states.State = state_of run (view_of b) in
    let v = c.version-version.result in
    let version : v ≡ c.args.made.version = c.version-version.ensures in
    let own = c.args.made.key in
    let may : put_fault run s c.args.number v ≡ None =
    rw version (subst (λ (x : BoardView). put_fault run (state_of run x) c.args.number c.args.made.version ≡ None) (sym c.self.view_is) c.requires.may) in
    let made : IsMadeOf run own v own (mask_for run v own) (translation_in c.into_parts-made.result.0) =
    record { key_is = refl; mask_is = refl; translation_is = c.into_parts-made.ensures.translation ∙ ap (λ x. translated run x own) (sym version) } in
    visits_rules run own v b.caches.rules own (mask_for run v own) (translation_in c.into_parts-made.result.0) made k.caches.rules k.bundled k.in_order s.block (may_put run s c.args.number v may).not_ahead

pub put-revalidated-requires-clause-fits : goal.put-revalidated-requires-clause-fits
put-revalidated-requires-clause-fits g c s e these clock found =
    let b = c.self.inside in
    let run : Run = g.C.Case.run in
    let k = c.self.invariant in
    let here : states.State = state_of run (view_of b) in
    let v = c.version-version.result in
    let version : v ≡ c.args.made.version = c.version-version.ensures in
    let may : put_fault run here c.args.number v ≡ None =
    rw version (subst (λ (x : BoardView). put_fault run (state_of run x) c.args.number c.args.made.version ≡ None) (sym c.self.view_is) c.requires.may) in
    let live = listed_live run b.port b.caches.limit (steps_view b.journal.items) k.legal c.args.number v may in
    put_totals_fit run b.port b.caches.limit (steps_view b.journal.items) b.caches c.args.number v (bits c.into_parts-made.result.1) (translation_in c.into_parts-made.result.0)
    live.0 k.in_order k.legal k.has_keys k.room.short (few_frames run b k) k.caches.caches live.1 may s e these found

pub invariant_of-self : goal.invariant_of-self
invariant_of-self g c =
    let b = c.self.inside in
    let run : Run = g.C.Case.run in
    let k = c.self.invariant in
    let s : states.State = state_of run (view_of b) in
    let number = c.args.number in
    let v = c.version-version.result in
    let version : v ≡ c.args.made.version = c.version-version.ensures in
    let may : put_fault run s number v ≡ None =
    rw version (subst (λ (x : BoardView). put_fault run (state_of run x) number c.args.made.version ≡ None) (sym c.self.view_is) c.requires.may) in
    let live = listed_live run b.port b.caches.limit (steps_view b.journal.items) k.legal number v may in
    let e : states.Entry = live.0 in
    let key : c.args.made.key ≡ e.key =
    c.requires.key ∙ ap (λ (x : BoardView). key_of_entry (entry_of number (state_of run x).entries)) (sym c.self.view_is) ∙ ap key_of_entry live.1 in
    let made : IsMadeOf run e.key v e.key (bits c.into_parts-made.result.1) (translation_in c.into_parts-made.result.0) = record {
      key_is = refl;
      mask_is = c.into_parts-made.ensures.mask ∙ ap₂ (mask_for run) (sym version) key;
      translation_is = c.into_parts-made.ensures.translation ∙ ap₂ (translated run) (sym version) key;
    } in
    let r = c.put-revalidated.result.done in
    let put = c.put-revalidated.ensures in
    let did = put_caches run b.port number v b.clock b.caches c.put-revalidated.new.self r s e e.key (bits c.into_parts-made.result.1) (translation_in c.into_parts-made.result.0) made put
    k.places.clock live.1 k.caches.caches in
    let legal : Legal run b.port b.caches.limit s (steps.Put number v r) =
    (may, ap (option_map (λ x. put_done run x v s)) live.1 ∙ ap Some (sym did.0)) in
    let now = put_of_state run b.port number v r s in
    let among = is_among-Among s.listed number (may_put run s number v may).listed in
    let shorter : length c.forget.new.self + 1 ≤ length b.listed = rw c.forget.ensures (fewer_left number b.listed (rw (← k.caches.listed) among)) in
    let sweeps : b.sweeping ≡ true = sym k.versions.is_sweeping ∙ sweeps_where_listed s number k.lawful.versions.none_listed among in
    let Room = λ (t : Bool).
    vec_len b.journal + steps_left (vec_len b.places) b.next (last_block run) b.block t (length b.listed) ≤ vec_capacity b.journal in
    let room : Room true = subst Room sweeps k.room.steps in
    let push = c.push_reserved.ensures in
    let newest = c.max-self-inside.ensures in
    pushed run b _ (rust.Put number v r) k (record { port = refl; limit = put.same.limit; items = push.items }) refl legal
    (subst (HasKeys run b.port) (sym now.next) k.has_keys)
    (record {
      block = now.block ∙ k.versions.block;
      newest = now.newest ∙ ap (λ x. max x v) k.versions.newest ∙ sym newest;
      floor = now.floor ∙ k.versions.floor;
      done = now.done ∙ k.versions.done;
      is_sweeping = now.is_sweeping ∙ k.versions.is_sweeping;
    })
    (record {
      next = now.next ∙ k.places.next;
      clock = now.clock ∙ k.places.clock;
      pending = ap (count_by states.is_pending) now.places ∙ k.places.pending;
      views = now.places ∙ k.places.views ∙ sym (views_kept b.caches.lists c.put-revalidated.new.self.lists b.places.items put.same.held k.places.named);
      named = names_kept b.caches.lists c.put-revalidated.new.self.lists b.places.items put.same.held k.places.named;
    })
    (record {
      caches = did.1;
      listed = now.listed ∙ ap (filter (λ n. not (n == number))) k.caches.listed ∙ sym c.forget.ensures;
      rules = put.same.rules ∙ k.caches.rules;
      made = (let m = sym did.1.made ∙ now.made ∙ k.caches.caches.made in omega (arith, m, k.caches.made));
    })
    (record {
      few_places = k.room.few_places;
      few_blocks = k.room.few_blocks;
      few_entries = rw put.same.limit k.room.few_entries;
      few_listed = rw put.same.limit (omega (arith, shorter, k.room.few_listed));
      places = k.room.places;
      short = k.room.short;
      lists = (let left = put.room in omega (arith, left, shorter, k.room.lists));
      steps = rw sweeps (omega (arith, push.len, push.capacity, room, shorter));
    })

pub returns : goal.returns
returns g c =
    let b = c.self.inside in
    let run : Run = g.C.Case.run in
    let k = c.self.invariant in
    let s : states.State = state_of run (view_of b) in
    let number = c.args.number in
    let v = c.version-version.result in
    let version : v ≡ c.args.made.version = c.version-version.ensures in
    let may : put_fault run s number v ≡ None =
    rw version (subst (λ (x : BoardView). put_fault run (state_of run x) number c.args.made.version ≡ None) (sym c.self.view_is) c.requires.may) in
    let live = listed_live run b.port b.caches.limit (steps_view b.journal.items) k.legal number v may in
    let e : states.Entry = live.0 in
    let key : c.args.made.key ≡ e.key =
    c.requires.key ∙ ap (λ (x : BoardView). key_of_entry (entry_of number (state_of run x).entries)) (sym c.self.view_is) ∙ ap key_of_entry live.1 in
    let made : IsMadeOf run e.key v e.key (bits c.into_parts-made.result.1) (translation_in c.into_parts-made.result.0) = record {
      key_is = refl;
      mask_is = c.into_parts-made.ensures.mask ∙ ap₂ (mask_for run) (sym version) key;
      translation_is = c.into_parts-made.ensures.translation ∙ ap₂ (translated run) (sym version) key;
    } in
    let r = c.put-revalidated.result.done in
    let put = c.put-revalidated.ensures in
    let did = put_caches run b.port number v b.clock b.caches c.put-revalidated.new.self r s e e.key (bits c.into_parts-made.result.1) (translation_in c.into_parts-made.result.0) made put
    k.places.clock live.1 k.caches.caches in
    appends_as run b (rust.Put number v r) (steps.Put number c.args.made.version r) c.args.self.now _ _ _ (ap (λ x. steps.Put number x r) version)
    c.self.view_is refl put.same.limit c.push_reserved.ensures.items (may, ap (option_map (λ x. put_done run x v s)) live.1 ∙ ap Some (sym did.0))
