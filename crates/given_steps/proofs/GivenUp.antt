-- That kept translations don't matter to the end of a run.
use Rattle.std.proofs.Common.{◌≡◌, ℕ, zero, suc, ◌+◌, ◌-◌, ◌==◌, min, max, if◌then◌else◌, Bool, true, false, List, [], ◌∷◌, map, Option, Some, None, refl, sym, ap, ◌∙◌}
use Rattle.std.specs.Prelude.{nat_lt}
use Rattle.std.specs.List.{fold, range_with_len}
use Rattle.std.specs.Fn.{iterate}
use Rattle.std.proofs.lemmas.Simd.{map-map}
use Rattle.spec_case.specs.Run.{Run}
use Rattle.spec_case.specs.Blocks.{hi, last_block, last_place}
use Rattle.spec_board.specs.declared.looked.Looked.{Looked}
use Rattle.spec_board.specs.declared.looked.Looked.TheVariants.{Exact, Mega, Miss}
use Rattle.spec_board.specs.Steps.{Begin, End, Open}
use Rattle.spec_board.specs.State.{Entry}
use Rattle.spec_board.specs.Results.{key_at, looked, entry_of}
use Rattle.spec_board.specs.Schedules.{Board, Schedule, with_step, look_next, settle_at, put_entry, put_at, swept, with_sweep_ended, pending_places, with_pending_settled, with_sweep_made, settle_if_missed, decide_next, with_all_decided, with_next_opened, finish_board, least_block, finish_block, finish}
use Rattle.spec_run.specs.Journals.{journal_in}
use Rattle.run_boards.specs.Scheduled.{finished_in}
use Rattle.run_boards.specs.Finished.{journals_in}
use Rattle.given_steps.specs.Running.{without_kept}

-- ---- one board: each stage does the same without kept translations

fold_kept : {B : Type 0} (f : Board → B → Board) → ((b : Board) (x : B) → without_kept (f b x) ≡ f (without_kept b) x)
    → (b : Board) (xs : List B) → without_kept (fold f b xs) ≡ fold f (without_kept b) xs
fold_kept f each b [] = refl
fold_kept f each b (x ∷ xs) = fold_kept f each (f b x) xs ∙ ap (λ y. fold f y xs) (each b x)

if_kept : (t : Bool) (x y a b : Board) → without_kept x ≡ a → without_kept y ≡ b → without_kept (if t then x else y) ≡ (if t then a else b)
if_kept true x y a b first second = first
if_kept false x y a b first second = second

module _ (run : Run) (v : ℕ) where
  put_entry_kept : (o : Option Entry) (b : Board) → without_kept (put_entry run v o b) ≡ put_entry run v o (without_kept b)
  put_entry_kept None b = refl
  put_entry_kept (Some e) b = refl

  put_at_kept : (b : Board) (n : ℕ) → without_kept (put_at run v n b) ≡ put_at run v n (without_kept b)
  put_at_kept b n = put_entry_kept (entry_of n b.state.entries) b

  swept_kept : (b : Board) → without_kept (swept run v b) ≡ swept run v (without_kept b)
  swept_kept b = ap (with_step run End) (fold_kept (λ board number. put_at run v number board) put_at_kept b b.state.listed)

  sweep_ended_kept : (b : Board) → without_kept (with_sweep_ended run v b) ≡ with_sweep_ended run v (without_kept b)
  sweep_ended_kept b = if_kept b.state.is_sweeping (swept run v b) b (swept run v (without_kept b)) (without_kept b) (swept_kept b) refl

  pending_settled_kept : (b : Board) → without_kept (with_pending_settled run v b) ≡ with_pending_settled run v (without_kept b)
  pending_settled_kept b = fold_kept (λ board place. settle_at run v place board) (λ board place. refl) b (pending_places b.state)

  sweep_made_kept : (b : Board) → without_kept (with_sweep_made run v b) ≡ with_sweep_made run v (without_kept b)
  sweep_made_kept b =
      let begun : Board → Board = with_step run (Begin (hi run b.state.block)) in
      if_kept (nat_lt b.state.done (hi run b.state.block)) (swept run v (begun b)) b (swept run v (begun (without_kept b))) (without_kept b) (swept_kept (begun b)) refl

  missed_kept : (place : ℕ) (r : Looked) (b : Board) → without_kept (settle_if_missed run v place r b) ≡ settle_if_missed run v place r (without_kept b)
  missed_kept place (Exact n) b = refl
  missed_kept place (Mega n) b = refl
  missed_kept place Miss b = refl

  decide_next_kept : (b : Board) (place : ℕ) → without_kept (decide_next run v b place) ≡ decide_next run v (without_kept b) place
  decide_next_kept b place = missed_kept place (looked (key_at run b.port place) b.state) (look_next run b)

  all_decided_kept : (b : Board) → without_kept (with_all_decided run v b) ≡ with_all_decided run v (without_kept b)
  all_decided_kept b = fold_kept (decide_next run v) decide_next_kept b (range_with_len b.state.next (last_place run b.port b.state.block + 1 - b.state.next))

  next_opened_kept : (b : Board) → without_kept (with_next_opened run b) ≡ with_next_opened run (without_kept b)
  next_opened_kept b =
      let opened : Board → Board = with_step run (Open (b.state.block + 1)) in
      if_kept (nat_lt b.state.block (last_block run)) (opened b) b (opened (without_kept b)) (without_kept b) refl refl

  finish_board_kept : (b : Board) → without_kept (finish_board run v b) ≡ finish_board run v (without_kept b)
  unfolding finish_board
  finish_board_kept b =
      let ended = with_sweep_ended run v b in
      let settled = with_pending_settled run v ended in
      let made = with_sweep_made run v settled in
      let decided = with_all_decided run v made in
      let ended_is = sweep_ended_kept b in
      let settled_is = pending_settled_kept ended ∙ ap (with_pending_settled run v) ended_is in
      let made_is = sweep_made_kept settled ∙ ap (with_sweep_made run v) settled_is in
      let decided_is = all_decided_kept made ∙ ap (with_all_decided run v) made_is in
      next_opened_kept decided ∙ ap (with_next_opened run) decided_is

  finished_in_kept : (block : ℕ) (b : Board) → without_kept (finished_in run block v b) ≡ finished_in run block v (without_kept b)
  finished_in_kept block b =
      if_kept (b.state.block == block) (finish_board run v b) b (finish_board run v (without_kept b)) (without_kept b) (finish_board_kept b) refl

-- ---- all boards

-- a schedule whose boards are these without kept translations, and of which no step is unmet
abbrev pub given_up : Schedule → Schedule
given_up s = record { newest = s.newest; boards = map without_kept s.boards; unmet = 0 }

pub least_kept : (most : ℕ) (bs : List Board) → least_block most (map without_kept bs) ≡ least_block most bs
unfolding least_block
least_kept most [] = refl
least_kept most (b ∷ bs) = ap (min b.state.block) (least_kept most bs)

all_finished_kept : (run : Run) (block v : ℕ) (bs : List Board) → map (finished_in run block v) (map without_kept bs) ≡ map without_kept (map (finished_in run block v) bs)
all_finished_kept run block v [] = refl
all_finished_kept run block v (b ∷ bs) =
    ap (λ x. x ∷ map (finished_in run block v) (map without_kept bs)) (sym (finished_in_kept run v block b))
    ∙ ap (λ xs. without_kept (finished_in run block v b) ∷ xs) (all_finished_kept run block v bs)

finish_block_kept : (run : Run) (s : Schedule) → finish_block run (given_up s) ≡ given_up (finish_block run s)
finish_block_kept run s =
    let boards = map without_kept s.boards in
    let at : ℕ → Schedule = λ block. record { newest = max s.newest (hi run block); boards = map (finished_in run block (max s.newest (hi run block))) boards; unmet = 0 } in
    let block = least_block (last_block run) s.boards in
    let v = max s.newest (hi run block) in
    ap at (least_kept (last_block run) s.boards)
    ∙ ap (λ bs. record { newest = v; boards = bs; unmet = 0 }) (all_finished_kept run block v s.boards)

rounds_kept : (run : Run) (n : ℕ) (s : Schedule) → iterate (finish_block run) n (given_up s) ≡ given_up (iterate (finish_block run) n s)
rounds_kept run zero s = refl
rounds_kept run (suc n) s = ap (iterate (finish_block run) n) (finish_block_kept run s) ∙ rounds_kept run n (finish_block run s)

finish_kept : (run : Run) (s : Schedule) → finish run (given_up s) ≡ given_up (finish run s)
unfolding finish
finish_kept run s = rounds_kept run (last_block run + 1) s

-- the journals that a schedule ends with are those with which it ends without kept translations
pub journals_kept : (run : Run) (s : Schedule) → journals_in (finish run (given_up s)) ≡ journals_in (finish run s)
journals_kept run s = ap journals_in (finish_kept run s) ∙ map-map journal_in without_kept (finish run s).boards

rounds_unmet : (run : Run) (n : ℕ) (s : Schedule) → (iterate (finish_block run) n s).unmet ≡ s.unmet
rounds_unmet run zero s = refl
rounds_unmet run (suc n) s = rounds_unmet run n (finish_block run s)

-- and no step is met or unmet by it
pub finish_unmet : (run : Run) (s : Schedule) → (finish run s).unmet ≡ s.unmet
unfolding finish
finish_unmet run s = rounds_unmet run (last_block run + 1) s
