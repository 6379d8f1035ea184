-- Boards under way: the steps that one takes, and how a run is finished whatever was done before.
use Rattle.std.specs.Prelude.{ℕ, ◌+◌, ◌-◌, ◌==◌, max, min, nat_lt, if◌then◌else◌, List, [], ◌∷◌, ◌++◌, length, map, filter, fold, Option, Some, None}
use Rattle.std.specs.List.{range_with_len}
use Rattle.std.specs.Fn.{iterate}
use Rattle.spec_case.specs.Run.{Run}
use Rattle.spec_case.specs.Blocks.{last_block, hi, last_place}
use Rattle.spec_board.specs.declared.looked.Looked.{Looked}
use Rattle.spec_board.specs.declared.looked.Looked.TheVariants.{Exact, Mega, Miss}
use Rattle.spec_board.specs.Steps.{Step, Open, Look, Settle, Begin, Put, End}
use Rattle.spec_board.specs.State.{Entry, State, place_at, is_pending}
use Rattle.spec_board.specs.Results.{key_at, looked, settled, entry_of, put_done}
use Rattle.spec_board.specs.Effects.{effect}
use Rattle.spec_board.specs.Journals.{opened}

-- the version under which the translation of a pending place, or of a listed entry, is kept
pub record Kept : Type 0 where
  pub number : ℕ
  pub version : ℕ

-- a board under way: its port, its journal so far and the state that this leads to, and the kept translations
pub record Board : Type 0 where
  pub port : ℕ
  pub steps : List Step
  pub state : State
  pub snaps : List Kept
  pub checks : List Kept

-- how many bundles are published, the boards in the order of the words, and how many given steps were not met
pub record Schedule : Type 0 where
  pub newest : ℕ
  pub boards : List Board
  pub unmet : ℕ

-- ---- steps of one board

-- one more step
abbrev pub with_step : Run → Step → Board → Board
with_step run step b = record b { steps = b.steps ++ step ∷ []; state = effect run b.port b.state step }

abbrev pub look_next : Run → Board → Board
look_next run b = with_step run (Look b.state.next (looked (key_at run b.port b.state.next) b.state)) b

abbrev pub settle_at : Run → ℕ → ℕ → Board → Board
settle_at run v place b =
    with_step run (Settle place v (settled run run.flow_limit (key_at run b.port place) v b.state)) b

abbrev pub put_entry : Run → ℕ → Option Entry → Board → Board
put_entry run v None b = b
put_entry run v (Some e) b = with_step run (Put e.number v (put_done run e v b.state)) b

abbrev pub put_at : Run → ℕ → ℕ → Board → Board
put_at run v number b = put_entry run v (entry_of number b.state.entries) b

-- ---- the end of a run

-- each listed entry is put under a version, in rising order, and the sweep ends
abbrev pub swept : Run → ℕ → Board → Board
swept run v b = with_step run End (fold (λ board number. put_at run v number board) b b.state.listed)

abbrev pub with_sweep_ended : Run → ℕ → Board → Board
with_sweep_ended run v b = if b.state.is_sweeping then swept run v b else b

abbrev pub pending_places : State → List ℕ
pending_places s = filter (λ place. is_pending (place_at place s)) (range_with_len 1 (length s.places))

-- each pending place is settled under a version, in rising order
abbrev pub with_pending_settled : Run → ℕ → Board → Board
with_pending_settled run v b = fold (λ board place. settle_at run v place board) b (pending_places b.state)

-- where no sweep of the block's last version was completed, one is made
abbrev pub with_sweep_made : Run → ℕ → Board → Board
with_sweep_made run v b =
    if nat_lt b.state.done (hi run b.state.block) then swept run v (with_step run (Begin (hi run b.state.block)) b) else b

-- the next place is looked up, and settled at once where that is a miss
abbrev pub settle_if_missed : Run → ℕ → ℕ → Looked → Board → Board
settle_if_missed run v place (Exact n) b = b
settle_if_missed run v place (Mega n) b = b
settle_if_missed run v place Miss b = settle_at run v place b

abbrev pub decide_next : Run → ℕ → Board → ℕ → Board
decide_next run v b place = settle_if_missed run v place (looked (key_at run b.port place) b.state) (look_next run b)

abbrev pub with_all_decided : Run → ℕ → Board → Board
with_all_decided run v b =
    fold (decide_next run v) b (range_with_len b.state.next (last_place run b.port b.state.block + 1 - b.state.next))

abbrev pub with_next_opened : Run → Board → Board
with_next_opened run b = if nat_lt b.state.block (last_block run) then with_step run (Open (b.state.block + 1)) b else b

unfoldable pub finish_board : Run → ℕ → Board → Board
finish_board run v b =
    with_next_opened run (with_all_decided run v (with_sweep_made run v (with_pending_settled run v (with_sweep_ended run v b))))

-- the least block of boards, none of which is after this one
unfoldable pub least_block : ℕ → List Board → ℕ
least_block most [] = most
least_block most (b ∷ bs) = min b.state.block (least_block most bs)

-- All bundles of the least block of the boards are published, and each board in it finishes it.
abbrev pub finish_block : Run → Schedule → Schedule
finish_block run s =
    let block = least_block (last_block run) s.boards in
    let v = max s.newest (hi run block) in
    record s { newest = v; boards = map (λ (b : Board). if b.state.block == block then finish_board run v b else b) s.boards }

-- all blocks are finished, one after the other
unfoldable pub finish : Run → Schedule → Schedule
finish run s = iterate (finish_block run) (last_block run + 1) s

-- ---- new boards

abbrev pub new_board : Run → ℕ → Board
new_board run port = record { port = port; steps = []; state = opened run port; snaps = []; checks = [] }

abbrev pub new_schedule : Run → Schedule
new_schedule run = record { newest = 0; boards = map (new_board run) run.ports; unmet = 0 }
