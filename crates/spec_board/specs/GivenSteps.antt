-- Given steps: what each does to the board of its port, and which are not met.
use Rattle.std.specs.Prelude.{ℕ, ◌+◌, ◌==◌, nat_lt, Bool, true, false, not, if◌then◌else◌, List, [], ◌∷◌, map, filter, Option, Some, None}
use Rattle.std.specs.List.{find}
use Rattle.std.specs.Option.{option_map, is_none}
use Rattle.spec_case.specs.declared.run_step.RunStep.{RunStep}
use Rattle.spec_case.specs.declared.run_step.RunStep.TheVariants as given
use Rattle.spec_case.specs.Run.{Run}
use Rattle.spec_case.specs.Blocks.{last_block, hi}
use Rattle.spec_board.specs.Steps.{Open, Begin, End}
use Rattle.spec_board.specs.State.{place_at, is_pending}
use Rattle.spec_board.specs.Refusals.{open_fault, look_fault, settle_fault, begin_fault, put_fault, end_fault}
use Rattle.spec_board.specs.Effects.{is_among}
use Rattle.spec_board.specs.Schedules.{Kept, Board, Schedule, with_step, look_next, settle_at, put_at, least_block}

-- ---- kept translations

abbrev pub kept_version : ℕ → List Kept → Option ℕ
kept_version number kept = option_map (λ (k : Kept). k.version) (find (λ (k : Kept). k.number == number) kept)

abbrev pub given_up : ℕ → List Kept → List Kept
given_up number kept = filter (λ (k : Kept). not (k.number == number)) kept

abbrev pub keeping : ℕ → ℕ → List Kept → List Kept
keeping number v kept = record { number = number; version = v } ∷ given_up number kept

-- ---- one step of one board

-- whether a step is met, and the board after it
abbrev pub Met : Type 0
Met = Bool × Board

abbrev pub met_if : Bool → Board → Board → Met
met_if true done other = (true, done)
met_if false done other = (false, other)

-- a pending place is settled by its kept translation, which is given up
abbrev pub settle_kept : Run → ℕ → Option ℕ → Board → Met
settle_kept run place None b = (false, b)
settle_kept run place (Some v) b = met_if (is_none (settle_fault run b.state place v)) (settle_at run v place b) b

abbrev pub put_kept : Run → ℕ → Option ℕ → Board → Met
put_kept run number None b = (false, b)
put_kept run number (Some v) b = met_if (is_none (put_fault run b.state number v)) (put_at run v number b) b

-- what a given step does to the board of its port, where so many bundles are published
abbrev pub given_step : Run → ℕ → RunStep → Board → Met
given_step run newest given.Edit b = (false, b)
given_step run newest (given.Rx port) b = met_if (is_none (look_fault run b.port b.state b.state.next)) (look_next run b) b
given_step run newest (given.Snap port place) b =
    met_if (is_pending (place_at place b.state)) (record b { snaps = keeping place newest b.snaps }) b
given_step run newest (given.Settle port place) b =
    settle_kept run place (kept_version place b.snaps) (record b { snaps = given_up place b.snaps })
given_step run newest (given.Sweep port) b =
    met_if (is_none (begin_fault run b.state newest)) (with_step run (Begin newest) b) b
given_step run newest (given.Check port number) b =
    met_if (is_among b.state.listed number) (record b { checks = keeping number newest b.checks }) b
given_step run newest (given.Put port number) b =
    put_kept run number (kept_version number b.checks) (record b { checks = given_up number b.checks })
given_step run newest (given.Swept port) b = met_if (is_none (end_fault b.state)) (with_step run End b) b
given_step run newest (given.Open port) b =
    met_if (is_none (open_fault run b.port b.state (b.state.block + 1))) (with_step run (Open (b.state.block + 1)) b) b

-- ---- all steps

-- the port of a given step, if it is a step of one
abbrev pub port_of : RunStep → Option ℕ
port_of given.Edit = None
port_of (given.Rx port) = Some port
port_of (given.Snap port place) = Some port
port_of (given.Settle port place) = Some port
port_of (given.Sweep port) = Some port
port_of (given.Check port number) = Some port
port_of (given.Put port number) = Some port
port_of (given.Swept port) = Some port
port_of (given.Open port) = Some port

-- the boards with one step given to that of its port; one more step is unmet where that one is, or where no board is of
-- the port
abbrev pub counted : Bool → ℕ → ℕ
counted true unmet = unmet
counted false unmet = unmet + 1

abbrev pub is_met_at : Run → ℕ → RunStep → Option Board → Bool
is_met_at run newest step None = false
is_met_at run newest step (Some b) = (given_step run newest step b).0

abbrev pub with_port_step : Run → RunStep → ℕ → Schedule → Schedule
with_port_step run step port s = record s {
  boards = map (λ (b : Board). if b.port == port then (given_step run s.newest step b).1 else b) s.boards;
  unmet = counted (is_met_at run s.newest step (find (λ (b : Board). b.port == port) s.boards)) s.unmet;
}

-- a bundle is published where one of the least block of the boards is left
abbrev pub with_edit_step : Run → Schedule → Schedule
with_edit_step run s =
    if nat_lt s.newest (hi run (least_block (last_block run) s.boards)) then record s { newest = s.newest + 1 }
    else record s { unmet = s.unmet + 1 }

abbrev pub with_step_at : Run → RunStep → Option ℕ → Schedule → Schedule
with_step_at run step None s = with_edit_step run s
with_step_at run step (Some port) s = with_port_step run step port s

unfoldable pub with_given_steps : Run → List RunStep → Schedule → Schedule
with_given_steps run [] s = s
with_given_steps run (step ∷ steps) s = with_given_steps run steps (with_step_at run step (port_of step) s)
