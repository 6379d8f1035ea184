-- Worked rows: a board, step by step: what each step changes of it, and which number of a step is which.
use Rattle.std.specs.Prelude.{◌≡◌, ℕ, Bool, true, false, map, List, [], ◌∷◌, ◌++◌, None, Some, refl}
use Rattle.spec_actions.specs.declared.action.OfAction.TheVariants.{Output}
use Rattle.spec_tables.specs.declared.edit_word.EditWord.TheVariants.{Modify}
use Rattle.spec_case.specs.Run.{Run}
use Rattle.spec_board.specs.declared.looked.Looked.TheVariants.{Exact, Mega, Miss}
use Rattle.spec_board.specs.declared.put_done.PutDone.TheVariants.{Idle, Kept, Replaced}
use Rattle.spec_board.specs.declared.faults.SettleFault.TheVariants as settle_faults
use Rattle.spec_board.specs.declared.faults.PutFault.TheVariants as put_faults
use Rattle.spec_board.specs.Steps.{Step, Look, Settle, Begin, Put, End, Full, Installed}
use Rattle.spec_board.specs.State.{Entry, Place, Waiting, Pending, Total, State}
use Rattle.spec_board.specs.Refusals.{settle_fault, put_fault}
use Rattle.spec_board.specs.Journals.{after}
use Rattle.spec_board.proofs.Shown.{shown, Counted, run_of, flow_limit, add, edit, dl_dst, frame, entry, unused_entry, total, sent}

-- The rule for an address sends to port 2 by version 1, and to port 3 by version 2. Of the frames of seconds 1 to 5 the
-- second goes to another address.
abbrev run : Run
run =
    run_of flow_limit (2 ∷ 3 ∷ []) (add 5 (dl_dst 2) (Output 2 ∷ []) ∷ edit Modify 5 (dl_dst 2) (Output 3 ∷ []) ∷ [])
    [] (frame 1 2 ∷ frame 2 6 ∷ frame 3 2 ∷ frame 4 2 ∷ frame 5 2 ∷ []) []

-- a board as rows show it: the newest version, the floor, and that of the last sweep that ended; whether one runs, and
-- what it has yet to put; the entries; the next place, and the newest time in seconds; the places; the totals of rule 1
record Seen : Type 0 where
  versions : List ℕ
  is_sweeping : Bool
  listed : List ℕ
  entries : List Counted
  next : ℕ
  clock : ℕ
  places : List Place
  total : Total

abbrev counted : Entry → Counted
counted e = entry e.number e.version e.packets e.bytes e.owed_packets e.owed_bytes

abbrev seen : State → Seen
seen s = record {
  versions = s.newest ∷ s.floor ∷ s.done ∷ [];
  is_sweeping = s.is_sweeping;
  listed = s.listed;
  entries = map counted s.entries;
  next = s.next;
  clock = s.clock;
  places = s.places;
  total = s.totals 1;
}

abbrev board : List Step → Seen
board steps = seen (after run 1 steps)

-- ---- step by step

abbrev new_board : Seen
new_board = record {
  versions = 0 ∷ 0 ∷ 0 ∷ [];
  is_sweeping = false;
  listed = [];
  entries = [];
  next = 1;
  clock = 0;
  places = Waiting ∷ Waiting ∷ Waiting ∷ Waiting ∷ Waiting ∷ [];
  total = total 0;
}

a_board_before_all_steps : board [] ≡ new_board
unfolding shown
a_board_before_all_steps = refl

abbrev missed : Seen
missed = record new_board {
  next = 2;
  clock = 1000000000;
  places = Pending ∷ Waiting ∷ Waiting ∷ Waiting ∷ Waiting ∷ [];
}

after_a_miss : board (Look 1 Miss ∷ []) ≡ missed
unfolding shown
after_a_miss = refl

-- the frame of the upcall is credited at once, and isn't counted by its entry
abbrev installed : Seen
installed = record missed {
  versions = 1 ∷ 0 ∷ 0 ∷ [];
  entries = unused_entry 1 1 ∷ [];
  places = sent 1 (2 ∷ []) ∷ Waiting ∷ Waiting ∷ Waiting ∷ Waiting ∷ [];
  total = total 1;
}

after_a_settle_that_installs : board (Look 1 Miss ∷ Settle 1 1 (Installed 1 []) ∷ []) ≡ installed
unfolding shown
after_a_settle_that_installs = refl

after_a_settle_that_installs_nothing : board (Look 1 Miss ∷ Settle 1 1 Full ∷ []) ≡ record installed { entries = [] }
unfolding shown
after_a_settle_that_installs_nothing = refl

-- the second frame has no rule; its entry is dropped for nothing
abbrev two_settled : List Step
two_settled = Look 1 Miss ∷ Settle 1 1 (Installed 1 []) ∷ Look 2 Miss ∷ Settle 2 1 (Installed 2 []) ∷ []

abbrev hit : Seen
hit = record installed {
  entries = entry 1 1 1 60 1 60 ∷ unused_entry 2 1 ∷ [];
  next = 4;
  clock = 3000000000;
  places = sent 1 (2 ∷ []) ∷ sent 1 [] ∷ sent 1 (2 ∷ []) ∷ Waiting ∷ Waiting ∷ [];
}

after_a_hit : board (two_settled ++ Look 3 (Mega 1) ∷ []) ≡ hit
unfolding shown
after_a_hit = refl

abbrev begun : Seen
begun = record hit {
  versions = 2 ∷ 2 ∷ 0 ∷ [];
  is_sweeping = true;
  listed = 1 ∷ 2 ∷ [];
}

after_a_sweep_has_begun : board (two_settled ++ Look 3 (Mega 1) ∷ Begin 2 ∷ []) ≡ begun
unfolding shown
after_a_sweep_has_begun = refl

-- what the entry owes is paid
abbrev put : Seen
put = record begun {
  listed = 2 ∷ [];
  entries = entry 1 2 1 60 0 0 ∷ unused_entry 2 1 ∷ [];
  total = total 2;
}

after_a_put : board (two_settled ++ Look 3 (Mega 1) ∷ Begin 2 ∷ Put 1 2 Replaced ∷ []) ≡ put
unfolding shown
after_a_put = refl

after_a_put_of_an_idle_entry :
    board (two_settled ++ Look 3 (Mega 1) ∷ Begin 2 ∷ Put 1 2 Idle ∷ []) ≡ record put { entries = unused_entry 2 1 ∷ [] }
unfolding shown
after_a_put_of_an_idle_entry = refl

after_a_sweep_has_ended :
    board (two_settled ++ Look 3 (Mega 1) ∷ Begin 2 ∷ Put 1 2 Replaced ∷ Put 2 2 Kept ∷ End ∷ [])
    ≡ record put {
      versions = 2 ∷ 2 ∷ 2 ∷ [];
      is_sweeping = false;
      listed = [];
      entries = entry 1 2 1 60 0 0 ∷ unused_entry 2 2 ∷ [];
    }
unfolding shown
after_a_sweep_has_ended = refl

-- the fourth frame is decided by what the put left
after_an_exact_hit :
    board (two_settled ++ Look 3 (Mega 1) ∷ Begin 2 ∷ Put 1 2 Replaced ∷ Look 4 (Exact 1) ∷ [])
    ≡ record put {
      entries = entry 1 2 2 120 1 60 ∷ unused_entry 2 1 ∷ [];
      next = 5;
      clock = 4000000000;
      places = sent 1 (2 ∷ []) ∷ sent 1 [] ∷ sent 1 (2 ∷ []) ∷ sent 2 (3 ∷ []) ∷ Waiting ∷ [];
    }
unfolding shown
after_an_exact_hit = refl

-- ---- which number is which

-- a settle has a place and then a version: of two pending frames the second is settled by version 1, and not the first
-- by version 2
a_settle_has_a_place_and_then_a_version :
    (board (Look 1 Miss ∷ Look 2 Miss ∷ Settle 2 1 Full ∷ [])).places ≡ Pending ∷ sent 1 [] ∷ Waiting ∷ Waiting ∷ Waiting ∷ []
unfolding shown
a_settle_has_a_place_and_then_a_version = refl

-- where place 2 alone is pending, and under a floor of 2
a_refused_settle_has_a_place_and_then_a_version :
    (settle_fault run (after run 1 (Look 1 Miss ∷ Settle 1 1 Full ∷ Look 2 Miss ∷ [])) 2 1 ≡ None)
    × ((settle_fault run (after run 1 (Look 1 Miss ∷ Settle 1 1 Full ∷ Look 2 Miss ∷ [])) 1 2 ≡ Some settle_faults.NotPending)
    × (settle_fault run (after run 1 (Look 1 Miss ∷ Look 2 Miss ∷ Begin 2 ∷ [])) 2 1 ≡ Some (settle_faults.Stale 2)))
unfolding shown
a_refused_settle_has_a_place_and_then_a_version = (refl, (refl, refl))

-- a put has an entry and then a version
a_put_has_an_entry_and_then_a_version :
    ((board (two_settled ++ Begin 1 ∷ Put 2 1 Kept ∷ [])).listed ≡ 1 ∷ [])
    × ((put_fault run (after run 1 (two_settled ++ Begin 1 ∷ Put 1 1 Kept ∷ [])) 2 1 ≡ None)
    × (put_fault run (after run 1 (two_settled ++ Begin 1 ∷ Put 1 1 Kept ∷ [])) 1 2 ≡ Some put_faults.NotListed))
unfolding shown
a_put_has_an_entry_and_then_a_version = (refl, (refl, refl))
