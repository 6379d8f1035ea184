-- What a step does.
use Rattle.std.specs.Prelude.{ℕ, ◌+◌, ◌*◌, ◌==◌, max, Bool, true, false, not, if◌then◌else◌, List, [], ◌∷◌, ◌++◌, length, map, filter, count_by, Option, Some, None}
use Rattle.std.specs.List.{list_any}
use Rattle.spec_xlate.specs.Translation.{Translation}
use Rattle.spec_pcap.specs.Pcap.{Frame}
use Rattle.spec_case.specs.Run.{Run, frame_at}
use Rattle.spec_board.specs.declared.looked.Looked.TheVariants.{Exact, Mega, Miss}
use Rattle.spec_board.specs.declared.put_done.PutDone.{PutDone}
use Rattle.spec_board.specs.declared.put_done.PutDone.TheVariants.{Idle, Removed, Kept, Replaced}
use Rattle.spec_board.specs.Steps.{Step, Open, Look, Settle, Begin, Put, End, Present, Full, Installed}
use Rattle.spec_board.specs.State.{Entry, Place, Waiting, Pending, Decided, Total, State, with_place}
use Rattle.spec_board.specs.Cache.{with_cached}
use Rattle.spec_board.specs.Results.{key_at, translated, mask_for, entry_of, numbers_of}

-- ---- totals and entries

-- each visit of a rule credits it with so many packets and bytes
abbrev pub credited : List ℕ → ℕ → ℕ → (ℕ → Total) → ℕ → Total
credited visits packets bytes totals rule =
    let times = count_by (λ r. r == rule) visits in
    record { packets = (totals rule).packets + times * packets; bytes = (totals rule).bytes + times * bytes }

-- the entries with the one of this number changed
abbrev pub changed : ℕ → (Entry → Entry) → List Entry → List Entry
changed number change entries = map (λ (e : Entry). if e.number == number then change e else e) entries

abbrev pub is_among : List ℕ → ℕ → Bool
is_among numbers number = list_any (λ n. n == number) numbers

-- the rules of these entries are credited with what the entries owe
unfoldable pub credited_by : List Entry → (ℕ → Total) → ℕ → Total
credited_by [] totals = totals
credited_by (e ∷ entries) totals = credited_by entries (credited e.visits e.owed_packets e.owed_bytes totals)

-- The rules of the entries of these numbers are credited with what they owe.
abbrev pub paid : List ℕ → State → State
paid numbers s = record s {
  totals = credited_by (filter (λ (e : Entry). is_among numbers e.number) s.entries) s.totals;
  entries = map (λ (e : Entry). if is_among numbers e.number then record e { owed_packets = 0; owed_bytes = 0 } else e) s.entries;
}

-- the entries of these numbers are live no more
abbrev pub dropped : List ℕ → State → State
dropped numbers s = record s {
  entries = filter (λ (e : Entry). not (is_among numbers e.number)) s.entries;
  listed = filter (λ n. not (is_among numbers n)) s.listed;
}

-- ---- looks

-- the next place moves on, and the clock where the frame is later
abbrev pub advanced : Frame → State → State
advanced frame s = record s { next = s.next + 1; clock = max s.clock frame.time }

-- an entry that decided one more frame
abbrev pub hit_by : Frame → Entry → Entry
hit_by frame e = record e {
  packets = e.packets + 1;
  bytes = e.bytes + length frame.bytes;
  owed_packets = e.owed_packets + 1;
  owed_bytes = e.owed_bytes + length frame.bytes;
  used = frame.time;
}

-- what an entry decides of a frame
abbrev pub decided_as : Option Entry → Place
decided_as (Some e) = Decided e.version e.actions
decided_as None = Waiting

-- the frame of a place is decided by the entry of this number
abbrev pub decided_by : ℕ → ℕ → Frame → State → State
decided_by number place frame s =
    record (with_place place (decided_as (entry_of number s.entries)) s) { entries = changed number (hit_by frame) s.entries }

-- ---- settles

-- the frame of a place is decided by its translation under a version, and each rule visited is credited at once
abbrev pub settled_by : ℕ → ℕ → Translation → Frame → State → State
settled_by place v t frame s = record (with_place place (Decided v t.actions) s) {
  newest = max s.newest v;
  totals = credited t.visits 1 (length frame.bytes) s.totals;
}

-- a new entry of a translation, made for a frame
abbrev pub new_entry : ℕ → List ℕ → List ℕ → ℕ → Translation → Frame → Entry
new_entry number key mask v t frame = record {
  number = number;
  key = key;
  mask = mask;
  version = v;
  actions = t.actions;
  visits = t.visits;
  packets = 0;
  bytes = 0;
  owed_packets = 0;
  owed_bytes = 0;
  used = frame.time;
}

abbrev pub with_entry : Entry → State → State
with_entry e s = record s { entries = s.entries ++ e ∷ []; made = e.number }

-- ---- sweeps

-- an entry with a translation under a version
abbrev pub revalidated : ℕ → Translation → Entry → Entry
revalidated v t e = record e { version = v; actions = t.actions; visits = t.visits }

abbrev pub with_put : PutDone → ℕ → ℕ → Translation → State → State
with_put Idle number v t s = dropped (number ∷ []) s
with_put Removed number v t s = dropped (number ∷ []) s
with_put Kept number v t s = record s { entries = changed number (revalidated v t) s.entries }
with_put Replaced number v t s = record s { entries = changed number (revalidated v t) s.entries }

abbrev pub key_of_entry : Option Entry → List ℕ
key_of_entry (Some e) = e.key
key_of_entry None = []

-- the entry is paid, and leaves the list of the sweep
abbrev pub put_by : ℕ → ℕ → State → State
put_by number v s =
    record (paid (number ∷ []) s) { newest = max s.newest v; listed = filter (λ n. not (n == number)) s.listed }

-- ---- all steps

abbrev pub effect : Run → ℕ → State → Step → State
effect run port s (Open block) = record s { block = block }
effect run port s (Look place (Exact n)) = decided_by n place (frame_at run port place) (advanced (frame_at run port place) s)
effect run port s (Look place (Mega n)) =
    record (decided_by n place (frame_at run port place) (advanced (frame_at run port place) s)) { slots = with_cached (key_at run port place) n s.slots }
effect run port s (Look place Miss) = with_place place Pending (advanced (frame_at run port place) s)
effect run port s (Settle place v (Present n)) = settled_by place v (translated run v (key_at run port place)) (frame_at run port place) s
effect run port s (Settle place v Full) = settled_by place v (translated run v (key_at run port place)) (frame_at run port place) s
effect run port s (Settle place v (Installed n numbers)) =
    let key = key_at run port place in
    let t = translated run v key in
    with_entry (new_entry n key (mask_for run v key) v t (frame_at run port place))
    (dropped numbers (paid numbers (settled_by place v t (frame_at run port place) s)))
effect run port s (Begin v) = record s { newest = max s.newest v; floor = max s.floor v; is_sweeping = true; listed = numbers_of s.entries }
effect run port s (Put number v r) =
    with_put r number v (translated run v (key_of_entry (entry_of number s.entries))) (put_by number v s)
effect run port s End = record s { done = s.floor; is_sweeping = false }
