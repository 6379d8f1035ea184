-- What a look, a settle and a put give.
use Rattle.std.specs.Prelude.{ℕ, ◌+◌, ◌==◌, nat_le, nat_lt, Bool, true, false, not, ◌&&◌, if◌then◌else◌, List, [], ◌∷◌, length, map, filter, Option, Some, None}
use Rattle.std.specs.List.{find}
use Rattle.std.specs.Option.{option_and_then}
use Rattle.spec_keys.specs.Fields.{place_of}
use Rattle.spec_keys.specs.Keys.{same, agree, covers, overlap}
use Rattle.spec_actions.specs.declared.action.DpAction.{DpAction}
use Rattle.spec_actions.specs.declared.action.DpAction.TheVariants.{Output, PopVlan, PushVlan, Set}
use Rattle.spec_tables.specs.Bundles.{version}
use Rattle.spec_xlate.specs.Translation.{Switch, switch_of, Translation, pipe}
use Rattle.spec_xlate.specs.Consulted.{consulted}
use Rattle.spec_case.specs.Run.{Run, frame_at}
use Rattle.spec_frames.specs.Key as frames
use Rattle.spec_board.specs.declared.looked.Looked.{Looked}
use Rattle.spec_board.specs.declared.looked.Looked.TheVariants.{Exact, Mega, Miss}
use Rattle.spec_board.specs.declared.put_done.PutDone.{PutDone}
use Rattle.spec_board.specs.declared.put_done.PutDone.TheVariants.{Idle, Removed, Kept, Replaced}
use Rattle.spec_board.specs.Steps.{Settled, Present, Full, Installed}
use Rattle.spec_board.specs.State.{Entry, State}
use Rattle.spec_board.specs.Cache.{cached}

-- ---- translations

-- the key of the frame at a place
abbrev pub key_at : Run → ℕ → ℕ → List ℕ
key_at run port place = frames.key_of port (frame_at run port place).bytes

-- the switch at a version of its tables
abbrev pub switch_at : Run → ℕ → Switch
switch_at run v = switch_of (version run.edits run.bundles v) run.ports

-- the translation of a key under a version, and the mask of the bits that it consults
abbrev pub translated : Run → ℕ → List ℕ → Translation
translated run v key = pipe (switch_at run v) key

abbrev pub mask_for : Run → ℕ → List ℕ → List ℕ
mask_for run v key = consulted (switch_at run v) key

-- ---- entries

-- the entry of a number, and the entry that covers a key
abbrev pub entry_of : ℕ → List Entry → Option Entry
entry_of number entries = find (λ (e : Entry). e.number == number) entries

abbrev pub covering : List ℕ → List Entry → Option Entry
covering key entries = find (λ (e : Entry). agree key e.key e.mask) entries

abbrev pub numbers_of : List Entry → List ℕ
numbers_of entries = map (λ (e : Entry). e.number) entries

-- whether some key is covered by an entry and by one of this key and mask
abbrev pub overlaps : List ℕ → List ℕ → Entry → Bool
overlaps key mask e = overlap key mask e.key e.mask

-- ---- looks

-- the live entry that the cache names for a key
abbrev pub exact_entry : List ℕ → State → Option Entry
exact_entry key s = option_and_then (λ number. entry_of number s.entries) (cached s.slots key)

abbrev pub found_by : Option Entry → Option Entry → Looked
found_by (Some e) other = Exact e.number
found_by None (Some e) = Mega e.number
found_by None None = Miss

abbrev pub looked : List ℕ → State → Looked
looked key s = found_by (exact_entry key s) (covering key s.entries)

-- ---- settles

-- what is done where no entry covers the key: those that don't overlap the new one count against the limit
abbrev pub settled_anew : ℕ → List ℕ → List ℕ → State → Settled
settled_anew limit key mask s =
    if nat_lt (length (filter (λ e. not (overlaps key mask e)) s.entries)) limit
    then Installed (s.made + 1) (numbers_of (filter (overlaps key mask) s.entries))
    else Full

abbrev pub settled_beside : ℕ → List ℕ → List ℕ → State → Option Entry → Settled
settled_beside limit key mask s (Some e) = Present e.number
settled_beside limit key mask s None = settled_anew limit key mask s

abbrev pub settled : Run → ℕ → List ℕ → ℕ → State → Settled
settled run limit key v s = settled_beside limit key (mask_for run v key) s (covering key s.entries)

-- ---- puts

-- how long an entry may stand unused before a sweep drops it: ten seconds, in nanoseconds (max-idle of Open vSwitch)
abbrev pub idle_time : ℕ
idle_time = 10000000000

abbrev pub is_same_action : DpAction → DpAction → Bool
is_same_action (Output m) (Output n) = m == n
is_same_action PopVlan PopVlan = true
is_same_action (PushVlan t c) (PushVlan u d) = (t == u) && (c == d)
is_same_action (Set f v m) (Set g w n) = (place_of f == place_of g) && ((v == w) && (m == n))
is_same_action a b = false

unfoldable pub are_same_actions : List DpAction → List DpAction → Bool
are_same_actions [] [] = true
are_same_actions [] (b ∷ bs) = false
are_same_actions (a ∷ as_) [] = false
are_same_actions (a ∷ as_) (b ∷ bs) = is_same_action a b && are_same_actions as_ bs

-- whether a translation is the one that an entry has
abbrev pub is_same_translation : Entry → Translation → Bool
is_same_translation e t = are_same_actions e.actions t.actions && same e.visits t.visits

abbrev pub put_of : Entry → Translation → List ℕ → State → PutDone
put_of e t mask s =
    if nat_le (e.used + idle_time) s.clock then Idle
    else (if not (covers e.mask mask) then Removed
    else (if is_same_translation e t then Kept
    else Replaced))

abbrev pub put_done : Run → Entry → ℕ → State → PutDone
put_done run e v s = put_of e (translated run v e.key) (mask_for run v e.key) s
