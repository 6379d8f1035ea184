-- The file of edits: a line is an edit (`spec_flow_text`), or blank, or one of these:
--
--     sync SECONDS [. FRACTION]
--     begin
--     commit
--
-- A sync line gives a time: the edits after it begin a new block then. The edits between `begin` and `commit` are one
-- bundle (ovs-ofctl(8), `bundle`), and each other edit is one by itself. From `#` on a line is comment.
use Rattle.std.specs.Prelude.{ℕ, ◌+◌, ◌-◌, ◌*◌, ◌^◌, nat_lt, nat_le, Bool, true, false, if◌then◌else◌, List, [], ◌∷◌, ◌++◌, length, slice_get, Option, Some, None, Result, Ok, Err, codes, bytes_eq, is_some}
use Rattle.std.specs.Option.{ok_or, option_map, option_map_or, option_and_then, is_none}
use Rattle.spec_flow_text.specs.Characters.{dot}
use Rattle.spec_flow_text.specs.Numbers.{where_found, split_once, digits_upto, decimal_upto}
use Rattle.spec_tables.specs.declared.sync_point.SyncPoint.{SyncPoint}
use Rattle.spec_tables.specs.Edits.{Edit}
use Rattle.spec_tables.specs.Bundles.{edits_through}
use Rattle.spec_flow_text.specs.declared.fault.TextFault.{TextFault}
use Rattle.spec_flow_text.specs.declared.fault.TextFault.TheVariants.{Syntax, BadValue}
use Rattle.spec_flow_text.specs.Items.{Word, column, is_white, words}
use Rattle.spec_flow_text.specs.Matches.{uncommented, ascii_from}
use Rattle.spec_flow_text.specs.Lines.{first_word, edit_in}
use Rattle.spec_input.specs.declared.fault.FileFault.{FileFault}
use Rattle.spec_input.specs.declared.fault.FileFault.TheVariants.{Line, SyncOrder, TooManyEdits, TooManySyncs}
use Rattle.spec_input.specs.Lines.{◌>>=◌, unless, in_line, is_blank, said_by}

-- ---- limits

abbrev pub most_edits : ℕ
most_edits = 32768

abbrev pub most_syncs : ℕ
most_syncs = 63

-- the greatest whole number of seconds of a sync time
abbrev pub most_seconds : ℕ
most_seconds = 4294967295

-- ---- sync lines

-- the decimal digits of a fraction of a second in nanoseconds
abbrev pub nanosecond_digits : ℕ
nanosecond_digits = 9

-- whole seconds, in nanoseconds
unfoldable pub seconds_of : List ℕ → Option ℕ
seconds_of text = option_map (λ n. n * 10 ^ nanosecond_digits) (decimal_upto most_seconds text)

-- the fraction of a second after its dot, in nanoseconds
unfoldable pub fraction_of : List ℕ → Option ℕ
fraction_of digits =
    if nat_le (length digits) nanosecond_digits
    then option_map (λ n. n * 10 ^ (nanosecond_digits - length digits)) (digits_upto 10 (10 ^ nanosecond_digits - 1) digits)
    else None

-- seconds with a fraction, in nanoseconds
unfoldable pub seconds_with_fraction : List ℕ × List ℕ → Option ℕ
seconds_with_fraction parts = option_and_then (λ whole. option_map (λ part. whole + part) (fraction_of parts.1)) (seconds_of parts.0)

-- a time of one word, in nanoseconds
unfoldable pub time_of : List ℕ → Option ℕ
time_of word = where_found (split_once dot word) seconds_with_fraction (seconds_of word)

-- ---- files

-- what a file says: its edits, how many of them stand through each bundle, and its sync points
pub record Script : Type 0 where
  pub edits : List Edit
  pub bundles : List ℕ
  pub syncs : List SyncPoint

-- where a bundle was begun
pub record Begun : Type 0 where
  pub line : ℕ
  pub column : ℕ

-- what the lines so far say, and where the bundle that they are in was begun, if they are in one
pub record Reading : Type 0 where
  pub said : Script
  pub begun : Option Begun

abbrev pub nothing_said : Script
nothing_said = record { edits = []; bundles = []; syncs = [] }

abbrev pub nothing_read : Reading
nothing_read = record { said = nothing_said; begun = None }

abbrev pub reads : Script → Reading → Reading
reads s r = record r { said = s }

-- ---- lines of words

-- the words of a line whose bytes are ASCII
abbrev pub words_in : Result (List ℕ) TextFault → Result (List Word) TextFault
words_in (Ok text) = Ok (words is_white true 0 text)
words_in (Err e) = Err e

abbrev pub words_of : List ℕ → Result (List Word) TextFault
words_of line = words_in (ascii_from 0 (uncommented line))

-- the time of a sync line's words: `sync`, and one more; a bundle has none
abbrev pub time_in_words : Option Begun → List Word → Result ℕ TextFault
time_in_words None (w ∷ time ∷ []) = ok_or (time_of time.text) (BadValue (column time))
time_in_words begun (w ∷ ws) = Err (Syntax (column w))
time_in_words begun [] = Err (Syntax 1)

-- the column of a word that stands alone, and where it may
abbrev pub column_in_words : Bool → List Word → Result ℕ TextFault
column_in_words true (w ∷ []) = Ok (column w)
column_in_words true (w ∷ next ∷ ws) = Err (Syntax (column next))
column_in_words false (w ∷ ws) = Err (Syntax (column w))
column_in_words may_stand [] = Err (Syntax 1)

-- the time of a sync line
unfoldable pub sync_time : Option Begun → List ℕ → Result ℕ TextFault
sync_time begun line = words_of line >>= time_in_words begun

-- the column of the one word of a line
unfoldable pub word_alone : Bool → List ℕ → Result ℕ TextFault
word_alone may_stand line = words_of line >>= column_in_words may_stand

-- the bundles with one that all edits so far are through, if there are edits since the last one
abbrev pub with_bundle : Script → Script
with_bundle s =
    if nat_lt (edits_through s.bundles (length s.bundles)) (length s.edits) then record s { bundles = s.bundles ++ length s.edits ∷ [] } else s

-- one more edit, which is a bundle by itself where none was begun
abbrev pub with_edit_in : Option Begun → Edit → Script → Script
with_edit_in None e s = with_bundle (record s { edits = s.edits ++ e ∷ [] })
with_edit_in (Some b) e s = record s { edits = s.edits ++ e ∷ [] }

-- the script with the edit of one more line
unfoldable pub with_edit : ℕ → List ℕ → Reading → Result Reading FileFault
with_edit number line r = do
  room ← unless (nat_lt (length r.said.edits) most_edits) TooManyEdits
  e ← in_line number (edit_in line)
  Ok (reads (with_edit_in r.begun e r.said) r)

-- the time of the last sync point so far; there is none before time 0
abbrev pub last_time : List SyncPoint → ℕ
last_time syncs = option_map_or (λ (s : SyncPoint). s.time) (slice_get syncs (length syncs - 1)) 0

-- the sync point of a time, after these bundles
abbrev pub sync_at : List ℕ → ℕ → SyncPoint
sync_at bundles time = record { time = time; after = length bundles }

-- the script with a sync point more, which is no earlier than the one before it
unfoldable pub with_sync : ℕ → List ℕ → Reading → Result Reading FileFault
with_sync number line r = do
  room ← unless (nat_lt (length r.said.syncs) most_syncs) TooManySyncs
  time ← in_line number (sync_time r.begun line)
  order ← unless (nat_le (last_time r.said.syncs) time) (SyncOrder number)
  Ok (reads (record r.said { syncs = r.said.syncs ++ sync_at r.said.bundles time ∷ [] }) r)

-- a bundle is begun
unfoldable pub with_begin : ℕ → List ℕ → Reading → Result Reading FileFault
with_begin number line r = do
  column ← in_line number (word_alone (is_none r.begun) line)
  Ok (record r { begun = Some (record { line = number; column = column }) })

-- the bundle that was begun ends; without an edit in it there is none
unfoldable pub with_commit : ℕ → List ℕ → Reading → Result Reading FileFault
with_commit number line r = do
  column ← in_line number (word_alone (is_some r.begun) line)
  Ok (record { said = with_bundle r.said; begun = None })

-- whether this is a line's first word
abbrev pub begins_with : List ℕ → List ℕ → Bool
begins_with word line = bytes_eq word (first_word (uncommented line)).text

-- the script with that of one more line
unfoldable pub with_line : ℕ → List ℕ → Reading → Result Reading FileFault
with_line number line r =
    if is_blank line then Ok r
    else (if begins_with (codes "sync") line then with_sync number line r
    else (if begins_with (codes "begin") line then with_begin number line r
    else (if begins_with (codes "commit") line then with_commit number line r
    else with_edit number line r)))

-- what a whole file says; the bundle that was begun last is committed
abbrev pub read_whole : Option Begun → Script → Result Script FileFault
read_whole None s = Ok s
read_whole (Some b) s = Err (Line b.line (Syntax b.column))

-- what the bytes of a file say
unfoldable pub script_of : List ℕ → Result Script FileFault
script_of bytes = said_by with_line bytes nothing_read >>= λ r. read_whole r.begun r.said
