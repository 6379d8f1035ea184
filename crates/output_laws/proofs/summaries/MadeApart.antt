-- A run whose file of edits ends with a line `sync 0` has no block with both edits and frames.
use Rattle.std.proofs.Common.{◌≡◌, ℕ, suc, ◌+◌, ◌-◌, ◌≤◌, Bool, true, false, if◌then◌else◌, List, [], ◌∷◌, ◌++◌, length, count_by, drop, All, Option, Some, None, refl, sym, ap, ◌∙◌, subst, arith}
use Rattle.std.specs.Prelude.{◌==◌, nat_lt, nat_le, slice_get, Result, Ok, Err, codes, is_some}
use Rattle.std.specs.List.{slice_split, onto_first}
use Rattle.std.specs.Option.{option_map_or, is_none}
use Rattle.std.proofs.lemmas.Bool.{lt-ltb, le-ltb, leb-true, cond-true, cond-false}
use Rattle.std.proofs.lemmas.List.{length-append}
use Rattle.std.proofs.lemmas.List.Elements.{All-nil, All-head, All-tail, All-push, All-weaker}
use Rattle.spec_flow_text.specs.Characters.{line_feed}
use Rattle.spec_flow_text.specs.Numbers.{decimal_upto, digits_upto}
use Rattle.std.proofs.lemmas.List.Sums.{sum_by-cons}
use Rattle.spec_pcap.specs.Pcap.{Frame}
use Rattle.spec_case.specs.Run.{Run, last_version, frames_of}
use Rattle.spec_case.specs.Blocks.{bundles_through, lo, hi, frames_before, ends_after, block_of}
use Rattle.spec_run.specs.Journals.{HasEditsApart}
use Rattle.spec_tables.specs.declared.sync_point.SyncPoint.{SyncPoint}
use Rattle.spec_tables.specs.Edits.{Edit}
use Rattle.spec_tables.specs.Bundles.{edits_through}
use Rattle.spec_flow_text.specs.declared.fault.TextFault.{TextFault}
use Rattle.spec_flow_text.specs.declared.fault.TextFault.TheVariants.{Syntax}
use Rattle.spec_flow_text.specs.Items.{words}
use Rattle.spec_flow_text.specs.Lines.{edit_in}
use Rattle.spec_input.specs.declared.fault.FileFault.{FileFault}
use Rattle.spec_input.specs.declared.fault.FileFault.TheVariants.{SyncOrder, TooManyEdits, TooManySyncs}
use Rattle.spec_input.specs.Lines.{◌>>=◌, unless, in_line, most_line_bytes, is_blank, with_lines, lines_of, with_next}
use Rattle.spec_input.specs.Script.{seconds_of, fraction_of, seconds_with_fraction, time_of, Script, Begun, Reading, sync_time, with_bundle, with_edit_in, with_edit, last_time, sync_at, most_edits, most_syncs, word_alone, with_sync, with_begin, with_commit, begins_with, with_line, nothing_read, read_whole, script_of}

-- ---- what follows where nothing was refused

module _ {A B E : Type 0} where
  pub followed : (m : Result A E) (f : A → Result B E) (b : B) → (m >>= f) ≡ Ok b → (a : A) × (m ≡ Ok a) × (f a ≡ Ok b)
  followed (Ok a) f b is = (a, refl, is)
  followed (Err e) f b is = absurd (cc is)

-- ---- sync points stand in the order of their times

-- None is later than the last one.
abbrev pub AreUpToLast : List SyncPoint → Type 0
AreUpToLast syncs = All (λ (s : SyncPoint). s.time ≤ last_time syncs) syncs

abbrev syncs_in : Reading → List SyncPoint
syncs_in r = r.said.syncs

last_time-push : (syncs : List SyncPoint) (s : SyncPoint) → last_time (syncs ++ s ∷ []) ≡ s.time
last_time-push syncs s =
    let count : length (syncs ++ s ∷ []) - 1 ≡ length syncs = (let sum = length-append syncs (s ∷ []) in omega (arith, sum)) in
    ap (λ i. option_map_or (λ (x : SyncPoint). x.time) (slice_get (syncs ++ s ∷ []) i) 0) count ∙ at_end syncs
  where
    at_end : (xs : List SyncPoint) → option_map_or (λ (x : SyncPoint). x.time) (slice_get (xs ++ s ∷ []) (length xs)) 0 ≡ s.time
    at_end [] = refl
    at_end (x ∷ xs) = at_end xs

pushed : (syncs : List SyncPoint) (s : SyncPoint) → AreUpToLast syncs → last_time syncs ≤ s.time → AreUpToLast (syncs ++ s ∷ [])
pushed syncs s are le =
    let last = last_time-push syncs s in
    All-push (λ (x : SyncPoint). x.time ≤ last_time (syncs ++ s ∷ [])) syncs s
    (All-weaker (λ (x : SyncPoint). x.time ≤ last_time syncs) (λ x. x.time ≤ last_time (syncs ++ s ∷ [])) (λ x l. omega (arith, l, le, last)) syncs are)
    (omega (arith, last))

bundle_syncs : (s : Script) → (with_bundle s).syncs ≡ s.syncs
bundle_syncs s = at (nat_lt (edits_through s.bundles (length s.bundles)) (length s.edits))
  where
    at : (t : Bool) → (if t then record s { bundles = s.bundles ++ length s.edits ∷ [] } else s).syncs ≡ s.syncs
    at true = refl
    at false = refl

edit_syncs : (begun : Option Begun) (e : Edit) (s : Script) → (with_edit_in begun e s).syncs ≡ s.syncs
edit_syncs None e s = bundle_syncs (record s { edits = s.edits ++ e ∷ [] })
edit_syncs (Some b) e s = refl

module _ (number : ℕ) (line : List ℕ) (r : Reading) where
  of_sync : (now : Reading) → AreUpToLast (syncs_in r) → with_sync number line r ≡ Ok now → AreUpToLast (syncs_in now)
  unfolding with_sync
  of_sync now are is = at (nat_lt (length (syncs_in r)) most_syncs) (sync_time r.begun line) is
    where
      with_time : ℕ → Reading
      with_time time = record r { said = record r.said { syncs = syncs_in r ++ sync_at r.said.bundles time ∷ [] } }

      in_time : (time : ℕ) (t : Bool) → nat_le (last_time (syncs_in r)) time ≡ t
          → (unless t (SyncOrder number) >>= (λ order. Ok (with_time time))) ≡ Ok now → AreUpToLast (syncs_in now)
      in_time time false late is = absurd (cc is)
      in_time time true order is =
          let same : with_time time ≡ now = cc is in
          subst (λ (x : Reading). AreUpToLast (syncs_in x)) same (pushed (syncs_in r) (sync_at r.said.bundles time) are (leb-true (last_time (syncs_in r)) time order))

      at : (t : Bool) (time : Result ℕ TextFault)
          → (unless t TooManySyncs >>= (λ room. in_line number time >>= (λ at. unless (nat_le (last_time (syncs_in r)) at) (SyncOrder number) >>= (λ order. Ok (with_time at))))) ≡ Ok now
          → AreUpToLast (syncs_in now)
      at false time is = absurd (cc is)
      at true (Err e) is = absurd (cc is)
      at true (Ok time) is = in_time time (nat_le (last_time (syncs_in r)) time) refl is

  of_edit : (now : Reading) → with_edit number line r ≡ Ok now → syncs_in now ≡ syncs_in r
  unfolding with_edit
  of_edit now is = at (nat_lt (length r.said.edits) most_edits) (edit_in line) is
    where
      at : (t : Bool) (e : Result Edit TextFault)
          → (unless t TooManyEdits >>= (λ room. in_line number e >>= (λ e. Ok (record r { said = with_edit_in r.begun e r.said })))) ≡ Ok now → syncs_in now ≡ syncs_in r
      at false e is = absurd (cc is)
      at true (Err e) is = absurd (cc is)
      at true (Ok e) is =
          let same : record r { said = with_edit_in r.begun e r.said } ≡ now = cc is in sym (ap syncs_in same) ∙ edit_syncs r.begun e r.said

  of_begin : (now : Reading) → with_begin number line r ≡ Ok now → syncs_in now ≡ syncs_in r
  unfolding with_begin
  of_begin now is = at (word_alone (is_none r.begun) line) is
    where
      at : (column : Result ℕ TextFault)
          → (in_line number column >>= (λ c. Ok (record r { begun = Some (record { line = number; column = c }) }))) ≡ Ok now
          → syncs_in now ≡ syncs_in r
      at (Err e) is = absurd (cc is)
      at (Ok c) is = let same : record r { begun = Some (record { line = number; column = c }) } ≡ now = cc is in sym (ap syncs_in same)

  of_commit : (now : Reading) → with_commit number line r ≡ Ok now → syncs_in now ≡ syncs_in r
  unfolding with_commit
  of_commit now is = at (word_alone (is_some r.begun) line) is
    where
      committed : Reading
      committed = record { said = with_bundle r.said; begun = None }

      at : (column : Result ℕ TextFault) → (in_line number column >>= (λ c. Ok committed)) ≡ Ok now → syncs_in now ≡ syncs_in r
      at (Err e) is = absurd (cc is)
      at (Ok c) is = let same : committed ≡ now = cc is in sym (ap syncs_in same) ∙ bundle_syncs r.said

  of_line : (now : Reading) → AreUpToLast (syncs_in r) → with_next with_line number line r ≡ Ok now → AreUpToLast (syncs_in now)
  unfolding with_line
  of_line now are is =
      choose (nat_lt most_line_bytes (length line)) _ _ (λ refused. absurd (cc refused)) (λ other.
      choose (is_blank line) _ _ (λ same. let blank : r ≡ now = cc same in subst (λ (x : Reading). AreUpToLast (syncs_in x)) blank are) (λ other.
      choose (begins_with (codes "sync") line) _ _ (of_sync now are) (λ other.
      choose (begins_with (codes "begin") line) _ _ (λ begin. kept (of_begin now begin)) (λ other.
      choose (begins_with (codes "commit") line) _ _ (λ commit. kept (of_commit now commit)) (λ edit. kept (of_edit now edit)) other) other) other) other) is
    where
      choose : (t : Bool) (a b : Result Reading FileFault) → (a ≡ Ok now → AreUpToLast (syncs_in now)) → (b ≡ Ok now → AreUpToLast (syncs_in now))
          → (if t then a else b) ≡ Ok now → AreUpToLast (syncs_in now)
      choose true a b first second is = first is
      choose false a b first second is = second is

      kept : syncs_in now ≡ syncs_in r → AreUpToLast (syncs_in now)
      kept same = subst AreUpToLast (sym same) are

of_lines : (number : ℕ) (lines : List (List ℕ)) (r now : Reading) → AreUpToLast (syncs_in r) → with_lines with_line number lines r ≡ Ok now
    → AreUpToLast (syncs_in now)
unfolding with_lines
of_lines number [] r now are is = let same : r ≡ now = cc is in subst (λ x. AreUpToLast (syncs_in x)) same are
of_lines number (line ∷ lines) r now are is =
    let f = followed (with_next with_line number line r) (with_lines with_line (number + 1) lines) now is in
    of_lines (number + 1) lines f.0 now (of_line number line r f.0 are f.1) f.2

-- ---- the last lines

zero_time : sync_time None (codes "sync 0") ≡ Ok 0
unfolding sync_time time_of seconds_with_fraction seconds_of fraction_of words decimal_upto digits_upto
zero_time = refl

no_time : (b : Begun) → sync_time (Some b) (codes "sync 0") ≡ Err (Syntax 1)
unfolding sync_time time_of seconds_with_fraction seconds_of fraction_of words decimal_upto digits_upto
no_time b = refl

is_sync : (number : ℕ) (r : Reading) → with_next with_line number (codes "sync 0") r ≡ with_sync number (codes "sync 0") r
unfolding with_line
is_sync number r = refl

is_nothing : (number : ℕ) (r : Reading) → with_next with_line number [] r ≡ Ok r
unfolding with_line
is_nothing number r = refl

-- what a line `sync 0` does, where it isn't refused
record EndsAtZero (r now : Reading) : Type 0 where
  in_time : last_time (syncs_in r) ≤ 0
  said : now.said ≡ record r.said { syncs = syncs_in r ++ sync_at r.said.bundles 0 ∷ [] }
  begun : now.begun ≡ None

of_zero : (number : ℕ) (r now : Reading) → with_sync number (codes "sync 0") r ≡ Ok now → EndsAtZero r now
unfolding with_sync
of_zero number r now is = at (nat_lt (length (syncs_in r)) most_syncs) r.begun refl is
  where
    with_zero : Reading
    with_zero = record r { said = record r.said { syncs = syncs_in r ++ sync_at r.said.bundles 0 ∷ [] } }

    in_order : (t : Bool) → nat_le (last_time (syncs_in r)) 0 ≡ t → r.begun ≡ None
        → (unless t (SyncOrder number) >>= (λ order. Ok with_zero)) ≡ Ok now → EndsAtZero r now
    in_order false late none is = absurd (cc is)
    in_order true order none is =
        let same : with_zero ≡ now = cc is in
        record {
          in_time = leb-true (last_time (syncs_in r)) 0 order;
          said = sym (ap (λ (x : Reading). x.said) same);
          begun = sym (ap (λ (x : Reading). x.begun) same) ∙ none;
        }

    at_time : Result ℕ TextFault → Result Reading FileFault
    at_time time =
        in_line number time >>= (λ at. unless (nat_le (last_time (syncs_in r)) at) (SyncOrder number)
        >>= (λ order. Ok (record r { said = record r.said { syncs = syncs_in r ++ sync_at r.said.bundles at ∷ [] } })))

    at : (t : Bool) (begun : Option Begun) → r.begun ≡ begun
        → (unless t TooManySyncs >>= (λ room. at_time (sync_time begun (codes "sync 0")))) ≡ Ok now → EndsAtZero r now
    at false begun of_r is = absurd (cc is)
    at true (Some b) of_r is = let refused : at_time (Err (Syntax 1)) ≡ Ok now = ap at_time (sym (no_time b)) ∙ is in absurd (cc refused)
    at true None of_r is = in_order (nat_le (last_time (syncs_in r)) 0) refl of_r (ap at_time (sym zero_time) ∙ is)

last_lines : (number : ℕ) (r now : Reading) → with_lines with_line number (codes "sync 0" ∷ [] ∷ []) r ≡ Ok now → EndsAtZero r now
unfolding with_lines
last_lines number r now is =
    let first = followed (with_next with_line number (codes "sync 0") r) (with_lines with_line (number + 1) ([] ∷ [])) now is in
    let second = followed (with_next with_line (number + 1) [] first.0) (with_lines with_line (number + 1 + 1) []) now first.2 in
    let nothing = is_nothing (number + 1) first.0 in
    let none : first.0 ≡ now = cc (nothing, second.1, second.2) in
    subst (EndsAtZero r) none (of_zero number r first.0 (sym (is_sync number r) ∙ first.1))

-- lines before others
split_lines : (number : ℕ) (lines more : List (List ℕ)) (r now : Reading) → with_lines with_line number (lines ++ more) r ≡ Ok now
    → (n : ℕ) × ((between : Reading) × (with_lines with_line number lines r ≡ Ok between) × (with_lines with_line n more between ≡ Ok now))
unfolding with_lines
split_lines number [] more r now is = (number, (r, refl, is))
split_lines number (line ∷ lines) more r now is =
    let f = followed (with_next with_line number line r) (with_lines with_line (number + 1) (lines ++ more)) now is in
    let rest = split_lines (number + 1) lines more f.0 now f.2 in
    (rest.0, (rest.1.0, ap (λ m. m >>= with_lines with_line (number + 1) lines) f.1 ∙ rest.1.1, rest.1.2))

-- the lines of a text that ends with a line `sync 0`
module _ {X : Type 0} (p : X → Bool) where
  some_part : (xs : List X) → (part : List X) × ((parts : List (List X)) × (slice_split p xs ≡ part ∷ parts))
  some_part [] = ([], ([], refl))
  some_part (x ∷ xs) = at (p x) (some_part xs)
    where
      at : (t : Bool) → (part : List X) × ((parts : List (List X)) × (slice_split p xs ≡ part ∷ parts))
          → (part : List X) × ((parts : List (List X)) × ((if t then [] ∷ slice_split p xs else onto_first x (slice_split p xs)) ≡ part ∷ parts))
      at true rest = ([], (slice_split p xs, refl))
      at false rest = (x ∷ rest.0, (rest.1.0, ap (onto_first x) rest.1.1))

  split_at : (xs : List X) (y : X) (ys : List X) → p y ≡ true → slice_split p (xs ++ y ∷ ys) ≡ slice_split p xs ++ slice_split p ys
  split_at [] y ys is = cond-true (p y) _ _ is
  split_at (x ∷ xs) y ys is = ap (λ l. if p x then [] ∷ l else onto_first x l) (split_at xs y ys is) ∙ at (p x)
    where
      at : (t : Bool) → (if t then [] ∷ (slice_split p xs ++ slice_split p ys) else onto_first x (slice_split p xs ++ slice_split p ys))
          ≡ (if t then [] ∷ slice_split p xs else onto_first x (slice_split p xs)) ++ slice_split p ys
      at true = refl
      at false = let first = some_part xs in rw first.1.1 refl

-- The last sync point of a file is at time 0, like all before it, and all bundles stand before it.
pub record EndsWithSync (s : Script) : Type 0 where
  pub earlier : List SyncPoint
  pub at_zero : All (λ (x : SyncPoint). x.time ≤ 0) earlier
  pub syncs : s.syncs ≡ earlier ++ sync_at s.bundles 0 ∷ []

abbrev is_line_feed : ℕ → Bool
is_line_feed c = c == line_feed

-- by the lines before it, and what follows
ends_from : (number : ℕ) (r now : Reading) (s : Script) → AreUpToLast (syncs_in r) → with_lines with_line number (codes "sync 0" ∷ [] ∷ []) r ≡ Ok now
    → read_whole now.begun now.said ≡ Ok s → EndsWithSync s
ends_from number r now s are is read =
    let last = last_lines number r now is in
    let in_time = last.in_time in
    let whole : read_whole None now.said ≡ Ok s = ap (λ b. read_whole b now.said) (sym last.begun) ∙ read in
    let said : now.said ≡ s = cc whole in
    let same : record r.said { syncs = syncs_in r ++ sync_at r.said.bundles 0 ∷ [] } ≡ s = sym last.said ∙ said in
    record {
      earlier = syncs_in r;
      at_zero = All-weaker (λ (x : SyncPoint). x.time ≤ last_time (syncs_in r)) (λ x. x.time ≤ 0) (λ x l. omega (arith, l, in_time)) (syncs_in r) are;
      syncs = sym (ap (λ (x : Script). x.syncs) same) ∙ ap (λ (x : Script). syncs_in r ++ sync_at x.bundles 0 ∷ []) same;
    }

pub script_ends : (text : List ℕ) (s : Script) → script_of (text ++ codes "\nsync 0\n") ≡ Ok s → EndsWithSync s
unfolding script_of
script_ends text s is =
    let lines : lines_of (text ++ codes "\nsync 0\n") ≡ lines_of text ++ (codes "sync 0" ∷ [] ∷ []) = split_at is_line_feed text line_feed (codes "sync 0\n") refl in
    let read = followed (with_lines with_line 1 (lines_of (text ++ codes "\nsync 0\n")) nothing_read) (λ r. read_whole r.begun r.said) s is in
    let between = split_lines 1 (lines_of text) (codes "sync 0" ∷ [] ∷ []) nothing_read read.0 (ap (λ l. with_lines with_line 1 l nothing_read) (sym lines) ∙ read.1) in
    ends_from between.0 between.1.0 read.0 s (of_lines 1 (lines_of text) nothing_read between.1.0 (All-nil (λ (x : SyncPoint). x.time ≤ last_time [])) between.1.1) between.1.2 read.2

-- ---- blocks

-- all blocks but the last are without frames
ends_at_zero : (place : ℕ) (syncs : List SyncPoint) (frames : List Frame) → All (λ (s : SyncPoint). s.time ≤ 0) syncs → 1 ≤ place
    → place ≤ length frames
    → count_by (λ end. nat_lt end place) (ends_after 0 syncs frames) ≡ length syncs
unfolding ends_after
ends_at_zero place [] frames all first last =
    sum_by-cons (λ e. if nat_lt e place then 1 else 0) (0 + length frames) [] ∙ (let later = le-ltb (0 + length frames) place (omega (arith, last)) in rw later refl)
ends_at_zero place (s ∷ syncs) frames all first last =
    let none : frames_before s.time frames ≡ 0 = none_before s.time frames (All-head (λ (s : SyncPoint). s.time ≤ 0) s syncs all) in
    let rest = ends_at_zero place syncs frames (All-tail (λ (s : SyncPoint). s.time ≤ 0) s syncs all) first last in
    ap (λ n. count_by (λ end. nat_lt end place) ((0 + n) ∷ ends_after (0 + n) syncs (drop n frames))) none
    ∙ sum_by-cons (λ e. if nat_lt e place then 1 else 0) 0 (ends_after 0 syncs frames)
    ∙ ap (λ (t : Bool). (if t then 1 else 0) + count_by (λ end. nat_lt end place) (ends_after 0 syncs frames)) (lt-ltb 0 place (omega (arith, first)))
    ∙ (omega (arith, rest))
  where
    none_before : (time : ℕ) (frames : List Frame) → time ≤ 0 → frames_before time frames ≡ 0
    none_before time [] le = refl
    none_before time (f ∷ frames) le = cond-false (nat_lt f.time time) _ _ (le-ltb f.time time (omega (arith, le)))

through_last : (earlier : List SyncPoint) (s : SyncPoint) (bundles : ℕ) → bundles_through (earlier ++ s ∷ []) bundles (length earlier) ≡ s.after
through_last [] s bundles = refl
through_last (x ∷ earlier) s bundles = through_last earlier s bundles

through_all : (syncs : List SyncPoint) (bundles : ℕ) → bundles_through syncs bundles (length syncs) ≡ bundles
through_all [] bundles = refl
through_all (x ∷ syncs) bundles = through_all syncs bundles

-- A run with these sync points and so many bundles has no block with both edits and frames.
pub apart_by_syncs : (run : Run) (earlier : List SyncPoint) (s : SyncPoint) → All (λ (x : SyncPoint). x.time ≤ 0) earlier → s.time ≡ 0
    → s.after ≡ last_version run → run.syncs ≡ earlier ++ s ∷ [] → HasEditsApart run
apart_by_syncs run earlier s zeros at_first all syncs port place first last =
    let every : All (λ (x : SyncPoint). x.time ≤ 0) run.syncs =
    subst (All (λ (x : SyncPoint). x.time ≤ 0)) (sym syncs) (All-push (λ (x : SyncPoint). x.time ≤ 0) earlier s zeros (omega (arith, at_first))) in
    let count : length run.syncs ≡ suc (length earlier) = (let sum = ap length syncs ∙ length-append earlier (s ∷ []) in omega (arith, sum)) in
    let block : block_of run port place ≡ length run.syncs = ends_at_zero place run.syncs (frames_of run port) every first last in
    let low : lo run (block_of run port place) ≡ last_version run =
    ap (lo run) (block ∙ count) ∙ ap (λ l. bundles_through l (last_version run) (length earlier)) syncs ∙ through_last earlier s (last_version run)
    ∙ all in
    let high : hi run (block_of run port place) ≡ last_version run = ap (hi run) block ∙ through_all run.syncs (last_version run) in
    low ∙ sym high

pub apart_by_script : (run : Run) (s : Script) → run.bundles ≡ s.bundles → run.syncs ≡ s.syncs → EndsWithSync s → HasEditsApart run
apart_by_script run s bundles syncs ends =
    apart_by_syncs run ends.earlier (sync_at s.bundles 0) ends.at_zero refl (sym (ap length bundles)) (syncs ∙ ends.syncs)
