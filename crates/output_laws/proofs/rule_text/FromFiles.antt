-- The edits of a file that was read are those of its lines.
use Rattle.std.proofs.Common.{◌≡◌, ℕ, ◌+◌, Bool, true, false, if◌then◌else◌, List, [], ◌∷◌, ◌++◌, length, refl, ap, subst, arith, Option, Some, None, Result, Ok, Err}
use Rattle.std.specs.Prelude.{All, nat_lt, nat_le, is_some, codes}
use Rattle.std.specs.Option.{is_none}
use Rattle.std.proofs.lemmas.List.Elements.{All-cons, All-append}
use Rattle.spec_tables.specs.Edits.{Edit}
use Rattle.spec_tables.specs.Bundles.{edits_through}
use Rattle.spec_flow_text.specs.declared.fault.TextFault.{TextFault}
use Rattle.spec_flow_text.specs.Lines.{edit_in}
use Rattle.spec_input.specs.declared.fault.FileFault.{FileFault}
use Rattle.spec_input.specs.declared.fault.FileFault.TheVariants.{SyncOrder, LineTooLong, TooManyEdits, TooManySyncs}
use Rattle.spec_input.specs.Lines.{◌>>=◌, unless, in_line, most_line_bytes, is_blank, with_lines, lines_of, with_next}
use Rattle.spec_input.specs.Script.{Script, Reading, Begun, nothing_read, reads, most_edits, most_syncs, sync_time, word_alone, last_time, sync_at, with_bundle, with_edit_in, with_edit, with_sync, with_begin, with_commit, begins_with, with_line, read_whole, script_of}
use Rattle.output_laws.specs.Lines.{WasRead}

chained : {A B : Type 0} (r : Result A FileFault) (f : A → Result B FileFault) (b : B) → r >>= f ≡ Ok b → (a : A) × (r ≡ Ok a) × (f a ≡ Ok b)
chained (Ok a) f b h = (a, refl, h)
chained (Err e) f b h = cc h

in_line_read : (number : ℕ) (r : Result Edit TextFault) (e : Edit) → in_line number r ≡ Ok e → r ≡ Ok e
in_line_read number (Ok a) e h = let is : a ≡ e = cc h in ap (λ (x : Edit). Ok x) is
in_line_read number (Err why) e h = cc h

abbrev AreRead : Reading → Type 0
AreRead r = All WasRead r.said.edits

bundle_read : (s : Script) → All WasRead s.edits → All WasRead (with_bundle s).edits
bundle_read s all = at (nat_lt (edits_through s.bundles (length s.bundles)) (length s.edits))
  where
    at : (t : Bool) → All WasRead (if t then record s { bundles = s.bundles ++ length s.edits ∷ [] } else s).edits
    at true = all
    at false = all

one_more : (edits : List Edit) (e : Edit) → All WasRead edits → WasRead e → All WasRead (edits ++ e ∷ [])
one_more edits e all read = All-append WasRead edits (e ∷ []) all (All-cons WasRead e [] read (λ k d within. absurd (omega (arith, within))))

edit_in_read : (begun : Option Begun) (e : Edit) (s : Script) → All WasRead s.edits → WasRead e → All WasRead (with_edit_in begun e s).edits
edit_in_read None e s all read = bundle_read (record s { edits = s.edits ++ e ∷ [] }) (one_more s.edits e all read)
edit_in_read (Some b) e s all read = one_more s.edits e all read

edit_read : (number : ℕ) (line : List ℕ) (r t : Reading) → with_edit number line r ≡ Ok t → AreRead r → AreRead t
unfolding with_edit
edit_read number line r t h all =
    let room = chained (unless (nat_lt (length r.said.edits) most_edits) TooManyEdits) _ t h in
    let e = chained (in_line number (edit_in line)) _ t room.2 in
    let is : reads (with_edit_in r.begun e.0 r.said) r ≡ t = cc (e.2) in
    subst AreRead is (edit_in_read r.begun e.0 r.said all (line, in_line_read number (edit_in line) e.0 e.1))

sync_read : (number : ℕ) (line : List ℕ) (r t : Reading) → with_sync number line r ≡ Ok t → AreRead r → AreRead t
unfolding with_sync
sync_read number line r t h all =
    let room = chained (unless (nat_lt (length r.said.syncs) most_syncs) TooManySyncs) _ t h in
    let time = chained (in_line number (sync_time r.begun line)) _ t room.2 in
    let order = chained (unless (nat_le (last_time r.said.syncs) time.0) (SyncOrder number)) _ t time.2 in
    let is : reads (record r.said { syncs = r.said.syncs ++ sync_at r.said.bundles time.0 ∷ [] }) r ≡ t = cc (order.2) in
    subst AreRead is all

begin_read : (number : ℕ) (line : List ℕ) (r t : Reading) → with_begin number line r ≡ Ok t → AreRead r → AreRead t
unfolding with_begin
begin_read number line r t h all =
    let column = chained (in_line number (word_alone (is_none r.begun) line)) _ t h in
    let is : record r { begun = Some (record { line = number; column = column.0 }) } ≡ t = cc (column.2) in
    subst AreRead is all

commit_read : (number : ℕ) (line : List ℕ) (r t : Reading) → with_commit number line r ≡ Ok t → AreRead r → AreRead t
unfolding with_commit
commit_read number line r t h all =
    let column = chained (in_line number (word_alone (is_some r.begun) line)) _ t h in
    let is : record { said = with_bundle r.said; begun = None } ≡ t = cc (column.2) in
    subst AreRead is (bundle_read r.said all)

line_read : (number : ℕ) (line : List ℕ) (r t : Reading) → with_next with_line number line r ≡ Ok t → AreRead r → AreRead t
unfolding with_line
line_read number line r t h all =
    by (nat_lt most_line_bytes (length line)) (is_blank line) (begins_with (codes "sync") line) (begins_with (codes "begin") line) (begins_with (codes "commit") line) h
  where
    by : (long blank sync begin commit : Bool)
        → (if long then Err LineTooLong
        else (if blank then Ok r
        else (if sync then with_sync number line r
        else (if begin then with_begin number line r
        else (if commit then with_commit number line r
        else with_edit number line r))))) ≡ Ok t → AreRead t
    by true blank sync begin commit h = cc h
    by false true sync begin commit h = let is : r ≡ t = cc h in subst AreRead is all
    by false false true begin commit h = sync_read number line r t h all
    by false false false true commit h = begin_read number line r t h all
    by false false false false true h = commit_read number line r t h all
    by false false false false false h = edit_read number line r t h all

lines_read : (number : ℕ) (lines : List (List ℕ)) (r t : Reading) → with_lines with_line number lines r ≡ Ok t → AreRead r → AreRead t
unfolding with_lines
lines_read number [] r t h all = let is : r ≡ t = cc h in subst AreRead is all
lines_read number (line ∷ lines) r t h all =
    let first = chained (with_next with_line number line r) (with_lines with_line (number + 1) lines) t h in
    lines_read (number + 1) lines first.0 t first.2 (line_read number line r first.0 first.1 all)

whole_read : (begun : Option Begun) (s t : Script) → read_whole begun s ≡ Ok t → All WasRead s.edits → All WasRead t.edits
whole_read None s t h all = let is : s ≡ t = cc h in subst (λ (x : Script). All WasRead x.edits) is all
whole_read (Some b) s t h all = cc h

pub script_read : (bytes : List ℕ) (s : Script) → script_of bytes ≡ Ok s → All WasRead s.edits
unfolding script_of
script_read bytes s h =
    let r = chained (with_lines with_line 1 (lines_of bytes) nothing_read) (λ x. read_whole x.begun x.said) s h in
    whole_read r.0.begun r.0.said s r.2 (lines_read 1 (lines_of bytes) nothing_read r.0 r.1 (λ k d within. absurd (omega (arith, within))))
