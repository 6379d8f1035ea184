-- A file of lines, which are read one after the other. The first line that is wrong decides. From `#` on a line is comment.
use Rattle.std.specs.Prelude.{ℕ, ◌+◌, ◌==◌, nat_lt, Bool, true, false, if◌then◌else◌, List, [], ◌∷◌, ◌++◌, length, Result, Ok, Err}
use Rattle.std.specs.List.{list_all, slice_split}
use Rattle.spec_flow_text.specs.Characters.{line_feed}
use Rattle.spec_flow_text.specs.declared.fault.TextFault.{TextFault}
use Rattle.spec_flow_text.specs.Items.{is_white}
use Rattle.spec_flow_text.specs.Matches.{uncommented}
use Rattle.spec_input.specs.declared.fault.FileFault.{FileFault}
use Rattle.spec_input.specs.declared.fault.FileFault.TheVariants.{Line, LineTooLong}

-- the most bytes of a line, without its line feed
abbrev pub most_line_bytes : ℕ
most_line_bytes = 4096

-- the lines of a text; the last may lack its line feed
abbrev pub lines_of : List ℕ → List (List ℕ)
lines_of text = slice_split (λ c. c == line_feed) text

-- whether a line has nothing but white space before its comment
abbrev pub is_blank : List ℕ → Bool
is_blank line = list_all is_white (uncommented line)

-- ---- one line after the other

infixl 10 ◌>>=◌
abbrev pub ◌>>=◌ : {A B E : Type 0} → Result A E → (A → Result B E) → Result B E
(Ok a) >>= f = f a
(Err e) >>= f = Err e

abbrev pub unless : Bool → FileFault → Result Bool FileFault
unless true e = Ok true
unless false e = Err e

-- what is wrong with a line is told with its number
abbrev pub in_line : {A : Type 0} → ℕ → Result A TextFault → Result A FileFault
in_line number (Ok a) = Ok a
in_line number (Err why) = Err (Line number why)

-- one more of what lines list
abbrev pub and_one : {A : Type 0} → List A → Result A FileFault → Result (List A) FileFault
and_one before (Ok a) = Ok (before ++ a ∷ [])
and_one before (Err fault) = Err fault

-- What lines say with one more. `with_line` says what one of this number says after others; its length is tested first.
abbrev pub with_next : {S : Type 0} → (ℕ → List ℕ → S → Result S FileFault) → ℕ → List ℕ → S → Result S FileFault
with_next with_line number line said = if nat_lt most_line_bytes (length line) then Err LineTooLong else with_line number line said

-- and with the lines from this number on
unfoldable pub with_lines : {S : Type 0} → (ℕ → List ℕ → S → Result S FileFault) → ℕ → List (List ℕ) → S → Result S FileFault
with_lines with_line number [] said = Ok said
with_lines with_line number (line ∷ lines) said = with_next with_line number line said >>= with_lines with_line (number + 1) lines

-- what all lines of a text say
abbrev pub said_by : {S : Type 0} → (ℕ → List ℕ → S → Result S FileFault) → List ℕ → S → Result S FileFault
said_by with_line bytes nothing = with_lines with_line 1 (lines_of bytes) nothing
