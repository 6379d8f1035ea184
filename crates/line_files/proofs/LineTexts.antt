-- The lines of a text, one after the other, as a loop reads them.
use Rattle.std.proofs.Common.{◌≡◌, ℕ, ◌+◌, List, Some, None, Result, Ok, Err, refl, sym, ◌∙◌}
use Rattle.spec_flow_text.specs.Numbers.{split_once}
use Rattle.text_numbers.proofs.Cuts.{none_cut, some_split}
use Rattle.spec_input.specs.declared.fault.FileFault.{FileFault}
use Rattle.spec_input.specs.declared.fault.FileFault.TheVariants.{Line, SyncOrder, LineTooLong, TooManyEdits, TooManySyncs, TooManySteps, TooManyMirrors, OutOfMemory}
use Rattle.spec_input.specs.Given.{IsFault}
use Rattle.spec_input.specs.Lines.{◌>>=◌, with_next, with_lines, lines_of}

module _ {S : Type 0} (with_line : ℕ → List ℕ → S → Result S FileFault) (number : ℕ) (before : S) (text : List ℕ) where
  -- what all lines say, of which the first has this number
  abbrev all_say : Result S FileFault
  all_say = with_lines with_line number (lines_of text) before

  -- the last line
  pub last_line : None ≡ split_once 10 text → all_say ≡ with_next with_line number text before
  unfolding with_lines
  last_line is =
      let step : all_say ≡ (with_next with_line number text before >>= (λ more. Ok more)) = rw (none_cut 10 text (sym is)) refl in
      step ∙ same (with_next with_line number text before)
    where
      same : (r : Result S FileFault) → (r >>= (λ more. Ok more)) ≡ r
      same (Ok said) = refl
      same (Err e) = refl

  module _ (line rest : List ℕ) (is : Some (line, rest) ≡ split_once 10 text) where
    -- a line that was read, and one that wasn't
    pub next_line : (after : S) → with_next with_line number line before ≡ Ok after → all_say ≡ with_lines with_line (number + 1) (lines_of rest) after
    unfolding with_lines
    next_line after read = rw (some_split 10 text line rest (sym is), read) refl

    fault : (e : FileFault) → with_next with_line number line before ≡ Err e → all_say ≡ Err e
    unfolding with_lines
    fault e read = rw (some_split 10 text line rest (sym is), read) refl

    pub fails : (e : FileFault) → IsFault e (with_next with_line number line before) → IsFault e all_say
    fails OutOfMemory read = tt
    fails (Line line why) read = fault (Line line why) read
    fails (SyncOrder line) read = fault (SyncOrder line) read
    fails LineTooLong read = fault LineTooLong read
    fails TooManyEdits read = fault TooManyEdits read
    fails TooManySyncs read = fault TooManySyncs read
    fails TooManySteps read = fault TooManySteps read
    fails TooManyMirrors read = fault TooManyMirrors read
