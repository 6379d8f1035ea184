-- The steps file: a line is a step, or blank.
--
--     edit        rx PORT        snap PORT PLACE     settle PORT PLACE
--     sweep PORT  check PORT ENTRY   put PORT ENTRY  swept PORT         open PORT
--
-- Spaces and tabs stand between words. From `#` on a line is comment. A carriage return is a byte like others.
use Rattle.std.specs.Prelude.{ℕ, ◌==◌, nat_lt, Bool, true, ◌||◌, if◌then◌else◌, List, [], ◌∷◌, length, Option, Some, None, Result, Ok, Err, codes}
use Rattle.std.specs.List.{find}
use Rattle.std.specs.Option.{ok_or, option_and_then}
use Rattle.spec_flow_text.specs.Characters.{tab, space}
use Rattle.spec_flow_text.specs.Numbers.{decimal_upto}
use Rattle.spec_case.specs.declared.run_step.RunStep.{RunStep}
use Rattle.spec_case.specs.declared.run_step.RunStep.TheVariants as given
use Rattle.spec_flow_text.specs.declared.fault.TextFault.{TextFault}
use Rattle.spec_flow_text.specs.declared.fault.TextFault.TheVariants.{Syntax, UnknownName, BadValue}
use Rattle.spec_flow_text.specs.Names.{meaning_of}
use Rattle.spec_flow_text.specs.Items.{Word, column, words, ◌>>=◌}
use Rattle.spec_flow_text.specs.Matches.{uncommented}
use Rattle.spec_input.specs.declared.fault.FileFault.{FileFault}
use Rattle.spec_input.specs.declared.fault.FileFault.TheVariants.{TooManySteps}
use Rattle.spec_input.specs.Lines.{in_line, and_one, said_by}
use Rattle.spec_input.specs.declared.steps.step_word.StepWord.{StepWord}
use Rattle.spec_input.specs.declared.steps.step_word.StepWord.TheVariants as word

-- ---- limits

-- the most steps of a file
abbrev pub most_steps : ℕ
most_steps = 131072

-- the greatest number of a place, of an entry or of a port that a word may say
abbrev pub most_number : ℕ
most_number = 4294967295

-- ---- steps

-- the first words of steps
abbrev pub step_words : List (List ℕ × StepWord)
step_words =
    (codes "edit", word.Edit) ∷ (codes "rx", word.Rx) ∷ (codes "snap", word.Snap) ∷ (codes "settle", word.Settle) ∷
    (codes "sweep", word.Sweep) ∷ (codes "check", word.Check) ∷ (codes "put", word.Put) ∷ (codes "swept", word.Swept) ∷
    (codes "open", word.Open) ∷ []

-- what stands after the first word of a step: nothing, a port, or a port and the number of a place or of an entry
pub data Shape : Type 0 where
  Alone : RunStep → Shape
  OfPort : (ℕ → RunStep) → Shape
  OfNumber : (ℕ → ℕ → RunStep) → Shape

abbrev pub shape_of : StepWord → Shape
shape_of word.Edit = Alone given.Edit
shape_of word.Rx = OfPort (λ port. given.Rx port)
shape_of word.Snap = OfNumber (λ port place. given.Snap port place)
shape_of word.Settle = OfNumber (λ port place. given.Settle port place)
shape_of word.Sweep = OfPort (λ port. given.Sweep port)
shape_of word.Check = OfNumber (λ port entry. given.Check port entry)
shape_of word.Put = OfNumber (λ port entry. given.Put port entry)
shape_of word.Swept = OfPort (λ port. given.Swept port)
shape_of word.Open = OfPort (λ port. given.Open port)

-- ---- values

-- the number that a word says: decimal, from 1, without leading zeros
abbrev pub positive : ℕ → Option ℕ
positive n = if n == 0 then None else Some n

unfoldable pub number_in : Word → Result ℕ TextFault
number_in w = ok_or (option_and_then positive (decimal_upto most_number w.text)) (BadValue (column w))

-- the port that a word says, which is one of the switch's
abbrev pub of_switch : List ℕ → ℕ → Option ℕ
of_switch ports number = find (λ port. port == number) ports

unfoldable pub port_in : List ℕ → Word → Result ℕ TextFault
port_in ports w = number_in w >>= (λ n. ok_or (of_switch ports n) (BadValue (column w)))

-- The words after the first, where there are as many as there have to be. That they are too few or too many is told at
-- the first word, and before their values are read.
abbrev pub one_value : Word → List Word → Result Word TextFault
one_value first (v ∷ []) = Ok v
one_value first ws = Err (Syntax (column first))

abbrev pub two_values : Word → List Word → Result (Word × Word) TextFault
two_values first (v ∷ w ∷ []) = Ok (v, w)
two_values first ws = Err (Syntax (column first))

-- the step of a shape, by the words after its first
abbrev pub with_values : List ℕ → Word → Shape → List Word → Result RunStep TextFault
with_values ports first (Alone step) [] = Ok step
with_values ports first (Alone step) (w ∷ ws) = Err (Syntax (column first))
with_values ports first (OfPort step) ws = one_value first ws >>= (λ v. port_in ports v >>= (λ port. Ok (step port)))
with_values ports first (OfNumber step) ws =
    two_values first ws >>= (λ vs. port_in ports vs.0 >>= (λ port. number_in vs.1 >>= (λ number. Ok (step port number))))

-- the step of a line's words
unfoldable pub step_in : List ℕ → Word → List Word → Result RunStep TextFault
step_in ports first ws = ok_or (meaning_of step_words first.text) (UnknownName (column first)) >>= (λ w. with_values ports first (shape_of w) ws)

-- ---- files

-- a space or a tab
abbrev pub is_gap : ℕ → Bool
is_gap c = (c == space) || (c == tab)

-- the words of a line, without its comment
abbrev pub words_of : List ℕ → List Word
words_of line = words is_gap true 0 (uncommented line)

-- the steps with that of a line's words, if there are any. How many there are is tested before the line is read.
unfoldable pub with_words : List ℕ → ℕ → List Word → List RunStep → Result (List RunStep) FileFault
with_words ports number [] steps = Ok steps
with_words ports number (first ∷ ws) steps =
    if nat_lt (length steps) most_steps then and_one steps (in_line number (step_in ports first ws)) else Err TooManySteps

-- the steps with that of one more line
unfoldable pub with_line : List ℕ → ℕ → List ℕ → List RunStep → Result (List RunStep) FileFault
with_line ports number line steps = with_words ports number (words_of line) steps

-- what the bytes of a steps file say, for a switch of these ports
unfoldable pub steps_of : List ℕ → List ℕ → Result (List RunStep) FileFault
steps_of ports bytes = said_by (with_line ports) bytes []
