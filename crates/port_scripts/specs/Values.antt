-- What the words after a step's first say.
use Rattle.std.specs.Prelude.{ℕ, true, List, Result, Ok, Err}
use Rattle.spec_flow_text.specs.declared.fault.TextFault.{TextFault}
use Rattle.spec_flow_text.specs.Items.{Word, words, ◌>>=◌}
use Rattle.spec_input.specs.Steps.{is_gap, number_in, port_in, one_value, two_values}

-- what was read, seen by a view
abbrev pub read_as : {X Y : Type 0} → (X → Y) → Result X TextFault → Result Y TextFault
read_as view (Ok x) = Ok (view x)
read_as view (Err e) = Err e

-- the words of a stretch of a line
abbrev pub words_at : Word → List Word
words_at w = words is_gap true w.at w.text

abbrev pub port_value : List ℕ → Word → List Word → Result ℕ TextFault
port_value ports first ws = one_value first ws >>= port_in ports

abbrev pub port_and_number : List ℕ → Word → List Word → Result (ℕ × ℕ) TextFault
port_and_number ports first ws =
    two_values first ws >>= (λ (vs : Word × Word). port_in ports vs.0 >>= (λ port. number_in vs.1 >>= (λ number. Ok (port, number))))
