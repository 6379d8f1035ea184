-- The ports of the words, as the definitions see them.
use Rattle.std.specs.Prelude.{◌≤◌, ℕ, nat_eq, List, length, map}
use Rattle.std.specs.List.{IsDistinct}
use Rattle.std.specs.Borrow.{Bor}
use Rattle.spec_input.specs.Words as words
use Rattle.command_words.specs.declared.ports.PortWord.{PortWord}

-- the bytes of texts that are lent
abbrev pub lent : List (Bor (List ℕ)) → List (List ℕ)
lent texts = map (λ (t : Bor (List ℕ)). t.now) texts

abbrev pub port_view : PortWord → words.PortWord
port_view w = record { port = w.port; file = w.file.now }

abbrev pub ports_view : List PortWord → List words.PortWord
ports_view ports = map port_view ports

-- the ports of words
abbrev pub ports_said : List words.PortWord → List ℕ
ports_said ports = map (λ (w : words.PortWord). w.port) ports

-- There is one port at least, and no two have one number.
pub record ArePorts (ports : List PortWord) : Type 0 where
  pub some : 1 ≤ length ports
  pub distinct : IsDistinct nat_eq (ports_said (ports_view ports))
