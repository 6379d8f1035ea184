-- The ports by which a packet didn't come in.
use Rattle.std.specs.Prelude.{ℕ, ◌==◌, ◌&&◌, not, nat_le, List, filter}
use Rattle.spec_xlate.specs.Translation.{rising}

-- those of these ports from a number on
abbrev pub others_from : ℕ → ℕ → List ℕ → List ℕ
others_from in_port first ports = filter (λ p. not (p == in_port) && nat_le first p) ports

-- all of them, in rising order
abbrev pub others_of : ℕ → List ℕ → List ℕ
others_of in_port ports = filter (λ p. not (p == in_port)) (rising ports)
