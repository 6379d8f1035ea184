-- Numbers whose decimal texts have all of their digits: `decimal` writes the last 64 at most. Numbers of up to 128 bits
-- are among them.
use Rattle.std.specs.Prelude.{ℕ, ◌^◌, ◌<◌, All}
use Rattle.spec_board.specs.declared.looked.Looked.{Looked}
use Rattle.spec_board.specs.declared.looked.Looked.TheVariants.{Exact, Mega, Miss}
use Rattle.spec_board.specs.Steps.{Step, Open, Look, Settle, Begin, Put, End, Settled, Present, Full, Installed}
use Rattle.spec_board.specs.Texts.{Journal}

abbrev pub IsPrintable : ℕ → Type 0
IsPrintable n = n < 10 ^ 64

-- The same of every number of a result, a step or a journal.
abbrev pub IsPrintableLooked : Looked → Type 0
IsPrintableLooked (Exact n) = IsPrintable n
IsPrintableLooked (Mega n) = IsPrintable n
IsPrintableLooked Miss = Unit {0}

abbrev pub IsPrintableSettled : Settled → Type 0
IsPrintableSettled (Present n) = IsPrintable n
IsPrintableSettled Full = Unit {0}
IsPrintableSettled (Installed n numbers) = IsPrintable n × All IsPrintable numbers

abbrev pub IsPrintableStep : Step → Type 0
IsPrintableStep (Open block) = IsPrintable block
IsPrintableStep (Look place r) = IsPrintable place × IsPrintableLooked r
IsPrintableStep (Settle place v r) = IsPrintable place × IsPrintable v × IsPrintableSettled r
IsPrintableStep (Begin v) = IsPrintable v
IsPrintableStep (Put number v r) = IsPrintable number × IsPrintable v
IsPrintableStep End = Unit {0}

pub record IsPrintableJournal (j : Journal) : Type 0 where
  pub port : IsPrintable j.port
  pub steps : All IsPrintableStep j.steps
