-- What contracts see of a translation of a run.
use Rattle.std.specs.Prelude.{ℕ, List}
use Rattle.spec_case.specs.Run.{Run}
use Rattle.spec_board.specs.Results.{translated, mask_for}
use Rattle.pipe_model.specs.Xlates.{Xlate}

-- the packet's key, and the version of the tables: they settle what the tables make of it, and which bits decide that
pub record XlateView : Type 0 where
  pub key : List ℕ
  pub version : ℕ

-- the translation that they settle
abbrev pub xlate_of : Run → XlateView → Xlate
xlate_of run x = record { key = x.key; version = x.version; translation = translated run x.version x.key; mask = mask_for run x.version x.key }
