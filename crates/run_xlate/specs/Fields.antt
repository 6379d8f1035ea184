-- What a translation's type keeps: it is that of its key, under its version.
use Rattle.std.specs.Prelude.{◌≡◌}
use Rattle.spec_case.specs.Run.{Run}
use Rattle.spec_board.specs.Results.{translated, mask_for}
use Rattle.run_xlate.specs.Views.{XlateView}
use Rattle.run_xlate.specs.declared.xlated.Xlated.TheInside.{Inside}

abbrev pub view_of : {X : Type 0} → Inside X → XlateView
view_of x = record { key = x.made.key; version = x.made.version }

pub record IsXlated {X : Type 0} (run : Run) (x : Inside X) : Type 0 where
  pub translation : x.made.translation ≡ translated run x.made.version x.made.key
  pub mask : x.made.mask ≡ mask_for run x.made.version x.made.key
