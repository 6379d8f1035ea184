use Rattle.std.proofs.Common.{◌≡◌, ℕ, List, length, sym, ap₂}
use Rattle.spec_tables.specs.Edits.{Edit}
use Rattle.spec_tables.specs.Bundles.{version}
use Rattle.spec_xlate.specs.Translation.{switch_of}
use Rattle.told_laws.proofs.premises.files_make_the_tables.Goals as goal

pub returns : goal.returns
returns c = λ run script edits bundles.
    ap₂ (λ (es : List Edit) (bs : List ℕ). switch_of (version es bs (length bs)) run.ports) (sym edits) (sym bundles)
