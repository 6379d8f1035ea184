use Rattle.std.proofs.Common.{subst}
use Rattle.spec_board.specs.Results.{switch_at}
use Rattle.pipe_model.specs.Xlates.{IsWildcardSound}
use Rattle.run_xlate.specs.Fields.{view_of}
use Rattle.run_xlate.specs.Views.{XlateView, xlate_of}
use Rattle.run_xlate.proofs.Soundness.{sound_for}
use Rattle.run_xlate.proofs.xlated.Xlated.mask.Goals as goal

pub returns-clause-sound : goal.returns-clause-sound
returns-clause-sound g c =
    let run = g.C.Case.run in
    subst (λ (x : XlateView). IsWildcardSound (switch_at run x.version) (xlate_of run x)) c.self.view_is (sound_for run (view_of c.self.inside) c.key.ensures.is_key)
