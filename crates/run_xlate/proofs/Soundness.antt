-- Wildcard soundness of the translations of a run.
use Rattle.spec_keys.specs.Keys.{IsKey}
use Rattle.spec_case.specs.Run.{Run}
use Rattle.spec_board.specs.Results.{switch_at}
use Rattle.table_laws.proofs.SoundLaws.{consulted-sound}
use Rattle.pipe_model.specs.Xlates.{IsWildcardSound}
use Rattle.run_xlate.specs.Views.{XlateView, xlate_of}

pub sound_for : (run : Run) (x : XlateView) → IsKey x.key → IsWildcardSound (switch_at run x.version) (xlate_of run x)
sound_for run x is_key = record {
  same_translation = λ other is clean other_clean alike. (consulted-sound (switch_at run x.version) x.key other is_key is clean other_clean alike).same_translation;
  same_bits = λ other is clean other_clean alike. (consulted-sound (switch_at run x.version) x.key other is_key is clean other_clean alike).same_bits;
}
