use Rattle.std.proofs.Common.{sym, ap, subst}
use Rattle.tuple_classifier.specs.Versions.{Version}
use Rattle.pipe_model.specs.Runnable.{AreRunnable}
use Rattle.tool_layers.proofs.translations.text_by_rules.Goals as goal

pub text_by_tables-text-requires : goal.text_by_tables-text-requires
text_by_tables-text-requires c = subst AreRunnable (sym (ap (λ (v : Version). v.rules) c.in_ok-tables.ensures)) c.requires
