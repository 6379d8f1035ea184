use Rattle.spec_xlate.specs.Translation.{look}
use Rattle.table_laws.proofs.ProperLaws.{LookKeepsTags, act-proper, look-proper}
use Rattle.table_laws.proofs.translations.actions_keep_proper_tags.Goals as goal

pub returns-clause-action : goal.returns-clause-action
returns-clause-action c sw depths action s h = act-proper sw (look sw depths) (look-proper sw depths) action s h

pub returns-clause-lookup : goal.returns-clause-lookup
unfolding LookKeepsTags
returns-clause-lookup c sw depths = look-proper sw depths
