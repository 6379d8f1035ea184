-- What a plain translation gives, as the definition sees it.
use Rattle.spec_xlate.specs.Translation as xlate
use Rattle.pipe_model.specs.declared.lists.Plain.{Plain}

abbrev pub translation_in : Plain → xlate.Translation
translation_in p = record { actions = p.actions; visits = p.visits }
