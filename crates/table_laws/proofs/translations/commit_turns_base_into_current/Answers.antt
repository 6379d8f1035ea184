use Rattle.spec_keys.specs.Fields.{place_of}
use Rattle.table_laws.proofs.CommitLaws.{commit-Turns}
use Rattle.table_laws.proofs.translations.commit_turns_base_into_current.Goals as goal

pub returns-clause-written : goal.returns-clause-written
returns-clause-written c base current k pb pc f h = (commit-Turns base current k.fields pb pc).those (place_of f) h

pub returns-clause-rest : goal.returns-clause-rest
returns-clause-rest c base current k pb pc f h = (commit-Turns base current k.fields pb pc).others (place_of f) h
