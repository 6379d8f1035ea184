use Rattle.exec_laws.proofs.CommitSteps.{commit-whole, commit-shows, commit-single}
use Rattle.exec_laws.proofs.Turned.{commit-registers, commit-same}
use Rattle.exec_laws.proofs.commits.commits_follow_each_other.Goals as goal

pub returns-clause-whole : goal.returns-clause-whole
returns-clause-whole c = commit-whole

pub returns-clause-shown : goal.returns-clause-shown
returns-clause-shown c = commit-shows

pub returns-clause-two_tags : goal.returns-clause-two_tags
returns-clause-two_tags c = commit-single

pub returns-clause-base : goal.returns-clause-base
returns-clause-base c = commit-registers

pub returns-clause-same : goal.returns-clause-same
returns-clause-same c = commit-same
