use Rattle.text_laws.proofs.CommentLaws.{edit-comment, match-comment, actions-comment}
use Rattle.text_laws.proofs.comments.comments_change_nothing.Goals as goal

pub returns-clause-edit : goal.returns-clause-edit
returns-clause-edit c = edit-comment

pub returns-clause-matching : goal.returns-clause-matching
returns-clause-matching c = match-comment

pub returns-clause-actions : goal.returns-clause-actions
returns-clause-actions c = actions-comment
