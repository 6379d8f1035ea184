use Rattle.board_laws.proofs.Stated.{made_after}
use Rattle.board_laws.proofs.entries.entries_cover_what_they_were_made_for.Goals as goal

pub returns : goal.returns
returns c = made_after
