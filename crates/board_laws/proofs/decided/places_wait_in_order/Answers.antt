use Rattle.board_laws.proofs.Stated.{places_after}
use Rattle.board_laws.proofs.decided.places_wait_in_order.Goals as goal

pub returns : goal.returns
returns c = places_after
