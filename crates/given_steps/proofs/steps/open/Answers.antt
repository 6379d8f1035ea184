use Rattle.given_steps.proofs.Keeping.{kept_with}
use Rattle.given_steps.proofs.steps.open.Goals as goal

pub invariant_of-board : goal.invariant_of-board
invariant_of-board g c =
    let k = c.board.invariant in
    kept_with g.C.Case.run c.board.inside.board _ k.limit c.open_block.ensures.goes_on k.snaps k.checks
