use Rattle.std.proofs.Common.{◌≡◌, ◌-◌, length}
use Rattle.spec_flow_text.specs.Actions.{arrow_place}
use Rattle.action_text.proofs.Arrows.{arrow_from}
use Rattle.action_text.proofs.words.arrow_place.Given as goal

-- none stands before the place
abbrev pub invariant-places : goal.invariant-places
invariant-places l = arrow_from l.at l.text ≡ arrow_place l.text

abbrev pub decreases-places : goal.decreases-places
decreases-places l = length l.text - l.at
