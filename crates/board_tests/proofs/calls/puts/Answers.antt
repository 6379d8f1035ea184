use Rattle.std.proofs.Common.{◌∙◌}
use Rattle.board_tests.proofs.calls.puts.Goals as goal

pub put-requires : goal.put-requires
put-requires g c = λ listed. c.in_ok-made.ensures ∙ c.key_of-key.ensures listed
