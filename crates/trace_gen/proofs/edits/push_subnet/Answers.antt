use Rattle.std.proofs.Common.{string_bytes}
use Rattle.trace_gen.proofs.Pieces.{rule-joined}
use Rattle.trace_gen.proofs.edits.push_subnet.Goals as goal

pub returns : goal.returns
returns c =
    rule-joined (string_bytes c.args.text.now) (string_bytes c.push_number.new.text) (string_bytes c.push_number-2.new.text)
    (string_bytes c.push_number-3.new.text) (string_bytes c.push_number-4.new.text) (string_bytes c.push_str.new.self) c.args.place
    c.args.subnet.second c.args.subnet.third c.args.subnet.value c.in_ok-push_number.ensures c.in_ok-push_number-2.ensures
    c.in_ok-push_number-3.ensures c.in_ok-push_number-4.ensures c.in_ok-push_str.ensures.bytes
