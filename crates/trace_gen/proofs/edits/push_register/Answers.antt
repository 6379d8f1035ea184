use Rattle.std.proofs.Common.{string_bytes, ◌%◌, ◌+◌, refl}
use Rattle.spec_input.specs.Made.{ports}
use Rattle.trace_gen.proofs.Pieces.{register-joined}
use Rattle.trace_gen.proofs.edits.push_register.Goals as goal

pub returns : goal.returns
returns c =
    register-joined (string_bytes c.args.text.now) (string_bytes c.push_number.new.text) (string_bytes c.push_number-2.new.text)
    (string_bytes c.push_str.new.self) c.args.value (c.args.value % ports + 1) c.in_ok-push_number.ensures
    c.in_ok-push_number-2.ensures c.in_ok-push_str.ensures.bytes refl
