use Rattle.std.proofs.Common.{◌≡◌, suc, ◌-◌, true, false, sym, ◌∙◌, arith}
use Rattle.spec_frames.specs.Ipv6.{is_extension, is_present}
use Rattle.frame_keys.proofs.headers.Chain.{is_present-within, and_after-whole, rest-end, rest-no_room, rest-absent, rest-later, rest-passed}
use Rattle.frame_keys.proofs.headers.ipv6.upper_layer.Goals as goal
use Rattle.frame_keys.proofs.headers.ipv6.upper_layer.Goals.{then-room-eq0-via-then-room-eq0, then-room-eq0-via-else-room-eq0+then-not-is_present}

pub returns-then-room-eq0 : goal.returns-then-room-eq0
returns-then-room-eq0 c =
    let passed = c.extensions.upper in
    let frame = c.args.frame.now in
    let one : is_extension passed.protocol ≡ true = cc in
    elim c.then-room-eq0.branch [
      | then-room-eq0-via-then-room-eq0 w ↦
          let none = rest-no_room passed frame c.args.end one in cc
      | then-room-eq0-via-else-room-eq0+then-not-is_present w ↦
          let absent : is_present passed.protocol frame c.args.end passed.at ≡ false = cc in
          sym (rest-absent passed c.extensions.room frame c.args.end one absent) ∙ c.extensions.invariant.so_far
    ]

pub returns-in-Later : goal.returns-in-Later
returns-in-Later c =
    let passed = c.extensions.upper in
    let frame = c.args.frame.now in
    let one : is_extension passed.protocol ≡ true = cc in
    let present : is_present passed.protocol frame c.args.end passed.at ≡ true = cc in
    let later = rest-later passed (c.extensions.room - 1) frame c.args.end one present cc in
    let more : suc (c.extensions.room - 1) ≡ c.extensions.room = omega arith in
    cc

pub extensions-preserved : goal.extensions-preserved
extensions-preserved c =
    let passed = c.extensions.upper in
    let frame = c.args.frame.now in
    let one : is_extension passed.protocol ≡ true = cc in
    let present : is_present passed.protocol frame c.args.end passed.at ≡ true = cc in
    let next = rest-passed passed (c.extensions.room - 1) frame c.args.end c.fragment-part.result one present (cc) c.in_default.not-Later in
    let more : suc (c.extensions.room - 1) ≡ c.extensions.room = omega arith in
    record {
      near = omega (arith, is_present-within passed.protocol frame c.args.end passed.at present);
      not_later = rw c.and_after.ensures (and_after-whole passed.fragment c.fragment-part.result c.in_default.not-Later);
      so_far = rw (c.extension_size.ensures, c.and_after.ensures) (sym next ∙ rw more c.extensions.invariant.so_far);
    }

pub returns : goal.returns
returns c =
    let passed = c.extensions.upper in
    let none : is_extension passed.protocol ≡ false = cc in
    sym (rest-end passed c.extensions.room c.args.frame.now c.args.end none c.extensions.invariant.not_later) ∙ c.extensions.invariant.so_far
