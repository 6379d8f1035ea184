use Rattle.std.proofs.Common.{◌≡◌, ◌+◌, ◌*◌, ◌≤◌, ◌<◌, true, false, nat_lt, length, ap, subst, arith}
use Rattle.std.proofs.lemmas.Bool.{lt-ltb, le-ltb}
use Rattle.spec_frames.specs.Ethernet.{header_size, type_at, type_size, tag_size, tag_count}
use Rattle.action_exec.proofs.Tags.{pop_tag-untagged, popped}
use Rattle.action_exec.proofs.tag.pop_tag.Goals as goal

pub returns-then-tag_count-gt0-clause-items : goal.returns-then-tag_count-gt0-clause-items
returns-then-tag_count-gt0-clause-items c =
    let frame = c.args.frame.now.items in
    let same : c.tag_count.result ≡ tag_count frame = cc in
    let some : 0 < c.tag_count.result = c.if-tag_count-gt0.true in
    let room : type_at + c.tag_count.result * tag_size + type_size ≤ length frame = subst (λ bytes. type_at + c.tag_count.result * tag_size + type_size ≤ length bytes) c.deref.ensures.value c.tag_count.ensures.within in
    let tags : nat_lt 0 (tag_count frame) ≡ true = lt-ltb 0 (tag_count frame) (omega (arith, some, same)) in
    let size : c.len-end.result ≡ length frame = omega arith in
    let all = popped frame (omega (arith, room, some)) tags in
    cc

pub returns-else-tag_count-gt0-clause-items : goal.returns-else-tag_count-gt0-clause-items
returns-else-tag_count-gt0-clause-items c =
    let frame = c.args.frame.now.items in
    let same : c.tag_count.result ≡ tag_count frame = cc in
    let none : c.tag_count.result ≤ 0 = c.if-tag_count-gt0.false in
    let no_tags : nat_lt 0 (tag_count frame) ≡ false = le-ltb 0 (tag_count frame) (omega (arith, none, same)) in
    let all = pop_tag-untagged frame c.requires no_tags in
    cc
