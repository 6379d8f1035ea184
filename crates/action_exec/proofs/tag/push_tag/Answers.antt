use Rattle.std.proofs.Common.{◌≡◌, ◌-◌, ◌++◌, List, ℕ, length, take, drop, ap, ◌∙◌, arith}
use Rattle.spec_exec.specs.Rewriting.{push_tag}
use Rattle.action_exec.proofs.Tags.{pushed, written-back}
use Rattle.action_exec.proofs.tag.push_tag.Goals as goal

pub returns-clause-ok : goal.returns-clause-ok
unfolding push_tag
returns-clause-ok c =
    let frame = c.args.frame.now.items in
    let tag = c.tag_bytes-tag.result in
    let longer : c.deref_mut.result.now ≡ frame ++ tag = c.deref_mut.ensures.value ∙ c.in_ok-extend_from_slice.ensures.items in
    let sized : length tag ≡ 4 = ap length c.tag_bytes-tag.ensures in
    let same : length c.insert_tag.new.frame ≡ length c.extend_from_slice.new.self.items = omega (arith, ap length c.deref_mut.ensures.value) in
    let all : c.extend_from_slice.new.self.len ≡ length c.extend_from_slice.new.self.items = omega (arith, ap length c.deref_mut.ensures.value) in
    let there = rw longer at c.insert_tag.ensures in
    let put : take 12 (frame ++ tag) ++ (tag ++ drop 12 (take (length (frame ++ tag) - 4) (frame ++ tag))) ≡ take 12 frame ++ (tag ++ drop 12 frame) =
    pushed frame tag (omega arith) sized in
    let all_bytes = written-back c.extend_from_slice.new.self.items c.insert_tag.new.frame c.extend_from_slice.new.self.len same all in
    let tagged = ap (λ (z : List ℕ). take 12 frame ++ (z ++ drop 12 frame)) c.tag_bytes-tag.ensures in
    all_bytes ∙ (there ∙ (put ∙ tagged))
