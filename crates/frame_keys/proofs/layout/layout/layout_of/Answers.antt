use Rattle.spec_frames.specs.declared.headers.Network.TheVariants.{Nothing}
use Rattle.frame_keys.proofs.layout.Headers.{layout_with-within}
use Rattle.frame_keys.proofs.layout.layout.layout_of.Goals as goal

pub returns-then-frame-lt-HEADER_SIZE-clause-within : goal.returns-then-frame-lt-HEADER_SIZE-clause-within
returns-then-frame-lt-HEADER_SIZE-clause-within c =
    let before = rw c.layout_with.ensures.value at c.layout_with.ensures.before in
    rw c.layout_with.ensures.value (layout_with-within c.args.frame.now 0 Nothing tt before)

pub returns-clause-within : goal.returns-clause-within
returns-clause-within c =
    let before = rw c.layout_with-2.ensures.value at c.layout_with-2.ensures.before in
    rw c.layout_with-2.ensures.value (layout_with-within c.args.frame.now c.tag_count-tags.result c.network_at.result c.network_at.ensures.within before)
