use Rattle.std.proofs.Common.{ℕ, ◌+◌, ◌≤◌, List, length, ap, ◌∙◌, arith}
use Rattle.spec_actions.specs.declared.action.DpAction.TheVariants.{PopVlan, PushVlan}
use Rattle.spec_frames.specs.Ethernet.{header_size}
use Rattle.exec_laws.proofs.Within.{set-length, push-length, pop-length, act-whole, counted-tagged, tagged-size}
use Rattle.exec_laws.proofs.lengths.only_tags_change_the_length.Goals as goal

pub returns-clause-set : goal.returns-clause-set
returns-clause-set c = set-length

pub returns-clause-push : goal.returns-clause-push
returns-clause-push c tpid tci frame whole = ap length (act-whole (PushVlan tpid tci) frame whole) ∙ push-length tpid tci frame whole

pub returns-clause-pop : goal.returns-clause-pop
returns-clause-pop c frame some =
    let tagged = counted-tagged frame some in
    let size = tagged-size frame tagged in
    let whole : header_size ≤ length frame = omega (arith, size) in
    ap (λ (z : List ℕ). length z + 4) (act-whole PopVlan frame whole) ∙ pop-length frame tagged
