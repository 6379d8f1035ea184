use Rattle.std.proofs.Common.{ap, ◌∙◌}
use Rattle.spec_actions.specs.declared.action.DpAction.TheVariants.{PopVlan, PushVlan}
use Rattle.spec_frames.specs.Key.{key_of}
use Rattle.exec_laws.proofs.Within.{act-whole, counted-tagged}
use Rattle.exec_laws.proofs.Tags.{other-form}
use Rattle.exec_laws.proofs.TagKeys.{push-reads-back, other-reads-back, pop-reads-back}
use Rattle.exec_laws.proofs.read_back.tags_read_back.Goals as goal

pub returns-clause-push : goal.returns-clause-push
returns-clause-push c port tpid tci frame whole room typed fits =
    ap (key_of port) (act-whole (PushVlan tpid tci) frame whole) ∙ push-reads-back port frame whole tpid tci typed room fits

pub returns-clause-replace : goal.returns-clause-replace
returns-clause-replace c port tpid tci frame whole some typed fits =
    let tagged = counted-tagged frame some in ap (key_of port) (other-form frame tagged tpid tci) ∙ other-reads-back port frame whole tagged tpid tci typed fits

pub returns-clause-pop : goal.returns-clause-pop
returns-clause-pop c port frame whole some single =
    let tagged = counted-tagged frame some in ap (key_of port) (act-whole PopVlan frame whole) ∙ pop-reads-back port frame whole tagged single
