use Rattle.std.proofs.Common.{ℕ, List, fold, sym, ap, ◌∙◌}
use Rattle.spec_keys.specs.Fields.{register_fields}
use Rattle.spec_keys.specs.Keys.{none}
use Rattle.spec_xlate.specs.Translation.{switch_of, start}
use Rattle.spec_xlate.specs.Lookup.{added}
use Rattle.spec_xlate.specs.Consulted.{look_bits, start_bits, without, consulted}
use Rattle.ovs_fields.specs.Packed.{numbers}
use Rattle.table_laws.proofs.UnionLaws.{added-append}
use Rattle.pipe_model.specs.Events.{events_of}
use Rattle.pipe_model.specs.Xlates.{Xlate}
use Rattle.xlate_pipeline.specs.Steps.{with_event}
use Rattle.xlate_pipeline.proofs.EventBits.{look-consults}
use Rattle.xlate_pipeline.proofs.Soundness.{sound_from}
use Rattle.xlate_pipeline.proofs.translation.translate.Goals as goal

pub returns-clause-translation : goal.returns-clause-translation
returns-clause-translation c = ap (λ (x : Xlate). x.translation) c.new.ensures ∙ c.in_ok-made.ensures.translation

pub returns-clause-mask : goal.returns-clause-mask
unfolding consulted events_of
returns-clause-mask c =
    let sw = switch_of c.args.tables.now.rules c.args.ports.now in
    let key = numbers c.args.key.now in
    ap (λ (x : Xlate). x.mask) c.new.ensures
    ∙ c.without_registers-mask.ensures
    ∙ ap (without register_fields)
    (c.in_ok-made.ensures.noted
    ∙ ap (λ (m : List ℕ). fold with_event m (events_of sw key)) (c.consult_start.ensures ∙ ap (λ (m : List ℕ). added m (start_bits key)) c.none-mask.ensures)
    ∙ look-consults sw 65 0 (added none (start_bits key)) (start key)
    ∙ sym (added-append none (start_bits key) (look_bits sw 65 0 (start key))))

pub returns-clause-sound : goal.returns-clause-sound
returns-clause-sound c =
    let sw = switch_of c.args.tables.now.rules c.args.ports.now in
    sound_from sw c.new.result (numbers c.args.key.now) c.args.key.now.is_key (ap (λ (x : Xlate). x.key) c.new.ensures) (returns-clause-translation c) (returns-clause-mask c)
