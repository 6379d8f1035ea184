use Rattle.std.proofs.Common.{◌≡◌, ℕ, List, Option, filter, refl, ◌∙◌}
use Rattle.spec_keys.specs.declared.field_id.FieldId.TheVariants.{DlType, NwProto}
use Rattle.spec_flow_text.specs.declared.part.Part.{Part}
use Rattle.spec_flow_text.specs.Values.{type_meets, is_met}
use Rattle.spec_flow_text.specs.Matches.{number_of, kept, match_of}
use Rattle.match_text.proofs.normal.kept_match.Goals as goal

keeps : (parts : List Part) (t p : Option ℕ) → t ≡ number_of DlType parts → p ≡ number_of NwProto (filter (λ (q : Part). type_meets q.needs t) parts)
    → match_of (filter (λ (q : Part). is_met q.needs t p) parts) ≡ match_of (kept parts)
unfolding kept
keeps parts t p is_type is_protocol = rw (is_protocol, is_type) refl

pub returns : goal.returns
returns c = c.match_of_met.ensures ∙ keeps c.args.parts.now c.stated_type-ethernet_type.result c.kept_protocol-protocol.result c.stated_type-ethernet_type.ensures c.kept_protocol-protocol.ensures
