-- The keys that flow actions can make of a packet's key, and the ports at which it can go out.
use Rattle.std.specs.Prelude.{◌≡◌, ℕ, Bool, true, false, ◌||◌, ◌==◌, IsTrue, List, All}
use Rattle.std.specs.List.{list_all, list_any}
use Rattle.spec_keys.specs.declared.field_id.FieldId.{FieldId}
use Rattle.spec_keys.specs.declared.field_id.FieldId.TheVariants as field
use Rattle.spec_keys.specs.Keys.{value_of, IsKey}
use Rattle.spec_keys.specs.Protocols.{is_tag_type}
use Rattle.spec_actions.specs.declared.action.OfAction.{OfAction}
use Rattle.spec_actions.specs.declared.action.OfAction.TheVariants.{PushVlan}
use Rattle.spec_actions.specs.declared.named_field.Prerequisite.TheVariants as needs
use Rattle.spec_xlate.specs.Needs.{is_met}
use Rattle.spec_xlate.specs.Translation.{Switch, in_port_of}
use Rattle.table_laws.specs.Applied.{is_proper}
use Rattle.exec_laws.specs.Become.{HasTagTypes}

-- Whether a flow action can write a field of a packet of this key. None writes where the packet came in, its Ethernet type,
-- its protocol and whether it is a fragment; and so what ovs-fields(7) asks of the packet ("Prerequisites") stays as it is.
abbrev pub can_change : List ℕ → FieldId → Bool
can_change key field.InPort = false
can_change key field.DlType = false
can_change key field.NwProto = false
can_change key field.IpFrag = false
can_change key field.NwSrc = is_met needs.Ipv4 key || is_met needs.Arp key
can_change key field.NwDst = is_met needs.Ipv4 key || is_met needs.Arp key
can_change key field.Ipv6Src = is_met needs.Ipv6 key
can_change key field.Ipv6Dst = is_met needs.Ipv6 key
can_change key field.NwTos = is_met needs.Ip key
can_change key field.NwTtl = is_met needs.Ip key
can_change key field.ArpSha = is_met needs.Arp key
can_change key field.ArpTha = is_met needs.Arp key
can_change key field.TpSrc = is_met needs.TcpOrUdp key
can_change key field.TpDst = is_met needs.TcpOrUdp key
can_change key f = true

-- A key has the packet's values in what no action can write.
abbrev pub KeepsTheRest : List ℕ → List ℕ → Type 0
KeepsTheRest packet key = (f : FieldId) → can_change packet f ≡ false → value_of key f ≡ value_of packet f

-- A key that flow actions can make of a packet's: a number for each field, within its width; tags that are proper and of types
-- that tags have; and what no action can write is the packet's.
pub record IsMadeOf (packet key : List ℕ) : Type 0 where
  pub is_key : IsKey key
  pub has_proper_tags : IsTrue (is_proper key)
  pub has_tag_types : HasTagTypes key
  pub others_stay : KeepsTheRest packet key

-- whether an action pushes a tag of a type that tags have, if it pushes one; a sound action does
abbrev pub pushes_tags : OfAction → Bool
pushes_tags (PushVlan tpid) = is_tag_type tpid
pushes_tags action = true

-- The rules of a switch push such tags alone.
abbrev pub PushTags : Switch → Type 0
PushTags sw = (table : ℕ) → All (λ r. IsTrue (list_all pushes_tags r.actions)) (sw.tables table)

-- whether a packet of this key can go out at a port: one of the switch, or that which it came in by
abbrev pub is_way_out : Switch → List ℕ → ℕ → Bool
is_way_out sw packet n = (n == in_port_of packet) || list_any (λ p. n == p) sw.ports
