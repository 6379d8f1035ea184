-- The keys that a frame can come to have by datapath actions.
use Rattle.std.specs.Prelude.{◌≡◌, ℕ, ◌<◌, ◌≤◌, ◌+◌, ◌^◌, ◌==◌, Bool, false, ◌&&◌, ◌||◌, if◌then◌else◌, IsTrue, List, [], ◌∷◌, ◌++◌, length, map, All}
use Rattle.std.specs.List.{list_any}
use Rattle.spec_keys.specs.declared.field_id.FieldId.{FieldId}
use Rattle.spec_keys.specs.declared.field_id.FieldId.TheVariants.{InPort}
use Rattle.spec_keys.specs.Fields.{place_of, width_of, fields, register_fields}
use Rattle.spec_keys.specs.Keys.{value_of, IsKey}
use Rattle.spec_keys.specs.Protocols.{is_tag_type}
use Rattle.spec_frames.specs.Ethernet.{header_size, inner_at, tag_size, is_tag_at, tag_count}
use Rattle.spec_frames.specs.Key.{key_of}
use Rattle.spec_actions.specs.declared.action.DpAction.{DpAction}
use Rattle.spec_actions.specs.declared.action.DpAction.TheVariants.{Output}
use Rattle.spec_xlate.specs.Tags.{tag_fields, tags_of, is_full}
use Rattle.spec_xlate.specs.Commit.{commit}
use Rattle.table_laws.specs.Applied.{is_proper}
use Rattle.exec_laws.specs.ReadBack.{AreBytes, shows}
use Rattle.spec_exec.specs.Sent.{sent}
use Rattle.exec_laws.specs.Sends.{keys_of, after_actions}

-- whether a third tag stands after the first two: no key shows it
abbrev pub has_third_tag : List ℕ → Bool
has_third_tag frame = (tag_count frame == 2) && is_tag_at frame (inner_at + tag_size)

-- whether a field is one of those that hold tags
abbrev pub is_of_tags : FieldId → Bool
is_of_tags f = list_any (λ g. place_of f == place_of g) tag_fields

-- The key that a frame comes to have when its key is to turn into another: it has the tags of that, and its value in each
-- field that the frame shows, whose header is there. In the others the key is as it was.
abbrev pub turned : ℕ → List ℕ → List ℕ → List ℕ
turned port frame key =
    map (λ f. if is_of_tags f || shows port frame f then value_of key f else value_of (key_of port frame) f) fields

-- The tags of a key are of types by which a frame shows that they are tags.
abbrev pub HasTagTypes : List ℕ → Type 0
HasTagTypes key = All (λ t. IsTrue (is_tag_type t.tpid)) (tags_of key)

-- The key of a frame of bytes with a whole Ethernet header, which came in at this port, can turn into that.
pub record CanTurn (port : ℕ) (frame key : List ℕ) : Type 0 where
  pub bytes : AreBytes frame
  pub whole : header_size ≤ length frame
  pub in_port : port < 2 ^ width_of InPort
  pub is_key : IsKey key
  -- Each of its tags is one, or all of it is 0, and there is an inner one only within an outer one.
  pub has_proper_tags : IsTrue (is_proper key)
  pub has_tag_types : HasTagTypes key
  -- Where it has less than two tags, no third tag of the frame comes to stand where the second one was.
  pub uncovers_none : is_full key ≡ false → has_third_tag frame ≡ false

-- the frame after a commit from its own key to this one
abbrev pub committed : ℕ → List ℕ → List ℕ → List ℕ
committed port frame key = after_actions (commit (key_of port frame) key) frame

-- ---- the whole key

-- whether a field is metadata or a register, which no frame carries
abbrev pub is_register : FieldId → Bool
is_register f = list_any (λ g. place_of f == place_of g) register_fields

-- a key without these
abbrev pub without_registers : List ℕ → List ℕ
without_registers key = map (λ f. if is_register f then 0 else value_of key f) fields

-- A frame can come to have this key, registers aside: beside these and the tags it differs from the frame's key only in
-- fields that the frame shows. So do the keys of a translation whose writes found the headers that they need.
pub record CanBecome (port : ℕ) (frame key : List ℕ) : Type 0 where
  pub can_turn : CanTurn port frame key
  pub others_stay : (f : FieldId) → is_register f ≡ false → is_of_tags f ≡ false → shows port frame f ≡ false
      → value_of key f ≡ value_of (key_of port frame) f

-- ---- a translation

-- an output, and the current key when it comes
pub record KeyedOutput : Type 0 where
  pub key : List ℕ
  pub port : ℕ

-- the datapath actions of these outputs, each after a commit from the key before
unfoldable pub outputs_of : List ℕ → List KeyedOutput → List DpAction
outputs_of base [] = []
outputs_of base (o ∷ outputs) = commit base o.key ++ (Output o.port ∷ outputs_of o.key outputs)

-- Each output has a key that the frame can come to have.
abbrev pub CanBecomeEach : ℕ → List ℕ → List KeyedOutput → Type 0
CanBecomeEach port frame outputs = All (λ o. CanBecome port frame o.key) outputs

-- the keys of what outputs send of a frame, after commits that begin at the frame's key
abbrev pub keys_sent : ℕ → List ℕ → List KeyedOutput → List (List ℕ)
keys_sent port frame outputs = keys_of port (sent (outputs_of (key_of port frame) outputs) frame)
