-- What a version does to the packet of a key, and to the others that agree with it on a mask.
use Rattle.std.specs.Prelude.{◌≡◌, ◌≢◌, ℕ, Bool, true, not, ◌&&◌, ◌||◌, ◌==◌, List, [], IsTrue, bit_and}
use Rattle.std.specs.List.{list_all, list_any}
use Rattle.spec_keys.specs.declared.field_id.FieldId.{FieldId}
use Rattle.spec_keys.specs.Fields.{fields}
use Rattle.spec_keys.specs.Keys.{value_of, agree}
use Rattle.spec_actions.specs.declared.action.OfAction.{OfAction}
use Rattle.spec_actions.specs.declared.action.DpAction.{DpAction}
use Rattle.spec_actions.specs.Sound.{AreSound}
use Rattle.spec_xlate.specs.Translation.{Switch}
use Rattle.spec_flow_text.specs.Within.{AreWithinFields}
use Rattle.spec_tools.specs.Classes.{IsFrameKey, done, done_by, leads, is_plain}
use Rattle.table_diff.specs.declared.way.Way.{Way}
use Rattle.table_diff.specs.declared.deed.Deed.{Deed}
use Rattle.table_diff.specs.Deeds.{deed_view, CanPrint}
use Rattle.table_diff.specs.declared.judging.Judged.{Judged}
use Rattle.table_diff.specs.Judging.{DoesAll, Holds, CanPrintAll, mask_of}
use Rattle.ovs_fields.specs.Packed.{bits}
use Rattle.table_diff.specs.Sending.{ports_in, is_frame_field, number_after}

-- the bits of a field that are told of the frame which was sent last
abbrev pub number_sent : FieldId → List DpAction → List ℕ → List ℕ → ℕ
number_sent f actions key told = bit_and (number_after f actions (value_of key f)) (value_of told f)

-- What is done to the second packet, where flow actions were followed with the first one. Of the frame that was sent
-- last these bits are told.
pub record IsFollowed (sw : Switch) (first second : List ℕ) (actions : List OfAction) (told : List ℕ) : Type 0 where
  pub ports : ports_in (done sw second) ≡ ports_in (done sw first)
  pub none : done sw first ≡ [] → done sw second ≡ []
  pub straight : done sw first ≢ [] → done sw second ≡ done_by sw.ports actions second
  pub sent : done sw first ≢ [] → (f : FieldId) → is_frame_field f ≡ true → number_sent f (done sw second) second told ≡ number_sent f (done sw first) first told

-- none of these actions leads to a lookup
abbrev pub ArePlain : List OfAction → Type 0
ArePlain actions = IsTrue (list_all (λ (action : OfAction). not (leads action)) actions)

-- What is said of the packet of a key holds, and what is told or fine holds of all frames that agree with it on the mask.
pub record IsWay (sw : Switch) (key mask : List ℕ) (w : Way) : Type 0 where
  pub own : w.actions ≡ done sw key
  pub told : w.told ≡ true → (other : List ℕ) → IsFrameKey other → IsTrue (agree other key mask) → done sw other ≡ done sw key
  pub fine : w.fine ≡ true → (other : List ℕ) → IsFrameKey other → IsTrue (agree other key mask) → IsFollowed sw key other w.path.items (bits w.sent)
  pub plain : w.fine ≡ true → ArePlain w.path.items
  pub within : AreWithinFields w.actions
  pub sound : AreSound w.path.items

-- what is done on a way is known: the same of all frames, or what the flow actions do
abbrev pub IsKnown : Way → Type 0
IsKnown w = (w.told || w.fine) ≡ true

-- It holds of two switches with the same ports that do to the packet of a key what these ways say.
abbrev pub ForWays : List ℕ → List ℕ → Way → Way → (Switch → Switch → Type 0) → Type 0
ForWays key mask old new claim = (o n : Switch) → o.ports ≡ n.ports → IsWay o key mask old → IsWay n key mask new → claim o n

-- This is done to each frame whose key agrees with a key on a mask; and it can be printed.
pub record IsDeed (sw : Switch) (key mask : List ℕ) (deed : Deed) : Type 0 where
  pub does : DoesAll sw key mask (deed_view deed)
  pub plain : IsTrue (is_plain (deed_view deed))
  pub printable : CanPrint deed

-- Both ways lead to the same flow actions, by which something is done.
pub record AreLedAlike (old new : Way) : Type 0 where
  pub old_fine : old.fine ≡ true
  pub new_fine : new.fine ≡ true
  pub old_some : old.actions ≢ []
  pub new_some : new.actions ≢ []
  pub same : old.path.items ≡ new.path.items

-- whether of a field of the frames that both ways send last a bit is told, and it isn't the same bit
abbrev pub is_sent_otherwise : List ℕ → Way → Way → FieldId → Bool
is_sent_otherwise key old new f =
    is_frame_field f
    && not (bit_and (number_sent f old.actions key (bits old.sent)) (value_of (bits new.sent) f)
    == bit_and (number_sent f new.actions key (bits new.sent)) (value_of (bits old.sent) f))

-- Both ways send such frames, and that is so of a field.
pub record AreSentOtherwise (key : List ℕ) (old new : Way) : Type 0 where
  pub old_fine : old.fine ≡ true
  pub new_fine : new.fine ≡ true
  pub old_some : old.actions ≢ []
  pub new_some : new.actions ≢ []
  pub apart : list_any (is_sent_otherwise key old new) fields ≡ true

-- This holds of all frames whose key agrees with a key on a mask; and it can be printed.
pub record IsFound (o n : Switch) (key mask : List ℕ) (judged : Judged) : Type 0 where
  pub same_mask : mask_of judged ≡ mask
  pub holds : Holds o n key judged
  pub printable : CanPrintAll judged
