-- What is known of all packets by the way of one of them.
use Rattle.std.proofs.Common.{◌≡◌, ◌≢◌, ℕ, Bool, true, false, ◌&&◌, ◌||◌, not, ◌==◌, IsTrue, List, [], ◌∷◌, length, map, fold, bit_and, inl, inr, refl, sym, ap, ◌∙◌, subst, eqb-true, eq-eqb}
use Rattle.std.specs.List.{list_any}
use Rattle.std.specs.Prelude.{Result, Ok, Err, Option, Some, None, IfOk, IfSome}
use Rattle.std.proofs.lemmas.Bool.{and_parts}
use Rattle.std.proofs.lemmas.Nat.{and_comm, and_assoc}
use Rattle.spec_keys.specs.declared.field_id.FieldId.{FieldId}
use Rattle.spec_keys.specs.Fields.{fields, register_fields}
use Rattle.spec_keys.specs.Keys.{value_of, masked, agree, are_zero, IsKey, IsClean}
use Rattle.spec_actions.specs.declared.action.OfAction.{OfAction}
use Rattle.spec_actions.specs.declared.action.DpAction.{DpAction}
use Rattle.spec_actions.specs.Sound.{AreSound}
use Rattle.spec_xlate.specs.Translation.{Switch, Translation, pipe}
use Rattle.spec_xlate.specs.Lookup.{added}
use Rattle.spec_xlate.specs.Consulted.{whole, without}
use Rattle.spec_flow_text.specs.Within.{AreWithinFields}
use Rattle.ovs_fields.specs.Packed.{bits}
use Rattle.spec_tools.specs.Classes as diff
use Rattle.spec_tools.specs.Classes.{IsFrameKey, done, done_by, done_as, is_plain}
use Rattle.table_laws.specs.Members.{Among}
use Rattle.table_laws.proofs.KeyLaws.{agree-masked}
use Rattle.pipe_model.specs.Events.{events_of}
use Rattle.table_diff.specs.declared.way.Way.{Way}
use Rattle.table_diff.specs.declared.deed.Deed.{Deed}
use Rattle.table_diff.specs.declared.judging.Judged.{Judged}
use Rattle.table_diff.specs.declared.judging.Judged.TheVariants.{Alike, Differ}
use Rattle.table_diff.specs.Deeds.{deed_view, CanPrint}
use Rattle.table_diff.specs.Deciding.{tells_all}
use Rattle.table_diff.specs.Following.{with_registers, begun, way_of, sent_bits}
use Rattle.table_diff.specs.Judging.{DoesAll, DoAlike, DoOtherwise, Differs}
use Rattle.table_diff.specs.Sending.{ports_in, is_frame_field, number_after}
use Rattle.table_diff.specs.Ways.{ArePlain, IsFollowed, IsWay, IsDeed, AreLedAlike, AreSentOtherwise, is_sent_otherwise, number_sent}
use Rattle.table_diff.proofs.KnownLaws.{AreSame, added-same, fields-same}
use Rattle.table_diff.proofs.FollowLaws.{follows}
use Rattle.table_diff.proofs.PlainLaws.{plain-path}
use Rattle.table_diff.proofs.TellLaws.{told-sound, registers-same}

-- ---- the way of a packet

-- fields that are 0 in both keys are the same
zeros-same : (a b : List ℕ) (fs : List FieldId) → are_zero fs a ≡ true → are_zero fs b ≡ true → AreSame fs a b
zeros-same a b [] za zb f among = absurd among
zeros-same a b (g ∷ fs) za zb f among = at among (zeros-same a b fs pa.1 pb.1 f)
  where
    pa : ((value_of a g == 0) ≡ true) × (are_zero fs a ≡ true)
    pa = and_parts (value_of a g == 0) (are_zero fs a) za

    pb : ((value_of b g == 0) ≡ true) × (are_zero fs b ≡ true)
    pb = and_parts (value_of b g == 0) (are_zero fs b) zb

    at : Among f (g ∷ fs) → (Among f fs → value_of a f ≡ value_of b f) → value_of a f ≡ value_of b f
    at (inl is) rest = subst (λ (z : FieldId). value_of a z ≡ value_of b z) (sym is) (eqb-true (value_of a g) 0 pa.0 ∙ sym (eqb-true (value_of b g) 0 pb.0))
    at (inr later) rest = rest later

pub way-holds : (sw : Switch) (key mask : List ℕ) (w : Way) → IsKey key → IsClean key
    → w.actions ≡ done sw key → (w.told ≡ true → tells_all mask sw key ≡ true)
    → w.path.items ≡ (way_of sw mask key).actions → w.fine ≡ (way_of sw mask key).fine
    → bits w.sent ≡ sent_bits (way_of sw mask key) → AreWithinFields w.actions → AreSound w.path.items
    → IsWay sw key (without register_fields mask) w
unfolding with_registers
way-holds sw key mask w is clean own told path fine sent within sound = record {
  own = own;
  told = λ e other frame h. told-sound sw key other mask is frame.is_key clean frame.clean (told e) h;
  fine = λ e other frame h. subst (λ (xs : List OfAction). IsFollowed sw key other xs (bits w.sent)) (sym path)
      (subst (IsFollowed sw key other (way_of sw mask key).actions) (sym sent)
      (follows sw key other mask is frame.is_key (same other frame h) (begun sw.ports mask) refl refl (known other frame h) refl refl refl (sym fine ∙ e)));
  plain = λ e. subst ArePlain (sym path) (plain-path (begun sw.ports mask) (events_of sw key) refl (sym fine ∙ e));
  within = within;
  sound = sound;
}
  where
    longs : (other : List ℕ) → IsFrameKey other → length other ≡ length key
    longs other frame = frame.is_key.fields ∙ sym is.fields

    same : (other : List ℕ) → IsFrameKey other → agree other key (without register_fields mask) ≡ true → masked key mask ≡ masked other mask
    same other frame h = registers-same key other mask (longs other frame) clean frame.clean (sym (agree-masked other key (without register_fields mask) h))

    known : (other : List ℕ) → IsFrameKey other → agree other key (without register_fields mask) ≡ true
        → masked key (with_registers mask) ≡ masked other (with_registers mask)
    known other frame h =
        added-same key other (longs other frame) mask (same other frame h) (map whole register_fields)
        (fields-same key other (longs other frame) register_fields (zeros-same key other register_fields clean frame.clean))

-- ---- what is known of the others

module _ (sw : Switch) (key mask : List ℕ) (w : Way) (sure : (w.told || w.fine) ≡ true) (h : IsWay sw key mask w) where
  either : (t u : Bool) → w.told ≡ t → w.fine ≡ u → (t || u) ≡ true → (other : List ℕ) → IsFrameKey other → agree other key mask ≡ true
      → (ports_in (done sw other) ≡ ports_in w.actions) × (w.actions ≡ [] → done sw other ≡ [])
  either true u told fine e other frame a =
      let same : done sw other ≡ w.actions = h.told told other frame a ∙ sym h.own in
      (ap ports_in same, λ none. same ∙ none)
  either false true told fine e other frame a =
      let led = h.fine fine other frame a in
      (led.ports ∙ sym (ap ports_in h.own), λ none. led.none (sym h.own ∙ none))
  either false false told fine e other frame a = absurd (cc e)

  pub same_ports : (other : List ℕ) → IsFrameKey other → agree other key mask ≡ true → ports_in (done sw other) ≡ ports_in w.actions
  same_ports other frame a = (either w.told w.fine refl refl sure other frame a).0

  pub none_done : w.actions ≡ [] → (other : List ℕ) → IsFrameKey other → agree other key mask ≡ true → done sw other ≡ []
  none_done none other frame a = (either w.told w.fine refl refl sure other frame a).1 none

  pub as_datapath : w.told ≡ true → IsDeed sw key mask (Deed.Datapath w.actions)
  as_datapath told = record { does = λ other frame a. h.told told other frame a ∙ sym h.own; plain = refl; printable = h.within.within }

  pub as_nothing : w.actions ≡ [] → IsDeed sw key mask (Deed.Datapath w.actions)
  as_nothing none = record { does = λ other frame a. none_done none other frame a ∙ sym none; plain = refl; printable = h.within.within }

  pub as_flow : w.told ≡ false → w.actions ≢ [] → IsDeed sw key mask (Deed.Flow w.path)
  as_flow untold some =
      let fine = right w.told w.fine untold sure in
      record {
        does = λ other frame a. (h.fine fine other frame a).straight (λ (none : done sw key ≡ []). some (h.own ∙ none));
        plain = h.plain fine;
        printable = h.sound;
      }
    where
      right : (t u : Bool) → t ≡ false → (t || u) ≡ true → u ≡ true
      right true u f e = absurd (cc f)
      right false u f e = e

  -- what is said of it, by whether it does nothing
  pub deed_then : (nothing : Bool) → (nothing ≡ true → w.actions ≡ []) → (w.told || nothing) ≡ true → IsDeed sw key mask (Deed.Datapath w.actions)
  deed_then nothing none test = at w.told nothing refl refl test
    where
      at : (t u : Bool) → w.told ≡ t → nothing ≡ u → (t || u) ≡ true → IsDeed sw key mask (Deed.Datapath w.actions)
      at true u told is e = as_datapath told
      at false true told is e = as_nothing (none is)
      at false false told is e = absurd (cc e)

  pub deed_else : (nothing : Bool) → (nothing ≡ false → w.actions ≢ []) → (w.told || nothing) ≡ false → IsDeed sw key mask (Deed.Flow w.path)
  deed_else nothing some test = at w.told nothing refl refl test
    where
      at : (t u : Bool) → w.told ≡ t → nothing ≡ u → (t || u) ≡ false → IsDeed sw key mask (Deed.Flow w.path)
      at true u told is e = absurd (cc e)
      at false true told is e = absurd (cc e)
      at false false told is e = as_flow told (some is)

-- ---- two ways

-- an element that passes a test
some_of : {X : Type 0} (p : X → Bool) (xs : List X) → list_any p xs ≡ true → (x : X) × (p x ≡ true)
some_of p [] e = absurd (cc e)
some_of {X} p (x ∷ xs) e = at (p x) refl e (some_of p xs)
  where
    at : (t : Bool) → p x ≡ t → (t || list_any p xs) ≡ true → (list_any p xs ≡ true → (y : X) × (p y ≡ true)) → (y : X) × (p y ≡ true)
    at true is h later = (x, is)
    at false is h later = later h

module _ (o n : Switch) (ports : o.ports ≡ n.ports) (key mask : List ℕ) (old new : Way) (ho : IsWay o key mask old) (hn : IsWay n key mask new) where
  pub alike_nothing : (old.told || old.fine) ≡ true → (new.told || new.fine) ≡ true → old.actions ≡ [] → new.actions ≡ [] → DoAlike o n key mask
  alike_nothing so sn none_old none_new other frame a =
      none_done o key mask old so ho none_old other frame a ∙ sym (none_done n key mask new sn hn none_new other frame a)

  pub alike_led : AreLedAlike old new → DoAlike o n key mask
  alike_led led other frame a =
      (ho.fine led.old_fine other frame a).straight (λ (none : done o key ≡ []). led.old_some (ho.own ∙ none))
      ∙ ap (λ (xs : List OfAction). done_by o.ports xs other) led.same
      ∙ ap (λ (ps : List ℕ). done_by ps new.path.items other) ports
      ∙ sym ((hn.fine led.new_fine other frame a).straight (λ (none : done n key ≡ []). led.new_some (hn.own ∙ none)))

  pub alike_told : old.told ≡ true → new.told ≡ true → old.actions ≡ new.actions → DoAlike o n key mask
  alike_told to tn same other frame a = ho.told to other frame a ∙ sym ho.own ∙ same ∙ hn.own ∙ sym (hn.told tn other frame a)

  pub other_told : old.told ≡ true → new.told ≡ true → old.actions ≢ new.actions → DoOtherwise o n key mask
  other_told to tn apart other frame a same = apart (ho.own ∙ sym (ho.told to other frame a) ∙ same ∙ hn.told tn other frame a ∙ sym hn.own)

  pub other_ports : (old.told || old.fine) ≡ true → (new.told || new.fine) ≡ true → ports_in old.actions ≢ ports_in new.actions → DoOtherwise o n key mask
  other_ports so sn apart other frame a same =
      apart (sym (same_ports o key mask old so ho other frame a) ∙ ap ports_in same ∙ same_ports n key mask new sn hn other frame a)

  pub other_sent : AreSentOtherwise key old new → DoOtherwise o n key mask
  other_sent h other frame a same = clash
    where
      found : (f : FieldId) × (is_sent_otherwise key old new f ≡ true)
      found = some_of (is_sent_otherwise key old new) fields h.apart

      f : FieldId
      f = found.0

      parts : (is_frame_field f ≡ true) × (not (bit_and (number_sent f old.actions key (bits old.sent)) (value_of (bits new.sent) f) == bit_and (number_sent f new.actions key (bits new.sent)) (value_of (bits old.sent) f)) ≡ true)
      parts = and_parts (is_frame_field f) _ found.1

      told_old : ℕ
      told_old = value_of (bits old.sent) f

      told_new : ℕ
      told_new = value_of (bits new.sent) f

      x : ℕ
      x = number_after f (done o other) (value_of other f)

      first : bit_and x told_old ≡ number_sent f old.actions key (bits old.sent)
      first =
          (ho.fine h.old_fine other frame a).sent (λ (none : done o key ≡ []). h.old_some (ho.own ∙ none)) f parts.0
          ∙ ap (λ (ds : List DpAction). number_sent f ds key (bits old.sent)) (sym ho.own)

      second : bit_and x told_new ≡ number_sent f new.actions key (bits new.sent)
      second =
          ap (λ (ds : List DpAction). number_sent f ds other (bits new.sent)) same
          ∙ (hn.fine h.new_fine other frame a).sent (λ (none : done n key ≡ []). h.new_some (hn.own ∙ none)) f parts.0
          ∙ ap (λ (ds : List DpAction). number_sent f ds key (bits new.sent)) (sym hn.own)

      both : bit_and (number_sent f old.actions key (bits old.sent)) told_new ≡ bit_and (number_sent f new.actions key (bits new.sent)) told_old
      both =
          ap (λ (y : ℕ). bit_and y told_new) (sym first)
          ∙ and_assoc told_new x told_old
          ∙ ap (bit_and x) (and_comm told_old told_new)
          ∙ sym (and_assoc told_old x told_new)
          ∙ ap (λ (y : ℕ). bit_and y told_old) second

      clash : ⊥
      clash = let g : true ≡ false = sym parts.1 ∙ ap not (eq-eqb _ _ both) in cc

pub told_sure : (told fine : Bool) → told ≡ true → (told || fine) ≡ true
told_sure true fine e = refl
told_sure false fine e = absurd (cc e)

-- both deeds of packets to which not the same is done
pub differing : (o n : Switch) (key mask : List ℕ) (old new : Deed) → IsDeed o key mask old → IsDeed n key mask new → DoOtherwise o n key mask
    → Differs o n key mask (deed_view old) (deed_view new)
differing o n key mask old new ho hn other = record {
  old = ho.does;
  new = hn.does;
  plain = both (is_plain (deed_view old)) (is_plain (deed_view new)) ho.plain hn.plain;
  differ = other;
}
  where
    both : (s t : Bool) → IsTrue s → IsTrue t → IsTrue (s && t)
    both true t p q = q
    both false t p q = p

-- ---- what is found

-- what holds of what is found in a call
pub found_map : {J E : Type 0} {P Q : J → Type 0} (r : Result (Option J) E) → IfOk r (λ f. IfSome f P) → ((j : J) → P j → Q j) → IfOk r (λ f. IfSome f Q)
found_map (Ok (Some j)) p f = f j p
found_map (Ok None) p f = tt
found_map (Err e) p f = tt
