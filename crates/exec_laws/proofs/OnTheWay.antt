-- Frames on the way from one to another, action by action. Each shows the fields that the first one shows, and has no third
-- tag if that has none. Each action does to the frame's key what `applied` says of a key.
use Rattle.std.proofs.Common.{◌≡◌, ◌≢◌, ℕ, ◌<◌, ◌≤◌, ◌^◌, is_some, true, false, List, [], ◌∷◌, ◌++◌, length, refl, sym, ap, ap₂, ◌∙◌, subst, arith}
use Rattle.std.proofs.lemmas.List.{get_or-set_other}
use Rattle.spec_keys.specs.declared.field_id.FieldId.{FieldId}
use Rattle.spec_keys.specs.declared.field_id.FieldId.TheVariants.{IpFrag}
use Rattle.spec_keys.specs.Fields.{place_of, width_of}
use Rattle.spec_base.specs.Bytes.{big_endian_at}
use Rattle.spec_keys.specs.Keys.{value_of}
use Rattle.spec_keys.specs.Protocols.{is_tag_type}
use Rattle.frame_laws.proofs.keys.Forms.{Tags}
use Rattle.spec_frames.specs.Ethernet.{header_size, type_at, inner_at, is_tag_at, tag_count, carried}
use Rattle.spec_frames.specs.Network.{network}
use Rattle.spec_frames.specs.Layout.{layout_of}
use Rattle.spec_frames.specs.Key.{key_of}
use Rattle.spec_actions.specs.declared.action.DpAction.{DpAction}
use Rattle.spec_actions.specs.declared.action.DpAction.TheVariants.{PopVlan, PushVlan, Set}
use Rattle.spec_xlate.specs.Tags.{VlanTag, is_tag}
use Rattle.table_laws.specs.Applied.{applied}
use Rattle.table_laws.proofs.CommitLaws.{applied-append}
use Rattle.spec_exec.specs.Places.{place_in}
use Rattle.spec_frames.specs.declared.layout.Layout.{Layout}
use Rattle.spec_exec.specs.Rewriting.{pop_tag, after_action}
use Rattle.exec_laws.specs.ReadBack.{AreBytes, shows}
use Rattle.exec_laws.specs.Sends.{after_actions}
use Rattle.exec_laws.specs.Become.{has_third_tag}
use Rattle.exec_laws.proofs.Within.{set-length, push-length, act-whole}
use Rattle.exec_laws.proofs.Addresses.{shown_tags, keyed_by, key-is}
use Rattle.exec_laws.proofs.Fields.{network-says}
use Rattle.exec_laws.proofs.TagKeys.{key-pushed, key-popped}
use Rattle.exec_laws.proofs.Tags.{with-bit, least, pushed_tags, push-key, push-places, push-single, popped_tags, pop-key, pop-from, pop-places, pop-single, replaced_tags, other-form, other-length, other-key, other-places, other-third, both-form, both-length, both-key, both-places, both-third}
use Rattle.exec_laws.proofs.BytesKept.{action-bytes}
use Rattle.exec_laws.proofs.EachField.{field-back, field-layout, unshown-key}
use Rattle.exec_laws.proofs.ThirdTag.{set-single}
use Rattle.exec_laws.proofs.Shown.{SamePlaces, same-shown}

pub after-append : (xs ys : List DpAction) (frame : List ℕ) → after_actions (xs ++ ys) frame ≡ after_actions ys (after_actions xs frame)
after-append [] ys frame = refl
after-append (x ∷ xs) ys frame = after-append xs ys (after_action x frame)

-- a tag that can be pushed
pub record IsFine (t : VlanTag) : Type 0 where
  pub tag : is_tag t.tci ≡ true
  pub typed : is_tag_type t.tpid ≡ true
  pub fits : t.tci < 65536

module _ (port : ℕ) (frame : List ℕ) where
  -- A frame on the way: it shows the fields that the first one shows, and has a third tag only if that has one.
  pub record OnTheWay (g : List ℕ) : Type 0 where
    pub bytes : AreBytes g
    pub whole : header_size ≤ length g
    pub alike : (f : FieldId) → shows port g f ≡ shows port frame f
    pub single : has_third_tag frame ≡ false → has_third_tag g ≡ false

  -- Actions that lead from one such frame to another, and do to its key what others do.
  pub record Lead (actions others : List DpAction) (g : List ℕ) : Type 0 where
    pub there : OnTheWay (after_actions actions g)
    pub key-is : key_of port (after_actions actions g) ≡ applied others (key_of port g)

  pub no-actions : (g : List ℕ) → OnTheWay g → Lead [] [] g
  no-actions g at = record { there = at; key-is = refl }

  pub join : (xs ys us vs : List DpAction) (g : List ℕ) → Lead xs us g → Lead ys vs (after_actions xs g) → Lead (xs ++ ys) (us ++ vs) g
  join xs ys us vs g first rest = record {
    there = subst OnTheWay (sym (after-append xs ys g)) rest.there;
    key-is = ap (key_of port) (after-append xs ys g) ∙ rest.key-is ∙ ap (applied vs) first.key-is ∙ sym (applied-append us vs (key_of port g));
  }

  -- ---- fields

  set-there : (f : FieldId) (value mask : ℕ) (g : List ℕ) → OnTheWay g
      → value_of (key_of port (after_action (Set f value mask) g)) IpFrag ≡ value_of (key_of port g) IpFrag → OnTheWay (after_action (Set f value mask) g)
  set-there f value mask g at part =
      let layout = field-layout g at.bytes f value mask in
      let size = set-length f value mask g in
      record {
        bytes = action-bytes g at.bytes (Set f value mask);
        whole = omega (arith, size, at.whole);
        alike = λ q. same-shown port g (after_action (Set f value mask) g) (λ p. ap (λ (l : Layout). is_some (place_in l p)) layout) part q ∙ at.alike q;
        single = λ first. set-single g at.bytes f value mask at.whole (at.single first);
      }

  pub shown-leads : (f : FieldId) (value mask : ℕ) (g : List ℕ) → OnTheWay g → place_of f ≢ place_of IpFrag → shows port frame f ≡ true → mask < 2 ^ width_of f
      → Lead (Set f value mask ∷ []) (Set f value mask ∷ []) g
  shown-leads f value mask g at apart shown fits =
      let back = field-back port g at.bytes at.whole value mask f (at.alike f ∙ shown) fits in
      let part = ap (λ (k : List ℕ). value_of k IpFrag) back ∙ get_or-set_other (key_of port g) (place_of f) (place_of IpFrag) _ 0 (λ e. apart (sym e)) in
      record { there = set-there f value mask g at part; key-is = back }

  pub hidden-leads : (f : FieldId) (value mask : ℕ) (g : List ℕ) → OnTheWay g → shows port frame f ≡ false → Lead (Set f value mask ∷ []) [] g
  hidden-leads f value mask g at hidden =
      let stays = unshown-key port g at.bytes at.whole value mask f (at.alike f ∙ hidden) in
      record { there = set-there f value mask g at (ap (λ (k : List ℕ). value_of k IpFrag) stays); key-is = stays }

  -- ---- tags

  module _ (g : List ℕ) (at : OnTheWay g) where
    -- a frame with other tags
    retagged : (h before : List ℕ) (source destination : ℕ) (t u : Tags) → AreBytes h → header_size ≤ length h → (has_third_tag g ≡ false → has_third_tag h ≡ false)
        → SamePlaces (layout_of g) (layout_of h) → key_of port g ≡ keyed_by before port source destination t → key_of port h ≡ keyed_by before port source destination u → OnTheWay h
    retagged h before source destination t u bytes whole single places was is = record {
      bytes = bytes;
      whole = whole;
      alike =
          let says = network-says before (network before) port (carried before).dl_type source destination t in
          let part = ap (λ (k : List ℕ). value_of k IpFrag) is ∙ says.same_part u ∙ ap (λ (k : List ℕ). value_of k IpFrag) (sym was) in
          λ q. same-shown port g h places part q ∙ at.alike q;
      single = λ first. single (at.single first);
    }

    -- the key of the frame, by its tags
    abbrev tagged_key : Tags → List ℕ
    tagged_key t = keyed_by g port (big_endian_at 6 g 6) (big_endian_at 6 g 0) t

    pushed-key : (tpid tci : ℕ) (t : Tags) → applied (PushVlan tpid tci ∷ []) (tagged_key t) ≡ tagged_key (pushed_tags tpid tci t)
    pushed-key tpid tci t = key-pushed g port (big_endian_at 6 g 6) (big_endian_at 6 g 0) t tpid tci

    popped-key : (t : Tags) → applied (PopVlan ∷ []) (tagged_key t) ≡ tagged_key (popped_tags t)
    popped-key t = key-popped g port (big_endian_at 6 g 6) (big_endian_at 6 g 0) t

    pub push-leads : (t : VlanTag) → IsFine t → tag_count g ≤ 1 → Lead (PushVlan t.tpid t.tci ∷ []) (PushVlan t.tpid t.tci ∷ []) g
    push-leads t fine room =
        let form = act-whole (PushVlan t.tpid t.tci) g at.whole in
        let size = ap length form ∙ push-length t.tpid t.tci g at.whole in
        let now = ap (key_of port) form ∙ push-key g at.whole t.tpid t.tci fine.typed room fine.fits port
        ∙ ap (λ (z : ℕ). tagged_key (pushed_tags t.tpid z (shown_tags g))) (with-bit t.tci fine.tag) in
        let places = subst (λ (z : List ℕ). SamePlaces (layout_of g) (layout_of z)) (sym form) (push-places g at.whole t.tpid t.tci fine.typed room) in
        record {
          there = retagged (after_action (PushVlan t.tpid t.tci) g) g _ _ (shown_tags g) (pushed_tags t.tpid t.tci (shown_tags g))
              (action-bytes g at.bytes (PushVlan t.tpid t.tci)) (omega (arith, size, at.whole))
              (λ first. ap has_third_tag form ∙ push-single g at.whole t.tpid t.tci fine.typed room) places (key-is port g at.whole) now;
          key-is = now ∙ sym (ap (applied (PushVlan t.tpid t.tci ∷ [])) (key-is port g at.whole) ∙ pushed-key t.tpid t.tci (shown_tags g));
        }

    module _ (tagged : is_tag_at g type_at ≡ true) where
      popped-whole : header_size ≤ length (after_action PopVlan g)
      popped-whole = subst (λ (z : List ℕ). header_size ≤ length z) (sym (act-whole PopVlan g at.whole)) (least g tagged)

      pub pop-leads : has_third_tag g ≡ false → Lead (PopVlan ∷ []) (PopVlan ∷ []) g
      pop-leads single =
          let form = act-whole PopVlan g at.whole in
          let now = ap (key_of port) form ∙ pop-key g tagged single port in
          let places = subst (λ (z : List ℕ). SamePlaces (layout_of g) (layout_of z)) (sym form) (pop-places g tagged single) in
          record {
            there = retagged (after_action PopVlan g) (pop_tag g) _ _ (shown_tags g) (popped_tags (shown_tags g)) (action-bytes g at.bytes PopVlan) popped-whole
                (λ first. ap has_third_tag form ∙ pop-single g tagged single) places (pop-from g tagged single port) now;
            key-is = now ∙ sym (ap (applied (PopVlan ∷ [])) (pop-from g tagged single port)
                ∙ key-popped (pop_tag g) port (big_endian_at 6 g 6) (big_endian_at 6 g 0) (shown_tags g));
          }

      -- another tag in place of the outer one, whatever stands after that
      pub swap-leads : (t : VlanTag) → IsFine t → Lead (PopVlan ∷ PushVlan t.tpid t.tci ∷ []) (PopVlan ∷ PushVlan t.tpid t.tci ∷ []) g
      swap-leads t fine =
          let form = other-form g tagged t.tpid t.tci in
          let size = ap length form ∙ other-length g tagged t.tpid t.tci in
          let now = ap (key_of port) form ∙ other-key g tagged t.tpid t.tci fine.typed fine.fits port
          ∙ ap (λ (z : ℕ). tagged_key (replaced_tags t.tpid z (shown_tags g))) (with-bit t.tci fine.tag) in
          let places = subst (λ (z : List ℕ). SamePlaces (layout_of g) (layout_of z)) (sym form) (other-places g tagged t.tpid t.tci fine.typed) in
          record {
            there = retagged (after_action (PushVlan t.tpid t.tci) (after_action PopVlan g)) g _ _ (shown_tags g) (replaced_tags t.tpid t.tci (shown_tags g))
                (action-bytes (after_action PopVlan g) (action-bytes g at.bytes PopVlan) (PushVlan t.tpid t.tci)) (omega (arith, size, at.whole))
                (λ first. ap has_third_tag form ∙ other-third g tagged t.tpid t.tci fine.typed ∙ first) places (key-is port g at.whole) now;
            key-is = now ∙ sym (ap (applied (PopVlan ∷ PushVlan t.tpid t.tci ∷ [])) (key-is port g at.whole)
                ∙ ap (applied (PushVlan t.tpid t.tci ∷ [])) (popped-key (shown_tags g)) ∙ pushed-key t.tpid t.tci (popped_tags (shown_tags g)));
          }

      -- two tags in place of two others, whatever stands after those
      pub both-lead : is_tag_at g inner_at ≡ true → (i o : VlanTag) → IsFine i → IsFine o
          → Lead (PopVlan ∷ PopVlan ∷ PushVlan i.tpid i.tci ∷ PushVlan o.tpid o.tci ∷ []) (PopVlan ∷ PopVlan ∷ PushVlan i.tpid i.tci ∷ PushVlan o.tpid o.tci ∷ []) g
      both-lead twice i o fine outer =
          let form = both-form g tagged twice i.tpid i.tci o.tpid o.tci in
          let size = ap length form ∙ both-length g tagged twice i.tpid i.tci o.tpid o.tci in
          let now = ap (key_of port) form ∙ both-key g tagged twice i.tpid i.tci o.tpid o.tci fine.typed outer.typed fine.fits outer.fits port
          ∙ ap₂ (λ (y z : ℕ). tagged_key (record { tci = z; tpid = o.tpid; tci2 = y; tpid2 = i.tpid })) (with-bit i.tci fine.tag) (with-bit o.tci outer.tag) in
          let places = subst (λ (z : List ℕ). SamePlaces (layout_of g) (layout_of z)) (sym form) (both-places g tagged twice i.tpid i.tci o.tpid o.tci fine.typed outer.typed) in
          let one = action-bytes (after_action PopVlan g) (action-bytes g at.bytes PopVlan) PopVlan in
          let two = action-bytes (after_action PopVlan (after_action PopVlan g)) one (PushVlan i.tpid i.tci) in
          let none = popped_tags (popped_tags (shown_tags g)) in
          record {
            there = retagged (after_action (PushVlan o.tpid o.tci) (after_action (PushVlan i.tpid i.tci) (after_action PopVlan (after_action PopVlan g)))) g _ _
                (shown_tags g) (record { tci = o.tci; tpid = o.tpid; tci2 = i.tci; tpid2 = i.tpid })
                (action-bytes (after_action (PushVlan i.tpid i.tci) (after_action PopVlan (after_action PopVlan g))) two (PushVlan o.tpid o.tci)) (omega (arith, size, at.whole))
                (λ first. ap has_third_tag form ∙ both-third g tagged twice i.tpid i.tci o.tpid o.tci fine.typed outer.typed ∙ first) places (key-is port g at.whole) now;
            key-is = now ∙ sym (ap (applied (PopVlan ∷ PopVlan ∷ PushVlan i.tpid i.tci ∷ PushVlan o.tpid o.tci ∷ [])) (key-is port g at.whole)
                ∙ ap (applied (PopVlan ∷ PushVlan i.tpid i.tci ∷ PushVlan o.tpid o.tci ∷ [])) (popped-key (shown_tags g))
                ∙ ap (applied (PushVlan i.tpid i.tci ∷ PushVlan o.tpid o.tci ∷ [])) (popped-key (popped_tags (shown_tags g)))
                ∙ ap (applied (PushVlan o.tpid o.tci ∷ [])) (pushed-key i.tpid i.tci none) ∙ pushed-key o.tpid o.tci (pushed_tags i.tpid i.tci none));
          }
