-- The frame after the actions of a commit, and its key: `applied` says what the actions do to that, if the frame shows each
-- field that is written. So the key is that after another commit, to the key that differs in the fields that it shows alone.
use Rattle.std.proofs.Common.{◌≡◌, ◌≢◌, ℕ, suc, ◌+◌, ◌<◌, ◌≤◌, ◌^◌, ◌==◌, ◌||◌, ◌&&◌, not, Bool, true, false, if◌then◌else◌, List, [], ◌∷◌, ◌++◌, map, length, All, IsTrue, bit_and, bit_xor, refl, sym, ap, ap₂, ◌∙◌, subst, arith}
use Rattle.std.proofs.lemmas.Bool.{eqb-true, eq-eqb, eqb-false, cond-true, cond_both, and_parts}
use Rattle.std.proofs.lemmas.Nat.{xor_lt}
use Rattle.spec_base.specs.Bytes.{big_endian_at}
use Rattle.spec_keys.specs.declared.field_id.FieldId.{FieldId}
use Rattle.spec_keys.specs.declared.field_id.FieldId.TheVariants.{InPort, DlSrc, DlDst, VlanTci, VlanTpid, VlanTci2, VlanTpid2, IpFrag}
use Rattle.spec_keys.specs.Fields.{place_of, width_of, widths, fields}
use Rattle.spec_keys.specs.Keys.{number_at, value_of, IsKey}
use Rattle.spec_keys.specs.Protocols.{is_tag_type}
use Rattle.spec_frames.specs.Ethernet.{header_size, tag_size, type_at, inner_at, is_tag_at, tag_count, carried}
use Rattle.spec_frames.specs.Network.{network}
use Rattle.spec_frames.specs.Key.{key_of}
use Rattle.spec_exec.specs.Rewriting.{after_action}
use Rattle.spec_actions.specs.declared.action.DpAction.{DpAction}
use Rattle.spec_actions.specs.declared.action.DpAction.TheVariants.{PopVlan, PushVlan, Set}
use Rattle.spec_xlate.specs.Tags.{VlanTag, is_tag, outer_tag, inner_tag, no_tag, is_same_tag, is_full, tags_of, outer_tags, commit_tags}
use Rattle.spec_xlate.specs.Commit.{fields_before_tags, fields_after_tags, commit, commit_field, commit_fields}
use Rattle.table_laws.specs.Applied.{applied, is_tag_or_none, is_proper}
use Rattle.frame_laws.proofs.keys.KeyLaws.{key_of-IsKey}
use Rattle.std.specs.List.{list_all}
use Rattle.std.proofs.lemmas.List.Elements.{All-cons, All-nil, All-head, All-tail}
use Rattle.exec_laws.proofs.Within.{count_of, counted-tagged, act-whole}
use Rattle.exec_laws.proofs.Tags.{shown-count, pop-count, pop-single, push-count}
use Rattle.exec_laws.proofs.Uncovered.{SameAfter, same-join, source-same_after, destination-same_after}
use Rattle.exec_laws.proofs.OnTheWay.{after-append, OnTheWay, Lead, no-actions, join, shown-leads, hidden-leads, IsFine, push-leads, pop-leads, swap-leads, both-lead}
use Rattle.exec_laws.specs.ReadBack.{AreBytes, shows}
use Rattle.exec_laws.specs.Sends.{after_actions}
use Rattle.exec_laws.specs.Become.{has_third_tag, is_of_tags, turned, CanTurn}
use Rattle.exec_laws.proofs.Addresses.{shown_tags, key-is, count-same}
use Rattle.exec_laws.proofs.Fields.{outer_of, inner_of, network-says}

-- ---- keys

widths-at : (f : FieldId) → number_at widths (place_of f) ≡ width_of f
unfolding widths
widths-at InPort = refl
widths-at f = refl

value-lt : (key : List ℕ) → IsKey key → (f : FieldId) → value_of key f < 2 ^ width_of f
value-lt key is f = subst (λ (w : ℕ). value_of key f < 2 ^ w) (widths-at f) (is.fit (place_of f))

pub no-change : (f : FieldId) (value : ℕ) → commit_field f value value ≡ []
unfolding commit_field
no-change f value = cond-true (value == value) [] _ (eq-eqb value value refl)

-- a key given field by field
pub map-at : (value : FieldId → ℕ) (f : FieldId) → value_of (map value fields) f ≡ value f
map-at value InPort = refl
map-at value f = refl

-- ---- lists of tags

-- the actions for the tags of one list that the other doesn't share
abbrev popping : List VlanTag → List DpAction
popping ts = map (λ t. PopVlan) ts

abbrev pushing : List VlanTag → List DpAction
pushing ts = map (λ t. PushVlan t.tpid t.tci) ts

eqb-comm : (x y : ℕ) → (y == x) ≡ (x == y)
eqb-comm x y = at (x == y) refl (y == x) refl
  where
    at : (t : Bool) → (x == y) ≡ t → (u : Bool) → (y == x) ≡ u → u ≡ t
    at true e true f = refl
    at true e false f = absurd (eqb-false y x f (sym (eqb-true x y e)))
    at false e true f = absurd (eqb-false x y e (sym (eqb-true y x f)))
    at false e false f = refl

same_tag-comm : (t o : VlanTag) → is_same_tag o t ≡ is_same_tag t o
same_tag-comm t o = ap₂ (λ (u v : Bool). u && v) (eqb-comm t.tci o.tci) (eqb-comm t.tpid o.tpid)

-- Two lists share as many tags, whichever of them is asked.
outer_tags-balance : (ts os : List VlanTag) → length (outer_tags ts os) + length os ≡ length (outer_tags os ts) + length ts
unfolding outer_tags
outer_tags-balance [] [] = refl
outer_tags-balance [] (o ∷ os) = omega arith
outer_tags-balance (t ∷ ts) [] = omega arith
outer_tags-balance (t ∷ ts) (o ∷ os) =
    subst (λ (u : Bool). length (if is_same_tag t o then outer_tags ts os else t ∷ ts) + suc (length os) ≡ length (if u then outer_tags os ts else o ∷ os) + suc (length ts))
    (sym (same_tag-comm t o)) (by (is_same_tag t o) (outer_tags-balance ts os))
  where
    by : (u : Bool) → length (outer_tags ts os) + length os ≡ length (outer_tags os ts) + length ts
        → length (if u then outer_tags ts os else t ∷ ts) + suc (length os) ≡ length (if u then outer_tags os ts else o ∷ os) + suc (length ts)
    by true rest = omega (arith, rest)
    by false rest = omega arith

outer_tags-few : (ts os : List VlanTag) → length (outer_tags ts os) ≤ length ts
unfolding outer_tags
outer_tags-few [] os = omega arith
outer_tags-few (t ∷ ts) [] = omega arith
outer_tags-few (t ∷ ts) (o ∷ os) = by (is_same_tag t o) (outer_tags-few ts os)
  where
    by : (u : Bool) → length (outer_tags ts os) ≤ length ts → length (if u then outer_tags ts os else t ∷ ts) ≤ suc (length ts)
    by true rest = omega (arith, rest)
    by false rest = omega arith

outer_tags-all : (P : VlanTag → Type 0) (ts os : List VlanTag) → All P ts → All P (outer_tags ts os)
unfolding outer_tags
outer_tags-all P [] os all = all
outer_tags-all P (t ∷ ts) [] all = all
outer_tags-all P (t ∷ ts) (o ∷ os) all = cond_both (is_same_tag t o) (outer_tags ts os) (t ∷ ts) (All P) (λ e. outer_tags-all P ts os (All-tail P t ts all)) (λ e. all)

-- the tags of a key, by whether it has an outer and an inner one
abbrev listed : (outer inner : Bool) → VlanTag → VlanTag → List VlanTag
listed outer inner o i = if outer then (if inner then i ∷ o ∷ [] else o ∷ []) else []

listed-length : (outer inner : Bool) (o i : VlanTag) → length (listed outer inner o i) ≡ count_of outer inner
listed-length true true o i = refl
listed-length true false o i = refl
listed-length false inner o i = refl

listed-few : (outer inner : Bool) (o i : VlanTag) → length (listed outer inner o i) ≤ 2
listed-few true true o i = omega arith
listed-few true false o i = omega arith
listed-few false inner o i = omega arith

two-listed : (outer inner : Bool) (o i : VlanTag) → length (listed outer inner o i) ≡ 2 → listed outer inner o i ≡ i ∷ o ∷ []
two-listed true true o i e = refl
two-listed true false o i e = absurd (omega arith)
two-listed false inner o i e = absurd (omega arith)

-- a frame with two tags has an inner one
two-inner : (frame : List ℕ) → tag_count frame ≡ 2 → is_tag_at frame inner_at ≡ true
unfolding tag_count
two-inner frame two = by (is_tag_at frame type_at) (is_tag_at frame inner_at) two
  where
    by : (u v : Bool) → count_of u v ≡ 2 → v ≡ true
    by u true e = refl
    by true false e = absurd (omega arith)
    by false false e = absurd (omega arith)

-- of a key with an inner tag, which has an outer one too
full-listed : (key : List ℕ) → is_proper key ≡ true → is_full key ≡ true → tags_of key ≡ inner_tag key ∷ outer_tag key ∷ []
full-listed key proper full = by (is_tag (outer_tag key).tci) refl proper
  where
    by : (u : Bool) → is_tag (outer_tag key).tci ≡ u
        → (if u then is_tag_or_none (inner_tag key) else is_same_tag (outer_tag key) no_tag && is_same_tag (inner_tag key) no_tag) ≡ true
        → tags_of key ≡ inner_tag key ∷ outer_tag key ∷ []
    by true e p = ap₂ (λ (u v : Bool). listed u v (outer_tag key) (inner_tag key)) e full
    by false e p =
        let parts = and_parts (is_same_tag (outer_tag key) no_tag) (is_same_tag (inner_tag key) no_tag) p in
        let zero = eqb-true (inner_tag key).tci 0 (and_parts ((inner_tag key).tci == 0) ((inner_tag key).tpid == 0) parts.1).0 in
        absurd (no (sym full ∙ ap is_tag zero))
      where
        no : true ≡ is_tag 0 → ⊥
        no e = cc

-- ---- the whole

-- whether a field is written in place, and doesn't say what the packet has
abbrev is_in_place : FieldId → Bool
is_in_place f = not (place_of f == place_of IpFrag) && not (is_of_tags f)

not-true : (t : Bool) → not t ≡ true → t ≡ false
not-true true e = absurd cc
not-true false e = refl

module _ (port : ℕ) (frame key : List ℕ) (can : CanTurn port frame key) where
  abbrev base : List ℕ
  base = key_of port frame

  -- the key that the frame will have
  abbrev aim : List ℕ
  aim = turned port frame key

  pub base-is : IsKey base
  base-is = key_of-IsKey frame can.bytes port can.in_port

  abbrev There : List ℕ → Type 0
  There g = OnTheWay port frame g

  abbrev Leads : List DpAction → List DpAction → List ℕ → Type 0
  Leads actions others g = Lead port frame actions others g

  -- ---- fields

  abbrev change : FieldId → List DpAction
  change f = commit_field f (value_of base f) (value_of key f)

  shown-change : (f : FieldId) (g : List ℕ) → There g → place_of f ≢ place_of IpFrag → shows port frame f ≡ true → Leads (change f) (change f) g
  unfolding commit_field
  shown-change f g at apart s = by (value_of base f == value_of key f)
    where
      written : List DpAction
      written = Set f (bit_and (value_of key f) (bit_xor (value_of base f) (value_of key f))) (bit_xor (value_of base f) (value_of key f)) ∷ []

      by : (t : Bool) → Leads (if t then [] else written) (if t then [] else written) g
      by true = no-actions port frame g at
      by false = shown-leads port frame f _ _ g at apart s (xor_lt (width_of f) (value_of base f) (value_of key f) (value-lt base base-is f) (value-lt key can.is_key f))

  hidden-change : (f : FieldId) (g : List ℕ) → There g → shows port frame f ≡ false → Leads (change f) [] g
  unfolding commit_field
  hidden-change f g at s = by (value_of base f == value_of key f)
    where
      written : List DpAction
      written = Set f (bit_and (value_of key f) (bit_xor (value_of base f) (value_of key f))) (bit_xor (value_of base f) (value_of key f)) ∷ []

      by : (t : Bool) → Leads (if t then [] else written) [] g
      by true = no-actions port frame g at
      by false = hidden-leads port frame f _ _ g at s

  abbrev aimed : FieldId → ℕ
  aimed f = if is_of_tags f || shows port frame f then value_of key f else value_of base f

  field-leads : (f : FieldId) (g : List ℕ) → There g → is_in_place f ≡ true → Leads (change f) (commit_field f (value_of base f) (value_of aim f)) g
  field-leads f g at here = by (shows port frame f) refl
    where
      parts : (not (place_of f == place_of IpFrag) ≡ true) × (not (is_of_tags f) ≡ true)
      parts = and_parts (not (place_of f == place_of IpFrag)) (not (is_of_tags f)) here

      apart : place_of f ≢ place_of IpFrag
      apart = eqb-false (place_of f) (place_of IpFrag) (not-true (place_of f == place_of IpFrag) parts.0)

      aim-is : (u : Bool) → shows port frame f ≡ u → value_of aim f ≡ (if u then value_of key f else value_of base f)
      aim-is u s = map-at aimed f ∙ ap₂ (λ (t v : Bool). if t || v then value_of key f else value_of base f) (not-true (is_of_tags f) parts.1) s

      by : (u : Bool) → shows port frame f ≡ u → Leads (change f) (commit_field f (value_of base f) (value_of aim f)) g
      by true s = subst (λ (z : ℕ). Leads (change f) (commit_field f (value_of base f) z) g) (sym (aim-is true s)) (shown-change f g at apart s)
      by false s =
          subst (λ (z : ℕ). Leads (change f) (commit_field f (value_of base f) z) g) (sym (aim-is false s))
          (subst (λ (others : List DpAction). Leads (change f) others g) (sym (no-change f (value_of base f))) (hidden-change f g at s))

  fields-lead : (fs : List FieldId) (g : List ℕ) → There g → list_all is_in_place fs ≡ true → Leads (commit_fields fs base key) (commit_fields fs base aim) g
  unfolding commit_fields
  fields-lead [] g at here = no-actions port frame g at
  fields-lead (f ∷ fs) g at here =
      let parts = and_parts (is_in_place f) (list_all is_in_place fs) here in
      let first = field-leads f g at parts.0 in
      join port frame (change f) (commit_fields fs base key) (commit_field f (value_of base f) (value_of aim f)) (commit_fields fs base aim) g first
      (fields-lead fs _ first.there parts.1)

  -- ---- tags

  -- the tags of the key can be pushed
  key-fine : All IsFine (tags_of key)
  key-fine = by (is_tag (outer_tag key).tci) refl (is_tag (inner_tag key).tci) refl can.has_tag_types
    where
      Typed : VlanTag → Type 0
      Typed t = IsTrue (is_tag_type t.tpid)

      outer : is_tag (outer_tag key).tci ≡ true → Typed (outer_tag key) → IsFine (outer_tag key)
      outer e typed = record { tag = e; typed = typed; fits = value-lt key can.is_key VlanTci }

      inner : is_tag (inner_tag key).tci ≡ true → Typed (inner_tag key) → IsFine (inner_tag key)
      inner e typed = record { tag = e; typed = typed; fits = value-lt key can.is_key VlanTci2 }

      by : (u : Bool) → is_tag (outer_tag key).tci ≡ u → (v : Bool) → is_tag (inner_tag key).tci ≡ v
          → All (λ t. IsTrue (is_tag_type t.tpid)) (listed u v (outer_tag key) (inner_tag key)) → All IsFine (listed u v (outer_tag key) (inner_tag key))
      by true e true f all =
          All-cons IsFine (inner_tag key) (outer_tag key ∷ []) (inner f (All-head Typed (inner_tag key) (outer_tag key ∷ []) all))
          (All-cons IsFine (outer_tag key) [] (outer e (All-head Typed (outer_tag key) [] (All-tail Typed (inner_tag key) (outer_tag key ∷ []) all))) (All-nil IsFine))
      by true e false f all = All-cons IsFine (outer_tag key) [] (outer e (All-head Typed (outer_tag key) [] all)) (All-nil IsFine)
      by false e v f all = All-nil IsFine

  -- where no third tag is uncovered, one after another
  pops-lead : (ts : List VlanTag) (g : List ℕ) → There g → has_third_tag g ≡ false → length ts ≤ tag_count g
      → Leads (popping ts) (popping ts) g × (tag_count (after_actions (popping ts) g) + length ts ≡ tag_count g)
  pops-lead [] g at single few = (no-actions port frame g at, omega arith)
  pops-lead (t ∷ ts) g at single few =
      let tagged = counted-tagged g (omega (arith, few)) in
      let form = act-whole PopVlan g at.whole in
      let first = pop-leads port frame g at tagged single in
      let fewer = pop-count g tagged single in
      let now = ap tag_count form in
      let rest = pops-lead ts (after_action PopVlan g) first.there (ap has_third_tag form ∙ pop-single g tagged single) (omega (arith, few, fewer, now)) in
      (join port frame (PopVlan ∷ []) (popping ts) (PopVlan ∷ []) (popping ts) g first rest.0, omega (arith, rest.1, fewer, now))

  pushes-lead : (ts : List VlanTag) (g : List ℕ) → There g → length ts + tag_count g ≤ 2 → All IsFine ts → Leads (pushing ts) (pushing ts) g
  pushes-lead [] g at few fine = no-actions port frame g at
  pushes-lead (t ∷ ts) g at few fine =
      let one = All-head IsFine t ts fine in
      let room : tag_count g ≤ 1 = omega (arith, few) in
      let now = ap tag_count (act-whole (PushVlan t.tpid t.tci) g at.whole) ∙ push-count g at.whole t.tpid t.tci one.typed room in
      let first = push-leads port frame g at t one room in
      join port frame (PushVlan t.tpid t.tci ∷ []) (pushing ts) (PushVlan t.tpid t.tci ∷ []) (pushing ts) g first
      (pushes-lead ts (after_action (PushVlan t.tpid t.tci) g) first.there (omega (arith, few, now)) (All-tail IsFine t ts fine))

  module _ (g : List ℕ) (at : There g) (counted : tag_count g ≡ length (tags_of base)) where
    abbrev Both : List DpAction → Type 0
    Both actions = Leads actions actions g

    apart-lead : has_third_tag g ≡ false → Both (commit_tags (tags_of base) (tags_of key))
    unfolding commit_tags
    apart-lead single =
        let gone = outer_tags (tags_of base) (tags_of key) in
        let new = outer_tags (tags_of key) (tags_of base) in
        let few = outer_tags-few (tags_of base) (tags_of key) in
        let balance = outer_tags-balance (tags_of base) (tags_of key) in
        let most = listed-few (is_tag (outer_tag key).tci) (is_tag (inner_tag key).tci) (outer_tag key) (inner_tag key) in
        let pops = pops-lead gone g at single (omega (arith, few, counted)) in
        let pushes = pushes-lead new (after_actions (popping gone) g) pops.0.there (omega (arith, balance, few, counted, pops.1, most)) (outer_tags-all IsFine (tags_of key) (tags_of base) key-fine) in
        join port frame (popping gone) (pushing new) (popping gone) (pushing new) g pops.0 pushes

    -- where a third tag stands behind them, in place of as many
    swapped-lead : has_third_tag g ≡ true → is_full key ≡ true → Both (commit_tags (tags_of base) (tags_of key))
    unfolding commit_tags outer_tags
    swapped-lead third full =
        let two = eqb-true (tag_count g) 2 (and_parts (tag_count g == 2) (is_tag_at g (inner_at + tag_size)) third).0 in
        let tagged = counted-tagged g (omega (arith, two)) in
        let twice = two-inner g two in
        let now = full-listed key can.has_proper_tags full in
        let fine : All IsFine (inner_tag key ∷ outer_tag key ∷ []) = subst (All IsFine) now key-fine in
        let inner = All-head IsFine (inner_tag key) (outer_tag key ∷ []) fine in
        let outer = All-head IsFine (outer_tag key) [] (All-tail IsFine (inner_tag key) (outer_tag key ∷ []) fine) in
        let was = two-listed (is_tag (outer_tag base).tci) (is_tag (inner_tag base).tci) (outer_tag base) (inner_tag base) (sym counted ∙ two) in
        subst (λ (ts : List VlanTag). Both (popping (outer_tags ts (tags_of key)) ++ pushing (outer_tags (tags_of key) ts))) (sym was)
        (subst (λ (ts : List VlanTag). Both (popping (outer_tags (inner_tag base ∷ outer_tag base ∷ []) ts) ++ pushing (outer_tags ts (inner_tag base ∷ outer_tag base ∷ [])))) (sym now)
        (subst (λ (u : Bool). Both (popping (some (is_same_tag (inner_tag base) (inner_tag key)) (is_same_tag (outer_tag base) (outer_tag key)) (inner_tag base) (outer_tag base))
        ++ pushing (some u (is_same_tag (outer_tag key) (outer_tag base)) (inner_tag key) (outer_tag key)))) (sym (same_tag-comm (inner_tag base) (inner_tag key)))
        (subst (λ (u : Bool). Both (popping (some (is_same_tag (inner_tag base) (inner_tag key)) (is_same_tag (outer_tag base) (outer_tag key)) (inner_tag base) (outer_tag base))
        ++ pushing (some (is_same_tag (inner_tag base) (inner_tag key)) u (inner_tag key) (outer_tag key)))) (sym (same_tag-comm (outer_tag base) (outer_tag key)))
        (by (is_same_tag (inner_tag base) (inner_tag key)) (is_same_tag (outer_tag base) (outer_tag key)) tagged twice inner outer))))
      where
        some : (inside outside : Bool) → VlanTag → VlanTag → List VlanTag
        some inside outside i o = if inside then (if outside then [] else o ∷ []) else i ∷ o ∷ []

        by : (inside outside : Bool) → is_tag_at g type_at ≡ true → is_tag_at g inner_at ≡ true → IsFine (inner_tag key) → IsFine (outer_tag key)
            → Both (popping (some inside outside (inner_tag base) (outer_tag base)) ++ pushing (some inside outside (inner_tag key) (outer_tag key)))
        by true true tagged twice inner outer = no-actions port frame g at
        by true false tagged twice inner outer = swap-leads port frame g at tagged (outer_tag key) outer
        by false outside tagged twice inner outer = both-lead port frame g at tagged twice (inner_tag key) (outer_tag key) inner outer

    tags-lead : (is_full key ≡ false → has_third_tag g ≡ false) → Both (commit_tags (tags_of base) (tags_of key))
    tags-lead uncovers_none = by (is_full key) refl (has_third_tag g) refl
      where
        by : (u : Bool) → is_full key ≡ u → (v : Bool) → has_third_tag g ≡ v → Both (commit_tags (tags_of base) (tags_of key))
        by true e true f = swapped-lead f e
        by true e false f = apart-lead f
        by false e v f = apart-lead (uncovers_none e)

  -- ---- a commit

  -- the frame after the addresses were written
  abbrev addressed : List ℕ
  addressed = after_actions (commit_fields fields_before_tags base key) frame

  addressed-same : SameAfter frame addressed
  unfolding commit_fields
  addressed-same =
      let first = after_actions (commit_field DlSrc (value_of base DlSrc) (value_of key DlSrc)) frame in
      let source = source-same_after (value_of base DlSrc) (value_of key DlSrc) frame can.whole in
      let second = after_actions (commit_field DlDst (value_of base DlDst) (value_of key DlDst)) first in
      let destination = destination-same_after (value_of base DlDst) (value_of key DlDst) first (omega (arith, source.0, can.whole)) in
      let none = after-append (commit_field DlDst (value_of base DlDst) (value_of key DlDst)) [] first in
      let all = after-append (commit_field DlSrc (value_of base DlSrc) (value_of key DlSrc)) (commit_field DlDst (value_of base DlDst) (value_of key DlDst) ++ []) frame ∙ none in
      subst (SameAfter frame) (sym all) (same-join frame first second source destination)

  pub base-tags : (outer_tag base ≡ outer_of (shown_tags frame)) × (inner_tag base ≡ inner_of (shown_tags frame))
  base-tags =
      let says = network-says frame (network frame) port (carried frame).dl_type (big_endian_at 6 frame 6) (big_endian_at 6 frame 0) (shown_tags frame) in
      (ap outer_tag (key-is port frame can.whole) ∙ says.outer, ap inner_tag (key-is port frame can.whole) ∙ says.inner)

  -- the base key has as many tags as its frame
  base-counted : length (tags_of base) ≡ tag_count frame
  base-counted =
      listed-length (is_tag (outer_tag base).tci) (is_tag (inner_tag base).tci) (outer_tag base) (inner_tag base)
      ∙ ap₂ (λ (o i : VlanTag). count_of (is_tag o.tci) (is_tag i.tci)) base-tags.0 base-tags.1 ∙ shown-count frame

  -- the tags of the aim are those of the key
  aim-tags : tags_of aim ≡ tags_of key
  aim-tags =
      ap₂ (λ (o i : VlanTag). listed (is_tag o.tci) (is_tag i.tci) o i)
      (ap₂ (λ (p c : ℕ). record { tpid = p; tci = c }) (map-at aimed VlanTpid) (map-at aimed VlanTci))
      (ap₂ (λ (p c : ℕ). record { tpid = p; tci = c }) (map-at aimed VlanTpid2) (map-at aimed VlanTci2))

  commit-lead : Leads (commit base key) (commit base aim) frame
  unfolding commit
  commit-lead =
      let start : There frame = record { bytes = can.bytes; whole = can.whole; alike = λ f. refl; single = λ first. first } in
      let before = commit_fields fields_before_tags base key in
      let tags = commit_tags (tags_of base) (tags_of key) in
      let after = commit_fields fields_after_tags base key in
      let before_aim = commit_fields fields_before_tags base aim in
      let after_aim = commit_fields fields_after_tags base aim in
      let same = addressed-same in
      let first = fields-lead fields_before_tags frame start refl in
      let second = tags-lead addressed first.there (count-same frame addressed same.0 same.1 can.whole ∙ sym base-counted)
      (λ less. first.there.single (can.uncovers_none less)) in
      let third = fields-lead fields_after_tags (after_actions tags addressed) second.there refl in
      subst (λ (ts : List VlanTag). Leads (before ++ (tags ++ after)) (before_aim ++ (commit_tags (tags_of base) ts ++ after_aim)) frame) (sym aim-tags)
      (join port frame before (tags ++ after) before_aim (tags ++ after_aim) frame first (join port frame tags after tags after_aim addressed second third))

  pub commit-leads : key_of port (after_actions (commit base key) frame) ≡ applied (commit base aim) base
  commit-leads = commit-lead.key-is

  -- what the frame still is
  pub commit-bytes : AreBytes (after_actions (commit base key) frame)
  commit-bytes = commit-lead.there.bytes

  pub commit-whole : header_size ≤ length (after_actions (commit base key) frame)
  commit-whole = commit-lead.there.whole

  pub commit-shows : (f : FieldId) → shows port (after_actions (commit base key) frame) f ≡ shows port frame f
  commit-shows = commit-lead.there.alike

  pub commit-single : has_third_tag frame ≡ false → has_third_tag (after_actions (commit base key) frame) ≡ false
  commit-single = commit-lead.there.single
