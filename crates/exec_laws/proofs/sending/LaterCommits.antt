-- A commit whose base key isn't the frame's in fields that the frame doesn't show. Such is one that comes after a write which
-- found no header. It begins as a commit of the frame's own key does, with the addresses and the tags; of the fields after
-- those it writes the ones that the frame shows alike, and the others change no key.
use Rattle.std.proofs.Common.{◌≡◌, ◌≢◌, ℕ, ◌^◌, ◌<◌, ◌==◌, ◌||◌, ◌&&◌, not, Bool, true, false, if◌then◌else◌, List, [], ◌∷◌, ◌++◌, map, zero, suc, get_or, bit_and, bit_xor, refl, sym, ap, ap₂, ◌∙◌, subst, append_assoc, arith}
use Rattle.std.specs.List.{list_all, list_any}
use Rattle.std.proofs.lemmas.Bool.{eqb-false, and_parts}
use Rattle.std.proofs.lemmas.List.{append-nil}
use Rattle.std.proofs.lemmas.Nat.{xor_lt}
use Rattle.spec_keys.specs.declared.field_id.FieldId.{FieldId}
use Rattle.spec_keys.specs.declared.field_id.FieldId.TheVariants.{DlSrc, DlDst, VlanTci, VlanTpid, VlanTci2, VlanTpid2, IpFrag}
use Rattle.spec_keys.specs.Fields.{place_of, width_of, widths, fields}
use Rattle.spec_keys.specs.Keys.{value_of, IsKey}
use Rattle.spec_frames.specs.Key.{key_of}
use Rattle.spec_actions.specs.declared.action.DpAction.{DpAction}
use Rattle.spec_actions.specs.declared.action.DpAction.TheVariants.{Set}
use Rattle.spec_xlate.specs.Tags.{VlanTag, is_tag, tags_of, commit_tags}
use Rattle.spec_xlate.specs.Commit.{fields_before_tags, fields_after_tags, commit, commit_field, commit_fields}
use Rattle.frame_laws.proofs.keys.KeyLaws.{key_of-IsKey}
use Rattle.exec_laws.specs.ReadBack.{shows}
use Rattle.exec_laws.specs.Sends.{after_actions}
use Rattle.exec_laws.specs.Become.{is_of_tags, turned, CanTurn}
use Rattle.exec_laws.proofs.OnTheWay.{OnTheWay, Lead, no-actions, join, shown-leads, hidden-leads}
use Rattle.exec_laws.proofs.CommitSteps.{no-change, map-at, commit-leads, commit-bytes, commit-whole, commit-shows, commit-single}
use Rattle.exec_laws.proofs.Turned.{key-turned}
use Rattle.exec_laws.proofs.sending.MadeKeys.{value-lt}

-- ---- fields

-- whether a field is one of those that a commit writes after the tags
abbrev is_after : FieldId → Bool
is_after f = list_any (λ g. place_of f == place_of g) fields_after_tags

-- whether a field is written in place, and doesn't say what the packet has
abbrev is_in_place : FieldId → Bool
is_in_place f = not (place_of f == place_of IpFrag) && not (is_of_tags f)

not-true : (t : Bool) → not t ≡ true → t ≡ false
not-true true e = absurd cc
not-true false e = refl

or-true : (t : Bool) → (t || true) ≡ true
or-true true = refl
or-true false = refl

-- keys that are the same in these fields need no action
none-differ : (a b : List ℕ) (fs : List FieldId) → ((f : FieldId) → is_after f ≡ true → value_of b f ≡ value_of a f) → list_all is_after fs ≡ true
    → commit_fields fs a b ≡ []
unfolding commit_fields
none-differ a b [] same those = refl
none-differ a b (f ∷ fs) same those =
    let parts = and_parts (is_after f) (list_all is_after fs) those in
    ap₂ (λ (xs ys : List DpAction). xs ++ ys) (ap (commit_field f (value_of a f)) (same f parts.0) ∙ no-change f (value_of a f)) (none-differ a b fs same parts.1)

-- a key by its numbers
numbers-fit : (value : FieldId → ℕ) → ((f : FieldId) → value f < 2 ^ width_of f) → (fs : List FieldId) (q : ℕ) → get_or (map value fs) q 0 < 2 ^ get_or (map width_of fs) q 0
numbers-fit value fit [] q = omega arith
numbers-fit value fit (f ∷ fs) zero = fit f
numbers-fit value fit (f ∷ fs) (suc q) = numbers-fit value fit fs q

numbers-key : (value : FieldId → ℕ) → ((f : FieldId) → value f < 2 ^ width_of f) → IsKey (map value fields)
unfolding widths
numbers-key value fit = record { fields = refl; fit = numbers-fit value fit fields }

module _ (port : ℕ) (frame base next : List ℕ) (can : CanTurn port frame next) (is_base : IsKey base)
    (same : (f : FieldId) → (is_of_tags f || shows port frame f) ≡ true → value_of base f ≡ value_of (key_of port frame) f) where
  abbrev here : List ℕ
  here = key_of port frame

  abbrev aimed : FieldId → ℕ
  aimed f = if is_of_tags f || shows port frame f then value_of next f else value_of here f

  abbrev aim : List ℕ
  aim = turned port frame next

  -- ---- the fields after the tags

  shown-change : (f : FieldId) (g : List ℕ) → OnTheWay port frame g → place_of f ≢ place_of IpFrag → shows port frame f ≡ true
      → Lead port frame (commit_field f (value_of base f) (value_of next f)) (commit_field f (value_of base f) (value_of next f)) g
  unfolding commit_field
  shown-change f g at apart s = by (value_of base f == value_of next f)
    where
      written : List DpAction
      written = Set f (bit_and (value_of next f) (bit_xor (value_of base f) (value_of next f))) (bit_xor (value_of base f) (value_of next f)) ∷ []

      by : (t : Bool) → Lead port frame (if t then [] else written) (if t then [] else written) g
      by true = no-actions port frame g at
      by false = shown-leads port frame f _ _ g at apart s (xor_lt (width_of f) (value_of base f) (value_of next f) (value-lt base is_base f) (value-lt next can.is_key f))

  hidden-change : (f : FieldId) (g : List ℕ) → OnTheWay port frame g → shows port frame f ≡ false
      → Lead port frame (commit_field f (value_of base f) (value_of next f)) [] g
  unfolding commit_field
  hidden-change f g at s = by (value_of base f == value_of next f)
    where
      by : (t : Bool) → Lead port frame (if t then [] else Set f (bit_and (value_of next f) (bit_xor (value_of base f) (value_of next f))) (bit_xor (value_of base f) (value_of next f)) ∷ []) [] g
      by true = no-actions port frame g at
      by false = hidden-leads port frame f _ _ g at s

  field-leads : (f : FieldId) (g : List ℕ) → OnTheWay port frame g → is_in_place f ≡ true
      → Lead port frame (commit_field f (value_of base f) (value_of next f)) (commit_field f (value_of here f) (value_of aim f)) g
  field-leads f g at place = by (shows port frame f) refl
    where
      actions : List DpAction
      actions = commit_field f (value_of base f) (value_of next f)

      parts : (not (place_of f == place_of IpFrag) ≡ true) × (not (is_of_tags f) ≡ true)
      parts = and_parts (not (place_of f == place_of IpFrag)) (not (is_of_tags f)) place

      apart : place_of f ≢ place_of IpFrag
      apart = eqb-false (place_of f) (place_of IpFrag) (not-true (place_of f == place_of IpFrag) parts.0)

      aim-is : (u : Bool) → shows port frame f ≡ u → value_of aim f ≡ (if u then value_of next f else value_of here f)
      aim-is u s = map-at aimed f ∙ ap₂ (λ (t v : Bool). if t || v then value_of next f else value_of here f) (not-true (is_of_tags f) parts.1) s

      by : (u : Bool) → shows port frame f ≡ u → Lead port frame actions (commit_field f (value_of here f) (value_of aim f)) g
      by true s =
          subst (λ (others : List DpAction). Lead port frame actions others g)
          (ap₂ (commit_field f) (same f (ap (λ (t : Bool). is_of_tags f || t) s ∙ or-true (is_of_tags f))) (sym (aim-is true s))) (shown-change f g at apart s)
      by false s =
          subst (λ (others : List DpAction). Lead port frame actions others g)
          (sym (ap (commit_field f (value_of here f)) (aim-is false s) ∙ no-change f (value_of here f))) (hidden-change f g at s)

  fields-lead : (fs : List FieldId) (g : List ℕ) → OnTheWay port frame g → list_all is_in_place fs ≡ true
      → Lead port frame (commit_fields fs base next) (commit_fields fs here aim) g
  unfolding commit_fields
  fields-lead [] g at places = no-actions port frame g at
  fields-lead (f ∷ fs) g at places =
      let parts = and_parts (is_in_place f) (list_all is_in_place fs) places in
      let first = field-leads f g at parts.0 in
      join port frame (commit_field f (value_of base f) (value_of next f)) (commit_fields fs base next) (commit_field f (value_of here f) (value_of aim f)) (commit_fields fs here aim) g
      first (fields-lead fs _ first.there parts.1)

  -- ---- what comes before them

  abbrev nearer : FieldId → ℕ
  nearer f = if is_after f then value_of here f else value_of next f

  -- the key to come, but as the frame's own in the fields after the tags
  abbrev near : List ℕ
  near = map nearer fields

  near-key : IsKey near
  near-key = numbers-key nearer (λ f. by f (is_after f))
    where
      by : (f : FieldId) (t : Bool) → (if t then value_of here f else value_of next f) < 2 ^ width_of f
      by f true = value-lt here (key_of-IsKey frame can.bytes port can.in_port) f
      by f false = value-lt next can.is_key f

  near-can : CanTurn port frame near
  near-can = record { bytes = can.bytes; whole = can.whole; in_port = can.in_port; is_key = near-key; has_proper_tags = can.has_proper_tags; has_tag_types = can.has_tag_types; uncovers_none = can.uncovers_none }

  near-after : (f : FieldId) → is_after f ≡ true → value_of near f ≡ value_of here f
  near-after f e = map-at nearer f ∙ ap (λ (t : Bool). if t then value_of here f else value_of next f) e

  abbrev near_aimed : FieldId → ℕ
  near_aimed f = if is_of_tags f || shows port frame f then value_of near f else value_of here f

  near-aim-after : (f : FieldId) → is_after f ≡ true → value_of (turned port frame near) f ≡ value_of here f
  near-aim-after f e = map-at near_aimed f ∙ by (is_of_tags f || shows port frame f)
    where
      by : (t : Bool) → (if t then value_of near f else value_of here f) ≡ value_of here f
      by true = near-after f e
      by false = refl

  abbrev before : List ℕ → List ℕ → List DpAction
  before a b = commit_fields fields_before_tags a b

  abbrev after : List ℕ → List ℕ → List DpAction
  after a b = commit_fields fields_after_tags a b

  abbrev tags : List ℕ → List ℕ → List DpAction
  tags a b = commit_tags (tags_of a) (tags_of b)

  -- a list in three parts, without the last and with another in its place
  parted : (xs ys us vs : List DpAction) → us ≡ [] → xs ++ (ys ++ vs) ≡ (xs ++ (ys ++ us)) ++ vs
  parted xs ys us vs none =
      sym (append_assoc xs ys vs) ∙ ap (λ (zs : List DpAction). (xs ++ zs) ++ vs) (sym (append-nil ys) ∙ ap (λ (zs : List DpAction). ys ++ zs) (sym none))

  commit-parts : commit base next ≡ commit here near ++ after base next
  unfolding commit commit_fields
  commit-parts =
      ap₂ (λ (xs : List DpAction) (ts : List VlanTag). xs ++ (commit_tags ts (tags_of next) ++ after base next))
      (ap₂ (λ (x y : ℕ). commit_field DlSrc x (value_of next DlSrc) ++ (commit_field DlDst y (value_of next DlDst) ++ [])) (same DlSrc refl) (same DlDst refl))
      (ap₂ (λ (o i : VlanTag). if is_tag o.tci then (if is_tag i.tci then i ∷ o ∷ [] else o ∷ []) else [])
      (ap₂ (λ (p c : ℕ). record { tpid = p; tci = c }) (same VlanTpid refl) (same VlanTci refl))
      (ap₂ (λ (p c : ℕ). record { tpid = p; tci = c }) (same VlanTpid2 refl) (same VlanTci2 refl)))
      ∙ parted (before here next) (tags here next) (after here near) (after base next) (none-differ here near fields_after_tags near-after refl)

  aim-parts : commit here aim ≡ commit here (turned port frame near) ++ after here aim
  unfolding commit commit_fields
  aim-parts =
      parted (before here aim) (tags here aim) (after here (turned port frame near)) (after here aim) (none-differ here (turned port frame near) fields_after_tags near-aim-after refl)

  -- ---- the whole

  commit-lead : Lead port frame (commit base next) (commit here aim) frame
  commit-lead =
      let first : Lead port frame (commit here near) (commit here (turned port frame near)) frame = record {
        there = record {
          bytes = commit-bytes port frame near near-can;
          whole = commit-whole port frame near near-can;
          alike = commit-shows port frame near near-can;
          single = commit-single port frame near near-can;
        };
        key-is = commit-leads port frame near near-can;
      } in
      let rest = fields-lead fields_after_tags (after_actions (commit here near) frame) first.there refl in
      subst (λ (actions : List DpAction). Lead port frame actions (commit here aim) frame) (sym commit-parts)
      (subst (λ (others : List DpAction). Lead port frame (commit here near ++ after base next) others frame) (sym aim-parts)
      (join port frame (commit here near) (after base next) (commit here (turned port frame near)) (after here aim) frame first rest))

  pub later-there : OnTheWay port frame (after_actions (commit base next) frame)
  later-there = commit-lead.there

  pub later-turned : key_of port (after_actions (commit base next) frame) ≡ turned port frame next
  later-turned = commit-lead.key-is ∙ sym (commit-leads port frame next can) ∙ key-turned port frame next can
