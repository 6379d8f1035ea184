-- The key of a frame after a commit, field by field and whole, and what an output then sends.
use Rattle.std.proofs.Common.{◌≡◌, ℕ, ◌==◌, ◌||◌, Bool, true, false, if◌then◌else◌, is_some, List, [], ◌∷◌, ◌++◌, map, length, refl, sym, ap, ap₂, ◌∙◌}
use Rattle.std.specs.List.{list_any, list_all}
use Rattle.std.proofs.lemmas.Bool.{cond_both, cond-true, cond-false, eqb-true, eq-eqb, and_parts, and_from}
use Rattle.std.proofs.lemmas.List.FromFn.{fill_by_all}
use Rattle.std.proofs.lemmas.List.Elements.{All-append, All-cons, All-nil}
use Rattle.spec_keys.specs.declared.field_id.FieldId.{FieldId}
use Rattle.spec_keys.specs.declared.field_id.FieldId.TheVariants.{DlSrc, DlDst, VlanTci, VlanTpid, VlanTci2, VlanTpid2, NwSrc, NwDst, Ipv6Src, Ipv6Dst, NwTos, NwTtl, ArpSha, ArpTha, TpSrc, TpDst}
use Rattle.spec_keys.specs.Fields.{place_of, fields, field_count, register_fields}
use Rattle.spec_keys.specs.Keys.{number_at, value_of}
use Rattle.spec_frames.specs.declared.layout.L3.{L3}
use Rattle.spec_frames.specs.declared.layout.L3.TheVariants as l3
use Rattle.spec_frames.specs.Layout.{layout_of}
use Rattle.spec_frames.specs.Key.{key_of}
use Rattle.spec_actions.specs.declared.action.DpAction.{DpAction}
use Rattle.spec_actions.specs.declared.action.DpAction.TheVariants.{Output, PopVlan, PushVlan}
use Rattle.spec_xlate.specs.Tags.{VlanTag, is_same_tag, tags_of, outer_tags, commit_tags}
use Rattle.spec_xlate.specs.Commit.{fields_before_tags, fields_after_tags, commit, commit_field, commit_fields}
use Rattle.table_laws.specs.Applied.{applied, is_frame_field, is_proper}
use Rattle.table_laws.proofs.CommitLaws.{commit-Turns}
use Rattle.spec_exec.specs.Places.{in_network}
use Rattle.spec_exec.specs.Sent.{Piece, is_output, sent}
use Rattle.frame_laws.proofs.keys.KeyLaws.{key_of-IsClean}
use Rattle.exec_laws.specs.ReadBack.{shows}
use Rattle.exec_laws.specs.Sends.{after_actions}
use Rattle.exec_laws.specs.Become.{is_of_tags, turned, CanTurn, is_register, without_registers, CanBecome}
use Rattle.exec_laws.proofs.SentLists.{AreSilent, sent-before}
use Rattle.exec_laws.proofs.CommitSteps.{no-change, map-at, base-is, base-tags, commit-leads}
use Rattle.exec_laws.proofs.Tags.{are_proper, shown-proper}

-- ---- keys, field by field

all-fields : (key : List ℕ) → length key ≡ field_count → key ≡ map (value_of key) fields
all-fields key len = fill_by_all (number_at key) key field_count 0 len (λ k l. refl)

pub map-same : (g h : FieldId → ℕ) → ((f : FieldId) → g f ≡ h f) → (fs : List FieldId) → map g fs ≡ map h fs
map-same g h e [] = refl
map-same g h e (f ∷ fs) = ap₂ (λ (x : ℕ) (xs : List ℕ). x ∷ xs) (e f) (map-same g h e fs)

-- fields that datapath actions don't write have no place
network-unframed : (h : L3) (f : FieldId) → is_frame_field f ≡ false → is_some (in_network h f) ≡ false
network-unframed l3.None f e = refl
network-unframed (l3.Arp at) ArpSha e = absurd cc
network-unframed (l3.Arp at) ArpTha e = absurd cc
network-unframed (l3.Arp at) NwSrc e = absurd cc
network-unframed (l3.Arp at) NwDst e = absurd cc
network-unframed (l3.Arp at) f e = refl
network-unframed (l3.Ipv4 at) NwSrc e = absurd cc
network-unframed (l3.Ipv4 at) NwDst e = absurd cc
network-unframed (l3.Ipv4 at) NwTos e = absurd cc
network-unframed (l3.Ipv4 at) NwTtl e = absurd cc
network-unframed (l3.Ipv4 at) f e = refl
network-unframed (l3.Ipv6 at) Ipv6Src e = absurd cc
network-unframed (l3.Ipv6 at) Ipv6Dst e = absurd cc
network-unframed (l3.Ipv6 at) NwTos e = absurd cc
network-unframed (l3.Ipv6 at) NwTtl e = absurd cc
network-unframed (l3.Ipv6 at) f e = refl

unframed : (port : ℕ) (frame : List ℕ) (f : FieldId) → is_frame_field f ≡ false → (is_of_tags f || shows port frame f) ≡ false
unframed port frame DlSrc e = absurd cc
unframed port frame DlDst e = absurd cc
unframed port frame VlanTci e = absurd cc
unframed port frame VlanTpid e = absurd cc
unframed port frame VlanTci2 e = absurd cc
unframed port frame VlanTpid2 e = absurd cc
unframed port frame TpSrc e = absurd cc
unframed port frame TpDst e = absurd cc
unframed port frame f e = network-unframed (layout_of frame).l3 f e

-- nor are registers written
register-unframed : (f : FieldId) → is_register f ≡ true → is_frame_field f ≡ false
register-unframed DlSrc e = absurd cc
register-unframed DlDst e = absurd cc
register-unframed VlanTci e = absurd cc
register-unframed VlanTpid e = absurd cc
register-unframed VlanTci2 e = absurd cc
register-unframed VlanTpid2 e = absurd cc
register-unframed NwSrc e = absurd cc
register-unframed NwDst e = absurd cc
register-unframed Ipv6Src e = absurd cc
register-unframed Ipv6Dst e = absurd cc
register-unframed NwTos e = absurd cc
register-unframed NwTtl e = absurd cc
register-unframed ArpSha e = absurd cc
register-unframed ArpTha e = absurd cc
register-unframed TpSrc e = absurd cc
register-unframed TpDst e = absurd cc
register-unframed f e = refl

zero-in : (key : List ℕ) (f : FieldId) (gs : List FieldId) → list_all (λ g. value_of key g == 0) gs ≡ true → list_any (λ g. place_of f == place_of g) gs ≡ true → value_of key f ≡ 0
zero-in key f [] all any = absurd cc
zero-in key f (g ∷ gs) all any =
    let parts = and_parts (value_of key g == 0) (list_all (λ q. value_of key q == 0) gs) all in
    by (place_of f == place_of g) refl parts.0 any (zero-in key f gs parts.1)
  where
    by : (t : Bool) → (place_of f == place_of g) ≡ t → (value_of key g == 0) ≡ true → (t || list_any (λ q. place_of f == place_of q) gs) ≡ true
        → (list_any (λ q. place_of f == place_of q) gs ≡ true → value_of key f ≡ 0) → value_of key f ≡ 0
    by true e z any rest = ap (number_at key) (eqb-true (place_of f) (place_of g) e) ∙ eqb-true (value_of key g) 0 z
    by false e z any rest = rest any

-- ---- the key

module _ (port : ℕ) (frame key : List ℕ) (can : CanTurn port frame key) where
  abbrev base : List ℕ
  base = key_of port frame

  abbrev aim : List ℕ
  aim = turned port frame key

  abbrev aimed : FieldId → ℕ
  aimed f = if is_of_tags f || shows port frame f then value_of key f else value_of base f

  -- the key of a frame has proper tags
  base-proper : is_proper base ≡ true
  base-proper = let tags = base-tags port frame key can in ap₂ are_proper tags.0 tags.1 ∙ shown-proper frame

  aim-proper : is_proper aim ≡ true
  aim-proper =
      ap₂ are_proper (ap₂ (λ (p c : ℕ). record { tpid = p; tci = c }) (map-at aimed VlanTpid) (map-at aimed VlanTci))
      (ap₂ (λ (p c : ℕ). record { tpid = p; tci = c }) (map-at aimed VlanTpid2) (map-at aimed VlanTci2)) ∙ can.has_proper_tags

  pub key-turned : key_of port (after_actions (commit base key) frame) ≡ aim
  key-turned =
      let turns = commit-Turns base aim (base-is port frame key can).fields base-proper aim-proper in
      let now = applied (commit base aim) base in
      let each : (f : FieldId) → value_of now f ≡ aimed f = λ f. by f (is_frame_field f) refl (turns.those (place_of f)) (turns.others (place_of f)) in
      commit-leads port frame key can ∙ all-fields now (turns.lengths ∙ (base-is port frame key can).fields) ∙ map-same (value_of now) aimed each fields
    where
      by : {v : ℕ} (f : FieldId) (t : Bool) → is_frame_field f ≡ t → (is_frame_field f ≡ true → v ≡ value_of aim f) → (is_frame_field f ≡ false → v ≡ value_of base f) → v ≡ aimed f
      by f true e those others = those e ∙ map-at aimed f
      by f false e those others = others e ∙ sym (cond-false (is_of_tags f || shows port frame f) (value_of key f) (value_of base f) (unframed port frame f e))

-- registers aside it is the whole key, where that differs in what the frame shows alone
pub key-becomes : (port : ℕ) (frame key : List ℕ) → CanBecome port frame key → key_of port (after_actions (commit (key_of port frame) key) frame) ≡ without_registers key
key-becomes port frame key can =
    key-turned port frame key can.can_turn
    ∙ map-same (λ f. if is_of_tags f || shows port frame f then value_of key f else value_of (key_of port frame) f) (λ f. if is_register f then 0 else value_of key f)
    (λ f. by f (is_register f) refl (is_of_tags f) refl (shows port frame f) refl) fields
  where
    zero : (f : FieldId) → is_register f ≡ true → value_of (key_of port frame) f ≡ 0
    zero f r = zero-in (key_of port frame) f register_fields (key_of-IsClean port frame) r

    by : (f : FieldId) (r : Bool) → is_register f ≡ r → (t : Bool) → is_of_tags f ≡ t → (s : Bool) → shows port frame f ≡ s
        → (if is_of_tags f || shows port frame f then value_of key f else value_of (key_of port frame) f) ≡ (if is_register f then 0 else value_of key f)
    by f true r t e s h =
        cond-false (is_of_tags f || shows port frame f) (value_of key f) (value_of (key_of port frame) f) (unframed port frame f (register-unframed f r))
        ∙ zero f r ∙ sym (cond-true (is_register f) 0 (value_of key f) r)
    by f false r true e s h = rw (r, e) refl
    by f false r false e true h = rw (r, e, h) refl
    by f false r false e false h = rw (r, e, h) (sym (can.others_stay f r e h))

-- ---- the next commit, which begins with that key

pub commit-registers : (key next : List ℕ) → commit (without_registers key) next ≡ commit key next
unfolding commit commit_fields
commit-registers key next = refl

-- and which does nothing where that is the key to come
same-fields : (fs : List FieldId) (key : List ℕ) → commit_fields fs key key ≡ []
unfolding commit_fields
same-fields [] key = refl
same-fields (f ∷ fs) key = ap₂ (λ (xs ys : List DpAction). xs ++ ys) (no-change f (value_of key f)) (same-fields fs key)

same-tags : (ts : List VlanTag) → outer_tags ts ts ≡ []
unfolding outer_tags
same-tags [] = refl
same-tags (t ∷ ts) = cond-true (is_same_tag t t) (outer_tags ts ts) (t ∷ ts) (and_from (t.tci == t.tci) (t.tpid == t.tpid) (eq-eqb t.tci t.tci refl) (eq-eqb t.tpid t.tpid refl)) ∙ same-tags ts

pub commit-same : (key : List ℕ) → commit key key ≡ []
unfolding commit commit_tags
commit-same key =
    ap₂ (λ (xs ys : List DpAction). xs ++ ys) (same-fields fields_before_tags key)
    (ap₂ (λ (ts : List VlanTag) (ys : List DpAction). (map (λ t. PopVlan) ts ++ map (λ t. PushVlan t.tpid t.tci) ts) ++ ys) (same-tags (tags_of key)) (same-fields fields_after_tags key))

-- ---- what an output sends

field-silent : (f : FieldId) (before after : ℕ) → AreSilent (commit_field f before after)
unfolding commit_field
field-silent f before after =
    cond_both (before == after) [] _ AreSilent (λ e. All-nil (λ a. is_output a ≡ false)) (λ e. All-cons (λ a. is_output a ≡ false) _ [] refl (All-nil (λ a. is_output a ≡ false)))

fields-silent : (fs : List FieldId) (before after : List ℕ) → AreSilent (commit_fields fs before after)
unfolding commit_fields
fields-silent [] before after = All-nil (λ a. is_output a ≡ false)
fields-silent (f ∷ fs) before after =
    All-append (λ a. is_output a ≡ false) (commit_field f (value_of before f) (value_of after f)) (commit_fields fs before after)
    (field-silent f (value_of before f) (value_of after f)) (fields-silent fs before after)

pops-silent : (ts : List VlanTag) → AreSilent (map (λ t. PopVlan) ts)
pops-silent [] = All-nil (λ a. is_output a ≡ false)
pops-silent (t ∷ ts) = All-cons (λ a. is_output a ≡ false) PopVlan (map (λ t. PopVlan) ts) refl (pops-silent ts)

pushes-silent : (ts : List VlanTag) → AreSilent (map (λ t. PushVlan t.tpid t.tci) ts)
pushes-silent [] = All-nil (λ a. is_output a ≡ false)
pushes-silent (t ∷ ts) = All-cons (λ a. is_output a ≡ false) (PushVlan t.tpid t.tci) (map (λ u. PushVlan u.tpid u.tci) ts) refl (pushes-silent ts)

tags-silent : (before after : List VlanTag) → AreSilent (commit_tags before after)
unfolding commit_tags
tags-silent before after =
    All-append (λ a. is_output a ≡ false) (map (λ t. PopVlan) (outer_tags before after)) (map (λ t. PushVlan t.tpid t.tci) (outer_tags after before))
    (pops-silent (outer_tags before after)) (pushes-silent (outer_tags after before))

pub commit-silent : (base key : List ℕ) → AreSilent (commit base key)
unfolding commit
commit-silent base key =
    let tags = commit_tags (tags_of base) (tags_of key) in
    let after = commit_fields fields_after_tags base key in
    All-append (λ a. is_output a ≡ false) (commit_fields fields_before_tags base key) (tags ++ after) (fields-silent fields_before_tags base key)
    (All-append (λ a. is_output a ≡ false) tags after (tags-silent (tags_of base) (tags_of key)) (fields-silent fields_after_tags base key))

pub commit-sent : (base key frame : List ℕ) (n : ℕ) → sent (commit base key ++ Output n ∷ []) frame ≡ record { port = n; bytes = after_actions (commit base key) frame } ∷ []
unfolding sent
commit-sent base key frame n = sent-before (commit base key) (Output n ∷ []) frame (commit-silent base key)

pub sent-key : (port : ℕ) (frame key : List ℕ) (n : ℕ) → CanBecome port frame key
    → map (λ piece. key_of port piece.bytes) (sent (commit (key_of port frame) key ++ Output n ∷ []) frame) ≡ without_registers key ∷ []
sent-key port frame key n can =
    ap (map (λ (piece : Piece). key_of port piece.bytes)) (commit-sent (key_of port frame) key frame n) ∙ ap (λ (k : List ℕ). k ∷ []) (key-becomes port frame key can)
