-- The first output of a translation is at a port of 16 bits.
use Rattle.std.proofs.Common.{◌≡◌, ℕ, ◌<◌, ◌≤◌, ◌^◌, ◌==◌, Bool, true, false, ◌||◌, if◌then◌else◌, IsTrue, List, [], ◌∷◌, ◌++◌, map, length, All, ◌⊎◌, inl, inr, refl, sym, ap, ap₂, ◌∙◌, subst, arith}
use Rattle.std.specs.Prelude.{bit_and, bit_xor}
use Rattle.std.specs.List.{list_any}
use Rattle.std.proofs.lemmas.Bool.{cases_lt, eqb-true}
use Rattle.std.proofs.lemmas.List.Elements.{All-head}
use Rattle.spec_base.specs.Bytes.{big_endian_at}
use Rattle.spec_keys.specs.declared.field_id.FieldId.{FieldId}
use Rattle.spec_keys.specs.declared.field_id.FieldId.TheVariants.{InPort}
use Rattle.spec_keys.specs.Fields.{place_of, widths}
use Rattle.spec_keys.specs.Keys.{value_of, none, IsKey}
use Rattle.spec_actions.specs.declared.action.DpAction.{DpAction}
use Rattle.spec_actions.specs.declared.action.DpAction.TheVariants.{Output, Set, PopVlan, PushVlan}
use Rattle.spec_frames.specs.Ethernet.{header_size, carried}
use Rattle.spec_frames.specs.Network.{network}
use Rattle.spec_frames.specs.Key.{key_of}
use Rattle.spec_xlate.specs.Tags.{VlanTag, outer_tag, inner_tag, tags_of, outer_tags, commit_tags}
use Rattle.spec_xlate.specs.Commit.{commit, commit_field, commit_fields, fields_before_tags, fields_after_tags}
use Rattle.spec_xlate.specs.Translation.{Switch, in_port_of, pipe}
use Rattle.spec_netflow.specs.Flows.{first_output}
use Rattle.table_laws.specs.Applied.{is_proper}
use Rattle.table_laws.proofs.MemberLaws.{All-Among}
use Rattle.frame_laws.proofs.keys.KeyLaws.{key_of-IsKey}
use Rattle.frame_laws.proofs.keys.Forms.{short-key}
use Rattle.board_laws.proofs.ListLaws.{list_any-some}
use Rattle.exec_laws.specs.Become.{KeyedOutput, outputs_of}
use Rattle.exec_laws.proofs.Addresses.{shown_tags, key-is}
use Rattle.exec_laws.proofs.Fields.{network-says}
use Rattle.exec_laws.proofs.Tags.{are_proper, shown-proper}
use Rattle.exec_laws.specs.Made.{is_way_out}
use Rattle.exec_laws.specs.Outputs.{translation_outputs}
use Rattle.exec_laws.proofs.sending.Emitted.{translation-emits}
use Rattle.exec_laws.proofs.sending.MadeOutputs.{outputs-ways}

-- ---- between outputs

-- actions that send nothing
abbrev SendNothing : List DpAction → Type 0
SendNothing [] = Unit {0}
SendNothing (Output n ∷ actions) = ⊥
SendNothing (Set f v m ∷ actions) = SendNothing actions
SendNothing (PopVlan ∷ actions) = SendNothing actions
SendNothing (PushVlan t c ∷ actions) = SendNothing actions

nothing_more : (front back : List DpAction) → SendNothing front → SendNothing back → SendNothing (front ++ back)
nothing_more [] back h k = k
nothing_more (Output n ∷ front) back h k = absurd h
nothing_more (Set f v m ∷ front) back h k = nothing_more front back h k
nothing_more (PopVlan ∷ front) back h k = nothing_more front back h k
nothing_more (PushVlan t c ∷ front) back h k = nothing_more front back h k

field_sends_nothing : (f : FieldId) (before after : ℕ) → SendNothing (commit_field f before after)
unfolding commit_field
field_sends_nothing f before after = at (before == after)
  where
    at : (t : Bool) → SendNothing (if t then [] else Set f (bit_and after (bit_xor before after)) (bit_xor before after) ∷ [])
    at true = tt
    at false = tt

fields_send_nothing : (fs : List FieldId) (base current : List ℕ) → SendNothing (commit_fields fs base current)
unfolding commit_fields
fields_send_nothing [] base current = tt
fields_send_nothing (f ∷ fs) base current =
    nothing_more (commit_field f (value_of base f) (value_of current f)) (commit_fields fs base current)
    (field_sends_nothing f (value_of base f) (value_of current f)) (fields_send_nothing fs base current)

pops_send_nothing : (tags : List VlanTag) → SendNothing (map (λ t. PopVlan) tags)
pops_send_nothing [] = tt
pops_send_nothing (t ∷ tags) = pops_send_nothing tags

pushes_send_nothing : (tags : List VlanTag) → SendNothing (map (λ (t : VlanTag). PushVlan t.tpid t.tci) tags)
pushes_send_nothing [] = tt
pushes_send_nothing (t ∷ tags) = pushes_send_nothing tags

tags_send_nothing : (before after : List VlanTag) → SendNothing (commit_tags before after)
unfolding commit_tags
tags_send_nothing before after =
    nothing_more (map (λ t. PopVlan) (outer_tags before after)) (map (λ (t : VlanTag). PushVlan t.tpid t.tci) (outer_tags after before))
    (pops_send_nothing (outer_tags before after)) (pushes_send_nothing (outer_tags after before))

commit_sends_nothing : (base current : List ℕ) → SendNothing (commit base current)
unfolding commit
commit_sends_nothing base current =
    nothing_more (commit_fields fields_before_tags base current) (commit_tags (tags_of base) (tags_of current) ++ commit_fields fields_after_tags base current)
    (fields_send_nothing fields_before_tags base current)
    (nothing_more (commit_tags (tags_of base) (tags_of current)) (commit_fields fields_after_tags base current)
    (tags_send_nothing (tags_of base) (tags_of current)) (fields_send_nothing fields_after_tags base current))

first_behind : (front : List DpAction) (n : ℕ) (rest : List DpAction) → SendNothing front → first_output (front ++ Output n ∷ rest) ≡ n
unfolding first_output
first_behind [] n rest h = refl
first_behind (Output m ∷ front) n rest h = absurd h
first_behind (Set f v m ∷ front) n rest h = first_behind front n rest h
first_behind (PopVlan ∷ front) n rest h = first_behind front n rest h
first_behind (PushVlan t c ∷ front) n rest h = first_behind front n rest h

first_of : (base : List ℕ) (outputs : List KeyedOutput) → All (λ (o : KeyedOutput). o.port < 2 ^ 16) outputs → first_output (outputs_of base outputs) < 2 ^ 16
unfolding outputs_of first_output
first_of base [] small = omega arith
first_of base (o ∷ outputs) small =
    let first = first_behind (commit base o.key) o.port (outputs_of o.key outputs) (commit_sends_nothing base o.key) in
    let here = All-head (λ (x : KeyedOutput). x.port < 2 ^ 16) o outputs small in
    subst (λ (n : ℕ). n < 2 ^ 16) (sym first) here

-- ---- the key of a frame

module _ (port : ℕ) (frame : List ℕ) where
  whole_proper : header_size ≤ length frame → IsTrue (is_proper (key_of port frame))
  whole_proper whole =
      let says = network-says frame (network frame) port (carried frame).dl_type (big_endian_at 6 frame 6) (big_endian_at 6 frame 0) (shown_tags frame) in
      let outer = ap outer_tag (key-is port frame whole) ∙ says.outer in
      let inner = ap inner_tag (key-is port frame whole) ∙ says.inner in
      ap₂ are_proper outer inner ∙ shown-proper frame

  short_proper : length frame < header_size → IsTrue (is_proper (key_of port frame))
  unfolding none
  short_proper short = ap is_proper (short-key port frame short) ∙ refl

  frame_proper : IsTrue (is_proper (key_of port frame))
  frame_proper = at (cases_lt (length frame) header_size)
    where
      at : (length frame < header_size) ⊎ (header_size ≤ length frame) → IsTrue (is_proper (key_of port frame))
      at (inl short) = short_proper short
      at (inr whole) = whole_proper whole

-- ---- the first output

in_port_small : (key : List ℕ) → IsKey key → in_port_of key < 2 ^ 16
unfolding widths
in_port_small key is = is.fit (place_of InPort)

way_small : (sw : Switch) (key : List ℕ) (n : ℕ) → All (λ p. p < 2 ^ 16) sw.ports → IsKey key → is_way_out sw key n ≡ true → n < 2 ^ 16
way_small sw key n ports is way = at (n == in_port_of key) refl way
  where
    at : (t : Bool) → (n == in_port_of key) ≡ t → (t || list_any (λ p. n == p) sw.ports) ≡ true → n < 2 ^ 16
    at true here way = let same = eqb-true n (in_port_of key) here in omega (arith, same, in_port_small key is)
    at false other there =
        let some = list_any-some (λ p. n == p) sw.ports there in
        let same = eqb-true n some.0 some.2 in
        omega (arith, same, All-Among (λ p. p < 2 ^ 16) sw.ports ports some.0 some.1)

pub first_small : (sw : Switch) (port : ℕ) (frame : List ℕ) → All (λ p. p < 2 ^ 16) sw.ports → port < 2 ^ 16 → All (λ byte. byte < 256) frame
    → first_output (pipe sw (key_of port frame)).actions < 2 ^ 16
first_small sw port frame ports small bytes =
    let key = key_of port frame in
    let is = key_of-IsKey frame bytes port small in
    let ways = outputs-ways sw key is (frame_proper port frame) in
    subst (λ (actions : List DpAction). first_output actions < 2 ^ 16) (sym (translation-emits sw key))
    (first_of key (translation_outputs sw key) (λ k d within. way_small sw key _ ports is (ways k d within)))
