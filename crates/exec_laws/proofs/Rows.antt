-- Worked rows: why a law asks for what it asks, and a case of it.
use Rattle.std.specs.Prelude.{◌≡◌, ℕ, Bool, true, List, [], ◌∷◌, ◌++◌, map, refl}
use Rattle.spec_base.specs.Bytes.{big_endian, big_endian_at}
use Rattle.spec_keys.specs.declared.field_id.FieldId.TheVariants.{Reg3, DlSrc, DlType, VlanTci, VlanTpid, VlanTci2, VlanTpid2, NwTtl, TpDst}
use Rattle.spec_keys.specs.Keys.{none, same, value_of}
use Rattle.spec_frames.specs.Ethernet.{is_tag_at, tag_count, tci_at, carried, carried_by}
use Rattle.spec_exec.specs.Checksum.{updated}
use Rattle.spec_frames.specs.Ipv4.{is_ipv4, ipv4}
use Rattle.spec_frames.specs.Network.{network_at}
use Rattle.spec_frames.specs.Transport.{transport}
use Rattle.spec_frames.specs.Layout.{layout_of}
use Rattle.spec_frames.specs.Key.{with_value, with_transport, with_network, key_of}
use Rattle.spec_xlate.specs.Tags.{outer_tags, popped, commit_tags}
use Rattle.spec_xlate.specs.Commit.{commit, commit_field, commit_fields}
use Rattle.spec_exec.specs.Rewriting.{after_word, after_words, corrected, set_field, push_tag, pop_tag, after_action}
use Rattle.exec_laws.specs.Sends.{after_actions}
use Rattle.exec_laws.specs.Become.{without_registers}

-- a frame of 26 bytes with the tags of VLAN 5 and, after it, VLAN 6 and VLAN 7
abbrev three_tags : List ℕ
three_tags = big_endian 12 0x000000000002000000000001 ++ big_endian 14 0x81000005810000068100000788b5

-- the numbers of the tags and of the type, before and after the outer tag of the key was taken away
unfoldable shown : List ℕ → List ℕ
unfolding big_endian_at none is_tag_at tag_count tci_at carried carried_by network_at transport layout_of with_network key_of outer_tags commit_tags commit commit_field commit_fields pop_tag after_action
shown frame =
    let key = key_of 1 frame in
    let now = key_of 1 (after_actions (commit key (popped key)) frame) in
    map (value_of key) (VlanTci ∷ VlanTci2 ∷ DlType ∷ []) ++ map (value_of now) (VlanTci ∷ VlanTci2 ∷ DlType ∷ [])

a_tag_that_goes_uncovers_the_third : shown three_tags ≡ 0x1005 ∷ 0x1006 ∷ 0x8100 ∷ 0x1006 ∷ 0x1007 ∷ 0x88b5 ∷ []
unfolding shown
a_tag_that_goes_uncovers_the_third = refl

-- ---- a commit of many fields

-- a datagram of UDP from port 1000 to 53 without a checksum
abbrev datagram : List ℕ
datagram =
    big_endian 12 0x000000000002000000000001
    ++ (big_endian 2 0x0800 ++ (big_endian 20 0x4500001c00000000401166cf0a0000010a000002 ++ big_endian 8 0x03e8003500080000))

-- the key with a register, another source, two tags, a lower TTL and another port
unfoldable rewritten : List ℕ → List ℕ
rewritten key = with_value Reg3 7 (with_value DlSrc 9 (with_value VlanTci 0x1005 (with_value VlanTpid 0x88a8 (with_value VlanTci2 0x7006 (with_value VlanTpid2 0x8100 (with_value NwTtl 63 (with_value TpDst 54 key)))))))

-- whether a commit to that key gives it to the frame
unfoldable turns : List ℕ → Bool
unfolding big_endian_at none same updated is_tag_at tag_count tci_at carried carried_by is_ipv4 ipv4 network_at transport layout_of with_transport with_network key_of outer_tags commit_tags commit commit_field commit_fields after_word after_words corrected set_field push_tag after_action rewritten
turns frame =
    let key = key_of 1 frame in
    same (key_of 1 (after_actions (commit key (rewritten key)) frame)) (without_registers (rewritten key))

many_fields_turn : turns datagram ≡ true
unfolding turns
many_fields_turn = refl

-- ---- tags in place of those of a frame with three

-- the key with other tags
unfoldable retagged : List ℕ → List ℕ
retagged key = with_value VlanTci 0x1064 (with_value VlanTpid 0x88a8 (with_value VlanTci2 0x10c8 key))

unfoldable turns_tags : List ℕ → Bool
unfolding big_endian_at none same is_tag_at tag_count tci_at carried carried_by network_at transport layout_of with_network key_of outer_tags commit_tags commit commit_field commit_fields push_tag pop_tag after_action retagged
turns_tags frame =
    let key = key_of 1 frame in
    same (key_of 1 (after_actions (commit key (retagged key)) frame)) (without_registers (retagged key))

two_tags_turn_in_front_of_a_third : turns_tags three_tags ≡ true
unfolding turns_tags
two_tags_turn_in_front_of_a_third = refl
