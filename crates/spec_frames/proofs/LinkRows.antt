-- Worked rows: Ethernet, tags, SNAP and ARP.
use Rattle.std.specs.Prelude.{◌≡◌, ℕ, List, [], ◌∷◌, ◌++◌, take, refl}
use Rattle.spec_base.specs.Bytes.{big_endian_at}
use Rattle.spec_keys.specs.declared.field_id.FieldId.TheVariants.{InPort, VlanTci, VlanTpid, VlanTci2, VlanTpid2, NwSrc, NwDst, NwProto, ArpSha, ArpTha}
use Rattle.spec_frames.specs.declared.headers.Carried.{Carried}
use Rattle.spec_frames.specs.declared.layout.L3.TheVariants.{Arp}
use Rattle.spec_frames.specs.declared.layout.L4.TheVariants.{None}
use Rattle.spec_frames.specs.Ethernet.{is_tag_at, tag_count, carried, carried_by}
use Rattle.spec_frames.proofs.Frames.{bytes, frame, Stated, is, key_with, of_type, key, headers, no_headers, layout, Shows}

-- ---- the header and its tags

-- priority 5 and VLAN 5, and a type for local experiments (IEEE 802)
abbrev tagged : List ℕ
tagged = frame (bytes 6 0x8100_a005_88b5)

a_tag_is_shown_with_its_type_and_the_tag_bit :
    Shows tagged (of_type 0x88b5 (is VlanTci 0xb005 ∷ is VlanTpid 0x8100 ∷ [])) (record no_headers { tags = 1 })
unfolding key key_with layout
a_tag_is_shown_with_its_type_and_the_tag_bit = (refl, refl)

a_service_tag_is_a_tag : key (frame (bytes 6 0x88a8_6007_88b5)) ≡ of_type 0x88b5 (is VlanTci 0x7007 ∷ is VlanTpid 0x88a8 ∷ [])
unfolding key key_with
a_service_tag_is_a_tag = refl

-- a provider's tag of VLAN 7 outside of a customer's of VLAN 5
abbrev twice_tagged : List ℕ
twice_tagged = frame (bytes 10 0x88a8_0007_8100_0005_88b5)

abbrev outer_tag_alone : List Stated
outer_tag_alone = is VlanTci 0x1007 ∷ is VlanTpid 0x88a8 ∷ []

two_tags_are_shown_the_outer_one_first :
    Shows twice_tagged (of_type 0x88b5 (is VlanTci2 0x1005 ∷ is VlanTpid2 0x8100 ∷ outer_tag_alone)) (record no_headers { tags = 2 })
unfolding key key_with layout
two_tags_are_shown_the_outer_one_first = (refl, refl)

a_second_tag_may_have_the_type_of_the_first :
    key (frame (bytes 10 0x8100_2007_8100_0005_88b5))
    ≡ of_type 0x88b5 (is VlanTci2 0x1005 ∷ is VlanTpid2 0x8100 ∷ is VlanTci 0x3007 ∷ is VlanTpid 0x8100 ∷ [])
unfolding key key_with
a_second_tag_may_have_the_type_of_the_first = refl

no_third_tag_is_read :
    Shows (frame (bytes 14 0x88a8_0007_8100_0005_8100_0006_88b5))
    (of_type 0x8100 (is VlanTci2 0x1005 ∷ is VlanTpid2 0x8100 ∷ outer_tag_alone)) (record no_headers { tags = 2 })
unfolding key key_with layout
no_third_tag_is_read = (refl, refl)

in_21_bytes_stands_no_second_tag : Shows (take 21 twice_tagged) (of_type 0x8100 outer_tag_alone) (record no_headers { tags = 1 })
unfolding key key_with layout
in_21_bytes_stands_no_second_tag = (refl, refl)

in_17_bytes_stands_no_tag : Shows (take 17 tagged) (of_type 0x8100 []) no_headers
unfolding key key_with layout
in_17_bytes_stands_no_tag = (refl, refl)

fourteen_bytes_are_a_header : key (take 14 tagged) ≡ of_type 0x8100 []
unfolding key key_with
fourteen_bytes_are_a_header = refl

thirteen_bytes_show_the_port_alone : Shows (take 13 tagged) (key_with (is InPort 7 ∷ [])) no_headers
unfolding key key_with layout
thirteen_bytes_show_the_port_alone = (refl, refl)

-- ---- types, lengths and SNAP

-- what a frame carries
unfoldable carries : List ℕ → Carried
unfolding big_endian_at is_tag_at tag_count carried carried_by
carries frame = carried frame

abbrev untyped : Carried
untyped = record { dl_type = 0x05ff; at = 14 }

types_begin_at_0x0600 :
    (carries (frame (bytes 2 0x0600)) ≡ record { dl_type = 0x0600; at = 14 }) × (carries (frame (bytes 2 0x05fe)) ≡ untyped)
unfolding carries
types_begin_at_0x0600 = (refl, refl)

after_a_length_snap_gives_the_type :
    (carries (frame (bytes 10 0x0008_aaaa03000000_0800)) ≡ record { dl_type = 0x0800; at = 22 })
    × (carries (frame (bytes 10 0x05ff_aaaa03000000_0800)) ≡ record { dl_type = 0x0800; at = 22 })
unfolding carries
after_a_length_snap_gives_the_type = (refl, refl)

after_a_tag_a_length_has_snap_too :
    carries (frame (bytes 14 0x8100_0005_0008_aaaa03000000_0600)) ≡ record { dl_type = 0x0600; at = 26 }
unfolding carries
after_a_tag_a_length_has_snap_too = refl

snap_of_another_organization_gives_no_type : carries (frame (bytes 10 0x0008_aaaa03000001_0800)) ≡ untyped
unfolding carries
snap_of_another_organization_gives_no_type = refl

snap_with_a_number_below_0x0600_gives_no_type : carries (frame (bytes 10 0x0008_aaaa03000000_05ff)) ≡ untyped
unfolding carries
snap_with_a_number_below_0x0600_gives_no_type = refl

snap_that_is_cut_gives_no_type : carries (frame (bytes 9 0x0007_aaaa03000000_08)) ≡ untyped
unfolding carries
snap_that_is_cut_gives_no_type = refl

a_frame_without_a_type_shows_0x05ff : key (frame (bytes 5 0x0003_424203)) ≡ of_type 0x05ff []
unfolding key key_with
a_frame_without_a_type_shows_0x05ff = refl

-- ---- ARP

-- a packet that begins with these 8 bytes, from 00:00:00:00:00:01 at 10.0.0.1 to 00:00:00:00:00:02 at 10.0.0.2
abbrev arp : ℕ → List ℕ
arp first = bytes 8 first ++ (bytes 10 0x000000000001_0a000001 ++ bytes 10 0x000000000002_0a000002)

-- the key of such a packet with this operation
abbrev of_operation : ℕ → List ℕ
of_operation operation =
    of_type 0x0806
    (is ArpSha 1 ∷ is NwSrc 0x0a000001 ∷ is ArpTha 2 ∷ is NwDst 0x0a000002 ∷ is NwProto operation ∷ [])

abbrev over_ethernet : List ℕ → List ℕ
over_ethernet packet = frame (bytes 2 0x0806 ++ packet)

abbrev IsMalformed : List ℕ → Type 0
IsMalformed packet = Shows (over_ethernet packet) (of_type 0x0806 []) no_headers

abbrev reply : List ℕ
reply = arp 0x0001_0800_06_04_0002

arp_shows_its_addresses_and_operation :
    Shows (over_ethernet reply) (of_operation 2) (headers (Arp 14) None)
unfolding key key_with layout
arp_shows_its_addresses_and_operation = (refl, refl)

arp_after_snap :
    Shows (frame (bytes 10 0x0024_aaaa03000000_0806 ++ reply)) (of_operation 2) (headers (Arp 22) None)
unfolding key key_with layout
arp_after_snap = (refl, refl)

arp_after_a_tag : layout (frame (bytes 6 0x8100_0005_0806 ++ reply)) ≡ record (headers (Arp 18) None) { tags = 1 }
unfolding layout
arp_after_a_tag = refl

arp_after_two_tags : layout (frame (bytes 10 0x88a8_0007_8100_0005_0806 ++ reply)) ≡ record (headers (Arp 22) None) { tags = 2 }
unfolding layout
arp_after_two_tags = refl

an_operation_above_255_is_shown_as_0 :
    (key (over_ethernet (arp 0x0001_0800_06_04_00ff)) ≡ of_operation 255)
    × (key (over_ethernet (arp 0x0001_0800_06_04_0100)) ≡ of_operation 0)
    × (key (over_ethernet (arp 0x0001_0800_06_04_0102)) ≡ of_operation 0)
unfolding key key_with
an_operation_above_255_is_shown_as_0 = (refl, refl, refl)

arp_for_other_addresses_is_malformed :
    IsMalformed (arp 0x0006_0800_06_04_0001) × IsMalformed (arp 0x0001_86dd_06_04_0001)
    × IsMalformed (arp 0x0001_0800_08_04_0001) × IsMalformed (arp 0x0001_0800_06_10_0001)
unfolding key key_with layout
arp_for_other_addresses_is_malformed = ((refl, refl), (refl, refl), (refl, refl), (refl, refl))

arp_of_27_bytes_is_malformed : IsMalformed (take 27 reply)
unfolding key key_with layout
arp_of_27_bytes_is_malformed = (refl, refl)
