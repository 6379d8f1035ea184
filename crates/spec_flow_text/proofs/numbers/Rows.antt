-- Worked rows: numbers and addresses, and what they spell; values, and how they are printed.
use Rattle.std.specs.Prelude.{◌≡◌, true, false, [], ◌∷◌, Some, None, codes, refl}
use Rattle.std.specs.List.{list_all, list_any}
use Rattle.std.specs.Fmt.{digits}
use Rattle.spec_flow_text.specs.Characters.{is_value_character}
use Rattle.spec_flow_text.specs.Numbers.{digits_upto, decimal_upto, number_upto, nonzero, octet, octet_before_colon, mac}
use Rattle.spec_flow_text.specs.Addresses.{decimal_octet_before_dot, ipv4, group, groups_of_ipv4, last_groups, groups, eight_groups, split_at_elision, groups_round_zeros, elided_groups, ipv6, prefix_length, ipv4_mask, ipv6_mask}
use Rattle.spec_flow_text.specs.NumbersPrinted.{hexadecimal, hexadecimal4, mac_text, ipv4_text, ipv6_text, prefix_length_up_to, prefix_length_of, ipv4_mask_text, ipv6_mask_text}

a_number_is_decimal_or_hexadecimal :
    (number_upto 65535 (codes "10") ≡ Some 10) × ((number_upto 65535 (codes "0x1f") ≡ Some 31)
    × ((number_upto 65535 (codes "0xFF") ≡ Some 255) × (number_upto 65535 (codes "0") ≡ Some 0)))
unfolding number_upto decimal_upto digits_upto
a_number_is_decimal_or_hexadecimal = (refl, (refl, (refl, refl)))

no_number :
    (number_upto 65535 (codes "010") ≡ None) × ((number_upto 65535 (codes "0x") ≡ None)
    × ((number_upto 65535 (codes "ff") ≡ None) × ((number_upto 65535 (codes "+1") ≡ None) × (number_upto 65535 [] ≡ None))))
unfolding number_upto decimal_upto digits_upto
no_number = (refl, (refl, (refl, (refl, refl))))

a_number_has_a_limit : (number_upto 65535 (codes "65535") ≡ Some 65535) × (number_upto 65535 (codes "65536") ≡ None)
unfolding number_upto decimal_upto digits_upto
a_number_has_a_limit = (refl, refl)

zero_is_no_number_of_a_port : (nonzero 0 ≡ None) × (nonzero 1 ≡ Some 1)
zero_is_no_number_of_a_port = (refl, refl)

an_address : mac (codes "00:1b:0:FF:a:02") ≡ Some 0x1b00ff0a02
unfolding mac octet octet_before_colon digits_upto
an_address = refl

no_address :
    (mac (codes "00:00:00:00:02") ≡ None) × ((mac (codes "00:00:00:00:00:00:02") ≡ None)
    × ((mac (codes "00:00:00:00:00:002") ≡ None) × ((mac (codes "00:00:00:00:00:") ≡ None) × (mac (codes "00:00:00:00:00:0g") ≡ None))))
unfolding mac octet octet_before_colon digits_upto
no_address = (refl, (refl, (refl, (refl, refl))))

zeros_before_hexadecimal_digits :
    (number_upto 255 (codes "0x000000000000000000000000000000000000000ff") ≡ Some 255)
    × ((number_upto 255 (codes "0x100") ≡ None) × (number_upto 255 (codes "0X1") ≡ None))
unfolding number_upto decimal_upto digits_upto
zeros_before_hexadecimal_digits = (refl, (refl, refl))

an_ipv4_address :
    (ipv4 (codes "192.0.2.1") ≡ Some 0xc0000201) × ((ipv4 (codes "0.0.0.0") ≡ Some 0)
    × (ipv4 (codes "255.255.255.255") ≡ Some 0xffffffff))
unfolding ipv4 decimal_octet_before_dot decimal_upto digits_upto
an_ipv4_address = (refl, (refl, refl))

no_ipv4_address :
    (ipv4 (codes "256.1.1.1") ≡ None) × ((ipv4 (codes "01.2.3.4") ≡ None) × ((ipv4 (codes "1.2.3") ≡ None)
    × ((ipv4 (codes "1.2.3.4.5") ≡ None) × ((ipv4 (codes "1.2.3.") ≡ None) × ((ipv4 (codes "1..2.3") ≡ None)
    × ((ipv4 (codes "1.2.3.0x4") ≡ None) × ((ipv4 (codes "1.2.3.4 ") ≡ None) × (ipv4 [] ≡ None))))))))
unfolding ipv4 decimal_octet_before_dot decimal_upto digits_upto
no_ipv4_address = (refl, (refl, (refl, (refl, (refl, (refl, (refl, (refl, refl))))))))

eight_groups_are_an_ipv6_address :
    (ipv6 (codes "1:2:3:4:5:6:7:8") ≡ Some 0x00010002000300040005000600070008)
    × ((ipv6 (codes "2001:0db8:0:0:0:0:0:AbCd") ≡ Some 0x20010db800000000000000000000abcd)
    × (ipv6 (codes "1:2:3:4:5:6:192.0.2.1") ≡ Some 0x000100020003000400050006c0000201))
unfolding ipv6 eight_groups elided_groups split_at_elision groups_round_zeros groups last_groups group groups_of_ipv4 ipv4 decimal_octet_before_dot decimal_upto digits_upto
eight_groups_are_an_ipv6_address = (refl, (refl, refl))

groups_round_an_elision_are_an_ipv6_address :
    (ipv6 (codes "::") ≡ Some 0) × ((ipv6 (codes "::1") ≡ Some 1)
    × ((ipv6 (codes "1::") ≡ Some 0x00010000000000000000000000000000)
    × ((ipv6 (codes "2001:db8::1") ≡ Some 0x20010db8000000000000000000000001)
    × ((ipv6 (codes "1:2:3:4:5:6:7::") ≡ Some 0x00010002000300040005000600070000)
    × ((ipv6 (codes "::2:3:4:5:6:7:8") ≡ Some 0x00000002000300040005000600070008)
    × (ipv6 (codes "1:2:3::5:6:7:8") ≡ Some 0x00010002000300000005000600070008))))))
unfolding ipv6 eight_groups elided_groups split_at_elision groups_round_zeros groups last_groups group groups_of_ipv4 ipv4 decimal_octet_before_dot decimal_upto digits_upto
groups_round_an_elision_are_an_ipv6_address = (refl, (refl, (refl, (refl, (refl, (refl, refl))))))

an_ipv4_address_ends_an_ipv6_address :
    (ipv6 (codes "::ffff:192.0.2.1") ≡ Some 0xffffc0000201) × ((ipv6 (codes "::1.2.3.4") ≡ Some 0x01020304)
    × (ipv6 (codes "1:2:3:4:5::1.2.3.4") ≡ Some 0x00010002000300040005000001020304))
unfolding ipv6 eight_groups elided_groups split_at_elision groups_round_zeros groups last_groups group groups_of_ipv4 ipv4 decimal_octet_before_dot decimal_upto digits_upto
an_ipv4_address_ends_an_ipv6_address = (refl, (refl, refl))

-- a group has one to four digits
groups_of_other_lengths :
    (ipv6 (codes "12345::") ≡ None) × ((ipv6 (codes "::00001") ≡ None) × ((ipv6 (codes ":1") ≡ None)
    × ((ipv6 (codes "1:") ≡ None) × ((ipv6 (codes ":::") ≡ None) × ((ipv6 (codes "1:::2") ≡ None)
    × ((ipv6 (codes "::g") ≡ None) × (ipv6 (codes "::+1") ≡ None)))))))
unfolding ipv6 eight_groups elided_groups split_at_elision groups_round_zeros groups last_groups group groups_of_ipv4 ipv4 decimal_octet_before_dot decimal_upto digits_upto
groups_of_other_lengths = (refl, (refl, (refl, (refl, (refl, (refl, (refl, refl)))))))

-- there are eight groups, and `::` is one at least
groups_of_another_number :
    (ipv6 (codes "1:2:3:4:5:6:7") ≡ None) × ((ipv6 (codes "1:2:3:4:5:6:7:8:9") ≡ None)
    × ((ipv6 (codes "1:2:3:4:5:6:7::8") ≡ None) × ((ipv6 (codes "::1:2:3:4:5:6:7:8") ≡ None)
    × ((ipv6 (codes "1::2::3") ≡ None) × ((ipv6 [] ≡ None) × (ipv6 (codes "1") ≡ None))))))
unfolding ipv6 eight_groups elided_groups split_at_elision groups_round_zeros groups last_groups group groups_of_ipv4 ipv4 decimal_octet_before_dot decimal_upto digits_upto
groups_of_another_number = (refl, (refl, (refl, (refl, (refl, (refl, refl))))))

-- an IPv4 address is two groups, and stands last
an_ipv4_address_elsewhere :
    (ipv6 (codes "1.2.3.4::") ≡ None) × ((ipv6 (codes "1.2.3.4") ≡ None) × ((ipv6 (codes "::1.2.3.4:5") ≡ None)
    × ((ipv6 (codes "1:2:3:4:5:6:7:1.2.3.4") ≡ None) × ((ipv6 (codes "1:2:3:4:5:6::1.2.3.4") ≡ None)
    × ((ipv6 (codes "1:2:3:4:5:1.2.3.4") ≡ None) × ((ipv6 (codes "::01.2.3.4") ≡ None)
    × (ipv6 (codes "::1.2.3.4%1") ≡ None)))))))
unfolding ipv6 eight_groups elided_groups split_at_elision groups_round_zeros groups last_groups group groups_of_ipv4 ipv4 decimal_octet_before_dot decimal_upto digits_upto
an_ipv4_address_elsewhere = (refl, (refl, (refl, (refl, (refl, (refl, (refl, refl)))))))

lengths_of_prefixes :
    (prefix_length 32 (codes "0") ≡ Some 0) × ((prefix_length 32 (codes "8") ≡ Some 8)
    × ((prefix_length 32 (codes "32") ≡ Some 32) × ((prefix_length 32 (codes "08") ≡ Some 8)
    × ((prefix_length 128 (codes "33") ≡ Some 33) × ((prefix_length 32 (codes "33") ≡ None)
    × ((prefix_length 32 (codes "0x8") ≡ None) × (prefix_length 32 [] ≡ None)))))))
unfolding prefix_length decimal_upto digits_upto
lengths_of_prefixes = (refl, (refl, (refl, (refl, (refl, (refl, (refl, refl)))))))

masks_of_ipv4_addresses :
    (ipv4_mask (codes "0") ≡ Some 0) × ((ipv4_mask (codes "8") ≡ Some 0xff000000)
    × ((ipv4_mask (codes "31") ≡ Some 0xfffffffe) × ((ipv4_mask (codes "032") ≡ Some 0xffffffff)
    × ((ipv4_mask (codes "255.255.0.255") ≡ Some 0xffff00ff) × ((ipv4_mask (codes "33") ≡ None)
    × (ipv4_mask (codes "255.255") ≡ None))))))
unfolding ipv4_mask prefix_length ipv4 decimal_octet_before_dot decimal_upto digits_upto
masks_of_ipv4_addresses = (refl, (refl, (refl, (refl, (refl, (refl, refl))))))

masks_of_ipv6_addresses :
    (ipv6_mask (codes "0") ≡ Some 0) × ((ipv6_mask (codes "64") ≡ Some 0xffffffffffffffff0000000000000000)
    × ((ipv6_mask (codes "128") ≡ Some 0xffffffffffffffffffffffffffffffff)
    × ((ipv6_mask (codes "ffff::") ≡ Some 0xffff0000000000000000000000000000) × ((ipv6_mask (codes "129") ≡ None)
    × (ipv6_mask (codes "ffff") ≡ None)))))
unfolding ipv6_mask prefix_length ipv6 eight_groups elided_groups split_at_elision groups_round_zeros groups last_groups group groups_of_ipv4 ipv4 decimal_octet_before_dot decimal_upto digits_upto
masks_of_ipv6_addresses = (refl, (refl, (refl, (refl, (refl, refl)))))

hexadecimal_numbers_are_printed :
    (hexadecimal 0 ≡ codes "0x0") × ((hexadecimal 0x1f0 ≡ codes "0x1f0")
    × ((hexadecimal 0xffffffffffffffff ≡ codes "0xffffffffffffffff") × ((hexadecimal4 0 ≡ codes "0x0000")
    × ((hexadecimal4 0x806 ≡ codes "0x0806") × (hexadecimal4 0xffff ≡ codes "0xffff")))))
unfolding hexadecimal hexadecimal4 digits
hexadecimal_numbers_are_printed = (refl, (refl, (refl, (refl, (refl, refl)))))

addresses_are_printed :
    (mac_text 0 ≡ codes "00:00:00:00:00:00") × ((mac_text 0x1b00ff0a02 ≡ codes "00:1b:00:ff:0a:02")
    × ((ipv4_text 0 ≡ codes "0.0.0.0") × ((ipv4_text 0xc0000201 ≡ codes "192.0.2.1")
    × ((ipv6_text 0 ≡ codes "0:0:0:0:0:0:0:0")
    × (ipv6_text 0x20010db800000000000000000001abcd ≡ codes "2001:db8:0:0:0:0:1:abcd")))))
unfolding mac_text ipv4_text ipv6_text digits
addresses_are_printed = (refl, (refl, (refl, (refl, (refl, refl)))))

masks_that_are_prefixes :
    (prefix_length_of 32 0 ≡ Some 0) × ((prefix_length_of 32 0x80000000 ≡ Some 1)
    × ((prefix_length_of 32 0xffffff00 ≡ Some 24) × ((prefix_length_of 32 0xffffffff ≡ Some 32)
    × ((prefix_length_of 128 0xffffffff ≡ None) × ((prefix_length_of 32 0xff00ff00 ≡ None)
    × (prefix_length_of 32 1 ≡ None))))))
unfolding prefix_length_up_to
masks_that_are_prefixes = (refl, (refl, (refl, (refl, (refl, (refl, refl))))))

masks_are_printed :
    (ipv4_mask_text 0 ≡ codes "0") × ((ipv4_mask_text 0xfffe0000 ≡ codes "15")
    × ((ipv4_mask_text 0xffffffff ≡ codes "32") × ((ipv4_mask_text 0xff00ff00 ≡ codes "255.0.255.0")
    × ((ipv6_mask_text 0xffff0000000000000000000000000000 ≡ codes "16")
    × ((ipv6_mask_text 0xffffffffffffffffffffffffffffffff ≡ codes "128")
    × (ipv6_mask_text 0xffff ≡ codes "0:0:0:0:0:0:0:ffff"))))))
unfolding ipv4_mask_text ipv6_mask_text ipv4_text ipv6_text prefix_length_up_to digits
masks_are_printed = (refl, (refl, (refl, (refl, (refl, (refl, refl))))))

characters_of_values :
    (list_all is_value_character (codes "09azAZ:.") ≡ true)
    × (list_any is_value_character (9 ∷ 10 ∷ 13 ∷ codes " ,/=#()[]->_+") ≡ false)
characters_of_values = (refl, refl)
