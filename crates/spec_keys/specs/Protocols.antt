-- Numbers of protocols, by which frames and keys say what they carry.
use Rattle.std.specs.Prelude.{ℕ, Bool, ◌||◌, ◌==◌}

-- Ethernet types (IEEE 802 Numbers of IANA)
abbrev pub ipv4_type : ℕ
ipv4_type = 0x0800

abbrev pub ipv6_type : ℕ
ipv6_type = 0x86dd

abbrev pub arp_type : ℕ
arp_type = 0x0806

-- protocols of IP (Protocol Numbers of IANA)
abbrev pub icmp_protocol : ℕ
icmp_protocol = 1

abbrev pub tcp_protocol : ℕ
tcp_protocol = 6

abbrev pub udp_protocol : ℕ
udp_protocol = 17

abbrev pub icmp6_protocol : ℕ
icmp6_protocol = 58

-- the bit of vlan_tci that says that there is a tag (ovs-fields(7), "VLAN Fields")
abbrev pub tag_bit : ℕ
tag_bit = 0x1000

-- the types of a VLAN tag, of a customer's network and of a service provider's (IEEE 802.1Q, table 9-1)
abbrev pub customer_tag : ℕ
customer_tag = 0x8100

abbrev pub service_tag : ℕ
service_tag = 0x88a8

abbrev pub is_tag_type : ℕ → Bool
is_tag_type number = (number == customer_tag) || (number == service_tag)
