-- How fields stand in the bytes of a frame.
use Rattle.std.specs.Prelude.{ℕ}
use Rattle.action_exec.specs.declared.shape.Shape.{Shape}
use Rattle.action_exec.specs.declared.shape.Shape.TheVariants.{Byte, TrafficClass, Port, Ipv4Address, EthernetAddress, Ipv6Address}

-- in how many bytes
abbrev pub size_of : Shape → ℕ
size_of Byte = 1
size_of TrafficClass = 2
size_of Port = 2
size_of Ipv4Address = 4
size_of EthernetAddress = 6
size_of Ipv6Address = 16

-- what the field's least bit is worth in their number
abbrev pub unit_of : Shape → ℕ
unit_of TrafficClass = 16
unit_of Byte = 1
unit_of Port = 1
unit_of Ipv4Address = 1
unit_of EthernetAddress = 1
unit_of Ipv6Address = 1

-- with how many bits
abbrev pub bits_of : Shape → ℕ
bits_of Byte = 8
bits_of TrafficClass = 8
bits_of Port = 16
bits_of Ipv4Address = 32
bits_of EthernetAddress = 48
bits_of Ipv6Address = 128

-- of how many words of 16 bits it is part
abbrev pub words_of : Shape → ℕ
words_of Byte = 1
words_of TrafficClass = 1
words_of Port = 1
words_of Ipv4Address = 2
words_of EthernetAddress = 3
words_of Ipv6Address = 8
