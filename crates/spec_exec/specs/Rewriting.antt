-- What a datapath action makes of a frame (ovs-actions(7)), its checksums included (RFC 1624).
use Rattle.std.specs.Prelude.{ℕ, zero, suc, ◌+◌, ◌-◌, ◌*◌, ◌==◌, nat_lt, if◌then◌else◌, List, [], ◌∷◌, ◌++◌, length, take, drop, Option, Some, None, bit_and}
use Rattle.spec_base.specs.Bits.{all_bits, merged}
use Rattle.spec_base.specs.Bytes.{big_endian, big_endian_at}
use Rattle.spec_keys.specs.declared.field_id.FieldId.{FieldId}
use Rattle.spec_keys.specs.Fields.{width_of}
use Rattle.spec_exec.specs.Checksum.{updated}
use Rattle.spec_keys.specs.Protocols.{tag_bit}
use Rattle.spec_frames.specs.Ethernet.{header_size, type_at, type_size, tag_size}
use Rattle.spec_frames.specs.Layout.{layout_of}
use Rattle.spec_actions.specs.declared.action.DpAction.{DpAction}
use Rattle.spec_actions.specs.declared.action.DpAction.TheVariants.{Output, PopVlan, PushVlan, Set}
use Rattle.spec_exec.specs.Writing.{with_number}
use Rattle.spec_exec.specs.Places.{Place, place_in, Zero, Plain, Ones, Absent, Sum, sums_of}

-- ---- checksums

-- 0 where a checksum can't be 0
abbrev pub sent_as : Zero → ℕ → ℕ
sent_as Plain sum = sum
sent_as Ones sum = if sum == 0 then 0xffff else sum
sent_as Absent sum = if sum == 0 then 0xffff else sum

-- a checksum after a word that it covers was one number and is another
unfoldable pub after_word : Zero → ℕ → ℕ → ℕ → ℕ
after_word zero_says sum from to = if from == to then sum else sent_as zero_says (updated sum from to)

-- after so many words at an offset are those of another frame
unfoldable pub after_words : Zero → ℕ → ℕ → List ℕ → List ℕ → ℕ → ℕ
after_words zero_says zero at before now sum = sum
after_words zero_says (suc words) at before now sum =
    after_words zero_says words (at + 2) before now (after_word zero_says sum (big_endian_at 2 before at) (big_endian_at 2 now at))

-- where 0 says that there is no checksum, there is none after the words have changed
abbrev pub followed : Zero → ℕ → ℕ → List ℕ → List ℕ → ℕ → ℕ
followed Absent words at before now sum = if sum == 0 then 0 else after_words Absent words at before now sum
followed zero_says words at before now sum = after_words zero_says words at before now sum

-- a frame in which these checksums follow a field that has changed since the first frame
unfoldable pub corrected : List Sum → Place → List ℕ → List ℕ → List ℕ
corrected [] p before now = now
corrected (s ∷ sums) p before now =
    corrected sums p before
    (with_number 2 now s.at (followed s.zero_says p.words p.word_at before now (big_endian_at 2 before s.at)))

-- ---- actions

-- the bits of a field replaced at its place
abbrev pub with_bits : Place → ℕ → ℕ → List ℕ → List ℕ
with_bits p value mask frame =
    with_number p.size frame p.at (merged (big_endian_at p.size frame p.at) (value * p.unit) (mask * p.unit))

abbrev pub set_at : Option Place → List Sum → ℕ → ℕ → List ℕ → List ℕ
set_at None sums value mask frame = frame
set_at (Some p) sums value mask frame = corrected sums p frame (with_bits p value mask frame)

-- bits of a field replaced, none beyond its width
unfoldable pub set_field : FieldId → ℕ → ℕ → List ℕ → List ℕ
set_field f value mask frame =
    set_at (place_in (layout_of frame) f) (sums_of (layout_of frame) f) value (bit_and mask (all_bits (width_of f))) frame

-- the bits of a tag's content that are sent: all but the one by which a key says that there is a tag
abbrev pub content_bits : ℕ
content_bits = all_bits 16 - tag_bit

-- with a tag of this type and content after the addresses (IEEE 802.1Q, 9.3)
unfoldable pub push_tag : ℕ → ℕ → List ℕ → List ℕ
push_tag tpid tci frame =
    take type_at frame
    ++ (big_endian type_size tpid ++ (big_endian type_size (bit_and tci content_bits) ++ drop type_at frame))

-- without its outer tag, if there is one
unfoldable pub pop_tag : List ℕ → List ℕ
pop_tag frame = if nat_lt 0 (layout_of frame).tags then take type_at frame ++ drop (type_at + tag_size) frame else frame

-- what an action makes of a frame that has a whole Ethernet header
abbrev pub changed : DpAction → List ℕ → List ℕ
changed (Output port) frame = frame
changed PopVlan frame = pop_tag frame
changed (PushVlan tpid tci) frame = push_tag tpid tci frame
changed (Set f value mask) frame = set_field f value mask frame

-- what it makes of any frame: one without a whole Ethernet header stays as it is
unfoldable pub after_action : DpAction → List ℕ → List ℕ
after_action action frame = if nat_lt (length frame) header_size then frame else changed action frame
