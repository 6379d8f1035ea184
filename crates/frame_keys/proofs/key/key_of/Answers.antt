use Rattle.std.proofs.Common.{◌≡◌, ℕ, ◌≤◌, List, [], length, refl, sym, ◌∙◌, ap, subst, arith}
use Rattle.std.proofs.lemmas.Bool.{le-ltb}
use Rattle.spec_keys.specs.declared.field_id.FieldId.TheVariants.{InPort}
use Rattle.spec_keys.specs.Keys.{none, IsClean}
use Rattle.spec_frames.specs.Ethernet.{header_size}
use Rattle.spec_frames.specs.Network.{network}
use Rattle.spec_frames.specs.Key.{with_value, with_ethernet, with_network, key_of}
use Rattle.frame_laws.proofs.keys.KeyLaws.{key_of-IsClean}
use Rattle.ovs_fields.specs.Packed.{numbers}
use Rattle.frame_keys.specs.Folded.{folded}
use Rattle.frame_keys.proofs.key.key_of.Goals as goal

key_of-whole : (port : ℕ) (frame : List ℕ) → header_size ≤ length frame → key_of port frame ≡ with_network frame (network frame) (with_ethernet frame (with_value InPort port none))
unfolding key_of
key_of-whole port frame whole = rw (le-ltb (length frame) header_size whole) refl

pub returns-then-frame-ge-HEADER_SIZE-clause-numbers : goal.returns-then-frame-ge-HEADER_SIZE-clause-numbers
unfolding folded
returns-then-frame-ge-HEADER_SIZE-clause-numbers c =
    let frame = c.args.frame.now in
    let headers : numbers c.set_headers.new.key ≡ with_network frame (network frame) (with_ethernet frame (numbers c.key_at-key.result)) = c.set_headers.ensures in
    let of_port : numbers c.key_at-key.result ≡ with_value InPort c.args.port none = c.key_at-key.ensures in
    headers ∙ (ap (λ key. with_network frame (network frame) (with_ethernet frame key)) of_port
    ∙ sym (key_of-whole c.args.port frame (omega arith)))

-- what is a frame's key is clean
clean_as : (key : List ℕ) (port : ℕ) (frame : List ℕ) → key ≡ key_of port frame → IsClean key
clean_as key port frame is = subst IsClean (sym is) (key_of-IsClean port frame)

key_of-short : (port : ℕ) → key_of port [] ≡ with_value InPort port none
unfolding key_of
key_of-short port = refl

pub returns-then-frame-ge-HEADER_SIZE-clause-clean : goal.returns-then-frame-ge-HEADER_SIZE-clause-clean
returns-then-frame-ge-HEADER_SIZE-clause-clean c =
    clean_as (numbers c.set_headers.new.key) c.args.port c.args.frame.now (returns-then-frame-ge-HEADER_SIZE-clause-numbers c)

pub returns-else-frame-ge-HEADER_SIZE-clause-clean : goal.returns-else-frame-ge-HEADER_SIZE-clause-clean
unfolding folded
returns-else-frame-ge-HEADER_SIZE-clause-clean c =
    let of_port : numbers c.key_at-key.result ≡ with_value InPort c.args.port none = c.key_at-key.ensures in
    clean_as (numbers c.key_at-key.result) c.args.port [] (of_port ∙ sym (key_of-short c.args.port))
