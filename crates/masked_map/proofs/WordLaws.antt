-- The words of a key under a mask are those of both, and-ed; and keys are the same exactly where their words are.
use Rattle.std.proofs.Common.{◌≡◌, ℕ, ◌<◌, ◌^◌, Bool, true, List, ◌∷◌, bit_and, refl, sym, ap, ap₂, ◌∙◌, arith}
use Rattle.std.specs.Prelude.{◌==◌, ◌&&◌}
use Rattle.std.specs.Cmp.{both_ways}
use Rattle.std.proofs.lemmas.Bool.{and_parts, and_from, eqb-true, eq-eqb}
use Rattle.std.proofs.lemmas.Nat.{and_block}
use Rattle.spec_keys.specs.declared.field_id.FieldId.{FieldId}
use Rattle.spec_keys.specs.declared.field_id.FieldId.TheVariants.{InPort, DlSrc, DlDst, DlType, VlanTci, NwSrc, NwDst, NwProto, NwTos, NwTtl, IpFrag, TpSrc, TpDst, VlanTpid}
use Rattle.spec_keys.specs.Fields.{place_of}
use Rattle.spec_keys.specs.Keys.{value_of, masked, same, IsKey}
use Rattle.ovs_fields.proofs.KeyLaws.{within_width}
use Rattle.ovs_fields.specs.Equality.{equal_from_same, same_from_equal}
use Rattle.ovs_fields.specs.Feeding.{joined_words}
use Rattle.table_laws.proofs.KeyLaws.{number_at-masked}
use Rattle.masked_map.specs.declared.fields.CompactFields.{CompactFields}
use Rattle.masked_map.specs.declared.key_words.KeyWords.{KeyWords}
use Rattle.masked_map.specs.Compact.{list_of}
use Rattle.masked_map.specs.Marks.{tag_of, ip_of, header_of, addresses_of, ports_of, AreWordsOf, Fits}

-- ---- words that are and-ed

pub masked_value : (key mask : List ℕ) (f : FieldId) → bit_and (value_of key f) (value_of mask f) ≡ value_of (masked key mask) f
masked_value key mask f = sym (number_at-masked key mask (place_of f))

-- two numbers in one
blocks : (n a b c d : ℕ) → b < 2 ^ n → d < 2 ^ n → bit_and (joined_words n a b) (joined_words n c d) ≡ joined_words n (bit_and a c) (bit_and b d)
blocks n a b c d p q = and_block n a c b d p q

joined_8 : (a b : ℕ) → a < 2 ^ 8 → b < 2 ^ 8 → joined_words 8 a b < 2 ^ 16
joined_8 a b p q = omega (arith, p, q)

joined_16 : (a b : ℕ) → a < 2 ^ 16 → b < 2 ^ 16 → joined_words 16 a b < 2 ^ 32
joined_16 a b p q = omega (arith, p, q)

-- whether it is a fragment takes two bits
frag_fits : (l : List ℕ) → IsKey l → value_of l IpFrag < 2 ^ 8
frag_fits l is =
    let few : value_of l IpFrag < 2 ^ 2 = within_width l IpFrag is in
    omega (arith, few)

-- a key's pairs of numbers, and its halves of words
module _ (l : List ℕ) (is : IsKey l) where
  pair_8 : (f g : FieldId) → value_of l f < 2 ^ 8 → value_of l g < 2 ^ 8 → joined_words 8 (value_of l f) (value_of l g) < 2 ^ 16
  pair_8 f g = joined_8 (value_of l f) (value_of l g)

  ttl_fits : joined_words 8 (value_of l NwTtl) (value_of l IpFrag) < 2 ^ 16
  ttl_fits = pair_8 NwTtl IpFrag (within_width l NwTtl is) (frag_fits l is)

  ip_fits : ip_of l < 2 ^ 32
  ip_fits = joined_16 _ _ (pair_8 NwProto NwTos (within_width l NwProto is) (within_width l NwTos is)) ttl_fits

  tp_fits : joined_words 16 (value_of l TpSrc) (value_of l TpDst) < 2 ^ 32
  tp_fits = joined_16 (value_of l TpSrc) (value_of l TpDst) (within_width l TpSrc is) (within_width l TpDst is)

module _ (key mask : List ℕ) (is_key : IsKey key) (is_mask : IsKey mask) where
  pair : (n : ℕ) (f g : FieldId) → value_of key g < 2 ^ n → value_of mask g < 2 ^ n
      → bit_and (joined_words n (value_of key f) (value_of key g)) (joined_words n (value_of mask f) (value_of mask g)) ≡ joined_words n (value_of (masked key mask) f) (value_of (masked key mask) g)
  pair n f g p q = blocks n (value_of key f) (value_of key g) (value_of mask f) (value_of mask g) p q ∙ ap₂ (joined_words n) (masked_value key mask f) (masked_value key mask g)

  masked_ip : bit_and (ip_of key) (ip_of mask) ≡ ip_of (masked key mask)
  masked_ip =
      blocks 16 _ (joined_words 8 (value_of key NwTtl) (value_of key IpFrag)) _ (joined_words 8 (value_of mask NwTtl) (value_of mask IpFrag)) (ttl_fits key is_key) (ttl_fits mask is_mask)
      ∙ ap₂ (joined_words 16) (pair 8 NwProto NwTos (within_width key NwTos is_key) (within_width mask NwTos is_mask)) (pair 8 NwTtl IpFrag (frag_fits key is_key) (frag_fits mask is_mask))

  pub masked_header : bit_and (header_of key) (header_of mask) ≡ header_of (masked key mask)
  masked_header =
      blocks 32 (tag_of key) (ip_of key) (tag_of mask) (ip_of mask) (ip_fits key is_key) (ip_fits mask is_mask)
      ∙ ap₂ (joined_words 32) (pair 16 VlanTpid VlanTci (within_width key VlanTci is_key) (within_width mask VlanTci is_mask)) masked_ip

  pub masked_addresses : bit_and (addresses_of key) (addresses_of mask) ≡ addresses_of (masked key mask)
  masked_addresses = pair 32 NwSrc NwDst (within_width key NwDst is_key) (within_width mask NwDst is_mask)

  pub masked_ports : bit_and (ports_of key) (ports_of mask) ≡ ports_of (masked key mask)
  masked_ports =
      blocks 32 _ (joined_words 16 (value_of key TpSrc) (value_of key TpDst)) _ (joined_words 16 (value_of mask TpSrc) (value_of mask TpDst)) (tp_fits key is_key) (tp_fits mask is_mask)
      ∙ ap₂ (joined_words 32) (pair 16 InPort DlType (within_width key DlType is_key) (within_width mask DlType is_mask)) (pair 16 TpSrc TpDst (within_width key TpDst is_key) (within_width mask TpDst is_mask))

-- ---- words that are the same

apart_8 : (a b c d : ℕ) → joined_words 8 a b ≡ joined_words 8 c d → b < 2 ^ 8 → d < 2 ^ 8 → (a ≡ c) × (b ≡ d)
apart_8 a b c d e p q = (omega (arith, e, p, q), omega (arith, e, p, q))

apart_16 : (a b c d : ℕ) → joined_words 16 a b ≡ joined_words 16 c d → b < 2 ^ 16 → d < 2 ^ 16 → (a ≡ c) × (b ≡ d)
apart_16 a b c d e p q = (omega (arith, e, p, q), omega (arith, e, p, q))

apart_32 : (a b c d : ℕ) → joined_words 32 a b ≡ joined_words 32 c d → b < 2 ^ 32 → d < 2 ^ 32 → (a ≡ c) × (b ≡ d)
apart_32 a b c d e p q = (omega (arith, e, p, q), omega (arith, e, p, q))

-- the numbers of a mask have room in its words
pub fits_from_key : (f : CompactFields) → IsKey (list_of f) → Fits f
fits_from_key f is = record {
  header = record {
    tci = within_width (list_of f) VlanTci is;
    proto = within_width (list_of f) NwProto is;
    tos = within_width (list_of f) NwTos is;
    ttl = within_width (list_of f) NwTtl is;
    frag = frag_fits (list_of f) is;
  };
  addresses = record { dst = within_width (list_of f) NwDst is };
  ports = record { ether = within_width (list_of f) DlType is; src = within_width (list_of f) TpSrc is; dst = within_width (list_of f) TpDst is };
}

-- .. and so have those that a key has in common with it
abbrev pub both : CompactFields → CompactFields → CompactFields
both a b = record {
  dl_src = bit_and a.dl_src b.dl_src;
  dl_dst = bit_and a.dl_dst b.dl_dst;
  ip_frag = bit_and a.ip_frag b.ip_frag;
  nw_ttl = bit_and a.nw_ttl b.nw_ttl;
  nw_tos = bit_and a.nw_tos b.nw_tos;
  nw_proto = bit_and a.nw_proto b.nw_proto;
  vlan_tci = bit_and a.vlan_tci b.vlan_tci;
  vlan_tpid = bit_and a.vlan_tpid b.vlan_tpid;
  nw_dst = bit_and a.nw_dst b.nw_dst;
  nw_src = bit_and a.nw_src b.nw_src;
  tp_dst = bit_and a.tp_dst b.tp_dst;
  tp_src = bit_and a.tp_src b.tp_src;
  dl_type = bit_and a.dl_type b.dl_type;
  in_port = bit_and a.in_port b.in_port;
}

pub masked-both : (a b : CompactFields) → masked (list_of a) (list_of b) ≡ list_of (both a b)
unfolding masked
masked-both a b = refl

-- the same numbers in each field
record AreEqual (a b : CompactFields) : Type 0 where
  port : a.in_port ≡ b.in_port
  src : a.dl_src ≡ b.dl_src
  dst : a.dl_dst ≡ b.dl_dst
  ether : a.dl_type ≡ b.dl_type
  tci : a.vlan_tci ≡ b.vlan_tci
  nw_src : a.nw_src ≡ b.nw_src
  nw_dst : a.nw_dst ≡ b.nw_dst
  proto : a.nw_proto ≡ b.nw_proto
  tos : a.nw_tos ≡ b.nw_tos
  ttl : a.nw_ttl ≡ b.nw_ttl
  frag : a.ip_frag ≡ b.ip_frag
  tp_src : a.tp_src ≡ b.tp_src
  tp_dst : a.tp_dst ≡ b.tp_dst
  tpid : a.vlan_tpid ≡ b.vlan_tpid

then : {x y : ℕ} {l n : List ℕ} → x ≡ y → l ≡ n → x ∷ l ≡ y ∷ n
then e rest = ap₂ (λ (x : ℕ) (l : List ℕ). x ∷ l) e rest

zero : {l n : List ℕ} → l ≡ n → 0 ∷ l ≡ 0 ∷ n
zero rest = ap (λ l. 0 ∷ l) rest

equal_lists : (a b : CompactFields) → AreEqual a b → list_of a ≡ list_of b
equal_lists a b e =
    then e.port (zero (zero (zero (zero (zero (zero (zero (zero (zero (zero (zero (zero (zero (zero (zero (zero (zero (then e.src (then e.dst
    (then e.ether (then e.tci (then e.nw_src (then e.nw_dst (zero (zero (then e.proto (then e.tos
    (then e.ttl (then e.frag (zero (zero (then e.tp_src (then e.tp_dst (then e.tpid refl))))))))))))))))))))))))))))))))))

module _ (a b : CompactFields) (of_a : Fits a) (of_b : Fits b) where
  from_words : a.dl_src ≡ b.dl_src → a.dl_dst ≡ b.dl_dst → header_of (list_of a) ≡ header_of (list_of b) → addresses_of (list_of a) ≡ addresses_of (list_of b)
      → ports_of (list_of a) ≡ ports_of (list_of b) → AreEqual a b
  from_words src dst header addresses ports =
      let ha = of_a.header in
      let hb = of_b.header in
      let pa = of_a.ports in
      let pb = of_b.ports in
      let halves = apart_32 (tag_of (list_of a)) (ip_of (list_of a)) (tag_of (list_of b)) (ip_of (list_of b)) header
      (joined_16 _ _ (joined_8 a.nw_proto a.nw_tos ha.proto ha.tos) (joined_8 a.nw_ttl a.ip_frag ha.ttl ha.frag))
      (joined_16 _ _ (joined_8 b.nw_proto b.nw_tos hb.proto hb.tos) (joined_8 b.nw_ttl b.ip_frag hb.ttl hb.frag)) in
      let tag = apart_16 a.vlan_tpid a.vlan_tci b.vlan_tpid b.vlan_tci halves.0 ha.tci hb.tci in
      let ip = apart_16 (joined_words 8 a.nw_proto a.nw_tos) (joined_words 8 a.nw_ttl a.ip_frag) (joined_words 8 b.nw_proto b.nw_tos) (joined_words 8 b.nw_ttl b.ip_frag) halves.1
      (joined_8 a.nw_ttl a.ip_frag ha.ttl ha.frag) (joined_8 b.nw_ttl b.ip_frag hb.ttl hb.frag) in
      let kind = apart_8 a.nw_proto a.nw_tos b.nw_proto b.nw_tos ip.0 ha.tos hb.tos in
      let time = apart_8 a.nw_ttl a.ip_frag b.nw_ttl b.ip_frag ip.1 ha.frag hb.frag in
      let nw = apart_32 a.nw_src a.nw_dst b.nw_src b.nw_dst addresses (of_a.addresses).dst (of_b.addresses).dst in
      let ways = apart_32 (joined_words 16 a.in_port a.dl_type) (joined_words 16 a.tp_src a.tp_dst) (joined_words 16 b.in_port b.dl_type) (joined_words 16 b.tp_src b.tp_dst) ports
      (joined_16 a.tp_src a.tp_dst pa.src pa.dst) (joined_16 b.tp_src b.tp_dst pb.src pb.dst) in
      let port = apart_16 a.in_port a.dl_type b.in_port b.dl_type ways.0 pa.ether pb.ether in
      let tp = apart_16 a.tp_src a.tp_dst b.tp_src b.tp_dst ways.1 pa.dst pb.dst in
      record {
        port = port.0;
        src = src;
        dst = dst;
        ether = port.1;
        tci = tag.1;
        nw_src = nw.0;
        nw_dst = nw.1;
        proto = kind.0;
        tos = kind.1;
        ttl = time.0;
        frag = time.1;
        tp_src = tp.0;
        tp_dst = tp.1;
        tpid = tag.0;
      }

  abbrev pub words_are_same : KeyWords → KeyWords → Bool
  words_are_same v w = ((((v.dl_src == w.dl_src) && (v.dl_dst == w.dl_dst)) && (v.header == w.header)) && (v.addresses == w.addresses)) && (v.ports == w.ports)

  module _ (v w : KeyWords) (are_v : AreWordsOf v (list_of a)) (are_w : AreWordsOf w (list_of b)) where
    same_fields : words_are_same v w ≡ true → same (list_of a) (list_of b) ≡ true
    same_fields all =
        let four = and_parts _ (v.ports == w.ports) all in
        let three = and_parts _ (v.addresses == w.addresses) four.0 in
        let two = and_parts _ (v.header == w.header) three.0 in
        let one = and_parts (v.dl_src == w.dl_src) (v.dl_dst == w.dl_dst) two.0 in
        same_from_equal (list_of a) (list_of b) (equal_lists a b (from_words
        (sym are_v.src ∙ eqb-true v.dl_src w.dl_src one.0 ∙ are_w.src)
        (sym are_v.dst ∙ eqb-true v.dl_dst w.dl_dst one.1 ∙ are_w.dst)
        (sym are_v.header_is ∙ eqb-true v.header w.header two.1 ∙ are_w.header_is)
        (sym are_v.addresses_are ∙ eqb-true v.addresses w.addresses three.1 ∙ are_w.addresses_are)
        (sym are_v.ports_are ∙ eqb-true v.ports w.ports four.1 ∙ are_w.ports_are)))

    same_words : same (list_of a) (list_of b) ≡ true → words_are_same v w ≡ true
    same_words are =
        let equal = equal_from_same (list_of a) (list_of b) are in
        and_from _ _ (and_from _ _ (and_from _ _ (and_from _ _
        (eq-eqb v.dl_src w.dl_src (are_v.src ∙ ap (λ l. value_of l DlSrc) equal ∙ sym are_w.src))
        (eq-eqb v.dl_dst w.dl_dst (are_v.dst ∙ ap (λ l. value_of l DlDst) equal ∙ sym are_w.dst)))
        (eq-eqb v.header w.header (are_v.header_is ∙ ap header_of equal ∙ sym are_w.header_is)))
        (eq-eqb v.addresses w.addresses (are_v.addresses_are ∙ ap addresses_of equal ∙ sym are_w.addresses_are)))
        (eq-eqb v.ports w.ports (are_v.ports_are ∙ ap ports_of equal ∙ sym are_w.ports_are))

    pub words_tell : words_are_same v w ≡ same (list_of a) (list_of b)
    words_tell = both_ways (words_are_same v w) (same (list_of a) (list_of b)) same_fields same_words
