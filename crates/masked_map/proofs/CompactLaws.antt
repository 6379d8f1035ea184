-- Compact fields, and whole keys of other numbers.
use Rattle.std.proofs.Common.{◌≡◌, ℕ, ◌<◌, Bool, true, false, cond, List, [], ◌∷◌, length, set, Some, None, bit_and, bit_or, refl, sym, ap, ap₂, ◌∙◌}
use Rattle.std.specs.Int.Bits.{and_zero_r, or_zero_r}
use Rattle.std.specs.Map.{lookup}
use Rattle.std.proofs.lemmas.Bool.{false≢true}
use Rattle.spec_keys.specs.Keys.{are_zero, number_at, joined, only_at, masked, same}
use Rattle.ovs_fields.specs.declared.fields.Fields.{Fields}
use Rattle.ovs_fields.specs.Lists as whole
use Rattle.ovs_fields.proofs.KeyLaws.{joined-only_at}
use Rattle.ovs_fields.specs.Equality.{equal_from_same}
use Rattle.masked_map.specs.declared.fields.CompactFields.{CompactFields}
use Rattle.masked_map.specs.Compact.{list_of, wide_fields, compacted}
use Rattle.masked_map.specs.Maps.{listed}

pub and_zero : (a : ℕ) → bit_and a 0 ≡ 0
and_zero a = and_zero_r a

-- a key with wide fields isn't the same
same-compact : (f : CompactFields) (l : List ℕ) → are_zero wide_fields l ≡ false → same l (list_of f) ≡ false
same-compact f l wide = at (same l (list_of f)) refl
  where
    at : (t : Bool) → same l (list_of f) ≡ t → t ≡ false
    at true e = absurd (false≢true (sym wide ∙ ap (are_zero wide_fields) (equal_from_same l (list_of f) e)))
    at false e = refl

-- so nothing stands at it
pub none_compact : {V : Type 0} (l : List ℕ) (es : List (CompactFields × V)) → are_zero wide_fields l ≡ false → lookup (same l) (listed list_of es) ≡ None
none_compact l [] wide = refl
none_compact {V} l (e ∷ es) wide =
    ap (λ (t : Bool). cond t (Some e.1) (lookup (same l) (listed list_of es))) (same-compact e.0 l wide) ∙ none_compact l es wide

-- ---- bits added field by field

-- one field more
pub add_one : (old new l : List ℕ) (place more : ℕ) → place < length l → old ≡ l → new ≡ joined old (only_at place more) → new ≡ set l place (bit_or (number_at l place) more)
add_one old new l place more within is added = added ∙ ap (λ o. joined o (only_at place more)) is ∙ joined-only_at l place more within

kept : {x : ℕ} {l n : List ℕ} → l ≡ n → x ∷ l ≡ x ∷ n
kept {x} rest = ap (λ l. x ∷ l) rest

-- a wide field gets nothing
wide : (x : ℕ) {l n : List ℕ} → l ≡ n → x ∷ l ≡ bit_or x 0 ∷ n
wide x rest = ap₂ (λ (y : ℕ) (l : List ℕ). y ∷ l) (sym (or_zero_r x)) rest

-- nor has it anything in common with a mask that has none there
none : (x : ℕ) {l n : List ℕ} → l ≡ n → bit_and 0 0 ∷ l ≡ bit_and x 0 ∷ n
none x rest = ap₂ (λ (y : ℕ) (l : List ℕ). y ∷ l) (and_zero_r 0 ∙ sym (and_zero_r x)) rest

pub joined-compact : (m : Fields) (f : CompactFields) →
    bit_or m.in_port f.in_port ∷ m.metadata ∷ m.reg0 ∷ m.reg1 ∷ m.reg2 ∷ m.reg3 ∷ m.reg4 ∷ m.reg5 ∷ m.reg6 ∷ m.reg7 ∷ m.reg8 ∷ m.reg9 ∷ m.reg10 ∷ m.reg11 ∷ m.reg12 ∷ m.reg13
    ∷ m.reg14 ∷ m.reg15 ∷ bit_or m.dl_src f.dl_src ∷ bit_or m.dl_dst f.dl_dst ∷ bit_or m.dl_type f.dl_type ∷ bit_or m.vlan_tci f.vlan_tci ∷ bit_or m.nw_src f.nw_src ∷ bit_or
    m.nw_dst f.nw_dst ∷ m.ipv6_src ∷ m.ipv6_dst ∷ bit_or m.nw_proto f.nw_proto ∷ bit_or m.nw_tos f.nw_tos ∷ bit_or m.nw_ttl f.nw_ttl ∷ bit_or m.ip_frag f.ip_frag ∷ m.arp_sha
    ∷ m.arp_tha ∷ bit_or m.tp_src f.tp_src ∷ bit_or m.tp_dst f.tp_dst ∷ bit_or m.vlan_tpid f.vlan_tpid ∷ m.vlan_tci2 ∷ m.vlan_tpid2 ∷ [] ≡ joined (whole.list_of m) (list_of f)
unfolding joined
joined-compact m f =
    kept (wide m.metadata (wide m.reg0 (wide m.reg1 (wide m.reg2 (wide m.reg3 (wide m.reg4 (wide m.reg5 (wide m.reg6 (wide m.reg7 (wide m.reg8 (wide m.reg9 (wide m.reg10
    (wide m.reg11 (wide m.reg12 (wide m.reg13 (wide m.reg14 (wide m.reg15 (kept (kept (kept (kept (kept (kept (wide m.ipv6_src (wide m.ipv6_dst (kept (kept (kept (kept (wide
    m.arp_sha (wide m.arp_tha (kept (kept (kept (wide m.vlan_tci2 (wide m.vlan_tpid2 (refl)))))))))))))))))))))))))))))))))))))

-- ---- the bits of a key in those of a mask

-- what a mask without wide fields has of a key is what it has of its compact fields
pub masked-compacted : (k : Fields) (f : CompactFields) → masked (compacted (whole.list_of k)) (list_of f) ≡ masked (whole.list_of k) (list_of f)
unfolding masked
masked-compacted k f =
    kept (none k.metadata (none k.reg0 (none k.reg1 (none k.reg2 (none k.reg3 (none k.reg4 (none k.reg5 (none k.reg6 (none k.reg7 (none k.reg8 (none k.reg9 (none k.reg10
    (none k.reg11 (none k.reg12 (none k.reg13 (none k.reg14 (none k.reg15 (kept (kept (kept (kept (kept (kept (none k.ipv6_src (none k.ipv6_dst (kept (kept (kept (kept (none
    k.arp_sha (none k.arp_tha (kept (kept (kept (none k.vlan_tci2 (none k.vlan_tpid2 (refl)))))))))))))))))))))))))))))))))))))
