-- The type of service of a match, which is stated in two parts.
use Rattle.std.proofs.Common.{◌≡◌, ℕ, ◌+◌, ◌*◌, ◌/◌, ◌%◌, ◌<◌, ◌≤◌, ◌^◌, Bool, true, false, refl, sym, subst, ap, ◌∙◌, arith, bit_and, bit_or, Some, eqb-true, eq-eqb, le-leb, lit≤}
use Rattle.std.specs.Prelude.{◌&&◌, ◌||◌, ◌==◌, nat_le}
use Rattle.std.specs.Int.Bits.{or_zero_l}
use Rattle.std.proofs.lemmas.Bool.{and_parts, both_ways, leb-true}
use Rattle.std.proofs.lemmas.Nat.{and_comm, and_le_l, and_le_r, or_shifted, and_mask}
use Rattle.std.proofs.lemmas.Nat.Bits.{and_high_mask}
use Rattle.spec_base.specs.Bits.{all_bits}
use Rattle.spec_keys.specs.declared.field_id.FieldId.TheVariants as key
use Rattle.spec_keys.specs.Keys.{value_of}
use Rattle.spec_actions.specs.declared.named_field.NamedField.TheVariants as field
use Rattle.spec_actions.specs.Named.{dscp_bits}
use Rattle.spec_tables.specs.Rules.{Match}
use Rattle.spec_flow_text.specs.declared.part.MatchPrerequisite.TheVariants as needs
use Rattle.spec_flow_text.specs.declared.part.TagPart.TheVariants as tag
use Rattle.spec_flow_text.specs.declared.part.Part.{Part}
use Rattle.spec_flow_text.specs.Values.{bits, bits_stated, part, is_met}
use Rattle.spec_flow_text.specs.Printed.{Value, bits_of, ecn_bits, none_or_all, shown_service}
use Rattle.text_laws.proofs.ValuesBack.{ReadValues}
use Rattle.text_laws.specs.SpelledMatches.{can_state, is_stated, number_stated, has_needed}
use Rattle.text_laws.proofs.matches.WordsBack.{all_parts, IsReadable, AreReadable}
use Rattle.text_laws.proofs.matches.Together.{IsBlock}
use Rattle.text_laws.proofs.matches.NamesBack.{in_range_back, value_readable}
use Rattle.text_laws.proofs.matches.Blocks.{no_part, one_part, raised_none}

-- ---- bits of the two parts

low_part : (n : ℕ) → bit_and n ecn_bits ≡ n % 4
low_part n = and_mask n 2

high_part : (n : ℕ) → n < 256 → bit_and n dscp_bits ≡ n / 4 * 4
high_part n lt = and_high_mask 8 2 (lit≤ tt) n lt

both_parts : (n : ℕ) → n < 256 → bit_or (bit_and n dscp_bits) (bit_and n ecn_bits) ≡ n
both_parts n lt =
    let low : n % 4 < 2 ^ 2 = omega arith in
    let whole : n / 4 * 2 ^ 2 + n % 4 ≡ n = omega arith in
    rw (high_part n lt, low_part n) (or_shifted (n / 4) 2 (n % 4) low ∙ whole)

-- either part is stated whole or not at all
abbrev pub whole_or_none : ℕ → Bool
whole_or_none k = (k == 0) || (nat_le k (all_bits 8) && (none_or_all dscp_bits k && none_or_all ecn_bits k))

by_part : (P : ℕ → Type 0) (part k : ℕ) → none_or_all part k ≡ true → (bit_and part k ≡ 0 → P k) → (bit_and part k ≡ part → P k) → P k
by_part P part k h none all = by_tests (bit_and part k == 0) (bit_and part k == part) refl refl h
  where
    by_tests : (t u : Bool) → (bit_and part k == 0) ≡ t → (bit_and part k == part) ≡ u → (t || u) ≡ true → P k
    by_tests true u e f h = none (eqb-true (bit_and part k) 0 e)
    by_tests false true e f h = all (eqb-true (bit_and part k) part f)
    by_tests false false e f h = absurd (both_ways false refl h)

pub masks : (P : ℕ → Type 0) → P 0 → P 252 → P 3 → P 255 → (k : ℕ) → whole_or_none k ≡ true → P k
masks P none service ecn all k h = by_test (k == 0) refl h
  where
    joined : (a b : ℕ) → k < 256 → bit_and dscp_bits k ≡ a → bit_and ecn_bits k ≡ b → bit_or a b ≡ k
    joined a b lt e f =
        let high : bit_and k dscp_bits ≡ a = and_comm k dscp_bits ∙ e in
        let low : bit_and k ecn_bits ≡ b = and_comm k ecn_bits ∙ f in
        subst (λ x. bit_or x b ≡ k) high (subst (λ y. bit_or (bit_and k dscp_bits) y ≡ k) low (both_parts k lt))

    by_test : (t : Bool) → (k == 0) ≡ t → (t || (nat_le k (all_bits 8) && (none_or_all dscp_bits k && none_or_all ecn_bits k))) ≡ true → P k
    by_test true is h = subst P (sym (eqb-true k 0 is)) none
    by_test false is h =
        let p = and_parts (nat_le k (all_bits 8)) (none_or_all dscp_bits k && none_or_all ecn_bits k) h in
        let q = and_parts (none_or_all dscp_bits k) (none_or_all ecn_bits k) p.1 in
        let le = leb-true k (all_bits 8) p.0 in
        let lt : k < 256 = omega arith in
        by_part P dscp_bits k q.0 (λ e. by_part P ecn_bits k q.1 (λ f. subst P (joined 0 0 lt e f) none) (λ f. subst P (joined 0 3 lt e f) ecn)) (λ e. by_part P ecn_bits k q.1 (λ f. subst P (joined 252 0 lt e f) service) (λ f. subst P (joined 252 3 lt e f) all))

-- ---- the parts

abbrev tos : ℕ → Part
tos v = part key.NwTos (bits v dscp_bits) needs.Ip tag.Neither

abbrev ecn : ℕ → Part
ecn v = part key.NwTos (bits v ecn_bits) needs.Ip tag.Neither

tos_stated : (v : ℕ) → bit_and v dscp_bits ≡ v → bits_stated field.NwTos (bits v (all_bits 8)) ≡ Some (bits v dscp_bits)
unfolding bits_stated
tos_stated v within = rw (eq-eqb (bit_and v dscp_bits) v within) refl

ecn_stated : (v : ℕ) → bits_stated field.NwEcn (bits v ecn_bits) ≡ Some (bits v ecn_bits)
unfolding bits_stated
ecn_stated v = ap Some (raised_none v ecn_bits)

tos_readable : ReadValues → (v : ℕ) → v ≤ 255 → bit_and v dscp_bits ≡ v → IsReadable (Value field.NwTos (bits v (all_bits 8)))
tos_readable r v le within =
    value_readable field.NwTos (bits v (all_bits 8)) (bits v dscp_bits) (in_range_back r field.NwTos (bits v (all_bits 8)) tt refl (rw (le-leb v 255 le) refl)) (tos_stated v within)

ecn_readable : ReadValues → (v : ℕ) → v ≤ 3 → IsReadable (Value field.NwEcn (bits v ecn_bits))
ecn_readable r v le =
    value_readable field.NwEcn (bits v ecn_bits) (bits v ecn_bits) (in_range_back r field.NwEcn (bits v ecn_bits) tt refl (rw (le-leb v 3 le) refl)) (ecn_stated v)

-- what is known of the items of a service of which so much is stated
abbrev IsService : ℕ → Type 0
IsService k = ReadValues → (m : Match) (v : ℕ) → value_of m.key key.NwTos ≡ v → value_of m.mask key.NwTos ≡ k → bit_and v k ≡ v
    → ((k == 0) || is_met needs.Ip (number_stated m key.DlType) (number_stated m key.NwProto)) ≡ true
    → IsBlock m key.NwTos (all_parts (shown_service (bits v k))) × AreReadable (shown_service (bits v k))

no_service : IsService 0
no_service r m v value mask within needed = (no_part m key.NwTos (value ∙ sym within ∙ and_none v) mask (λ exact. absurd exact), tt)
  where
    and_none : (v : ℕ) → bit_and v 0 ≡ 0
    and_none v = omega (arith, and_le_r v 0)

service_alone : IsService 252
service_alone r m v value mask within needed =
    let le : v ≤ 255 = omega (arith, and_le_r v 252, within) in (
      rw (within, tos_stated v within) (one_part m key.NwTos (tos v) refl (within ∙ sym value) (sym mask) (λ exact. absurd exact) needed),
      rw within (tos_readable r v le within, tt),
    )

ecn_alone : IsService 3
ecn_alone r m v value mask within needed =
    let le : v ≤ 3 = omega (arith, and_le_r v 3, within) in (
      rw (within, ecn_stated v) (one_part m key.NwTos (ecn v) refl (within ∙ sym value) (sym mask) (λ exact. absurd exact) needed),
      rw within (ecn_readable r v le, tt),
    )

high_again : (v : ℕ) → v < 256 → bit_and (bit_and v dscp_bits) dscp_bits ≡ bit_and v dscp_bits
high_again v lt =
    let small : bit_and v dscp_bits < 256 = omega (arith, and_le_l v dscp_bits) in
    high_part (bit_and v dscp_bits) small ∙ (rw (high_part v lt) (omega arith))

low_again : (v : ℕ) → bit_and (bit_and v ecn_bits) ecn_bits ≡ bit_and v ecn_bits
low_again v = low_part (bit_and v ecn_bits) ∙ (rw (low_part v) (omega arith))

whole_service : IsService 255
whole_service r m v value mask within needed =
    let lt : v < 256 = omega (arith, and_le_r v 255, within) in
    let x = bit_and v dscp_bits in
    let y = bit_and v ecn_bits in
    let high = high_again v lt in
    let le : x ≤ 255 = omega (arith, and_le_r v dscp_bits) in
    let less : y ≤ 3 = omega (arith, and_le_r v ecn_bits) in
    let both : bit_or (bit_or 0 (tos x).value) (ecn y).value ≡ v = rw (or_zero_l (bit_and x dscp_bits), high, low_again v) (both_parts v lt) in (
      rw (tos_stated x high, ecn_stated y) (record {
        here = refl;
        apart = (refl, (refl, tt));
        value = both ∙ sym value;
        mask = sym mask;
        number = λ exact. absurd exact;
        met = rw needed refl;
      }),
      (tos_readable r x le high, (ecn_readable r y less, tt)),
    )

pub service : ReadValues → (m : Match) → is_stated field.NwTos (bits_of m key.NwTos) ≡ true → has_needed m field.NwTos (bits_of m key.NwTos) ≡ true
    → IsBlock m key.NwTos (all_parts (shown_service (bits_of m key.NwTos))) × AreReadable (shown_service (bits_of m key.NwTos))
service r m stated needed =
    let v = value_of m.key key.NwTos in
    let k = value_of m.mask key.NwTos in
    let p = and_parts (bit_and v k == v) ((k == 0) || can_state field.NwTos (bits v k)) stated in
    masks IsService no_service service_alone ecn_alone whole_service k p.1 r m v refl refl (eqb-true (bit_and v k) v p.0) needed
