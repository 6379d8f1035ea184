-- Wildcard soundness: from the one mask of a translation to what each of its steps consults, and the law itself.
use Rattle.std.proofs.Common.{◌≡◌, ℕ, ◌+◌, Bool, true, false, ◌||◌, ◌==◌, List, [], ◌∷◌, ◌++◌, length, set, bit_and, refl, sym, ap, ap₂, ◌∙◌, get_or-set_other}
use Rattle.std.specs.List.{list_any}
use Rattle.std.proofs.lemmas.Bool.{and_parts, eqb-true}
use Rattle.spec_keys.specs.declared.field_id.FieldId.{FieldId}
use Rattle.spec_keys.specs.declared.field_id.FieldId.TheVariants as field
use Rattle.spec_keys.specs.Fields.{place_of, register_fields}
use Rattle.spec_keys.specs.Keys.{number_at, value_of, masked, agree, are_zero, IsKey, IsClean}
use Rattle.spec_actions.specs.declared.action.DpAction.{DpAction}
use Rattle.spec_keys.specs.Protocols.{ipv4_type, ipv6_type}
use Rattle.spec_xlate.specs.Translation.{Switch, Mode, Translation, deepest, kept, look, start, last_state, pipe}
use Rattle.spec_xlate.specs.Lookup.{union, when}
use Rattle.spec_xlate.specs.Consulted.{whole, look_bits, start_bits, without, consulted}
use Rattle.table_laws.proofs.KeyLaws.{agree-masked, masked_from-places, places_from-masked, SameBits-append}
use Rattle.table_laws.proofs.UnionLaws.{SameBits_from-union}
use Rattle.table_laws.proofs.KeysAlike.{start-alike, eqb-false}
use Rattle.table_laws.proofs.StatesAlike.{Alike, whole-same}
use Rattle.table_laws.proofs.RunLaws.{look-alike}

-- ---- a mask without the bits of registers

abbrev is_register : ℕ → Bool
is_register q = list_any (λ f. q == place_of f) register_fields

number_at-without : (fs : List FieldId) (m : List ℕ) (q : ℕ) → list_any (λ f. q == place_of f) fs ≡ false
    → number_at (without fs m) q ≡ number_at m q
number_at-without [] m q h = refl
number_at-without (f ∷ fs) m q h = at (q == place_of f) refl h (number_at-without fs (set m (place_of f) 0) q)
  where
    at : (t : Bool) → (q == place_of f) ≡ t → (t || list_any (λ g. q == place_of g) fs) ≡ false
        → (list_any (λ g. q == place_of g) fs ≡ false → number_at (without fs (set m (place_of f) 0)) q ≡ number_at (set m (place_of f) 0) q)
        → number_at (without fs (set m (place_of f) 0)) q ≡ number_at m q
    at true e h ih = absurd (cc)
    at false e h ih = ih h ∙ get_or-set_other m (place_of f) q 0 0 (eqb-false q (place_of f) e)

-- the number at the place of one of these fields, where each of them is 0
number_at-are_zero : (fs : List FieldId) (key : List ℕ) (q : ℕ) → are_zero fs key ≡ true → list_any (λ f. q == place_of f) fs ≡ true
    → number_at key q ≡ 0
number_at-are_zero [] key q z h = absurd (cc)
number_at-are_zero (f ∷ fs) key q z h =
    let parts = and_parts (value_of key f == 0) (are_zero fs key) z in at parts.0 (q == place_of f) refl h (number_at-are_zero fs key q parts.1)
  where
    at : (value_of key f == 0) ≡ true → (t : Bool) → (q == place_of f) ≡ t → (t || list_any (λ g. q == place_of g) fs) ≡ true
        → (list_any (λ g. q == place_of g) fs ≡ true → number_at key q ≡ 0) → number_at key q ≡ 0
    at k true e h ih = ap (number_at key) (eqb-true q (place_of f) e) ∙ eqb-true (value_of key f) 0 k
    at k false e h ih = ih h

registers-same : (a b m : List ℕ) → length b ≡ length a → IsClean a → IsClean b
    → masked a (without register_fields m) ≡ masked b (without register_fields m) → masked a m ≡ masked b m
registers-same a b m l ca cb e = masked_from-places a b m l (λ q. at q (is_register q) refl)
  where
    at : (q : ℕ) (t : Bool) → is_register q ≡ t → bit_and (number_at a q) (number_at m q) ≡ bit_and (number_at b q) (number_at m q)
    at q true h =
        ap (λ (z : ℕ). bit_and z (number_at m q)) (number_at-are_zero register_fields a q ca h ∙ sym (number_at-are_zero register_fields b q cb h))
    at q false h =
        let k = number_at-without register_fields m q h in
        ap (bit_and (number_at a q)) (sym k) ∙ places_from-masked a b (without register_fields m) q e ∙ ap (bit_and (number_at b q)) k

-- ---- the law

-- What a translation makes of one key and of another that agrees with it on the bits consulted.
pub record TranslationAlike (sw : Switch) (a b : List ℕ) : Type 0 where
  pub same_translation : pipe sw b ≡ pipe sw a
  pub same_bits : consulted sw b ≡ consulted sw a

pub consulted-sound : (sw : Switch) (a b : List ℕ) → IsKey a → IsKey b → IsClean a → IsClean b → agree a b (consulted sw a) ≡ true
    → TranslationAlike sw a b
unfolding consulted pipe last_state
consulted-sound sw a b ka kb ca cb h =
    let l : length b ≡ length a = kb.fields ∙ sym ka.fields in
    let all = SameBits_from-union a b (start_bits a ++ look_bits sw (deepest + 1) 0 (start a)) (registers-same a b _ l ca cb (agree-masked _ _ _ h)) in
    let parts = SameBits-append a b (start_bits a) (look_bits sw (deepest + 1) 0 (start a)) all in
    let port = whole-same a b ka kb field.InPort parts.0.0 in
    let kind = whole-same a b ka kb field.DlType parts.0.1.0 in
    let begun : Alike a b (start a) (start b) = record { keys = start-alike a b l; actions = refl; visits = refl; lookups_left = refl; mode = refl } in
    let x = look-alike a b ka kb port sw (deepest + 1) 0 (start a) (start b) begun parts.1 in
    record {
      same_translation =
          ap₂ (λ (s : List DpAction) (v : List ℕ). made (look sw (deepest + 1) 0 (start b)).mode s v) x.0.actions x.0.visits
          ∙ ap (λ (m : Mode). made m (look sw (deepest + 1) 0 (start a)).actions (look sw (deepest + 1) 0 (start a)).visits) x.0.mode;
      same_bits = ap₂ (λ (k : ℕ) (z : List (List ℕ)). without register_fields (union ((whole field.InPort ∷ whole field.DlType ∷ when ((k == ipv4_type) || (k == ipv6_type)) (whole field.IpFrag ∷ [])) ++ z))) (sym kind) x.1;
    }
  where
    made : Mode → List DpAction → List ℕ → Translation
    made m s v = record { actions = kept m s; visits = v }
