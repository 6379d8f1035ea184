-- Packets that meet no changed rule, by the bits of a mask.
use Rattle.std.proofs.Common.{◌≡◌, ℕ, Bool, true, false, List, [], ◌∷◌, inl, inr, refl, sym, ap, ◌∙◌}
use Rattle.spec_keys.specs.Fields.{register_fields}
use Rattle.spec_keys.specs.Keys.{masked, same, agree, overlap, IsKey, IsClean}
use Rattle.spec_tables.specs.Rules.{Match, is_matched}
use Rattle.spec_xlate.specs.Consulted.{without}
use Rattle.table_laws.specs.Members.{Among}
use Rattle.table_laws.proofs.KeyLaws.{agree-masked, length_from-masked}
use Rattle.rule_changes.specs.Lockstep.{NoneMatches}
use Rattle.rule_changes.proofs.MaskLaws.{masked-common, masked-fewer, matched-overlaps}
use Rattle.table_diff.proofs.TellLaws.{registers-same}

-- A match that a key differs from in bits that stay isn't met by what is made of any packet that agrees with the key.
apart : (a b mask kept key : List ℕ) (m : Match) → overlap a (masked mask kept) m.key m.mask ≡ false → masked b mask ≡ masked a mask
    → masked key kept ≡ masked b kept → is_matched key m ≡ false
apart a b mask kept key m none agreed stays = at (is_matched key m) refl
  where
    alike : masked key (masked mask kept) ≡ masked a (masked mask kept)
    alike = masked-fewer key b mask kept (length_from-masked key b kept stays) stays ∙ masked-common b a mask kept (length_from-masked b a mask agreed) agreed

    there : overlap key (masked mask kept) m.key m.mask ≡ false
    there =
        ap (λ (z : List ℕ). same z (masked m.key (masked (masked mask kept) m.mask)))
        (masked-common key a (masked mask kept) m.mask (length_from-masked key a (masked mask kept) alike) alike) ∙ none

    at : (t : Bool) → is_matched key m ≡ t → is_matched key m ≡ false
    at false h = h
    at true h = absurd (let g : true ≡ false = sym (matched-overlaps key (masked mask kept) m h) ∙ there in cc)

none_matches : (a b mask kept key : List ℕ) (ms : List Match) → ((m : Match) → Among m ms → overlap a (masked mask kept) m.key m.mask ≡ false)
    → masked b mask ≡ masked a mask → masked key kept ≡ masked b kept → NoneMatches key ms
none_matches a b mask kept key [] each agreed stays = tt
none_matches a b mask kept key (m ∷ ms) each agreed stays =
    (apart a b mask kept key m (each m (inl refl)) agreed stays, none_matches a b mask kept key ms (λ n among. each n (inr among)) agreed stays)

-- What is told of a frame's key is told of each that agrees with it, but for registers.
pub stays_apart : (a b mask kept key : List ℕ) (ms : List Match) → ((m : Match) → Among m ms → overlap a (masked mask kept) m.key m.mask ≡ false)
    → IsKey a → IsKey b → IsClean a → IsClean b → agree b a (without register_fields mask) ≡ true → masked key kept ≡ masked b kept → NoneMatches key ms
stays_apart a b mask kept key ms each ka kb ca cb h stays =
    none_matches a b mask kept key ms each (sym (registers-same a b mask (kb.fields ∙ sym ka.fields) ca cb (sym (agree-masked b a _ h)))) stays
