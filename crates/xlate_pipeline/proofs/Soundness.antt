-- Wildcard soundness of what was translated.
use Rattle.std.proofs.Common.{◌≡◌, ℕ, true, List, sym, ap₂, ◌∙◌, subst}
use Rattle.spec_keys.specs.Keys.{agree, IsKey, IsClean}
use Rattle.spec_xlate.specs.Translation.{Switch, pipe}
use Rattle.spec_xlate.specs.Consulted.{consulted}
use Rattle.table_laws.proofs.SoundLaws.{TranslationAlike, consulted-sound}
use Rattle.pipe_model.specs.Xlates.{Xlate, IsWildcardSound}

pub sound_from : (sw : Switch) (x : Xlate) (key : List ℕ) → IsKey key → x.key ≡ key → x.translation ≡ pipe sw key → x.mask ≡ consulted sw key → IsWildcardSound sw x
sound_from sw x key is_key same translated consulted_bits = record {
  same_translation = λ other is clean other_clean alike. (law other is clean other_clean alike).same_translation ∙ sym translated;
  same_bits = λ other is clean other_clean alike. (law other is clean other_clean alike).same_bits ∙ sym consulted_bits;
}
  where
    law : (other : List ℕ) → IsKey other → IsClean x.key → IsClean other → agree x.key other x.mask ≡ true → TranslationAlike sw key other
    law other is clean other_clean alike =
        consulted-sound sw key other is_key is (subst IsClean same clean) other_clean
        (sym (ap₂ (λ (k m : List ℕ). agree k other m) same consulted_bits) ∙ alike)
