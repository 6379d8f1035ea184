-- Which keys a filter doesn't rule out, by their marks.
use Rattle.std.specs.Prelude.{◌≡◌, ℕ, ◌*◌, ◌/◌, ◌%◌, ◌^◌, ◌==◌, Bool, true, false, List, slice_get, vec_len, Option, Some, None}
use Rattle.std.specs.Int.{bit_at}
use Rattle.std.specs.Map.{lookup}
use Rattle.spec_keys.specs.Keys.{same}
use Rattle.masked_map.specs.declared.fields.CompactFields.{CompactFields}
use Rattle.masked_map.specs.declared.key_filter.KeyFilter.{KeyFilter}
use Rattle.masked_map.specs.Compact.{list_of}
use Rattle.masked_map.specs.Listed.{listed}
use Rattle.masked_map.specs.Marks.{mark_of}

-- the word of so many that a mark tells, and the bit of it
abbrev pub word_of : ℕ → ℕ → ℕ
word_of count mark = mark / 2 ^ 32 * count % 2 ^ 64 / 2 ^ 32

abbrev pub bit_of : ℕ → ℕ
bit_of mark = mark / 2 ^ 26 % 64

abbrev pub has_bit : Option ℕ → ℕ → Bool
has_bit None bit = true
has_bit (Some word) bit = bit_at word bit == 1

-- whether the bit of a mark is set
abbrev pub has_mark : KeyFilter → ℕ → Bool
has_mark f mark = has_bit (slice_get f.words.items (word_of (vec_len f.words) mark)) (bit_of mark)

-- whether that of a key is
abbrev pub may_have : KeyFilter → List ℕ → Bool
may_have f key = has_mark f (mark_of key)

-- what a filter rules out has no entry
abbrev pub RulesOut : {V : Type 0} → KeyFilter → List (CompactFields × V) → Type 0
RulesOut f es = (key : List ℕ) → may_have f key ≡ false → lookup (same key) (listed list_of es) ≡ None
