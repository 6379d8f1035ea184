-- Keys and masks: lists with one number for each field (NSDI 2015, section 3: flow keys and wildcards).
use Rattle.std.specs.Prelude.{◌≡◌, ℕ, zero, suc, ◌<◌, ◌^◌, Bool, true, false, ◌&&◌, ◌==◌, IsTrue, List, [], ◌∷◌, length, replicate, get_or, bit_and, bit_or}
use Rattle.std.specs.List.{list_all}
use Rattle.spec_keys.specs.declared.field_id.FieldId.{FieldId}
use Rattle.spec_keys.specs.Fields.{place_of, widths, field_count, register_fields}

-- the number at a place of a key or a mask
abbrev pub number_at : List ℕ → ℕ → ℕ
number_at key place = get_or key place 0

-- the number of a field
abbrev pub value_of : List ℕ → FieldId → ℕ
value_of key f = number_at key (place_of f)

-- the key whose numbers, and the mask whose bits, are all 0
unfoldable pub none : List ℕ
none = replicate field_count 0

-- the key's bits where the mask has 1, and 0 elsewhere; a mask that ends early has 0 from there on
unfoldable pub masked : List ℕ → List ℕ → List ℕ
masked [] mask = []
masked (x ∷ xs) [] = 0 ∷ masked xs []
masked (x ∷ xs) (b ∷ bs) = bit_and x b ∷ masked xs bs

-- whether two lists of numbers are the same
unfoldable pub same : List ℕ → List ℕ → Bool
same [] [] = true
same [] (y ∷ ys) = false
same (x ∷ xs) [] = false
same (x ∷ xs) (y ∷ ys) = (x == y) && same xs ys

-- whether two keys have the same bits wherever the mask has 1
abbrev pub agree : List ℕ → List ℕ → List ℕ → Bool
agree a b mask = same (masked a mask) (masked b mask)

-- the bits of either mask
unfoldable pub joined : List ℕ → List ℕ → List ℕ
joined [] n = n
joined (a ∷ m) [] = a ∷ m
joined (a ∷ m) (b ∷ n) = bit_or a b ∷ joined m n

-- the bits of both masks
abbrev pub common_bits : List ℕ → List ℕ → List ℕ
common_bits m n = masked m n

-- whether every bit of the mask b is in a
abbrev pub covers : List ℕ → List ℕ → Bool
covers a b = same (joined a b) a

-- whether some key agrees with both of two pairs of a key and a mask
abbrev pub overlap : List ℕ → List ℕ → List ℕ → List ℕ → Bool
overlap a m b n = agree a b (common_bits m n)

-- the mask that has these bits at this place, and no others
unfoldable pub only_at : ℕ → ℕ → List ℕ
only_at zero bits = bits ∷ []
only_at (suc place) bits = 0 ∷ only_at place bits

-- A key or a mask: a number for each field, within its width.
pub record IsKey (key : List ℕ) : Type 0 where
  pub fields : length key ≡ field_count
  pub fit : (place : ℕ) → number_at key place < 2 ^ number_at widths place

-- whether each of these fields is 0 in a key
abbrev pub are_zero : List FieldId → List ℕ → Bool
are_zero fs key = list_all (λ f. value_of key f == 0) fs

-- Metadata and the registers are 0.
abbrev pub IsClean : List ℕ → Type 0
IsClean key = IsTrue (are_zero register_fields key)
