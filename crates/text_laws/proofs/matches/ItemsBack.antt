-- A printed item of a match states its parts.
use Rattle.std.proofs.Common.{◌≡◌, ℕ, ◌+◌, false, List, [], ◌∷◌, ◌++◌, length, refl, ap, ◌∙◌, append_assoc, Option, Some, None, Ok}
use Rattle.std.specs.Prelude.{◌==◌}
use Rattle.std.specs.List.{list_any}
use Rattle.std.proofs.lemmas.Bool.{both_ways}
use Rattle.spec_actions.specs.declared.named_field.NamedField.{NamedField}
use Rattle.spec_actions.specs.declared.named_field.NamedField.TheVariants as field
use Rattle.spec_actions.specs.Named.{named}
use Rattle.spec_tables.specs.declared.edit_word.EditWord.{EditWord}
use Rattle.spec_flow_text.specs.Characters.{equals_sign}
use Rattle.spec_flow_text.specs.Numbers.{split_once}
use Rattle.spec_flow_text.specs.declared.shorthand.Shorthand.{Shorthand}
use Rattle.spec_flow_text.specs.declared.shorthand.Shorthand.TheVariants as short
use Rattle.spec_flow_text.specs.declared.names.ItemName.TheVariants as item
use Rattle.spec_flow_text.specs.declared.part.Part.{Part}
use Rattle.spec_flow_text.specs.Names.{name_of, word_of, item_named, field_named, shorthand_named, type_stated, protocol_stated}
use Rattle.spec_flow_text.specs.Values.{Bits, value_of, bits_stated, needs_of, tag_part_of, part, field_stated, type_part, protocol_part}
use Rattle.spec_flow_text.specs.Items.{Sofar, repeats, with_part, with_shorthand, with_valued, with_bare, with_item, list_start}
use Rattle.spec_flow_text.specs.Printed.{value_in_text, Value, shown_text}
use Rattle.text_laws.proofs.Cuts.{split_once-front}
use Rattle.text_laws.proofs.ItemTexts.{IsInText, quiet_lacks, name_quiet, item_at}

-- what was stated by parts alone
abbrev pub holding : List Part → Sofar
holding ps = record { parts = ps; table = None; priority = None; cookie = None }

-- parts that state no bit again, neither of one another nor of those before them
abbrev pub FollowEachOther : List Part → List Part → Type 0
FollowEachOther before [] = Unit {0}
FollowEachOther before (p ∷ ps) = (list_any (repeats p) before ≡ false) × FollowEachOther (before ++ p ∷ []) ps

-- an item states these parts
abbrev pub States : List ℕ → List Part → Type 0
States text ps = (word : EditWord) (at : ℕ) (before : List Part) → FollowEachOther before ps → with_item word (item_at at text) (holding before) ≡ Ok (holding (before ++ ps))

with_part-new : (col : ℕ) (p : Part) (before : List Part) → list_any (repeats p) before ≡ false → with_part col p (holding before) ≡ Ok (holding (before ++ p ∷ []))
unfolding with_part
with_part-new col p before h = rw h refl

-- ---- shorthands

abbrev pub short_parts : Shorthand → Option ℕ → List Part
short_parts h None = type_part (type_stated h) ∷ []
short_parts h (Some n) = type_part (type_stated h) ∷ protocol_part n ∷ []

short_cut : (h : Shorthand) → split_once equals_sign (word_of h) ≡ None
short_cut short.Ip = refl
short_cut h = refl

short_named : (h : Shorthand) → item_named (word_of h) ≡ Some (item.Shorthand h)
unfolding item_named field_named shorthand_named
short_named short.Ip = refl
short_named h = refl

with_type : (col : ℕ) (h : Shorthand) (o : Option ℕ) (before : List Part) → protocol_stated h ≡ o → FollowEachOther before (short_parts h o)
    → with_shorthand col h (holding before) ≡ Ok (holding (before ++ short_parts h o))
unfolding with_shorthand
with_type col h None before is f = rw (with_part-new col (type_part (type_stated h)) before f.0, is) refl
with_type col h (Some n) before is f =
    rw (with_part-new col (type_part (type_stated h)) before f.0, is) (
    with_part-new col (protocol_part n) (before ++ type_part (type_stated h) ∷ []) f.1.0 ∙ ap (λ ps. Ok (holding ps)) (append_assoc before (type_part (type_stated h) ∷ []) (protocol_part n ∷ []))
    )

pub short_states : (h : Shorthand) → States (word_of h) (short_parts h (protocol_stated h))
unfolding with_item with_bare
short_states h word at before f = rw (short_cut h, short_named h) (with_type (at + 1) h (protocol_stated h) before refl f)

-- ---- named fields

name_means : (f : NamedField) → IsInText f → item_named (name_of f) ≡ Some (item.Field f)
unfolding item_named field_named
name_means field.VlanTpid h = absurd (both_ways false refl h)
name_means field.VlanTci2 h = absurd (both_ways false refl h)
name_means field.VlanTpid2 h = absurd (both_ways false refl h)
name_means f h = refl

valued : (word : EditWord) (at : ℕ) (f : NamedField) (text : List ℕ) (p : Part) (before : List Part) → IsInText f → (length text == 0) ≡ false → field_stated f text ≡ Some p
    → list_any (repeats p) before ≡ false → with_item word (item_at at (name_of f ++ equals_sign ∷ text)) (holding before) ≡ Ok (holding (before ++ p ∷ []))
unfolding with_item with_valued
valued word at f text p before in_text there stated new =
    rw (split_once-front equals_sign (name_of f) text (quiet_lacks equals_sign (name_of f) refl (name_quiet f)), name_means f in_text, there, stated) (with_part-new (at + 1) p before new)

pub value_states : (f : NamedField) (b s : Bits) → IsInText f → (length (value_in_text f b) == 0) ≡ false → value_of f (value_in_text f b) ≡ Some b → bits_stated f b ≡ Some s
    → States (shown_text (Value f b)) (part (named f).field s (needs_of f) (tag_part_of f) ∷ [])
unfolding field_stated
value_states f b s in_text there back stated word at before h = valued word at f (value_in_text f b) (part (named f).field s (needs_of f) (tag_part_of f)) before in_text there (rw (back, stated) refl) h.0

-- no item begins a list of actions
pub short_no_list : (at : ℕ) (h : Shorthand) → list_start (item_at at (word_of h)) ≡ None
short_no_list at short.Ip = refl
short_no_list at h = refl

pub value_no_list : (at : ℕ) (f : NamedField) (rest : List ℕ) → list_start (item_at at (name_of f ++ rest)) ≡ None
value_no_list at field.InPort rest = refl
value_no_list at f rest = refl
