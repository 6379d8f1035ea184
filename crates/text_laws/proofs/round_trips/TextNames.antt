-- A name in the text of a flow means a field that isn't printed alone.
use Rattle.std.proofs.Common.{◌≡◌, ℕ, Bool, true, false, cond, List, [], ◌∷◌, refl, subst, Option, Some, None, bytes_eq}
use Rattle.std.specs.Prelude.{not}
use Rattle.std.specs.List.{list_all, find}
use Rattle.std.specs.Option.{option_map, option_or}
use Rattle.std.proofs.lemmas.Bool.{and_parts, both_ways}
use Rattle.spec_actions.specs.declared.named_field.NamedField.{NamedField}
use Rattle.spec_actions.specs.Named.{is_printed_alone}
use Rattle.spec_flow_text.specs.declared.shorthand.Shorthand.{Shorthand}
use Rattle.spec_flow_text.specs.declared.names.ItemName.{ItemName}
use Rattle.spec_flow_text.specs.declared.names.ItemName.TheVariants as item
use Rattle.spec_flow_text.specs.Names.{is_called, named_fields, field_named, meaning_of, shorthand_named, keywords, keyword_named, left_out, is_field_left_out, item_named}
use Rattle.text_laws.proofs.ItemTexts.{IsInText}

-- ---- fields

found_in_text : (p : NamedField → Bool) (fs : List NamedField) (f : NamedField) → list_all (λ g. not (is_printed_alone g)) fs ≡ true → find p fs ≡ Some f → IsInText f
found_in_text p [] f all h = cc
found_in_text p (g ∷ fs) f all h =
    let k = and_parts (not (is_printed_alone g)) (list_all (λ x. not (is_printed_alone x)) fs) all in
    by_test (p g) k.0 (found_in_text p fs f k.1) h
  where
    by_test : (t : Bool) → IsInText g → (find p fs ≡ Some f → IsInText f) → cond t (Some g) (find p fs) ≡ Some f → IsInText f
    by_test true k later h = let same : g ≡ f = cc in subst IsInText same k
    by_test false k later h = later h

pub named_in_text : (name : List ℕ) (f : NamedField) → field_named name ≡ Some f → IsInText f
unfolding field_named
named_in_text name f h = found_in_text (is_called name) named_fields f refl h

-- ---- items

-- if an item names a field, then one that a flow may name
abbrev pub NamesText : Option ItemName → Type 0
NamesText (Some (item.Field f)) = IsInText f
NamesText name = Unit {0}

-- whether a keyword names no field
abbrev is_no_field : ItemName → Bool
is_no_field (item.Field f) = false
is_no_field name = true

no_field : (name : ItemName) → is_no_field name ≡ true → NamesText (Some name)
no_field (item.Field f) h = absurd (both_ways false refl h)
no_field item.DlVlan h = tt
no_field name h = tt

by_field : (o : Option NamedField) (rest : Option ItemName) → ((f : NamedField) → o ≡ Some f → IsInText f) → NamesText rest → NamesText (option_or (option_map (λ f. item.Field f) o) rest)
by_field None rest h k = k
by_field (Some f) rest h k = h f refl

by_shorthand : (o : Option Shorthand) (rest : Option ItemName) → NamesText rest → NamesText (option_or (option_map (λ s. item.Shorthand s) o) rest)
by_shorthand None rest k = k
by_shorthand (Some s) rest k = tt

by_keyword : (o rest : Option ItemName) → NamesText o → NamesText rest → NamesText (option_or o rest)
by_keyword None rest h k = k
by_keyword (Some name) rest h k = h

found_keyword : (text : List ℕ) (rows : List (List ℕ × ItemName)) → list_all (λ row. is_no_field row.1) rows ≡ true → NamesText (meaning_of rows text)
found_keyword text [] all = tt
found_keyword text (row ∷ rows) all =
    let k = and_parts (is_no_field row.1) (list_all (λ r. is_no_field r.1) rows) all in
    by_test (bytes_eq row.0 text) (found_keyword text rows k.1)
  where
    first : NamesText (Some row.1)
    first = no_field row.1 (and_parts (is_no_field row.1) (list_all (λ r. is_no_field r.1) rows) all).0

    by_test : (t : Bool) → NamesText (meaning_of rows text) → NamesText (option_map (λ (r : List ℕ × ItemName). r.1) (cond t (Some row) (find (λ r. bytes_eq r.0 text) rows)))
    by_test true later = first
    by_test false later = later

not_known : (t : Bool) → NamesText (left_out t)
not_known true = tt
not_known false = tt

pub item_in_text : (text : List ℕ) → NamesText (item_named text)
unfolding item_named keyword_named
item_in_text text =
    by_field (field_named text) _ (named_in_text text)
    (by_shorthand (shorthand_named text) _ (by_keyword (meaning_of keywords text) _ (found_keyword text keywords refl) (not_known (is_field_left_out text))))
