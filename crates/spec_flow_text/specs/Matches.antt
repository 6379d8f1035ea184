-- What a flow says before its actions: its match, normalised (ovs-fields(7), "Prerequisites"; ovs-ofctl(8)), its table,
-- priority and cookie.
use Rattle.std.specs.Prelude.{ℕ, ◌+◌, ◌==◌, Bool, true, not, if◌then◌else◌, List, length, drop, position, filter, fold, unwrap_or, slice_set, Option, Some, None, Result, Ok, Err, bit_or}
use Rattle.std.specs.List.{find, before_first}
use Rattle.std.specs.Option.{option_map}
use Rattle.std.specs.Char.{is_ascii}
use Rattle.spec_keys.specs.declared.field_id.FieldId.{FieldId}
use Rattle.spec_keys.specs.declared.field_id.FieldId.TheVariants.{DlType, NwProto}
use Rattle.spec_keys.specs.Fields.{place_of}
use Rattle.spec_keys.specs.Keys.{none, number_at, joined, only_at}
use Rattle.spec_tables.specs.declared.edit_word.EditWord.{EditWord}
use Rattle.spec_tables.specs.Rules.{Match}
use Rattle.spec_flow_text.specs.Characters.{number_sign}
use Rattle.spec_flow_text.specs.declared.part.Part.{Part}
use Rattle.spec_flow_text.specs.declared.fault.TextFault.{TextFault}
use Rattle.spec_flow_text.specs.declared.fault.TextFault.TheVariants.{Syntax}
use Rattle.spec_flow_text.specs.Values.{type_meets, is_met}
use Rattle.spec_flow_text.specs.Items.{◌>>=◌, Sofar, nothing_stated, is_separator, words, read_items, deletes}

-- ---- normalisation

abbrev pub is_of : FieldId → Part → Bool
is_of f p = place_of p.field == place_of f

-- the number that parts state of a field
abbrev pub number_of : FieldId → List Part → Option ℕ
number_of f parts = option_map (λ (p : Part). p.value) (find (is_of f) parts)

-- the parts whose need of an Ethernet type is met
abbrev pub kept_by_type : List Part → List Part
kept_by_type parts = filter (λ (p : Part). type_meets p.needs (number_of DlType parts)) parts

-- the parts whose needs are met, by the type that is stated and by the protocol that is kept
unfoldable pub kept : List Part → List Part
kept parts = filter (λ (p : Part). is_met p.needs (number_of DlType parts) (number_of NwProto (kept_by_type parts))) parts

-- ---- matches

abbrev pub with_key_bits : List ℕ → Part → List ℕ
with_key_bits key p = slice_set key (place_of p.field) (bit_or (number_at key (place_of p.field)) p.value)

abbrev pub with_mask_bits : List ℕ → Part → List ℕ
with_mask_bits mask p = joined mask (only_at (place_of p.field) p.mask)

-- the match that states these parts
unfoldable pub match_of : List Part → Match
match_of parts = record { key = fold with_key_bits none parts; mask = fold with_mask_bits none parts }

-- ---- lines

-- the priority of a flow that states none (ovs-ofctl(8))
abbrev pub default_priority : ℕ
default_priority = 32768

-- what a flow says before its actions, and the place after `actions=`, counted from 0
pub record MatchText : Type 0 where
  pub table : Option ℕ
  pub priority : ℕ
  pub cookie : Option ℕ
  pub matching : Match
  pub rest : Option ℕ

abbrev pub match_text : Sofar → Option ℕ → MatchText
match_text s rest = record {
  table = s.table;
  priority = unwrap_or s.priority default_priority;
  cookie = s.cookie;
  matching = match_of (kept s.parts);
  rest = rest;
}

-- an action list has to follow, but for a word that deletes, after which none may
abbrev pub with_list : EditWord → ℕ → Sofar → Option (ℕ × ℕ) → Result MatchText TextFault
with_list word end s None = if deletes word then Ok (match_text s None) else Err (Syntax (end + 1))
with_list word end s (Some list) = if deletes word then Err (Syntax list.0) else Ok (match_text s (Some list.1))

-- a line without its comment
abbrev pub uncommented : List ℕ → List ℕ
uncommented line = before_first (λ c. c == number_sign) line

-- the column of the first byte from a place on that isn't ASCII
abbrev pub column_beyond_ascii : ℕ → List ℕ → Option ℕ
column_beyond_ascii at text = option_map (λ i. at + i + 1) (position (λ c. not (is_ascii c)) (drop at text))

abbrev pub text_or_fault : List ℕ → Option ℕ → Result (List ℕ) TextFault
text_or_fault text None = Ok text
text_or_fault text (Some col) = Err (Syntax col)

-- a text from a place on, which has to be ASCII
abbrev pub ascii_from : ℕ → List ℕ → Result (List ℕ) TextFault
ascii_from at text = text_or_fault (drop at text) (column_beyond_ascii at text)

-- what a line says from a place on, before its actions
unfoldable pub read_match : EditWord → ℕ → List ℕ → Result MatchText TextFault
read_match word at line = do
  text ← ascii_from at (uncommented line)
  stated ← read_items word (words is_separator true at text) nothing_stated
  with_list word (length (uncommented line)) stated.sofar stated.list
