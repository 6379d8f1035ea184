-- A flow as items with separators between them (ovs-ofctl(8), "Flow Syntax"): what they state, one after the other, and
-- the first fault. Each item is tested by its name and its form, then by its value, then whether it states a bit again;
-- `table`, `priority` and `cookie` are tested for repetition before their value.
use Rattle.std.specs.Prelude.{ℕ, ◌+◌, ◌-◌, ◌==◌, Bool, true, false, not, ◌&&◌, ◌||◌, if◌then◌else◌, List, [], ◌∷◌, ◌++◌, length, is_some, Option, Some, None, Result, Ok, Err, codes, bit_and}
use Rattle.std.specs.List.{list_any, take_while}
use Rattle.std.specs.Option.{ok_or, option_map, option_or}
use Rattle.spec_base.specs.Bits.{all_bits}
use Rattle.spec_keys.specs.Fields.{place_of}
use Rattle.spec_keys.specs.Protocols.{tag_bit}
use Rattle.spec_actions.specs.Sound.{last_table}
use Rattle.spec_tables.specs.declared.edit_word.EditWord.{EditWord}
use Rattle.spec_tables.specs.declared.edit_word.EditWord.TheVariants.{Delete, DeleteStrict}
use Rattle.spec_flow_text.specs.Characters.{tab, carriage_return, space, comma, slash, equals_sign}
use Rattle.spec_flow_text.specs.Numbers.{split_once, number_upto, strip_prefix}
use Rattle.spec_flow_text.specs.declared.names.ItemName.{ItemName}
use Rattle.spec_flow_text.specs.declared.names.ItemName.TheVariants as item
use Rattle.spec_flow_text.specs.declared.shorthand.Shorthand.{Shorthand}
use Rattle.spec_flow_text.specs.declared.part.Part.{Part}
use Rattle.spec_flow_text.specs.declared.part.TagPart.{TagPart}
use Rattle.spec_flow_text.specs.declared.part.TagPart.TheVariants as tag
use Rattle.spec_flow_text.specs.declared.fault.TextFault.{TextFault}
use Rattle.spec_flow_text.specs.declared.fault.TextFault.TheVariants as fault
use Rattle.spec_flow_text.specs.Names.{item_named, type_stated, protocol_stated}
use Rattle.spec_flow_text.specs.Values.{field_stated, vlan_stated, type_part, protocol_part}

-- ---- words

-- a stretch of a line: where it begins, counted from 0, and its bytes
pub record Word : Type 0 where
  pub at : ℕ
  pub text : List ℕ

-- the column of a word, which is counted from 1
abbrev pub column : Word → ℕ
column w = w.at + 1

-- space, tab or carriage return
abbrev pub is_white : ℕ → Bool
is_white c = (c == space) || ((c == tab) || (c == carriage_return))

abbrev pub is_separator : ℕ → Bool
is_separator c = (c == comma) || is_white c

-- the bytes up to the first that separates
abbrev pub up_to_separator : (ℕ → Bool) → List ℕ → List ℕ
up_to_separator separates text = take_while (λ c. not (separates c)) text

-- the words of a text that begins at this place of its line: one begins at each byte that doesn't separate and stands
-- after one that does, or first
unfoldable pub words : (ℕ → Bool) → Bool → ℕ → List ℕ → List Word
words separates fresh at [] = []
words separates fresh at (c ∷ cs) =
    if separates c then words separates true (at + 1) cs
    else (if fresh then record { at = at; text = up_to_separator separates (c ∷ cs) } ∷ words separates false (at + 1) cs
    else words separates false (at + 1) cs)

-- ---- faults

infixl 10 ◌>>=◌
-- the second where the first has no fault
abbrev pub ◌>>=◌ : {A B : Type 0} → Result A TextFault → (A → Result B TextFault) → Result B TextFault
(Ok a) >>= f = f a
(Err e) >>= f = Err e

-- a fault where a test fails
abbrev pub unless : Bool → TextFault → Result Bool TextFault
unless true e = Ok true
unless false e = Err e

-- ---- what was stated

-- what the items so far state
pub record Sofar : Type 0 where
  pub parts : List Part
  pub table : Option ℕ
  pub priority : Option ℕ
  pub cookie : Option ℕ

abbrev pub nothing_stated : Sofar
nothing_stated = record { parts = []; table = None; priority = None; cookie = None }

-- an item on the identifier of a tag and one on its priority
abbrev pub are_of_one_tag : TagPart → TagPart → Bool
are_of_one_tag tag.Identifier tag.Priority = true
are_of_one_tag tag.Priority tag.Identifier = true
are_of_one_tag _ _ = false

-- whether what two parts both state is no more than that there is a tag, or that there is none
abbrev pub share_tag_bit : Part → Part → Bool
share_tag_bit a b =
    are_of_one_tag a.tag b.tag && ((bit_and a.mask b.mask == tag_bit) && (bit_and a.value tag_bit == bit_and b.value tag_bit))

-- whether two parts state a bit both
abbrev pub repeats : Part → Part → Bool
repeats a b =
    (place_of a.field == place_of b.field) && (not (bit_and a.mask b.mask == 0) && not (share_tag_bit a b))

-- bits that no earlier item has stated
unfoldable pub with_part : ℕ → Part → Sofar → Result Sofar TextFault
with_part col p s = if list_any (repeats p) s.parts then Err (fault.Repeated col) else Ok (record s { parts = s.parts ++ p ∷ [] })

abbrev pub with_protocol : ℕ → Option ℕ → Sofar → Result Sofar TextFault
with_protocol col None s = Ok s
with_protocol col (Some n) s = with_part col (protocol_part n) s

-- a shorthand states a type, and a protocol where it has one
unfoldable pub with_shorthand : ℕ → Shorthand → Sofar → Result Sofar TextFault
with_shorthand col h s = with_part col (type_part (type_stated h)) s >>= with_protocol col (protocol_stated h)

-- ---- items

abbrev pub greatest_cookie : ℕ
greatest_cookie = all_bits 64

abbrev pub last_priority : ℕ
last_priority = 65535

-- a value stands there
abbrev pub given : ℕ → List ℕ → Result Bool TextFault
given col value = unless (not (length value == 0)) (fault.Syntax col)

-- a number of at most so much, which no earlier item has given
unfoldable pub number_once : ℕ → ℕ → Option ℕ → ℕ → List ℕ → Result ℕ TextFault
number_once col value_col before most value = do
  fresh ← unless (not (is_some before)) (fault.Repeated col)
  there ← given col value
  ok_or (number_upto most value) (fault.BadValue value_col)

abbrev pub deletes : EditWord → Bool
deletes Delete = true
deletes DeleteStrict = true
deletes word = false

-- a cookie stands whole, and picks no rules to delete
abbrev pub is_plain_cookie : EditWord → List ℕ → Bool
is_plain_cookie word value = not (deletes word) && not (list_any (λ c. c == slash) value)

-- bits that a value states, where it is one
abbrev pub with_value : ℕ → ℕ → Option Part → Sofar → Result Sofar TextFault
with_value col value_col None s = Err (fault.BadValue value_col)
with_value col value_col (Some p) s = with_part col p s

-- what is stated with an item of this name and value
unfoldable pub with_valued : EditWord → ℕ → ℕ → Option ItemName → List ℕ → Sofar → Result Sofar TextFault
with_valued word col value_col None value s = Err (fault.UnknownName col)
with_valued word col value_col (Some item.Unsupported) value s = Err (fault.Unsupported col)
with_valued word col value_col (Some (item.Shorthand h)) value s = Err (fault.Syntax col)
with_valued word col value_col (Some item.Actions) value s = Err (fault.Syntax col)
with_valued word col value_col (Some (item.Field f)) value s = given col value >>= (λ there. with_value col value_col (field_stated f value) s)
with_valued word col value_col (Some item.DlVlan) value s = given col value >>= (λ there. with_value col value_col (vlan_stated value) s)
with_valued word col value_col (Some item.Statistic) value s = given col value >>= (λ there. Ok s)
with_valued word col value_col (Some item.Table) value s =
    number_once col value_col s.table last_table value >>= (λ n. Ok (record s { table = Some n }))
with_valued word col value_col (Some item.Priority) value s =
    number_once col value_col s.priority last_priority value >>= (λ n. Ok (record s { priority = Some n }))
with_valued word col value_col (Some item.Cookie) value s = do
  plain ← unless (is_plain_cookie word value) (fault.Unsupported col)
  n ← number_once col value_col s.cookie greatest_cookie value
  Ok (record s { cookie = Some n })

-- and with one that is a name alone
unfoldable pub with_bare : EditWord → ℕ → Option ItemName → Sofar → Result Sofar TextFault
with_bare word col (Some (item.Shorthand h)) s = with_shorthand col h s
with_bare word col name s = with_valued word col col name [] s

-- one item
abbrev pub with_cut : EditWord → ℕ → List ℕ → Option (List ℕ × List ℕ) → Sofar → Result Sofar TextFault
with_cut word col text None s = with_bare word col (item_named text) s
with_cut word col text (Some parts) s = with_valued word col (col + length parts.0 + 1) (item_named parts.0) parts.1 s

unfoldable pub with_item : EditWord → Word → Sofar → Result Sofar TextFault
with_item word w s = with_cut word (column w) w.text (split_once equals_sign w.text) s

-- ---- all items

-- where the list of actions begins, counted from 0, at a word that begins it
abbrev pub list_start : Word → Option ℕ
list_start w =
    option_map (λ rest. w.at + length w.text - length rest)
    (option_or (strip_prefix (codes "actions=") w.text) (strip_prefix (codes "action=") w.text))

-- what the items before the action list state, and the column of that list's name and where it begins, if there is one
pub record Stated : Type 0 where
  pub sofar : Sofar
  pub list : Option (ℕ × ℕ)

abbrev pub at_word : Word → Option ℕ → Sofar → Result Stated TextFault → Result Stated TextFault
at_word w None s later = later
at_word w (Some rest) s later = Ok (record { sofar = s; list = Some (column w, rest) })

-- the items one after the other, up to the action list
unfoldable pub read_items : EditWord → List Word → Sofar → Result Stated TextFault
read_items word [] s = Ok (record { sofar = s; list = None })
read_items word (w ∷ ws) s = at_word w (list_start w) s (with_item word w s >>= read_items word ws)
