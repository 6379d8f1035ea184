-- A list of actions (ovs-actions(7)): its items, one after the other, and the first fault. Of an item its name is tested
-- first, then that its brackets close, then that its parts stand where they belong, then the names of fields, and last
-- its values, each from left to right.
use Rattle.std.specs.Prelude.{ℕ, ◌+◌, ◌-◌, ◌*◌, ◌^◌, ◌==◌, nat_lt, nat_eq, Bool, true, false, not, ◌&&◌, ◌||◌, if◌then◌else◌, List, [], ◌∷◌, ◌++◌, length, take, drop, fold, Option, Some, None, Result, Ok, Err, bit_and}
use Rattle.std.specs.List.{take_while, starts_with, slice_split}
use Rattle.std.specs.Option.{ok_or, option_map, option_and_then}
use Rattle.spec_base.specs.Bits.{all_bits}
use Rattle.spec_keys.specs.Protocols.{tag_bit, is_tag_type}
use Rattle.spec_actions.specs.declared.named_field.NamedField.{NamedField}
use Rattle.spec_actions.specs.declared.named_field.NamedField.TheVariants as field
use Rattle.spec_actions.specs.declared.action.Slice.{Slice}
use Rattle.spec_actions.specs.declared.action.OfAction.{OfAction}
use Rattle.spec_actions.specs.declared.action.OfAction.TheVariants.{Output, OutputField, InPort, All, Flood, Resubmit, Goto, Set, Move, DecTtl, PushVlan, PopVlan, SetVid, SetPcp}
use Rattle.spec_actions.specs.Named.{named}
use Rattle.spec_actions.specs.Sound.{is_written, is_sound_slice, last_table, last_vid, last_pcp}
use Rattle.spec_flow_text.specs.Characters.{comma, dot, colon, hyphen, greater_than, left_parenthesis, right_parenthesis, left_bracket, right_bracket}
use Rattle.spec_flow_text.specs.Numbers.{where_found, split_once, strip_prefix, number_upto, last_port, nonzero}
use Rattle.spec_flow_text.specs.declared.names.ActionName.{ActionName}
use Rattle.spec_flow_text.specs.declared.names.ActionName.TheVariants as action
use Rattle.spec_flow_text.specs.declared.fault.TextFault.{TextFault}
use Rattle.spec_flow_text.specs.declared.fault.TextFault.TheVariants as fault
use Rattle.spec_flow_text.specs.Names.{field_named, action_named, reserved_port_named, begins_with_digit, is_left_out_as_field}
use Rattle.spec_flow_text.specs.Values.{Bits, value_of, whole_value}
use Rattle.spec_flow_text.specs.Items.{◌>>=◌, Word, column, is_separator, unless}
use Rattle.spec_flow_text.specs.Matches.{uncommented, ascii_from}

-- ---- items

-- the bracket that closes one, where a byte opens one
abbrev pub closing : ℕ → Option ℕ
closing c = if c == left_parenthesis then Some right_parenthesis else (if c == left_bracket then Some right_bracket else None)

abbrev pub opened_by : ℕ → List ℕ → List ℕ
opened_by c brackets = where_found (closing c) (λ close. close ∷ brackets) brackets

-- the brackets that are open after a byte: those that close them, the innermost first. One that closes none is a byte
-- like others.
abbrev pub open_after : List ℕ → ℕ → List ℕ
open_after [] c = opened_by c []
open_after (close ∷ outer) c = if c == close then outer else opened_by c (close ∷ outer)

-- a separator outside of brackets parts two items
abbrev pub ends_item : List ℕ → ℕ → Bool
ends_item [] c = is_separator c
ends_item (close ∷ outer) c = false

-- the bytes of an item, with these brackets open
unfoldable pub up_to_end : List ℕ → List ℕ → List ℕ
up_to_end brackets [] = []
up_to_end brackets (c ∷ cs) = if ends_item brackets c then [] else c ∷ up_to_end (open_after brackets c) cs

-- the items of a text that begins at this place of its line
unfoldable pub items : List ℕ → Bool → ℕ → List ℕ → List Word
items brackets fresh at [] = []
items brackets fresh at (c ∷ cs) =
    if ends_item brackets c then items [] true (at + 1) cs
    else (if fresh then record { at = at; text = up_to_end brackets (c ∷ cs) } ∷ items (open_after brackets c) false (at + 1) cs
    else items (open_after brackets c) false (at + 1) cs)

-- whether all brackets of an item close
unfoldable pub is_closed : List ℕ → Bool
is_closed text = length (fold open_after [] text) == 0

-- ---- parts of an item

-- the name of an action ends at a colon or a bracket
abbrev pub ends_name : ℕ → Bool
ends_name c = (c == colon) || (c == left_parenthesis)

abbrev pub name_in : Word → List ℕ
name_in w = take_while (λ c. not (ends_name c)) w.text

-- a word without so many bytes at its start
abbrev pub skipping : ℕ → Word → Word
skipping n w = record { at = w.at + n; text = drop n w.text }

abbrev pub after_name : Word → Word
after_name w = skipping (length (name_in w)) w

-- a word with text in it
abbrev pub filled : Word → Option Word
filled w = if length w.text == 0 then None else Some w

-- what stands after the name and a colon
unfoldable pub argument_of : Word → Option Word
argument_of w = if starts_with nat_eq (after_name w).text (colon ∷ []) then filled (skipping 1 (after_name w)) else None

-- a value has to be there
abbrev pub argument : Word → Result Word TextFault
argument w = ok_or (argument_of w) (fault.Syntax (column w))

-- none may be there
abbrev pub alone : {A : Type 0} → Word → A → Result A TextFault
alone w a = if length (after_name w).text == 0 then Ok a else Err (fault.Syntax (column w))

abbrev pub arrow : List ℕ
arrow = hyphen ∷ greater_than ∷ []

-- the place of the first arrow in a text
unfoldable pub arrow_place : List ℕ → Option ℕ
arrow_place [] = None
arrow_place (c ∷ cs) = if starts_with nat_eq (c ∷ cs) arrow then Some 0 else option_map (λ i. i + 1) (arrow_place cs)

abbrev pub before_place : ℕ → Word → Word
before_place n w = record { at = w.at; text = take n w.text }

-- the parts of a word round its first arrow, both with text in them
unfoldable pub ends_of_arrow : Word → Option (Word × Word)
ends_of_arrow w =
    option_and_then (λ i. option_and_then (λ source. option_map (λ target. (source, target)) (filled (skipping (i + 2) w)))
    (filled (before_place i w)))
    (arrow_place w.text)

-- the value of an item, with an arrow in it
unfoldable pub arrow_argument : Word → Result (Word × Word) TextFault
arrow_argument w = argument w >>= (λ a. ok_or (ends_of_arrow a) (fault.Syntax (column w)))

-- ---- fields

abbrev pub no_field : Word → Word → TextFault
no_field w name = if is_left_out_as_field name.text then fault.Unsupported (column w) else fault.UnknownName (column name)

-- the field of a name in an item
unfoldable pub field_in : Word → Word → Result NamedField TextFault
field_in w name = ok_or (field_named name.text) (no_field w name)

-- and one that can be written
unfoldable pub written_field : Word → Word → Result NamedField TextFault
written_field w name = field_in w name >>= (λ f. if is_written f then Ok f else Err (fault.Unsupported (column w)))

-- the name of a slice stands before its bracket
abbrev pub slice_name : Word → Word
slice_name w = before_place (length (take_while (λ c. not (c == left_bracket)) w.text)) w

-- ---- values

abbrev pub value_or_fault : {A : Type 0} → Word → Option A → Result A TextFault
value_or_fault w o = ok_or o (fault.BadValue (column w))

-- the greatest number of the flow text, which has 128 bits
abbrev pub greatest_number : ℕ
greatest_number = all_bits 128

abbrev pub slice : NamedField → ℕ → ℕ → Slice
slice f low high = record { name = f; low = low; high = high }

abbrev pub whole_slice : NamedField → Slice
whole_slice f = slice f 0 ((named f).bits - 1)

-- the number of a bit in a slice
abbrev pub bit_number : List ℕ → Option ℕ
bit_number text = number_upto greatest_number text

-- `a..b` of a slice
unfoldable pub bits_between : NamedField → List ℕ × List ℕ → Option Slice
bits_between f parts =
    option_and_then (λ low. option_and_then (λ upper. option_map (slice f low) (bit_number upper)) (strip_prefix (dot ∷ []) parts.1))
    (bit_number parts.0)

-- what stands between the brackets of a slice
unfoldable pub bits_in : NamedField → List ℕ → Option Slice
bits_in f [] = Some (whole_slice f)
bits_in f (c ∷ cs) = where_found (split_once dot (c ∷ cs)) (bits_between f) (option_map (λ n. slice f n n) (bit_number (c ∷ cs)))

-- the brackets close at the end of the slice
abbrev pub bracketed : NamedField → List ℕ × List ℕ → Option Slice
bracketed f parts = if length parts.1 == 0 then bits_in f parts.0 else None

abbrev pub sound_slice : Slice → Option Slice
sound_slice s = if is_sound_slice s then Some s else None

-- what stands after the name of a slice: nothing, or brackets
unfoldable pub slice_after : NamedField → List ℕ → Option Slice
slice_after f [] = Some (whole_slice f)
slice_after f (c ∷ cs) = option_and_then sound_slice (option_and_then (bracketed f) (split_once right_bracket cs))

-- the slice of a word that begins with the name of a field
unfoldable pub slice_of : NamedField → Word → Result Slice TextFault
slice_of f w = value_or_fault w (slice_after f (drop (length (slice_name w).text) w.text))

abbrev pub slice_width : Slice → ℕ
slice_width s = s.high - s.low + 1

-- ---- actions

-- a write of a number to all bits of a slice
abbrev pub load_of : Slice → ℕ → OfAction
load_of s n = Set s.name (n * 2 ^ s.low) (all_bits (slice_width s) * 2 ^ s.low)

unfoldable pub port_of : List ℕ → Option OfAction
port_of text = option_map (λ n. Output n) (option_and_then nonzero (number_upto last_port text))

unfoldable pub load : Word → Result OfAction TextFault
load w = do
  ends ← arrow_argument w
  f ← written_field w (slice_name ends.1)
  n ← value_or_fault ends.0 (number_upto greatest_number ends.0.text)
  s ← slice_of f ends.1
  fits ← unless (nat_lt n (2 ^ slice_width s)) (fault.BadValue (column ends.0))
  Ok (load_of s n)

-- a write of the VLAN identifier says that there is a tag (ovs-fields(7), vlan_vid)
abbrev pub has_tag_bit : NamedField → Bits → Bool
has_tag_bit field.VlanVid b = bit_and b.value tag_bit == tag_bit
has_tag_bit f b = true

abbrev pub set_of : NamedField → Bits → OfAction
set_of f b = Set f (bit_and b.value b.mask) b.mask

unfoldable pub set_field : Word → Result OfAction TextFault
set_field w = do
  ends ← arrow_argument w
  f ← written_field w ends.1
  b ← value_or_fault ends.0 (value_of f ends.0.text)
  tagged ← unless (has_tag_bit f b) (fault.BadValue (column ends.0))
  Ok (set_of f b)

unfoldable pub move : Word → Result OfAction TextFault
move w = do
  ends ← arrow_argument w
  f ← field_in w (slice_name ends.0)
  g ← written_field w (slice_name ends.1)
  source ← slice_of f ends.0
  target ← slice_of g ends.1
  equal ← unless (slice_width source == slice_width target) (fault.BadValue (column ends.1))
  Ok (Move source target)

unfoldable pub modify : NamedField → Word → Result OfAction TextFault
modify f w = argument w >>= (λ a. value_or_fault a (option_map (set_of f) (whole_value f a.text)))

unfoldable pub number_argument : ℕ → Word → Result ℕ TextFault
number_argument most w = argument w >>= (λ a. value_or_fault a (number_upto most a.text))

-- the type of a VLAN tag: a customer's or a service provider's
abbrev pub tag_type : ℕ → Option ℕ
tag_type number = if is_tag_type number then Some number else None

unfoldable pub push_vlan : Word → Result OfAction TextFault
push_vlan w = do
  a ← argument w
  value_or_fault a (option_map (λ tpid. PushVlan tpid) (option_and_then tag_type (number_upto (all_bits 16) a.text)))

-- the port of an output: a number, a reserved port, or the bits of a field
abbrev pub reserved : ActionName → OfAction
reserved action.All = All
reserved action.Flood = Flood
reserved _ = InPort

abbrev pub output_field : Word → Word → Result OfAction TextFault
output_field w a = field_in w (slice_name a) >>= (λ f. slice_of f a >>= (λ s. Ok (OutputField s)))

abbrev pub output_to : Word → Word → Result OfAction TextFault
output_to w a =
    if begins_with_digit a.text then value_or_fault a (port_of a.text)
    else where_found (reserved_port_named a.text) (λ name. Ok (reserved name)) (output_field w a)

unfoldable pub output : Word → Result OfAction TextFault
output w = argument w >>= output_to w

-- ---- resubmit

-- `(,TABLE)`: no port, and no third argument
abbrev pub table_of_arguments : Word → Word → List (List ℕ) → Result OfAction TextFault
table_of_arguments w inside ([] ∷ []) = Err (fault.Syntax (column w))
table_of_arguments w inside ([] ∷ [] ∷ []) = Err (fault.Syntax (column w))
table_of_arguments w inside ([] ∷ table ∷ []) =
    value_or_fault (skipping 1 inside) (option_map (λ n. Resubmit n) (number_upto last_table table))
table_of_arguments w inside arguments = Err (fault.Unsupported (column w))

-- what stands between the brackets of an item, which the closing one ends
abbrev pub inside_of : Word → List ℕ × List ℕ → Option Word
inside_of w parts = if length parts.1 == 0 then Some (record { at = w.at + 1; text = parts.0 }) else None

unfoldable pub inside_brackets : Word → Option Word
inside_brackets w =
    option_and_then (λ rest. option_and_then (inside_of w) (split_once right_parenthesis rest)) (strip_prefix (left_parenthesis ∷ []) w.text)

abbrev pub with_port : Word → Option Word → TextFault
with_port w None = fault.Syntax (column w)
with_port w (Some port) = fault.Unsupported (column w)

unfoldable pub resubmit : Word → Result OfAction TextFault
resubmit w =
    where_found (inside_brackets (after_name w))
    (λ inside. table_of_arguments w inside (slice_split (λ c. c == comma) inside.text))
    (Err (with_port w (argument_of w)))

-- ---- lists

-- the most actions of a flow
abbrev pub most_actions : ℕ
most_actions = 64

abbrev pub one : Result OfAction TextFault → Result (List OfAction) TextFault
one r = r >>= (λ a. Ok (a ∷ []))

-- `drop` is the list without actions, and stands alone
unfoldable pub drop_item : Bool → Word → Result (List OfAction) TextFault
drop_item only w = if only then alone w [] else Err (fault.Syntax (column w))

-- nothing stands after `goto_table`
unfoldable pub goto_item : Bool → Word → Result OfAction TextFault
goto_item last w = number_argument last_table w >>= (λ n. if last then Ok (Goto n) else Err (fault.Syntax (column w)))

-- the actions of a closed item of this name: that it is the only one, or the last one, counts for some
abbrev pub actions_named : ActionName → Bool → Bool → Word → Result (List OfAction) TextFault
actions_named action.Port only last w = one (value_or_fault w (port_of w.text))
actions_named action.Output only last w = one (output w)
actions_named action.InPort only last w = one (alone w InPort)
actions_named action.All only last w = one (alone w All)
actions_named action.Flood only last w = one (alone w Flood)
actions_named action.Drop only last w = drop_item only w
actions_named action.Resubmit only last w = one (resubmit w)
actions_named action.GotoTable only last w = one (goto_item last w)
actions_named action.Load only last w = one (load w)
actions_named action.SetField only last w = one (set_field w)
actions_named action.Move only last w = one (move w)
actions_named (action.Mod f) only last w = one (modify f w)
actions_named action.ModVlanVid only last w = one (number_argument last_vid w >>= (λ n. Ok (SetVid n)))
actions_named action.ModVlanPcp only last w = one (number_argument last_pcp w >>= (λ n. Ok (SetPcp n)))
actions_named action.DecTtl only last w = one (alone w DecTtl)
actions_named action.PushVlan only last w = one (push_vlan w)
actions_named action.PopVlan only last w = one (alone w PopVlan)
actions_named action.Unsupported only last w = Err (fault.Unsupported (column w))

abbrev pub closed_item : Word → ActionName → Bool → Bool → Result (List OfAction) TextFault
closed_item w action.Unsupported only last = Err (fault.Unsupported (column w))
closed_item w name only last = if is_closed w.text then actions_named name only last w else Err (fault.Syntax (column w))

-- an item
unfoldable pub actions_of_item : Bool → Bool → Word → Result (List OfAction) TextFault
actions_of_item only last w = where_found (action_named (name_in w)) (λ name. closed_item w name only last) (Err (fault.UnknownName (column w)))

-- whether there are no words
abbrev pub is_last : List Word → Bool
is_last ws = length ws == 0

-- the items one after the other
unfoldable pub read_items : List OfAction → List Word → Result (List OfAction) TextFault
read_items before [] = Ok before
read_items before (w ∷ ws) =
    if length before == most_actions then Err fault.TooManyActions
    else actions_of_item ((length before == 0) && is_last ws) (is_last ws) w >>= (λ actions. read_items (before ++ actions) ws)

-- the list of actions from a place of a line on
unfoldable pub read_actions : ℕ → List ℕ → Result (List OfAction) TextFault
read_actions at line = ascii_from at (uncommented line) >>= (λ text. read_items [] (items [] true at text))

-- ---- what can be spelled again

-- whether a write can be spelled by a value of its field: its bits are all, or a mask can name them, and a VLAN has its tag
abbrev pub is_respellable : OfAction → Bool
is_respellable (Set f value mask) =
    ((named f).maskable || (mask == all_bits (named f).bits)) && has_tag_bit f (record { value = value; mask = mask })
is_respellable a = true
