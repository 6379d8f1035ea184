-- Items of a match state parts, whatever was stated besides: a table, a priority, a cookie.
use Rattle.std.proofs.Common.{◌≡◌, ℕ, ◌+◌, Bool, true, false, if◌then◌else◌, List, [], ◌∷◌, ◌++◌, length, ap, Option, Some, None, Ok, Err}
use Rattle.std.specs.Prelude.{Result}
use Rattle.std.specs.List.{list_any}
use Rattle.spec_tables.specs.declared.edit_word.EditWord.{EditWord}
use Rattle.spec_flow_text.specs.Characters.{equals_sign}
use Rattle.spec_flow_text.specs.Numbers.{split_once}
use Rattle.spec_flow_text.specs.declared.names.ItemName.{ItemName}
use Rattle.spec_flow_text.specs.declared.names.ItemName.TheVariants as item
use Rattle.spec_flow_text.specs.declared.shorthand.Shorthand.{Shorthand}
use Rattle.spec_flow_text.specs.declared.part.Part.{Part}
use Rattle.spec_flow_text.specs.declared.fault.TextFault.{TextFault}
use Rattle.spec_flow_text.specs.declared.fault.TextFault.TheVariants as fault
use Rattle.spec_flow_text.specs.Names.{item_named, type_stated, protocol_stated}
use Rattle.spec_flow_text.specs.Values.{field_stated, vlan_stated, type_part, protocol_part}
use Rattle.spec_flow_text.specs.Items.{◌>>=◌, Word, Sofar, column, repeats, with_part, with_protocol, with_shorthand, given, with_value, with_valued, with_bare, with_cut, with_item}
use Rattle.text_laws.proofs.matches.ItemsBack.{holding}

-- the same with these parts
abbrev pub framed : Sofar → List Part → Sofar
framed s ps = record s { parts = ps }

-- a step that states parts, where nothing else is stated, states them whatever is
abbrev pub Frames : (Sofar → Result Sofar TextFault) → Type 0
Frames step = (before after : List Part) → step (holding before) ≡ Ok (holding after) → (s : Sofar) → step (framed s before) ≡ Ok (framed s after)

abbrev said : Sofar → Result Sofar TextFault
said s = Ok s

same_parts : (a b : List Part) → said (holding a) ≡ said (holding b) → a ≡ b
same_parts a b h = let e : holding a ≡ holding b = cc h in ap (λ (s : Sofar). s.parts) e

-- ---- parts

part_framed : (col : ℕ) (p : Part) → Frames (with_part col p)
unfolding with_part
part_framed col p before after h s = at (list_any (repeats p) before) h
  where
    at : (t : Bool) → (if t then Err (fault.Repeated col) else Ok (holding (before ++ p ∷ []))) ≡ Ok (holding after)
        → (if t then Err (fault.Repeated col) else Ok (framed s (before ++ p ∷ []))) ≡ Ok (framed s after)
    at true h = cc h
    at false h = ap (λ ps. said (framed s ps)) (same_parts _ _ h)

value_framed : (col value_col : ℕ) (o : Option Part) → Frames (with_value col value_col o)
value_framed col value_col None before after h s = cc h
value_framed col value_col (Some p) before after h s = part_framed col p before after h s

protocol_framed : (col : ℕ) (o : Option ℕ) → Frames (with_protocol col o)
protocol_framed col None before after h s = ap (λ ps. said (framed s ps)) (same_parts _ _ h)
protocol_framed col (Some n) before after h s = part_framed col (protocol_part n) before after h s

short_framed : (col : ℕ) (h : Shorthand) → Frames (with_shorthand col h)
unfolding with_shorthand with_part
short_framed col short before after h s = at (list_any (repeats p) before) h
  where
    p : Part
    p = type_part (type_stated short)

    at : (t : Bool)
        → (if t then Err (fault.Repeated col) else Ok (holding (before ++ type_part (type_stated short) ∷ []))) >>= with_protocol col (protocol_stated short) ≡ Ok (holding after)
        → (if t then Err (fault.Repeated col) else Ok (framed s (before ++ type_part (type_stated short) ∷ []))) >>= with_protocol col (protocol_stated short) ≡ Ok (framed s after)
    at true h = cc h
    at false h = protocol_framed col (protocol_stated short) (before ++ type_part (type_stated short) ∷ []) after h s

-- ---- items

-- after a test that passes
checked : {A : Type 0} (o : Result A TextFault) (step : Sofar → Result Sofar TextFault) → Frames step → Frames (λ s. o >>= (λ a. step s))
checked (Ok a) step f before after h s = f before after h s
checked (Err e) step f before after h s = cc h

same_framed : Frames (λ s. Ok s)
same_framed before after h s = ap (λ ps. said (framed s ps)) (same_parts _ _ h)

-- a number that is stated is another thing than parts
no_table : (before after : List Part) (o : Result ℕ TextFault) → o >>= (λ n. Ok (record (holding before) { table = Some n })) ≡ Ok (holding after) → ⊥
no_table before after (Ok n) h = let e : record (holding before) { table = Some n } ≡ holding after = cc h in cc (ap (λ (s : Sofar). s.table) e)
no_table before after (Err e) h = cc h

no_priority : (before after : List Part) (o : Result ℕ TextFault) → o >>= (λ n. Ok (record (holding before) { priority = Some n })) ≡ Ok (holding after) → ⊥
no_priority before after (Ok n) h = let e : record (holding before) { priority = Some n } ≡ holding after = cc h in cc (ap (λ (s : Sofar). s.priority) e)
no_priority before after (Err e) h = cc h

no_cookie : (before after : List Part) (plain : Result Bool TextFault) (o : Result ℕ TextFault)
    → plain >>= (λ p. o >>= (λ n. Ok (record (holding before) { cookie = Some n }))) ≡ Ok (holding after) → ⊥
no_cookie before after (Ok p) (Ok n) h = let e : record (holding before) { cookie = Some n } ≡ holding after = cc h in cc (ap (λ (s : Sofar). s.cookie) e)
no_cookie before after (Ok p) (Err e) h = cc h
no_cookie before after (Err e) o h = cc h

valued_framed : (word : EditWord) (col value_col : ℕ) (name : Option ItemName) (value : List ℕ) → Frames (with_valued word col value_col name value)
unfolding with_valued
valued_framed word col value_col None value before after h s = cc h
valued_framed word col value_col (Some item.Unsupported) value before after h s = cc h
valued_framed word col value_col (Some (item.Shorthand short)) value before after h s = cc h
valued_framed word col value_col (Some item.Actions) value before after h s = cc h
valued_framed word col value_col (Some (item.Field f)) value before after h s =
    checked (given col value) (with_value col value_col (field_stated f value)) (value_framed col value_col (field_stated f value)) before after h s
valued_framed word col value_col (Some item.DlVlan) value before after h s =
    checked (given col value) (with_value col value_col (vlan_stated value)) (value_framed col value_col (vlan_stated value)) before after h s
valued_framed word col value_col (Some item.Statistic) value before after h s =
    checked (given col value) (λ x. Ok x) same_framed before after h s
valued_framed word col value_col (Some item.Table) value before after h s = absurd (no_table before after _ h)
valued_framed word col value_col (Some item.Priority) value before after h s = absurd (no_priority before after _ h)
valued_framed word col value_col (Some item.Cookie) value before after h s = absurd (no_cookie before after _ _ h)

bare_framed : (word : EditWord) (col : ℕ) (name : Option ItemName) → Frames (with_bare word col name)
unfolding with_bare
bare_framed word col None before after h s = valued_framed word col col None [] before after h s
bare_framed word col (Some (item.Shorthand short)) before after h s = short_framed col short before after h s
bare_framed word col (Some name) before after h s = valued_framed word col col (Some name) [] before after h s

cut_framed : (word : EditWord) (col : ℕ) (text : List ℕ) (o : Option (List ℕ × List ℕ)) → Frames (with_cut word col text o)
cut_framed word col text None before after h s = bare_framed word col (item_named text) before after h s
cut_framed word col text (Some parts) before after h s =
    valued_framed word col (col + length parts.0 + 1) (item_named parts.0) parts.1 before after h s

pub item_framed : (word : EditWord) (w : Word) → Frames (with_item word w)
unfolding with_item
item_framed word w before after h s = cut_framed word (column w) w.text (split_once equals_sign w.text) before after h s
