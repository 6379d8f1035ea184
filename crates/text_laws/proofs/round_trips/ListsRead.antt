-- A list of actions that is read can be spelled, but for writes whose bits no value names.
use Rattle.std.proofs.Common.{◌≡◌, ℕ, ◌+◌, ◌≤◌, ◌⊎◌, inl, inr, Bool, true, false, cond, List, [], ◌∷◌, ◌++◌, length, refl, sym, subst, ◌∙◌, arith, append-nil, length-append, Option, Some, None, Result, Ok, Err, le-leb}
use Rattle.std.specs.Prelude.{◌&&◌, ◌==◌, not, bytes_eq}
use Rattle.std.specs.List.{list_all, find}
use Rattle.std.specs.Option.{option_map, option_or}
use Rattle.std.proofs.lemmas.Bool.{and_parts, and_from, both_ways}
use Rattle.std.proofs.lemmas.Bool.Decides.{nat_tests}
use Rattle.std.proofs.lemmas.List.Folds.{list_all-append}
use Rattle.spec_actions.specs.declared.action.OfAction.{OfAction}
use Rattle.spec_actions.specs.declared.action.OfAction.TheVariants.{InPort, All, Flood, DecTtl, PopVlan, SetVid, SetPcp}
use Rattle.spec_actions.specs.Sound.{is_written, last_vid, last_pcp}
use Rattle.spec_flow_text.specs.Numbers.{where_found}
use Rattle.spec_flow_text.specs.declared.names.ActionName.{ActionName}
use Rattle.spec_flow_text.specs.declared.names.ActionName.TheVariants as action
use Rattle.spec_flow_text.specs.declared.fault.TextFault.{TextFault}
use Rattle.spec_flow_text.specs.declared.fault.TextFault.TheVariants as fault
use Rattle.spec_flow_text.specs.Names.{meaning_of, actions_by_name, reserved_ports, in_upper_case, reserved_port_named, action_left_out, is_action_left_out, begins_with_digit, action_named}
use Rattle.spec_flow_text.specs.Items.{◌>>=◌, Word, column}
use Rattle.spec_flow_text.specs.Matches.{uncommented, ascii_from}
use Rattle.spec_flow_text.specs.Actions.{items, name_in, after_name, alone, value_or_fault, port_of, output, resubmit, load, set_field, move, modify, push_vlan, number_argument, is_respellable, most_actions, one, drop_item, goto_item, actions_named, closed_item, actions_of_item, is_closed, is_last, read_items, read_actions}
use Rattle.text_laws.specs.Spelled.{is_spellable, is_goto, has_goto_last, are_spellable}
use Rattle.text_laws.proofs.round_trips.PartsRead.{ReadRanges}
use Rattle.text_laws.proofs.round_trips.LinesRead.{ok_chained}
use Rattle.text_laws.proofs.round_trips.ActionsRead.{well_made, no_goto, MakesWell, port_item_made, vid_made, pcp_made, goto_made, resubmit_made, set_field_made, modify_made, load_made, move_made, output_made, push_made, alone_made}

-- ---- names

-- a name that writes a field writes one that can be written
abbrev writes_well : ActionName → Bool
writes_well (action.Mod f) = is_written f
writes_well name = true

found_passes : {A : Type 0} (p q : A → Bool) (rows : List A) (row : A) → list_all q rows ≡ true → find p rows ≡ Some row → q row ≡ true
found_passes p q [] row all h = cc
found_passes p q (r ∷ rs) row all h =
    let k = and_parts (q r) (list_all q rs) all in
    by_test (p r) k.0 (found_passes p q rs row k.1) h
  where
    by_test : (t : Bool) → q r ≡ true → (find p rs ≡ Some row → q row ≡ true) → cond t (Some r) (find p rs) ≡ Some row → q row ≡ true
    by_test true here rest h = let same : r ≡ row = cc in subst (λ x. q x ≡ true) same here
    by_test false here rest h = rest h

meaning_passes : (table : List (List ℕ × ActionName)) (text : List ℕ) (name : ActionName) → list_all (λ row. writes_well row.1) table ≡ true → meaning_of table text ≡ Some name → writes_well name ≡ true
meaning_passes table text name all h = by_row (find (λ row. bytes_eq row.0 text) table) refl h
  where
    by_row : (o : Option (List ℕ × ActionName)) → find (λ row. bytes_eq row.0 text) table ≡ o → option_map (λ row. row.1) o ≡ Some name → writes_well name ≡ true
    by_row None e h = cc
    by_row (Some row) e h =
        let same : row.1 ≡ name = cc in
        subst (λ x. writes_well x ≡ true) same (found_passes (λ r. bytes_eq r.0 text) (λ r. writes_well r.1) table row all e)

first_or : (o u : Option ActionName) (name : ActionName) → (o ≡ Some name → writes_well name ≡ true) → (u ≡ Some name → writes_well name ≡ true) → option_or o u ≡ Some name → writes_well name ≡ true
first_or None u name f g h = g h
first_or (Some x) u name f g h = f h

left_out_passes : (t : Bool) (name : ActionName) → action_left_out t ≡ Some name → writes_well name ≡ true
left_out_passes true name h = let same : action.Unsupported ≡ name = cc in subst (λ x. writes_well x ≡ true) same refl
left_out_passes false name h = cc

name_writes : (text : List ℕ) (name : ActionName) → action_named text ≡ Some name → writes_well name ≡ true
unfolding action_named reserved_port_named
name_writes text name h = by_test (begins_with_digit text) h
  where
    reserved_name : (name : ActionName) → option_or (meaning_of reserved_ports text) (meaning_of (in_upper_case reserved_ports) text) ≡ Some name → writes_well name ≡ true
    reserved_name name h =
        first_or (meaning_of reserved_ports text) (meaning_of (in_upper_case reserved_ports) text) name (meaning_passes reserved_ports text name refl) (meaning_passes (in_upper_case reserved_ports) text name refl) h

    by_test : (t : Bool) → cond t (Some action.Port) (option_or (option_or (meaning_of reserved_ports text) (meaning_of (in_upper_case reserved_ports) text)) (option_or (meaning_of actions_by_name text) (action_left_out (is_action_left_out text)))) ≡ Some name → writes_well name ≡ true
    by_test true h = let same : action.Port ≡ name = cc in subst (λ x. writes_well x ≡ true) same refl
    by_test false h =
        first_or (option_or (meaning_of reserved_ports text) (meaning_of (in_upper_case reserved_ports) text)) (option_or (meaning_of actions_by_name text) (action_left_out (is_action_left_out text))) name (reserved_name name) (λ g. first_or (meaning_of actions_by_name text) (action_left_out (is_action_left_out text)) name (meaning_passes actions_by_name text name refl) (left_out_passes (is_action_left_out text) name) g) h

-- ---- items

-- an action that is read can be spelled where a value can name its bits; a `goto_table` only where nothing stands after it
pub record IsSpelledAgain (last : Bool) (a : OfAction) : Type 0 where
  pub again : is_respellable a ≡ true → is_spellable a ≡ true
  pub goto : is_goto a ≡ true → last ≡ true

-- what an item makes: nothing, or one such action
abbrev pub IsMade : Bool → List OfAction → Type 0
IsMade last actions = (actions ≡ []) ⊎ ((a : OfAction) × (actions ≡ a ∷ []) × IsSpelledAgain last a)

from_one : (r : Result OfAction TextFault) (actions : List OfAction) → one r ≡ Ok actions → (a : OfAction) × (r ≡ Ok a) × (actions ≡ a ∷ [])
from_one (Err e) actions h = cc
from_one (Ok a) actions h = (a, refl, cc)

plain_made : (r : Result OfAction TextFault) (last : Bool) (actions : List OfAction) → MakesWell r → one r ≡ Ok actions → IsMade last actions
plain_made r last actions made h =
    let a = from_one r actions h in
    let well = made a.0 a.1 in
    inr (a.0, a.2, record { again = well_made a.0 well; goto = λ g. absurd (both_ways (is_goto a.0) (no_goto a.0 well) g) })

drop_made : (only last : Bool) (w : Word) (actions : List OfAction) → drop_item only w ≡ Ok actions → IsMade last actions
unfolding drop_item
drop_made true last w actions h = by_test (length (after_name w).text == 0) h
  where
    by_test : (t : Bool) → cond t (Ok []) (Err (fault.Syntax (column w))) ≡ Ok actions → IsMade last actions
    by_test true h = let same : [] ≡ actions = cc in inl (sym same)
    by_test false h = cc
drop_made false last w actions h = cc

named_made : ReadRanges → (name : ActionName) (only last : Bool) (w : Word) (actions : List OfAction) → writes_well name ≡ true → actions_named name only last w ≡ Ok actions → IsMade last actions
named_made r action.Port only last w actions writes h = plain_made (value_or_fault w (port_of w.text)) last actions (port_item_made r w) h
named_made r action.Output only last w actions writes h = plain_made (output w) last actions (output_made r w) h
named_made r action.InPort only last w actions writes h = plain_made (alone w InPort) last actions (alone_made w InPort refl) h
named_made r action.All only last w actions writes h = plain_made (alone w All) last actions (alone_made w All refl) h
named_made r action.Flood only last w actions writes h = plain_made (alone w Flood) last actions (alone_made w Flood refl) h
named_made r action.Drop only last w actions writes h = drop_made only last w actions h
named_made r action.Resubmit only last w actions writes h = plain_made (resubmit w) last actions (resubmit_made r w) h
named_made r action.GotoTable only last w actions writes h =
    let a = from_one (goto_item last w) actions h in
    let k = goto_made r last w a.0 a.1 in
    inr (a.0, a.2, record { again = λ again. k.0; goto = λ g. k.1 })
named_made r action.Load only last w actions writes h = plain_made (load w) last actions (load_made w) h
named_made r action.SetField only last w actions writes h = plain_made (set_field w) last actions (set_field_made r w) h
named_made r action.Move only last w actions writes h = plain_made (move w) last actions (move_made w) h
named_made r (action.Mod f) only last w actions writes h = plain_made (modify f w) last actions (modify_made r f w writes) h
named_made r action.ModVlanVid only last w actions writes h = plain_made (number_argument last_vid w >>= (λ n. Ok (SetVid n))) last actions (vid_made r w) h
named_made r action.ModVlanPcp only last w actions writes h = plain_made (number_argument last_pcp w >>= (λ n. Ok (SetPcp n))) last actions (pcp_made r w) h
named_made r action.DecTtl only last w actions writes h = plain_made (alone w DecTtl) last actions (alone_made w DecTtl refl) h
named_made r action.PushVlan only last w actions writes h = plain_made (push_vlan w) last actions (push_made w) h
named_made r action.PopVlan only last w actions writes h = plain_made (alone w PopVlan) last actions (alone_made w PopVlan refl) h
named_made r action.Unsupported only last w actions writes h = cc

closed_made : ReadRanges → (w : Word) (name : ActionName) (only last : Bool) (actions : List OfAction) → writes_well name ≡ true → closed_item w name only last ≡ Ok actions → IsMade last actions
closed_made r w action.Unsupported only last actions writes h = cc
closed_made r w name only last actions writes h = by_test (is_closed w.text) h
  where
    by_test : (t : Bool) → cond t (actions_named name only last w) (Err (fault.Syntax (column w))) ≡ Ok actions → IsMade last actions
    by_test true h = named_made r name only last w actions writes h
    by_test false h = cc

item_made : ReadRanges → (only last : Bool) (w : Word) (actions : List OfAction) → actions_of_item only last w ≡ Ok actions → IsMade last actions
unfolding actions_of_item
item_made r only last w actions h = by_name (action_named (name_in w)) refl h
  where
    by_name : (o : Option ActionName) → action_named (name_in w) ≡ o → where_found o (λ name. closed_item w name only last) (Err (fault.UnknownName (column w))) ≡ Ok actions → IsMade last actions
    by_name None e h = cc
    by_name (Some name) e h = closed_made r w name only last actions (name_writes (name_in w) name e) h

-- ---- lists

-- what is known of the actions so far, after which more may stand, and of all of them
record IsListSofar (actions : List OfAction) : Type 0 where
  few : length actions ≤ most_actions
  again : list_all is_respellable actions ≡ true → list_all is_spellable actions ≡ true
  no_goto : list_all (λ a. not (is_goto a)) actions ≡ true

abbrev IsWholeList : List OfAction → Type 0
IsWholeList actions = (length actions ≤ most_actions) × (list_all is_respellable actions ≡ true → list_all is_spellable actions ≡ true) × (has_goto_last actions ≡ true)

none_goes : (actions : List OfAction) → list_all (λ a. not (is_goto a)) actions ≡ true → has_goto_last actions ≡ true
none_goes [] h = refl
none_goes (a ∷ []) h = refl
none_goes (a ∷ b ∷ actions) h =
    let k = and_parts (not (is_goto a)) (list_all (λ x. not (is_goto x)) (b ∷ actions)) h in
    and_from (not (is_goto a)) (has_goto_last (b ∷ actions)) k.0 (none_goes (b ∷ actions) k.1)

last_goes : (before : List OfAction) (a : OfAction) → list_all (λ x. not (is_goto x)) before ≡ true → has_goto_last (before ++ a ∷ []) ≡ true
last_goes [] a h = refl
last_goes (b ∷ []) a h = and_from (not (is_goto b)) true (and_parts (not (is_goto b)) true h).0 refl
last_goes (b ∷ c ∷ before) a h =
    let k = and_parts (not (is_goto b)) (list_all (λ x. not (is_goto x)) (c ∷ before)) h in
    and_from (not (is_goto b)) (has_goto_last (c ∷ before ++ a ∷ [])) k.0 (last_goes (c ∷ before) a k.1)

both_again : (before : List OfAction) (a : OfAction) → (list_all is_respellable before ≡ true → list_all is_spellable before ≡ true) → (is_respellable a ≡ true → is_spellable a ≡ true)
    → list_all is_respellable (before ++ a ∷ []) ≡ true → list_all is_spellable (before ++ a ∷ []) ≡ true
both_again before a f g h =
    let k = and_parts (list_all is_respellable before) (list_all is_respellable (a ∷ [])) (sym (list_all-append is_respellable before (a ∷ [])) ∙ h) in
    let one = (and_parts (is_respellable a) true k.1).0 in
    list_all-append is_spellable before (a ∷ []) ∙ and_from (list_all is_spellable before) (list_all is_spellable (a ∷ [])) (f k.0) (and_from (is_spellable a) true (g one) refl)

more_read : (before actions : List OfAction) → IsListSofar before → (length before == most_actions) ≡ false → IsMade false actions → IsListSofar (before ++ actions)
more_read before actions s room (inl none) = subst (λ xs. IsListSofar (before ++ xs)) (sym none) (rw (append-nil before) s)
more_read before actions s room (inr made) =
    let a = made.0 in
    let other : is_goto a ≡ false = by_test (is_goto a) made.2.goto in
    let few : length (before ++ a ∷ []) ≤ most_actions = fewer (length before) (length (before ++ a ∷ [])) (length-append before (a ∷ [])) s.few room in
    subst (λ xs. IsListSofar (before ++ xs)) (sym made.1) (record {
      few = few;
      again = both_again before a s.again made.2.again;
      no_goto = list_all-append (λ x. not (is_goto x)) before (a ∷ []) ∙ and_from (list_all (λ x. not (is_goto x)) before) (list_all (λ x. not (is_goto x)) (a ∷ [])) s.no_goto (rw other refl);
    })
  where
    by_test : (t : Bool) → (t ≡ true → false ≡ true) → t ≡ false
    by_test false h = refl
    by_test true h = absurd (both_ways false refl (h refl))

    fewer : (n m : ℕ) → m ≡ n + 1 → n ≤ most_actions → (n == most_actions) ≡ false → m ≤ most_actions
    fewer n m e le other = grind (arith, nat_tests)

last_read : (before actions : List OfAction) → IsListSofar before → (length before == most_actions) ≡ false → IsMade true actions → IsWholeList (before ++ actions)
last_read before actions s room (inl none) = subst (λ xs. IsWholeList (before ++ xs)) (sym none) (rw (append-nil before) (s.few, s.again, none_goes before s.no_goto))
last_read before actions s room (inr made) =
    let a = made.0 in
    let few : length (before ++ a ∷ []) ≤ most_actions = fewer (length before) (length (before ++ a ∷ [])) (length-append before (a ∷ [])) s.few room in
    subst (λ xs. IsWholeList (before ++ xs)) (sym made.1) (few, both_again before a s.again made.2.again, last_goes before a s.no_goto)
  where
    fewer : (n m : ℕ) → m ≡ n + 1 → n ≤ most_actions → (n == most_actions) ≡ false → m ≤ most_actions
    fewer n m e le other = grind (arith, nat_tests)

none_left : (before list : List OfAction) → read_items before [] ≡ Ok list → before ≡ list
unfolding read_items
none_left before list h = cc

one_left : (before : List OfAction) (w : Word) (ws : List Word) (list : List OfAction) → read_items before (w ∷ ws) ≡ Ok list
    → ((length before == most_actions) ≡ false) × ((actions : List OfAction) × (actions_of_item ((length before == 0) && is_last ws) (is_last ws) w ≡ Ok actions) × (read_items (before ++ actions) ws ≡ Ok list))
unfolding read_items
one_left before w ws list h = by_count (length before == most_actions) refl h
  where
    by_count : (t : Bool) → (length before == most_actions) ≡ t
        → cond t (Err fault.TooManyActions) (actions_of_item ((length before == 0) && is_last ws) (is_last ws) w >>= (λ actions. read_items (before ++ actions) ws)) ≡ Ok list
        → ((length before == most_actions) ≡ false) × ((actions : List OfAction) × (actions_of_item ((length before == 0) && is_last ws) (is_last ws) w ≡ Ok actions) × (read_items (before ++ actions) ws ≡ Ok list))
    by_count true e h = cc
    by_count false e h = (e, ok_chained (actions_of_item ((length before == 0) && is_last ws) (is_last ws) w) (λ actions. read_items (before ++ actions) ws) list h)

more_words : (w : Word) (ws : List Word) → is_last (w ∷ ws) ≡ false
more_words w ws = grind (arith, nat_tests)

list_read : ReadRanges → (before : List OfAction) (ws : List Word) (list : List OfAction) → IsListSofar before → read_items before ws ≡ Ok list → IsWholeList list
list_read r before [] list s h = subst IsWholeList (none_left before list h) (s.few, s.again, none_goes before s.no_goto)
list_read r before (w ∷ []) list s h =
    let step = one_left before w [] list h in
    let actions = step.1.0 in
    subst IsWholeList (none_left (before ++ actions) list step.1.2) (last_read before actions s step.0 (item_made r ((length before == 0) && true) true w actions step.1.1))
list_read r before (w ∷ v ∷ ws) list s h =
    let step = one_left before w (v ∷ ws) list h in
    let actions = step.1.0 in
    let last = more_words v ws in
    let made = subst (λ t. IsMade t actions) last (item_made r ((length before == 0) && is_last (v ∷ ws)) (is_last (v ∷ ws)) w actions step.1.1) in
    list_read r (before ++ actions) (v ∷ ws) list (more_read before actions s step.0 made) step.1.2

whole_spelled : (actions : List OfAction) → IsWholeList actions → list_all is_respellable actions ≡ true → are_spellable actions ≡ true
whole_spelled actions w again = rw (le-leb (length actions) most_actions w.0, w.2, w.1 again) refl

pub actions_read : ReadRanges → (at : ℕ) (line : List ℕ) (list : List OfAction) → read_actions at line ≡ Ok list → list_all is_respellable list ≡ true → are_spellable list ≡ true
unfolding read_actions
actions_read r at line list h again =
    let text = ok_chained (ascii_from at (uncommented line)) (λ text. read_items [] (items [] true at text)) list h in
    let start : IsListSofar [] = record { few = omega arith; again = λ h. refl; no_goto = refl } in
    whole_spelled list (list_read r [] (items [] true at text.0) list start text.2) again
