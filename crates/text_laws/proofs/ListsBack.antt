-- A printed list of actions is read as that list.
use Rattle.std.proofs.Common.{eqb-true, ◌≡◌, ℕ, suc, ◌+◌, ◌≤◌, Bool, true, false, cond, List, [], ◌∷◌, ◌++◌, length, drop, refl, sym, subst, ap, ◌∙◌, arith, None, Ok, decimal, append_assoc, append-nil, length-append}
use Rattle.std.specs.Prelude.{not, ◌&&◌, ◌==◌, codes, nat_le, bit_and, map, position}
use Rattle.std.specs.List.{list_all, fold, join_with_byte}
use Rattle.std.specs.Char.{is_ascii}
use Rattle.std.proofs.Math.Seq.{drop-append_seam}
use Rattle.std.proofs.lemmas.List.Sums.{take_while-cons}
use Rattle.std.proofs.lemmas.Bool.{and_from, and_parts, both_ways, not-true, leb-true}
use Rattle.std.proofs.lemmas.Bool.Decides.{nat_tests}
use Rattle.spec_actions.specs.declared.action.Slice.{Slice}
use Rattle.spec_actions.specs.declared.action.OfAction.{OfAction}
use Rattle.spec_actions.specs.Sound.{is_sound}
use Rattle.spec_actions.specs.declared.action.OfAction.TheVariants.{Output, OutputField, InPort, All, Flood, Resubmit, Goto, Set, Move, DecTtl, PushVlan, PopVlan, SetVid, SetPcp}
use Rattle.spec_keys.specs.Protocols.{is_tag_type}
use Rattle.spec_flow_text.specs.NumbersPrinted.{hexadecimal4}
use Rattle.spec_flow_text.specs.Characters.{comma, number_sign, dot, hyphen, greater_than, left_bracket, right_bracket, right_parenthesis}
use Rattle.spec_flow_text.specs.Names.{name_of, action_named, reserved_port_named}
use Rattle.spec_flow_text.specs.Matches.{uncommented}
use Rattle.spec_flow_text.specs.Items.{Word, is_separator}
use Rattle.spec_flow_text.specs.Values.{bits, within_mask}
use Rattle.spec_flow_text.specs.Actions.{open_after, ends_item, up_to_end, items, is_closed, actions_of_item, most_actions, is_last, is_respellable, drop_item, read_items, read_actions}
use Rattle.spec_flow_text.specs.Printed.{value_in_text, slice_text, action_text, actions_printed}
use Rattle.text_laws.specs.Texts.{is_plain_character}
use Rattle.text_laws.specs.Spelled.{is_spellable, is_goto, has_goto_last, are_spellable}
use Rattle.text_laws.proofs.TagTypes.{of_each_type}
use Rattle.text_laws.proofs.Cuts.{position-cons, take_while-all, lacks_by}
use Rattle.text_laws.proofs.CommentLaws.{actions_of_text, read_actions-text}
use Rattle.text_laws.proofs.SeparatorLaws.{list_of}
use Rattle.text_laws.proofs.PlainValues.{IsPlain}
use Rattle.text_laws.proofs.PlainPrinted.{actions_plain}
use Rattle.text_laws.proofs.Ends.{up_to_end-cons, items-cons, items-none, none_open_after, item_closed}
use Rattle.text_laws.proofs.ValuesBack.{ReadValues}
use Rattle.text_laws.proofs.ItemTexts.{IsQuiet, AreClosing, is_quiet_character, quiet_after, decimal_quiet, name_quiet, item_at, slice_and_more}
use Rattle.text_laws.proofs.ActionsBack.{action_back, value_quiet, set_spelled}

-- whether no byte of a text ends an item, with these brackets open before it
abbrev stays : List ℕ → List ℕ → Bool
stays brackets [] = true
stays brackets (c ∷ cs) = not (ends_item brackets c) && stays (open_after brackets c) cs

up_to_end-none : (brackets : List ℕ) → up_to_end brackets [] ≡ []
unfolding up_to_end
up_to_end-none brackets = refl

up_to_comma : (rest : List ℕ) → up_to_end [] (comma ∷ rest) ≡ []
unfolding up_to_end
up_to_comma rest = refl

-- such a text is an item by itself, and before a comma
whole_item : (brackets text : List ℕ) → stays brackets text ≡ true → up_to_end brackets text ≡ text
whole_item brackets [] h = up_to_end-none brackets
whole_item brackets (c ∷ cs) h =
    let p = and_parts (not (ends_item brackets c)) (stays (open_after brackets c) cs) h in
    up_to_end-cons brackets c cs (not-true (ends_item brackets c) p.0) ∙ ap (λ t. c ∷ t) (whole_item (open_after brackets c) cs p.1)

item_before : (brackets text rest : List ℕ) → stays brackets text ≡ true → fold open_after brackets text ≡ [] → up_to_end brackets (text ++ comma ∷ rest) ≡ text
item_before brackets [] rest h closed = subst (λ bs. up_to_end bs (comma ∷ rest) ≡ []) (sym closed) (up_to_comma rest)
item_before brackets (c ∷ cs) rest h closed =
    let p = and_parts (not (ends_item brackets c)) (stays (open_after brackets c) cs) h in
    up_to_end-cons brackets c (cs ++ comma ∷ rest) (not-true (ends_item brackets c) p.0) ∙ ap (λ t. c ∷ t) (item_before (open_after brackets c) cs rest p.1 closed)

-- the rest of an item is no item
inside_last : (brackets : List ℕ) (at : ℕ) (text : List ℕ) → stays brackets text ≡ true → items brackets false at text ≡ []
inside_last brackets at [] h = items-none brackets false at
inside_last brackets at (c ∷ cs) h =
    let p = and_parts (not (ends_item brackets c)) (stays (open_after brackets c) cs) h in
    items-cons brackets false at c cs ∙ (rw (not-true (ends_item brackets c) p.0) (inside_last (open_after brackets c) (at + 1) cs p.1))

inside_before : (brackets : List ℕ) (at : ℕ) (text rest : List ℕ) → stays brackets text ≡ true → fold open_after brackets text ≡ [] → items brackets false at (text ++ comma ∷ rest) ≡ items [] true (at + length text + 1) rest
inside_before brackets at [] rest h closed =
    let same : at + 1 ≡ at + 0 + 1 = omega arith in
    subst (λ bs. items bs false at (comma ∷ rest) ≡ items [] true (at + 0 + 1) rest) (sym closed) (items-cons [] false at comma rest ∙ ap (λ n. items [] true n rest) same)
inside_before brackets at (c ∷ cs) rest h closed =
    let p = and_parts (not (ends_item brackets c)) (stays (open_after brackets c) cs) h in
    let same : at + 1 + length cs + 1 ≡ at + length (c ∷ cs) + 1 = omega arith in
    items-cons brackets false at c (cs ++ comma ∷ rest)
    ∙ (rw (not-true (ends_item brackets c) p.0) (inside_before (open_after brackets c) (at + 1) cs rest p.1 closed ∙ ap (λ n. items [] true n rest) same))

-- an item that stands last, and one before others
last_item : (at : ℕ) (text : List ℕ) → (length text == 0) ≡ false → stays [] text ≡ true → items [] true at text ≡ item_at at text ∷ []
last_item at [] some h = cc
last_item at (c ∷ cs) some h =
    let p = and_parts (not (ends_item [] c)) (stays (open_after [] c) cs) h in
    items-cons [] true at c cs
    ∙ (rw (not-true (ends_item [] c) p.0, whole_item [] (c ∷ cs) h) (ap (λ ws. item_at at (c ∷ cs) ∷ ws) (inside_last (open_after [] c) (at + 1) cs p.1)))

first_item : (at : ℕ) (text rest : List ℕ) → (length text == 0) ≡ false → stays [] text ≡ true → fold open_after [] text ≡ []
    → items [] true at (text ++ comma ∷ rest) ≡ item_at at text ∷ items [] true (at + length text + 1) rest
first_item at [] rest some h closed = cc
first_item at (c ∷ cs) rest some h closed =
    let p = and_parts (not (ends_item [] c)) (stays (open_after [] c) cs) h in
    let same : at + 1 + length cs + 1 ≡ at + length (c ∷ cs) + 1 = omega arith in
    let item = item_before [] (c ∷ cs) rest h closed in
    let more = inside_before (open_after [] c) (at + 1) cs rest p.1 closed ∙ ap (λ n. items [] true n rest) same in
    items-cons [] true at c (cs ++ comma ∷ rest) ∙ (rw (not-true (ends_item [] c) p.0, item) (ap (λ ws. item_at at (c ∷ cs) ∷ ws) more))

-- ---- the texts of actions

quiet_no_separator : (c : ℕ) → is_quiet_character c ≡ true → is_separator c ≡ false
quiet_no_separator c h = grind (arith, nat_tests)

quiet_inside : (brackets : List ℕ) (c : ℕ) → is_quiet_character c ≡ true → ends_item brackets c ≡ false
quiet_inside [] c h = quiet_no_separator c h
quiet_inside (close ∷ outer) c h = refl

stays_over : (brackets text rest : List ℕ) → AreClosing brackets → IsQuiet text → stays brackets (text ++ rest) ≡ stays brackets rest
stays_over brackets [] rest h q = refl
stays_over brackets (c ∷ cs) rest h q =
    let p = and_parts (is_quiet_character c) (list_all is_quiet_character cs) q in
    rw (quiet_inside brackets c p.0) (ap (λ bs. stays bs (cs ++ rest)) (quiet_after brackets c h p.0) ∙ stays_over brackets cs rest h p.1)

stays_end : (text : List ℕ) → IsQuiet text → stays [] text ≡ true
stays_end text q = ap (stays []) (sym (append-nil text)) ∙ stays_over [] text [] refl q

slice_stays : (s : Slice) (rest : List ℕ) → stays [] (slice_text s ++ rest) ≡ stays [] rest
slice_stays s rest =
    ap (stays []) (slice_and_more s rest)
    ∙ stays_over [] (name_of s.name) (left_bracket ∷ (decimal s.low ++ (dot ∷ dot ∷ (decimal s.high ++ (right_bracket ∷ rest))))) refl (name_quiet s.name)
    ∙ stays_over (right_bracket ∷ []) (decimal s.low) (dot ∷ dot ∷ (decimal s.high ++ (right_bracket ∷ rest))) refl (decimal_quiet s.low)
    ∙ stays_over (right_bracket ∷ []) (decimal s.high) (right_bracket ∷ rest) refl (decimal_quiet s.high)

slice_stays_end : (s : Slice) → stays [] (slice_text s) ≡ true
slice_stays_end s = ap (stays []) (sym (append-nil (slice_text s))) ∙ slice_stays s []

-- the value of a write is quiet, and the type of a tag
abbrev HasQuietValue : OfAction → Type 0
HasQuietValue (PushVlan tpid) = IsQuiet (hexadecimal4 tpid)
HasQuietValue (Set f value mask) = IsQuiet (value_in_text f (within_mask (bits value mask)))
HasQuietValue a = Unit {0}

action_stays : (a : OfAction) → HasQuietValue a → stays [] (action_text a) ≡ true
action_stays (Output port) q = stays_end (decimal port) (decimal_quiet port)
action_stays (OutputField s) q = slice_stays_end s
action_stays InPort q = refl
action_stays All q = refl
action_stays Flood q = refl
action_stays (Resubmit table) q = stays_over (right_parenthesis ∷ []) (decimal table) (right_parenthesis ∷ []) refl (decimal_quiet table)
action_stays (Goto table) q = stays_end (decimal table) (decimal_quiet table)
action_stays (Set f value mask) q =
    stays_over [] (value_in_text f (within_mask (bits value mask))) (hyphen ∷ greater_than ∷ name_of f) refl q ∙ stays_end (name_of f) (name_quiet f)
action_stays (Move source target) q = slice_stays source (hyphen ∷ greater_than ∷ slice_text target) ∙ slice_stays_end target
action_stays DecTtl q = refl
action_stays (PushVlan tpid) q = stays_end (hexadecimal4 tpid) q
action_stays PopVlan q = refl
action_stays (SetVid vid) q = stays_end (decimal vid) (decimal_quiet vid)
action_stays (SetPcp pcp) q = stays_end (decimal pcp) (decimal_quiet pcp)

action_there : (a : OfAction) → (length (action_text a) == 0) ≡ false
action_there (Output port) = grind (arith, nat_tests)
action_there (OutputField s) = grind (arith, nat_tests)
action_there InPort = refl
action_there All = refl
action_there Flood = refl
action_there (Resubmit table) = grind (arith, nat_tests)
action_there (Goto table) = grind (arith, nat_tests)
action_there (Set f value mask) = grind (arith, nat_tests)
action_there (Move source target) = grind (arith, nat_tests)
action_there DecTtl = refl
action_there (PushVlan tpid) = grind (arith, nat_tests)
action_there PopVlan = refl
action_there (SetVid vid) = grind (arith, nat_tests)
action_there (SetPcp pcp) = grind (arith, nat_tests)

type_quiet : (tpid : ℕ) → is_tag_type tpid ≡ true → IsQuiet (hexadecimal4 tpid)
unfolding hexadecimal4
type_quiet tpid h = of_each_type (λ n. IsQuiet (hexadecimal4 n)) refl refl tpid h

spelled_quiet : ReadValues → (a : OfAction) → is_spellable a ≡ true → HasQuietValue a
spelled_quiet r (Set f value mask) h =
    let p = and_parts (is_sound (Set f value mask)) (is_respellable (Set f value mask) && (bit_and value mask == value)) h in
    let q = and_parts (is_respellable (Set f value mask)) (bit_and value mask == value) p.1 in
    subst (λ v. IsQuiet (value_in_text f (bits v mask))) (sym (eqb-true (bit_and value mask) value q.1)) (value_quiet r f (bits value mask) (set_spelled f value mask p.0 q.0))
spelled_quiet r (PushVlan tpid) h = type_quiet tpid h
spelled_quiet r a h = tt

spelled_stays : ReadValues → (a : OfAction) → is_spellable a ≡ true → stays [] (action_text a) ≡ true
spelled_stays r a h = action_stays a (spelled_quiet r a h)

spelled_closed : ReadValues → (a : OfAction) → is_spellable a ≡ true → fold open_after [] (action_text a) ≡ []
spelled_closed r a h = none_open_after (action_text a) (item_closed true true (item_at 0 (action_text a)) (a ∷ []) (action_back r true true a h (λ g. refl) 0))

-- ---- lists

read_step : (before : List OfAction) (w : Word) (ws : List Word) (a : OfAction) → (length before == most_actions) ≡ false
    → actions_of_item ((length before == 0) && is_last ws) (is_last ws) w ≡ Ok (a ∷ []) → read_items before (w ∷ ws) ≡ read_items (before ++ a ∷ []) ws
unfolding read_items
read_step before w ws a few h = rw (few, h) refl

read_none : (before : List OfAction) → read_items before [] ≡ Ok before
unfolding read_items
read_none before = refl

few_before : (n more : ℕ) → n + suc more ≤ most_actions → (n == most_actions) ≡ false
few_before n more h = grind (arith, nat_tests)

pub read_list : ReadValues → (before : List OfAction) (a : OfAction) (rest : List OfAction) (at : ℕ) → list_all is_spellable (a ∷ rest) ≡ true → has_goto_last (a ∷ rest) ≡ true
    → length before + length (a ∷ rest) ≤ most_actions
    → read_items before (items [] true at (join_with_byte comma (map action_text (a ∷ rest)))) ≡ Ok (before ++ a ∷ rest)
read_list r before a [] at h goto few =
    let spelled = (and_parts (is_spellable a) true h).0 in
    ap (read_items before) (last_item at (action_text a) (action_there a) (spelled_stays r a spelled))
    ∙ read_step before (item_at at (action_text a)) [] a (few_before (length before) 0 few) (action_back r ((length before == 0) && is_last []) (is_last []) a spelled (λ g. refl) at)
    ∙ read_none (before ++ a ∷ [])
read_list r before a (b ∷ rest) at h goto few =
    let p = and_parts (is_spellable a) (list_all is_spellable (b ∷ rest)) h in
    let q = and_parts (not (is_goto a)) (has_goto_last (b ∷ rest)) goto in
    let text = join_with_byte comma (map action_text (b ∷ rest)) in
    let ws = items [] true (at + length (action_text a) + 1) text in
    let no_goto = not-true (is_goto a) q.0 in
    let fewer : length (before ++ a ∷ []) + length (b ∷ rest) ≤ most_actions = omega (arith, length-append before (a ∷ []), few) in
    ap (read_items before) (first_item at (action_text a) text (action_there a) (spelled_stays r a p.0) (spelled_closed r a p.0))
    ∙ read_step before (item_at at (action_text a)) ws a (few_before (length before) (length (b ∷ rest)) few) (action_back r ((length before == 0) && is_last ws) (is_last ws) a p.0 (λ g. absurd (both_ways (is_goto a) no_goto g)) at)
    ∙ read_list r (before ++ a ∷ []) b rest (at + length (action_text a) + 1) p.1 q.1 fewer
    ∙ ap Ok (append_assoc before (a ∷ []) (b ∷ rest))

-- ---- lines

spelled_sound : (a : OfAction) → is_spellable a ≡ true → is_sound a ≡ true
spelled_sound (Output port) h = refl
spelled_sound (Set f value mask) h = (and_parts (is_sound (Set f value mask)) (is_respellable (Set f value mask) && (bit_and value mask == value)) h).0
spelled_sound a h = h

pub all_sound : (actions : List OfAction) → list_all is_spellable actions ≡ true → list_all is_sound actions ≡ true
all_sound [] h = refl
all_sound (a ∷ actions) h =
    let p = and_parts (is_spellable a) (list_all is_spellable actions) h in
    and_from (is_sound a) (list_all is_sound actions) (spelled_sound a p.0) (all_sound actions p.1)

plain_ascii : (c : ℕ) → is_plain_character c ≡ true → not (is_ascii c) ≡ false
plain_ascii c h = grind (arith, nat_tests)

pub all_ascii : (text : List ℕ) → IsPlain text → position (λ c. not (is_ascii c)) text ≡ None
all_ascii [] h = refl
all_ascii (c ∷ cs) h =
    let p = and_parts (is_plain_character c) (list_all is_plain_character cs) h in
    position-cons (λ x. not (is_ascii x)) c cs ∙ (rw (plain_ascii c p.0, all_ascii cs p.1) refl)

-- a list behind a front without a comment
pub uncommented_all : (front text : List ℕ) → uncommented front ≡ front → IsPlain text → uncommented (front ++ text) ≡ front ++ text
uncommented_all [] text h plain = take_while-all (λ c. not (c == number_sign)) text (lacks_by is_plain_character number_sign text refl plain)
uncommented_all (c ∷ cs) text h plain =
    take_while-cons (λ x. not (x == number_sign)) c (cs ++ text) ∙ by_test (not (c == number_sign)) (sym (take_while-cons (λ x. not (x == number_sign)) c cs) ∙ h) (uncommented_all cs text)
  where
    by_test : (t : Bool) → cond t (c ∷ uncommented cs) [] ≡ c ∷ cs → (uncommented cs ≡ cs → IsPlain text → uncommented (cs ++ text) ≡ cs ++ text)
        → cond t (c ∷ uncommented (cs ++ text)) [] ≡ c ∷ (cs ++ text)
    by_test false h ih = cc
    by_test true h ih = ap (λ t. c ∷ t) (ih (ap (drop 1) h) plain)

-- `drop` is the list without actions
drop_back : (at : ℕ) → read_items [] (items [] true at (codes "drop")) ≡ Ok []
unfolding read_items items up_to_end actions_of_item action_named reserved_port_named is_closed drop_item
drop_back at = refl

text_back : ReadValues → (actions : List OfAction) (at : ℕ) → are_spellable actions ≡ true → read_items [] (items [] true at (actions_printed actions)) ≡ Ok actions
unfolding actions_printed
text_back r [] at h = drop_back at
text_back r (a ∷ actions) at h =
    let p = and_parts (nat_le (length (a ∷ actions)) most_actions) (has_goto_last (a ∷ actions) && list_all is_spellable (a ∷ actions)) h in
    let q = and_parts (has_goto_last (a ∷ actions)) (list_all is_spellable (a ∷ actions)) p.1 in
    let few : length {A = OfAction} [] + length (a ∷ actions) ≤ most_actions = omega (arith, leb-true (length (a ∷ actions)) most_actions p.0) in
    read_list r [] a actions at q.1 q.0 few

pub actions_back : ReadValues → (front : List ℕ) (actions : List OfAction) → uncommented front ≡ front → are_spellable actions ≡ true
    → read_actions (length front) (front ++ actions_printed actions) ≡ Ok actions
actions_back r front actions clean h =
    let p = and_parts (nat_le (length actions) most_actions) (has_goto_last actions && list_all is_spellable actions) h in
    let q = and_parts (has_goto_last actions) (list_all is_spellable actions) p.1 in
    let plain = actions_plain r.texts actions (all_sound actions q.1) in
    read_actions-text (length front) (front ++ actions_printed actions)
    ∙ ap (actions_of_text (length front)) (uncommented_all front (actions_printed actions) clean plain)
    ∙ ap (list_of (length front)) (drop-append_seam front (actions_printed actions))
    ∙ (rw (all_ascii (actions_printed actions) plain) (text_back r actions (length front) h))
