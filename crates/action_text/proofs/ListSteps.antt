-- Items read one after the other.
use Rattle.std.proofs.Common.{◌≡◌, ℕ, ◌<◌, Bool, true, false, List, [], ◌∷◌, ◌++◌, length, Result, Ok, Err, IsTrue, refl, sym, ap, ◌∙◌, arith, append-nil}
use Rattle.std.specs.Prelude.{◌==◌, ◌&&◌}
use Rattle.std.specs.List.{list_all}
use Rattle.std.proofs.lemmas.Bool.Decides.{nat_tests}
use Rattle.std.proofs.lemmas.List.Folds.{list_all-append}
use Rattle.spec_actions.specs.declared.action.OfAction.{OfAction}
use Rattle.spec_actions.specs.Sound.{is_sound, AreSound}
use Rattle.spec_flow_text.specs.declared.fault.TextFault.{TextFault}
use Rattle.spec_flow_text.specs.declared.fault.TextFault.TheVariants as fault
use Rattle.spec_flow_text.specs.Given.{IsFault}
use Rattle.spec_flow_text.specs.Items.{◌>>=◌, Word}
use Rattle.spec_flow_text.specs.Actions.{most_actions, items, actions_of_item, is_last, read_items}
use Rattle.action_text.specs.ItemStarts.{items_in, BeginsItem}
use Rattle.action_text.proofs.ItemLists.{none, begins}

-- a fault that is the defined one
pub is_fault : {Y : Type 0} (e : TextFault) (defined : Result Y TextFault) → defined ≡ Err e → IsFault e defined
is_fault (fault.Syntax col) defined is = is
is_fault (fault.UnknownName col) defined is = is
is_fault (fault.Unsupported col) defined is = is
is_fault (fault.BadValue col) defined is = is
is_fault (fault.Repeated col) defined is = is
is_fault fault.TooManyActions defined is = is
is_fault fault.OutOfMemory defined is = tt

-- no item follows where no text does
pub last_item : (at : ℕ) (text : List ℕ) → BeginsItem text → (length text == 0) ≡ is_last (items [] true at text)
last_item at [] starts = ap is_last (sym (none at))
last_item at (c ∷ cs) starts =
    let more = begins at (c ∷ cs) (omega arith) (starts (omega arith)) in
    some (c ∷ cs) (omega arith) ∙ sym (rw more (longer _))
  where
    some : (text : List ℕ) → 0 < length text → (length text == 0) ≡ false
    some text lt = grind (arith, nat_tests)

    longer : (ws : List Word) → (length (record { at = at; text = c ∷ cs } ∷ ws) == 0) ≡ false
    longer ws = grind (arith, nat_tests)

-- the last items
pub no_item : (before : List OfAction) (at : ℕ) (text : List ℕ) → length text ≡ 0 → read_items before (items [] true at text) ≡ Ok before
unfolding read_items
no_item before at [] e = rw (none at) refl
no_item before at (c ∷ cs) e = absurd (omega arith)

pub too_many : (before : List OfAction) (w : Word) (ws : List Word) → length before ≡ most_actions → read_items before (w ∷ ws) ≡ Err fault.TooManyActions
unfolding read_items
too_many before w ws e =
    let full : (length before == most_actions) ≡ true = grind (arith, nat_tests) in
    rw full refl

-- what is read where there is room for an item
with_item : (before : List OfAction) (w : Word) (ws : List Word) → length before < most_actions
    → read_items before (w ∷ ws) ≡ (actions_of_item ((length before == 0) && is_last ws) (is_last ws) w >>= (λ actions. read_items (before ++ actions) ws))
unfolding read_items
with_item before w ws lt =
    let room : (length before == most_actions) ≡ false = grind (arith, nat_tests) in
    rw room refl

pub item_read : (before more : List OfAction) (w : Word) (ws : List Word) → length before < most_actions
    → actions_of_item ((length before == 0) && is_last ws) (is_last ws) w ≡ Ok more → read_items before (w ∷ ws) ≡ read_items (before ++ more) ws
item_read before more w ws lt e = with_item before w ws lt ∙ ap (λ r. r >>= (λ actions. read_items (before ++ actions) ws)) e

pub item_refused : (before : List OfAction) (e : TextFault) (w : Word) (ws : List Word) → length before < most_actions
    → actions_of_item ((length before == 0) && is_last ws) (is_last ws) w ≡ Err e → read_items before (w ∷ ws) ≡ Err e
item_refused before e w ws lt is = with_item before w ws lt ∙ ap (λ r. r >>= (λ actions. read_items (before ++ actions) ws)) is

-- one more action is sound with those before it
pub sound_with : (before : List OfAction) (a : OfAction) → AreSound before → IsTrue (is_sound a) → AreSound (before ++ (a ∷ []))
sound_with before a all one =
    let parts : list_all is_sound (before ++ (a ∷ [])) ≡ (list_all is_sound before && list_all is_sound (a ∷ [])) = list_all-append is_sound before (a ∷ []) in
    rw (parts, all, one) refl

pub with_none : (before : List OfAction) → before ++ [] ≡ before
with_none before = append-nil before

-- ---- a stretch of a line

at_place : (before : List OfAction) (r : Result (List OfAction) TextFault) (rest w : Word) (only last : Bool)
    → BeginsItem rest.text → last ≡ (length rest.text == 0) → only ≡ ((length before == 0) && last) → r ≡ actions_of_item only last w
    → actions_of_item ((length before == 0) && is_last (items_in rest)) (is_last (items_in rest)) w ≡ r
at_place before r rest w only last starts lastly alone is =
    let l : last ≡ is_last (items_in rest) = lastly ∙ last_item rest.at rest.text starts in
    let o : only ≡ ((length before == 0) && is_last (items_in rest)) = alone ∙ ap (λ b. (length before == 0) && b) l in
    ap (λ b. actions_of_item b (is_last (items_in rest)) w) (sym o) ∙ ap (λ b. actions_of_item only b w) (sym l) ∙ sym is

pub stretch_read : (before more : List OfAction) (stretch rest w : Word) (only last : Bool) → items_in stretch ≡ w ∷ items_in rest
    → BeginsItem rest.text → last ≡ (length rest.text == 0) → only ≡ ((length before == 0) && last) → length before < most_actions
    → Ok more ≡ actions_of_item only last w → read_items before (items_in stretch) ≡ read_items (before ++ more) (items_in rest)
stretch_read before more stretch rest w only last cut_off starts lastly alone room is =
    ap (read_items before) cut_off ∙ item_read before more w (items_in rest) room (at_place before (Ok more) rest w only last starts lastly alone is)

pub stretch_refused : (before : List OfAction) (e : TextFault) (stretch rest w : Word) (only last : Bool) → items_in stretch ≡ w ∷ items_in rest
    → BeginsItem rest.text → last ≡ (length rest.text == 0) → only ≡ ((length before == 0) && last) → length before < most_actions
    → Err e ≡ actions_of_item only last w → IsFault e (read_items before (items_in stretch))
stretch_refused before e stretch rest w only last cut_off starts lastly alone room is =
    is_fault e (read_items before (items_in stretch)) (ap (read_items before) cut_off ∙ item_refused before e w (items_in rest) room (at_place before (Err e) rest w only last starts lastly alone is))
