-- Histories, and what one more edit and one more bundle make of them.
use Rattle.std.proofs.Common.{◌≡◌, ℕ, zero, suc, ◌+◌, ◌-◌, ◌<◌, ◌≤◌, List, [], ◌∷◌, ◌++◌, length, map, get_or, refl, sym, ap, ap₂, ◌∙◌, arith, take, add-one, append-nil, append_assoc, length-append}
use Rattle.std.specs.Prelude.{slice_get}
use Rattle.std.specs.List.{range_with_len}
use Rattle.std.proofs.Math.Seq.{take-length}
use Rattle.std.proofs.lemmas.List.{get_or_past, length-take-le, take_more}
use Rattle.std.proofs.lemmas.List.FromFn.{length-map-range_with_len, get_or-map-range_with_len, map-range_with_len_more}
use Rattle.spec_tables.specs.Rules.{Rule}
use Rattle.spec_tables.specs.Edits.{Edit, edited, after_edits}
use Rattle.spec_tables.specs.Bundles.{edits_through, bundle, version, AreBundles}
use Rattle.spec_tables.specs.Changes.{changes_by, changes_to}
use Rattle.rule_tables.specs.History.{EditHistory, History, no_edits, no_bundles, applied, rules_after, rules_of, edited_by, edited_by_all, bundled_by, states_to, edit_history, history_of}
use Rattle.table_laws.proofs.Bundles.{within, bundle-after, length-bundle}
use Rattle.rule_tables.proofs.FilterMaps.{slice_get-append, slice_get-push}

-- later edits don't count
pub after_edits-append : (edits more : List Edit) (v : ℕ) → v ≤ length edits → after_edits (edits ++ more) v ≡ after_edits edits v
unfolding after_edits
after_edits-append edits more zero le = refl
after_edits-append edits more (suc v) le =
    let here : slice_get (edits ++ more) v ≡ slice_get edits v = slice_get-append edits more v (omega arith) in
    rw (here, after_edits-append edits more v (omega arith)) refl

-- one more edit
pub after_edits-push : (edits : List Edit) (e : Edit) → after_edits (edits ++ e ∷ []) (suc (length edits)) ≡ edited e.word (suc (length edits)) e (after_edits edits (length edits))
unfolding after_edits
after_edits-push edits e = rw (slice_get-push edits e, after_edits-append edits (e ∷ []) (length edits) (omega arith)) refl

changes_to-append : (edits more : List Edit) (v : ℕ) → v ≤ length edits → changes_to (edits ++ more) v ≡ changes_to edits v
unfolding changes_to
changes_to-append edits more zero le = refl
changes_to-append edits more (suc v) le =
    let here : slice_get (edits ++ more) v ≡ slice_get edits v = slice_get-append edits more v (omega arith) in
    rw (here, changes_to-append edits more v (omega arith), after_edits-append edits more v (omega arith)) refl

pub changes_to-push : (edits : List Edit) (e : Edit)
    → changes_to (edits ++ e ∷ []) (suc (length edits)) ≡ changes_to edits (length edits) + changes_by e.word e (after_edits edits (length edits))
unfolding changes_to
changes_to-push edits e =
    rw (slice_get-push edits e, changes_to-append edits (e ∷ []) (length edits) (omega arith), after_edits-append edits (e ∷ []) (length edits) (omega arith)) refl

-- ---- the rules after each edit

pub length-states_to : (n : ℕ) (rules : ℕ → List Rule) → length (states_to n rules) ≡ n + 1
length-states_to n rules = length-map-range_with_len rules 0 (n + 1)

-- how many edits were applied
pub applied-states_to : (n changes : ℕ) (rules : ℕ → List Rule) → applied (record { states = states_to n rules; changes = changes }) ≡ n
applied-states_to n changes rules = omega (arith, length-states_to n rules)

pub rules_after-states_to : (n changes v : ℕ) (rules : ℕ → List Rule) → v ≤ n → rules_after (record { states = states_to n rules; changes = changes }) v ≡ rules v
rules_after-states_to n changes v rules le = get_or-map-range_with_len rules 0 (n + 1) v v [] (omega arith) (omega arith)

pub no_rules_past : (n changes v : ℕ) (rules : ℕ → List Rule) → n + 1 ≤ v → rules_after (record { states = states_to n rules; changes = changes }) v ≡ []
no_rules_past n changes v rules past = get_or_past (states_to n rules) v [] (omega (arith, length-states_to n rules))

-- rules that are alike up to a number of edits
pub same_states : (n : ℕ) (f g : ℕ → List Rule) → ((v : ℕ) → v ≤ n → g v ≡ f v) → states_to n g ≡ states_to n f
same_states n f g alike = to (n + 1) (omega arith)
  where
    to : (k : ℕ) → k ≤ n + 1 → map g (range_with_len 0 k) ≡ map f (range_with_len 0 k)
    to zero le = refl
    to (suc k) le =
        let more : suc k ≡ k + 1 = omega arith in
        ap (λ (m : ℕ). map g (range_with_len 0 m)) more ∙ map-range_with_len_more g 0 k k (omega arith)
        ∙ ap₂ (λ (xs : List (List Rule)) (x : List Rule). xs ++ x ∷ []) (to k (omega arith)) (alike k (omega arith))
        ∙ sym (ap (λ (m : ℕ). map f (range_with_len 0 m)) more ∙ map-range_with_len_more f 0 k k (omega arith))

-- one more edit makes one more state, and leaves those before
pub pushed : (n : ℕ) (f g : ℕ → List Rule) (changes more : ℕ) (e : Edit) → ((v : ℕ) → v ≤ n → g v ≡ f v) → g (n + 1) ≡ edited e.word (n + 1) e (f n)
    → more ≡ changes + changes_by e.word e (f n)
    → record { states = states_to (n + 1) g; changes = more } ≡ edited_by e (record { states = states_to n f; changes = changes })
pushed n f g changes more e alike last count =
    ap₂ (λ (states : List (List Rule)) (k : ℕ). let h : EditHistory = record { states = states; changes = k } in h) all count ∙ sym (ap₂ made len before)
  where
    len : length (states_to n f) ≡ n + 1
    len = length-states_to n f

    -- with this number and these rules before it
    made : ℕ → List Rule → EditHistory
    made number rules = record { states = states_to n f ++ edited e.word number e rules ∷ []; changes = changes + changes_by e.word e rules }

    before : get_or (states_to n f) (length (states_to n f) - 1) [] ≡ f n
    before = get_or-map-range_with_len f 0 (n + 1) (length (states_to n f) - 1) n [] (omega (arith, len)) (omega (arith, len))

    all : states_to (n + 1) g ≡ states_to n f ++ edited e.word (n + 1) e (f n) ∷ []
    all =
        map-range_with_len_more g 0 (n + 1) (n + 1) (omega arith)
        ∙ ap₂ (λ (xs : List (List Rule)) (x : List Rule). xs ++ x ∷ []) (same_states n f g alike) last

-- one more edit was applied
pub applied-edited_by : (e : Edit) (h : EditHistory) → 1 ≤ length h.states → applied (edited_by e h) ≡ applied h + 1
applied-edited_by e h some = omega (arith, length-append h.states (edited e.word (length h.states) e (rules_after h (applied h)) ∷ []))

-- ---- the history of edits

pub edit_history-push : (edits : List Edit) (e : Edit) → edit_history (edits ++ e ∷ []) ≡ edited_by e (edit_history edits)
unfolding edit_history
edit_history-push edits e =
    let next : length edits + 1 ≡ suc (length edits) = omega arith in
    ap (λ (n : ℕ). let h : EditHistory = record { states = states_to n (after_edits (edits ++ e ∷ [])); changes = changes_to (edits ++ e ∷ []) n } in h)
    (length-append edits (e ∷ []))
    ∙ pushed (length edits) (after_edits edits) (after_edits (edits ++ e ∷ [])) (changes_to edits (length edits)) _ e (λ v le. after_edits-append edits (e ∷ []) v le)
    (ap (after_edits (edits ++ e ∷ [])) next ∙ after_edits-push edits e ∙ ap (λ (n : ℕ). edited e.word n e (after_edits edits (length edits))) (sym next))
    (ap (changes_to (edits ++ e ∷ [])) next ∙ changes_to-push edits e)

pub applied-edit_history : (edits : List Edit) → applied (edit_history edits) ≡ length edits
unfolding edit_history
applied-edit_history edits = applied-states_to (length edits) (changes_to edits (length edits)) (after_edits edits)

pub rules_after-edit_history : (edits : List Edit) (v : ℕ) → v ≤ length edits → rules_after (edit_history edits) v ≡ after_edits edits v
unfolding edit_history
rules_after-edit_history edits v le = rules_after-states_to (length edits) (changes_to edits (length edits)) v (after_edits edits) le

pub edit_history-none : no_edits ≡ edit_history []
unfolding edit_history after_edits changes_to
edit_history-none = refl

-- more edits, one after the other
edit_history-append : (edits list : List Edit) → edited_by_all list (edit_history edits) ≡ edit_history (edits ++ list)
edit_history-append edits [] = ap edit_history (sym (append-nil edits))
edit_history-append edits (e ∷ list) =
    ap (edited_by_all list) (sym (edit_history-push edits e)) ∙ edit_history-append (edits ++ e ∷ []) list ∙ ap edit_history (append_assoc edits (e ∷ []) list)

-- ---- the history of edits in bundles

pub history-none : no_bundles ≡ history_of [] []
history-none = ap (λ (edits : EditHistory). let h : History = record { edits = edits; bundles = [] } in h) edit_history-none

-- one more bundle makes one more version
pub history-bundled : (edits list : List Edit) (bundles : List ℕ)
    → bundled_by list (history_of edits bundles) ≡ history_of (edits ++ list) (bundles ++ (length edits + length list) ∷ [])
history-bundled edits list bundles =
    ap₂ (λ (made : EditHistory) (n : ℕ). let h : History = record { edits = made; bundles = bundles ++ (n + length list) ∷ [] } in h)
    (edit_history-append edits list) (applied-edit_history edits)

-- and so does each bundle of a list of edits
pub history-next : (edits : List Edit) (bundles : List ℕ) (v : ℕ) → AreBundles bundles (length edits) → v < length bundles
    → bundled_by (bundle edits bundles (v + 1)) (history_of (take (edits_through bundles v) edits) (take v bundles))
    ≡ history_of (take (edits_through bundles (v + 1)) edits) (take (v + 1) bundles)
history-next edits bundles v are lt =
    let low : edits_through bundles v ≤ length edits = within bundles (length edits) are v (omega arith) in
    let before : length (take (edits_through bundles v) edits) ≡ edits_through bundles v = length-take-le (edits_through bundles v) edits low in
    let through : length (take (edits_through bundles v) edits) + length (bundle edits bundles (v + 1)) ≡ edits_through bundles (v + 1) =
    omega (arith, length-bundle edits bundles v are lt) in
    let next : edits_through bundles (v + 1) ≡ get_or bundles v 0 = ap (edits_through bundles) (add-one v) in
    history-bundled (take (edits_through bundles v) edits) (bundle edits bundles (v + 1)) (take v bundles)
    ∙ ap₂ (λ (list : List Edit) (ends : List ℕ). history_of list ends) (bundle-after edits bundles v are lt)
    (ap (λ (n : ℕ). take v bundles ++ n ∷ []) (through ∙ next) ∙ sym (take_more bundles v 0 lt))

-- the last bundle makes the history of all edits
pub history-whole : (edits : List Edit) (bundles : List ℕ) → AreBundles bundles (length edits)
    → history_of (take (edits_through bundles (length bundles)) edits) (take (length bundles) bundles) ≡ history_of edits bundles
history-whole edits bundles are =
    ap₂ (λ (list : List Edit) (ends : List ℕ). history_of list ends) (ap (λ (n : ℕ). take n edits) are.whole ∙ take-length edits) (take-length bundles)

pub rules_of-history : (edits : List Edit) (bundles : List ℕ) (v : ℕ) → edits_through bundles v ≤ length edits → rules_of (history_of edits bundles) v ≡ version edits bundles v
rules_of-history edits bundles v le = rules_after-edit_history edits (edits_through bundles v) le
