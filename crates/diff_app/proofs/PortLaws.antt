-- The ports of words, word by word.
use Rattle.std.proofs.Common.{◌≡◌, ℕ, zero, suc, ◌+◌, ◌<◌, ◌≤◌, Bool, true, false, List, [], ◌∷◌, ◌++◌, length, get_or, drop, Some, None, refl, sym, ap, ◌∙◌, arith}
use Rattle.std.specs.Prelude.{nat_lt, String, string_bytes}
use Rattle.std.specs.declared.alloc.Global.{Global}
use Rattle.std.proofs.lemmas.Bool.Decides.{nat_tests}
use Rattle.std.proofs.lemmas.List.{drop_more, length-map}
use Rattle.command_words.specs.CommandViews.{texts}
use Rattle.spec_input.specs.Words.{most_ports}
use Rattle.spec_tools.specs.TraceWords.{new_port}
use Rattle.spec_tools.specs.DiffWords.{ports_with, ports_of, command_from, command_in}

pub one_port : (before word : List ℕ) (words : List (List ℕ)) (port : ℕ) → new_port before word ≡ Some port
    → ports_with before (word ∷ words) ≡ ports_with (before ++ port ∷ []) words
unfolding ports_with
one_port before word words port is = rw is refl

pub no_port : (before word : List ℕ) (words : List (List ℕ)) → new_port before word ≡ None → ports_with before (word ∷ words) ≡ None
unfolding ports_with
no_port before word words is = rw is refl

pub no_words : (before : List ℕ) → ports_with before [] ≡ Some before
unfolding ports_with
no_words before = refl

-- what is left from a word on
pub left_from : (words : List (String Global)) (i : ℕ) (d : String Global) → i < length words
    → texts (drop i words) ≡ string_bytes (get_or words i d) ∷ texts (drop (i + 1) words)
left_from words i d within = ap texts (drop_more words i d within)

drop-past : (words : List (String Global)) (i : ℕ) → length words ≤ i → drop i words ≡ []
drop-past [] zero past = refl
drop-past [] (suc i) past = refl
drop-past (x ∷ words) zero past = absurd (omega arith)
drop-past (x ∷ words) (suc i) past = drop-past words i (omega arith)

pub none_left : (words : List (String Global)) (i : ℕ) → length words ≤ i → texts (drop i words) ≡ []
none_left words i past = ap texts (drop-past words i past)

few_test : (m n : ℕ) → n ≤ m → nat_lt m n ≡ false
few_test m n le = grind (arith, nat_tests)

many_test : (m n : ℕ) → m < n → nat_lt m n ≡ true
many_test m n lt = grind (arith, nat_tests)

pub few : (words : List (String Global)) → length words ≤ most_ports → ports_of (texts words) ≡ ports_with [] (texts words)
unfolding ports_of
few words le = rw (length-map words string_bytes) (rw (few_test most_ports (length words) le) refl)

pub many : (words : List (String Global)) → most_ports < length words → ports_of (texts words) ≡ None
unfolding ports_of
many words lt = rw (length-map words string_bytes) (rw (many_test most_ports (length words) lt) refl)

-- one port or more
pub some_ports : (brief : Bool) (old new : List ℕ) (ports : List (List ℕ)) → 0 < length ports → command_in brief (old ∷ new ∷ ports) ≡ command_from brief old new ports
unfolding command_in
some_ports brief old new [] some = absurd (omega arith)
some_ports brief old new (p ∷ ports) some = refl

pub no_ports : (brief : Bool) (old new : List ℕ) (ports : List (List ℕ)) → length ports ≡ 0 → command_in brief (old ∷ new ∷ ports) ≡ None
unfolding command_in
no_ports brief old new [] none = refl
no_ports brief old new (p ∷ ports) none = absurd (omega arith)

-- ---- word by word

left_at : (words : List (String Global)) (i : ℕ) (item : String Global) → i < length words → item ≡ get_or words i item
    → texts (drop i words) ≡ string_bytes item ∷ texts (drop (i + 1) words)
left_at words i item within is =
    left_from words i item within ∙ ap (λ (w : String Global). string_bytes w ∷ texts (drop (i + 1) words)) (sym is)

pub step_none : (words : List (String Global)) (i : ℕ) (item : String Global) (ports before word : List ℕ) → length words ≤ most_ports
    → i < length words → item ≡ get_or words i item → before ≡ ports → word ≡ string_bytes item → None ≡ new_port before word
    → ports_with ports (texts (drop i words)) ≡ ports_with [] (texts words) → None ≡ ports_of (texts words)
step_none words i item ports before word le within is same text none so_far =
    let here : new_port ports (string_bytes item) ≡ None =
    ap (λ (b : List ℕ). new_port b (string_bytes item)) (sym same) ∙ ap (new_port before) (sym text) ∙ sym none in
    sym (no_port ports (string_bytes item) (texts (drop (i + 1) words)) here) ∙ sym (ap (ports_with ports) (left_at words i item within is))
    ∙ so_far ∙ sym (few words le)

pub step_some : (words : List (String Global)) (i : ℕ) (item : String Global) (ports before word new : List ℕ) (port : ℕ)
    → i < length words → item ≡ get_or words i item → before ≡ ports → word ≡ string_bytes item → Some port ≡ new_port before word
    → new ≡ ports ++ port ∷ [] → ports_with ports (texts (drop i words)) ≡ ports_with [] (texts words)
    → ports_with new (texts (drop (i + 1) words)) ≡ ports_with [] (texts words)
step_some words i item ports before word new port within is same text some more so_far =
    let here : new_port ports (string_bytes item) ≡ Some port =
    ap (λ (b : List ℕ). new_port b (string_bytes item)) (sym same) ∙ ap (new_port before) (sym text) ∙ sym some in
    ap (λ (z : List ℕ). ports_with z (texts (drop (i + 1) words))) more
    ∙ sym (one_port ports (string_bytes item) (texts (drop (i + 1) words)) port here)
    ∙ sym (ap (ports_with ports) (left_at words i item within is)) ∙ so_far

pub all_words : (words : List (String Global)) (i : ℕ) (ports : List ℕ) → length words ≤ most_ports → length words ≤ i
    → ports_with ports (texts (drop i words)) ≡ ports_with [] (texts words) → Some ports ≡ ports_of (texts words)
all_words words i ports le past so_far =
    sym (no_words ports) ∙ ap (ports_with ports) (sym (none_left words i past)) ∙ so_far ∙ sym (few words le)
