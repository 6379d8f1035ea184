-- The words of a step's line, and the step that they say.
use Rattle.std.proofs.Common.{◌≡◌, ℕ, ◌<◌, Bool, true, false, List, [], ◌∷◌, ◌++◌, get_or, drop, map, refl, sym, ap, ◌∙◌, append_assoc, arith}
use Rattle.std.specs.Prelude.{codes, nat_eq, nat_lt, All, if◌then◌else◌}
use Rattle.std.specs.Cmp.Lexicographic.{pointwise}
use Rattle.std.specs.Fmt.{decimal}
use Rattle.std.specs.List.{flat_map, list_all}
use Rattle.std.specs.Str.Parse.{AllDigits, digits_value}
use Rattle.std.proofs.lemmas.Bool.{and_from, lt-ltb}
use Rattle.std.proofs.lemmas.Fmt.{decimal_is_IsNumeral_wide}
use Rattle.std.proofs.lemmas.List.{append-nil}
use Rattle.std.proofs.lemmas.List.Elements.{All-head, All-tail}
use Rattle.std.proofs.lemmas.List.Folds.{flat_map-map}
use Rattle.std.proofs.lemmas.Str.Parse.{digit_from_value}
use Rattle.spec_board.specs.declared.looked.Looked.{Looked}
use Rattle.spec_board.specs.declared.looked.Looked.TheVariants.{Exact, Mega, Miss}
use Rattle.spec_board.specs.declared.put_done.PutDone.{PutDone}
use Rattle.spec_board.specs.declared.put_done.PutDone.TheVariants.{Idle, Removed, Kept, Replaced}
use Rattle.spec_board.specs.Steps.{Step, Open, Look, Settle, Begin, Put, End, Settled, Present, Full, Installed}
use Rattle.spec_board.specs.Texts.{step_text, looked_text, settled_text, put_text, numbers_text}
use Rattle.board_steps.specs.Printable.{IsPrintable, IsPrintableLooked, IsPrintableSettled, IsPrintableStep}
use Rattle.board_steps.proofs.Cuts.{is_word, with_spaces}

-- ---- numbers

digits_are_word : (digits : List ℕ) → AllDigits 10 digits → is_word digits ≡ true
digits_are_word [] all = refl
digits_are_word (c ∷ digits) (first, others) =
    let above : 32 < c = omega (arith, digit_from_value c first) in
    and_from (nat_lt 32 c) (is_word digits) (lt-ltb 32 c above) (digits_are_word digits others)

pub number_is_word : (n : ℕ) → IsPrintable n → is_word (decimal n) ≡ true
number_is_word n fits = digits_are_word (decimal n) (decimal_is_IsNumeral_wide n fits).0.1

pub value_is : (n : ℕ) → IsPrintable n → digits_value 10 (decimal n) ≡ n
value_is n fits = (decimal_is_IsNumeral_wide n fits).1

numbers_are_words : (numbers : List ℕ) → All IsPrintable numbers → list_all is_word (map decimal numbers) ≡ true
numbers_are_words [] fit = refl
numbers_are_words (n ∷ numbers) fit =
    and_from (is_word (decimal n)) (list_all is_word (map decimal numbers))
    (number_is_word n (All-head IsPrintable n numbers fit)) (numbers_are_words numbers (All-tail IsPrintable n numbers fit))

values_are : (numbers : List ℕ) → All IsPrintable numbers → map (digits_value 10) (map decimal numbers) ≡ numbers
values_are [] fit = refl
values_are (n ∷ numbers) fit =
    let first = value_is n (All-head IsPrintable n numbers fit) in
    let others = values_are numbers (All-tail IsPrintable n numbers fit) in
    λ i. first i ∷ others i

-- ---- the words of a line: the first, and the others

abbrev pub first_word : Step → List ℕ
first_word (Open block) = codes "open"
first_word (Look place r) = codes "look"
first_word (Settle place v r) = codes "settle"
first_word (Begin v) = codes "begin"
first_word (Put number v r) = codes "put"
first_word End = codes "end"

abbrev looked_words : Looked → List (List ℕ)
looked_words (Exact n) = codes "exact" ∷ decimal n ∷ []
looked_words (Mega n) = codes "mega" ∷ decimal n ∷ []
looked_words Miss = codes "miss" ∷ []

abbrev dropped_words : List ℕ → List (List ℕ)
dropped_words [] = []
dropped_words (n ∷ numbers) = codes "drop" ∷ decimal n ∷ map decimal numbers

abbrev settled_words : Settled → List (List ℕ)
settled_words (Present n) = codes "present" ∷ decimal n ∷ []
settled_words Full = codes "full" ∷ []
settled_words (Installed n numbers) = codes "installed" ∷ decimal n ∷ dropped_words numbers

abbrev put_word : PutDone → List ℕ
put_word Idle = codes "idle"
put_word Removed = codes "removed"
put_word Kept = codes "kept"
put_word Replaced = codes "replaced"

abbrev pub other_words : Step → List (List ℕ)
other_words (Open block) = decimal block ∷ []
other_words (Look place r) = decimal place ∷ looked_words r
other_words (Settle place v r) = decimal place ∷ decimal v ∷ settled_words r
other_words (Begin v) = decimal v ∷ []
other_words (Put number v r) = decimal number ∷ decimal v ∷ put_word r ∷ []
other_words End = []

abbrev after_spaces : List (List ℕ) → List ℕ
after_spaces words = flat_map (λ next. codes " " ++ next) words

numbers_text-is : (numbers : List ℕ) → numbers_text numbers ≡ after_spaces (map decimal numbers)
numbers_text-is numbers = sym (flat_map-map (λ next. codes " " ++ next) decimal numbers)

looked_text-is : (r : Looked) → codes " " ++ looked_text r ≡ after_spaces (looked_words r)
looked_text-is (Exact n) = simp append-nil
looked_text-is (Mega n) = simp append-nil
looked_text-is Miss = refl

settled_text-is : (r : Settled) → codes " " ++ settled_text r ≡ after_spaces (settled_words r)
settled_text-is (Present n) = simp append-nil
settled_text-is Full = refl
settled_text-is (Installed n []) = refl
settled_text-is (Installed n (m ∷ numbers)) =
    ap (λ (text : List ℕ). codes " installed " ++ (decimal n ++ (codes " drop" ++ text))) (numbers_text-is (m ∷ numbers))

put_text-is : (r : PutDone) → codes " " ++ put_text r ≡ after_spaces (put_word r ∷ [])
put_text-is Idle = refl
put_text-is Removed = refl
put_text-is Kept = refl
put_text-is Replaced = refl

one_after : (a b : List ℕ) → a ++ b ≡ a ++ (b ++ [])
one_after a b = ap (λ (text : List ℕ). a ++ text) (sym (append-nil b))

three_after : (a b c d : List ℕ) → ((a ++ b) ++ c) ++ d ≡ a ++ (b ++ (c ++ d))
three_after a b c d = simp append_assoc

-- the line is these words, with spaces
pub step_text-is : (s : Step) → step_text s ≡ with_spaces (first_word s) (other_words s)
step_text-is (Open block) = one_after (codes "open") (codes " " ++ decimal block)
step_text-is (Look place r) =
    append_assoc (codes "look") (codes " " ++ decimal place) (codes " " ++ looked_text r)
    ∙ ap (λ (text : List ℕ). codes "look " ++ (decimal place ++ text)) (looked_text-is r)
step_text-is (Settle place v r) =
    three_after (codes "settle") (codes " " ++ decimal place) (codes " " ++ decimal v) (codes " " ++ settled_text r)
    ∙ ap (λ (text : List ℕ). codes "settle " ++ (decimal place ++ (codes " " ++ (decimal v ++ text)))) (settled_text-is r)
step_text-is (Begin v) = one_after (codes "begin") (codes " " ++ decimal v)
step_text-is (Put number v r) =
    three_after (codes "put") (codes " " ++ decimal number) (codes " " ++ decimal v) (codes " " ++ put_text r)
    ∙ ap (λ (text : List ℕ). codes "put " ++ (decimal number ++ (codes " " ++ (decimal v ++ text)))) (put_text-is r)
step_text-is End = refl

pub first_is_word : (s : Step) → is_word (first_word s) ≡ true
first_is_word (Open block) = refl
first_is_word (Look place r) = refl
first_is_word (Settle place v r) = refl
first_is_word (Begin v) = refl
first_is_word (Put number v r) = refl
first_is_word End = refl

looked_are_words : (r : Looked) → IsPrintableLooked r → list_all is_word (looked_words r) ≡ true
looked_are_words (Exact n) fits = rw (number_is_word n fits) refl
looked_are_words (Mega n) fits = rw (number_is_word n fits) refl
looked_are_words Miss fits = refl

settled_are_words : (r : Settled) → IsPrintableSettled r → list_all is_word (settled_words r) ≡ true
settled_are_words (Present n) fits = rw (number_is_word n fits) refl
settled_are_words Full fits = refl
settled_are_words (Installed n []) fits = rw (number_is_word n fits.0) refl
settled_are_words (Installed n (m ∷ numbers)) fits =
    rw (number_is_word n fits.0) (numbers_are_words (m ∷ numbers) fits.1)

pub others_are_words : (s : Step) → IsPrintableStep s → list_all is_word (other_words s) ≡ true
others_are_words (Open block) fits = rw (number_is_word block fits) refl
others_are_words (Look place r) fits = rw (number_is_word place fits.0) (looked_are_words r fits.1)
others_are_words (Settle place v r) fits =
    rw (number_is_word place fits.0, number_is_word v fits.1) (settled_are_words r fits.2)
others_are_words (Begin v) fits = rw (number_is_word v fits) refl
others_are_words (Put number v Idle) fits = rw (number_is_word number fits.0, number_is_word v fits.1) refl
others_are_words (Put number v Removed) fits = rw (number_is_word number fits.0, number_is_word v fits.1) refl
others_are_words (Put number v Kept) fits = rw (number_is_word number fits.0, number_is_word v fits.1) refl
others_are_words (Put number v Replaced) fits = rw (number_is_word number fits.0, number_is_word v fits.1) refl
others_are_words End fits = refl

-- ---- reading words

abbrev pub says : List (List ℕ) → ℕ → List ℕ → Bool
says words place word = pointwise nat_eq (get_or words place []) word

abbrev pub number_at : List (List ℕ) → ℕ → ℕ
number_at words place = digits_value 10 (get_or words place [])

abbrev read_looked : List (List ℕ) → Looked
read_looked words =
    if says words 2 (codes "exact") then Exact (number_at words 3)
    else (if says words 2 (codes "mega") then Mega (number_at words 3) else Miss)

abbrev read_settled : List (List ℕ) → Settled
read_settled words =
    if says words 3 (codes "present") then Present (number_at words 4)
    else (if says words 3 (codes "full") then Full
    else Installed (number_at words 4) (map (digits_value 10) (drop 6 words)))

abbrev read_put : List (List ℕ) → PutDone
read_put words =
    if says words 3 (codes "idle") then Idle
    else (if says words 3 (codes "removed") then Removed
    else (if says words 3 (codes "kept") then Kept else Replaced))

abbrev pub read_step : List (List ℕ) → Step
read_step words =
    if says words 0 (codes "open") then Open (number_at words 1)
    else (if says words 0 (codes "look") then Look (number_at words 1) (read_looked words)
    else (if says words 0 (codes "settle") then Settle (number_at words 1) (number_at words 2) (read_settled words)
    else (if says words 0 (codes "begin") then Begin (number_at words 1)
    else (if says words 0 (codes "put") then Put (number_at words 1) (number_at words 2) (read_put words) else End))))

pub read_step-is : (s : Step) → IsPrintableStep s → read_step (first_word s ∷ other_words s) ≡ s
read_step-is (Open block) fits = rw (value_is block fits) refl
read_step-is (Look place (Exact n)) fits = rw (value_is place fits.0, value_is n fits.1) refl
read_step-is (Look place (Mega n)) fits = rw (value_is place fits.0, value_is n fits.1) refl
read_step-is (Look place Miss) fits = rw (value_is place fits.0) refl
read_step-is (Settle place v (Present n)) fits = rw (value_is place fits.0, value_is v fits.1, value_is n fits.2) refl
read_step-is (Settle place v Full) fits = rw (value_is place fits.0, value_is v fits.1) refl
read_step-is (Settle place v (Installed n [])) fits =
    rw (value_is place fits.0, value_is v fits.1, value_is n fits.2.0) refl
read_step-is (Settle place v (Installed n (m ∷ numbers))) fits =
    let dropped = values_are (m ∷ numbers) fits.2.1 in
    rw (value_is place fits.0, value_is v fits.1, value_is n fits.2.0)
    (ap (λ (all : List ℕ). Settle place v (Installed n all)) dropped)
read_step-is (Begin v) fits = rw (value_is v fits) refl
read_step-is (Put number v Idle) fits = rw (value_is number fits.0, value_is v fits.1) refl
read_step-is (Put number v Removed) fits = rw (value_is number fits.0, value_is v fits.1) refl
read_step-is (Put number v Kept) fits = rw (value_is number fits.0, value_is v fits.1) refl
read_step-is (Put number v Replaced) fits = rw (value_is number fits.0, value_is v fits.1) refl
read_step-is End fits = refl

-- no step's line is that of a port
pub not_port : (s : Step) → says (first_word s ∷ other_words s) 0 (codes "port") ≡ false
not_port (Open block) = refl
not_port (Look place r) = refl
not_port (Settle place v r) = refl
not_port (Begin v) = refl
not_port (Put number v r) = refl
not_port End = refl
