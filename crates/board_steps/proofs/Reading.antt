-- Journals are read back from their text.
use Rattle.std.proofs.Common.{◌≡◌, ℕ, Bool, true, false, List, [], ◌∷◌, ◌++◌, map, refl, sym, ap, ◌∙◌, append_assoc}
use Rattle.std.specs.Prelude.{codes, All, if◌then◌else◌}
use Rattle.std.specs.Fmt.{decimal}
use Rattle.std.specs.List.{flat_map, list_all, slice_split}
use Rattle.std.proofs.lemmas.Bool.{and_from}
use Rattle.std.proofs.lemmas.Grind.{flat_map-append}
use Rattle.std.proofs.lemmas.List.{append-nil}
use Rattle.std.proofs.lemmas.List.Elements.{All-head, All-tail}
use Rattle.std.proofs.lemmas.List.Folds.{flat_map-map, list_all-append}
use Rattle.spec_board.specs.Steps.{Step}
use Rattle.spec_board.specs.Texts.{Journal, line_of, word_with, step_text, journal_text, journals_text}
use Rattle.board_steps.specs.Printable.{IsPrintable, IsPrintableStep, IsPrintableJournal}
use Rattle.board_steps.proofs.Cuts.{is_space, is_feed, is_word, is_line, with_spaces, split_words, split_lines, words_are_line}
use Rattle.board_steps.proofs.StepWords.{number_is_word, value_is, first_word, other_words, step_text-is, first_is_word, others_are_words, says, number_at, read_step, read_step-is, not_port}

-- ---- the lines of journals

abbrev port_line : ℕ → List ℕ
port_line port = word_with (codes "port") port

abbrev lines_of : Journal → List (List ℕ)
lines_of j = port_line j.port ∷ map step_text j.steps

abbrev all_lines : List Journal → List (List ℕ)
all_lines journals = flat_map lines_of journals

port_line-is : (port : ℕ) → port_line port ≡ with_spaces (codes "port") (decimal port ∷ [])
port_line-is port = simp (append_assoc, append-nil)

journal_text-is : (j : Journal) → flat_map line_of (lines_of j) ≡ journal_text j
journal_text-is j = ap (λ (text : List ℕ). line_of (port_line j.port) ++ text) (flat_map-map line_of step_text j.steps)

journals_text-is : (journals : List Journal) → flat_map line_of (all_lines journals) ≡ journals_text journals
journals_text-is [] = refl
journals_text-is (j ∷ journals) =
    let first = journal_text-is j in
    let others = journals_text-is journals in
    flat_map-append line_of (lines_of j) (all_lines journals) ∙ (λ i. first i ++ others i)

port_is_line : (port : ℕ) → IsPrintable port → is_line (port_line port) ≡ true
port_is_line port fits =
    ap is_line (port_line-is port)
    ∙ words_are_line (codes "port") (decimal port ∷ []) refl (and_from (is_word (decimal port)) true (number_is_word port fits) refl)

step_is_line : (s : Step) → IsPrintableStep s → is_line (step_text s) ≡ true
step_is_line s fits =
    ap is_line (step_text-is s) ∙ words_are_line (first_word s) (other_words s) (first_is_word s) (others_are_words s fits)

steps_are_lines : (steps : List Step) → All IsPrintableStep steps → list_all is_line (map step_text steps) ≡ true
steps_are_lines [] fit = refl
steps_are_lines (s ∷ steps) fit =
    and_from (is_line (step_text s)) (list_all is_line (map step_text steps))
    (step_is_line s (All-head IsPrintableStep s steps fit)) (steps_are_lines steps (All-tail IsPrintableStep s steps fit))

journals_are_lines : (journals : List Journal) → All IsPrintableJournal journals → list_all is_line (all_lines journals) ≡ true
journals_are_lines [] fit = refl
journals_are_lines (j ∷ journals) fit =
    let first = All-head IsPrintableJournal j journals fit in
    let line = and_from (is_line (port_line j.port)) (list_all is_line (map step_text j.steps)) (port_is_line j.port first.port) (steps_are_lines j.steps first.steps) in
    list_all-append is_line (lines_of j) (all_lines journals)
    ∙ and_from (list_all is_line (lines_of j)) (list_all is_line (all_lines journals)) line
    (journals_are_lines journals (All-tail IsPrintableJournal j journals fit))

-- ---- reading lines, from the last to the first

-- the journals after a place, and the steps there that belong to the journal before it
record Read : Type 0 where
  steps : List Step
  journals : List Journal

abbrev read_words : List (List ℕ) → Read → Read
read_words words after =
    if says words 0 (codes "port")
    then record { steps = []; journals = record { port = number_at words 1; steps = after.steps } ∷ after.journals }
    else record { steps = read_step words ∷ after.steps; journals = after.journals }

abbrev read_line : List ℕ → Read → Read
read_line line after = read_words (slice_split is_space line) after

abbrev read_lines : List (List ℕ) → Read
read_lines [] = record { steps = []; journals = [] }
read_lines (line ∷ lines) = read_line line (read_lines lines)

abbrev after_port : ℕ → Read → Read
after_port port after = record { steps = []; journals = record { port = port; steps = after.steps } ∷ after.journals }

abbrev after_step : Step → Read → Read
after_step s after = record { steps = s ∷ after.steps; journals = after.journals }

read_port : (port : ℕ) (after : Read) → IsPrintable port → read_line (port_line port) after ≡ after_port port after
read_port port after fits =
    let words = split_words (codes "port") (decimal port ∷ []) refl (and_from (is_word (decimal port)) true (number_is_word port fits) refl) in
    ap (λ (line : List ℕ). read_line line after) (port_line-is port)
    ∙ ap (λ (all : List (List ℕ)). read_words all after) words
    ∙ ap (λ (n : ℕ). after_port n after) (value_is port fits)

read_a_step : (s : Step) (after : Read) → IsPrintableStep s → read_line (step_text s) after ≡ after_step s after
read_a_step s after fits =
    let words = split_words (first_word s) (other_words s) (first_is_word s) (others_are_words s fits) in
    let by_word : (test : Bool) → says (first_word s ∷ other_words s) 0 (codes "port") ≡ test → test ≡ false
    → read_words (first_word s ∷ other_words s) after ≡ after_step (read_step (first_word s ∷ other_words s)) after
    = λ test is no. rw (is ∙ no) refl in
    ap (λ (line : List ℕ). read_line line after) (step_text-is s)
    ∙ ap (λ (all : List (List ℕ)). read_words all after) words
    ∙ by_word false (not_port s) refl
    ∙ ap (λ (step : Step). after_step step after) (read_step-is s fits)

read_steps : (steps : List Step) (lines : List (List ℕ)) → All IsPrintableStep steps
    → read_lines (map step_text steps ++ lines) ≡ record { steps = steps ++ (read_lines lines).steps; journals = (read_lines lines).journals }
read_steps [] lines fit = refl
read_steps (s ∷ steps) lines fit =
    ap (read_line (step_text s)) (read_steps steps lines (All-tail IsPrintableStep s steps fit))
    ∙ read_a_step s _ (All-head IsPrintableStep s steps fit)

read_journals : (journals : List Journal) → All IsPrintableJournal journals
    → read_lines (all_lines journals) ≡ record { steps = []; journals = journals }
read_journals [] fit = refl
read_journals (j ∷ journals) fit =
    let first = All-head IsPrintableJournal j journals fit in
    let others = read_journals journals (All-tail IsPrintableJournal j journals fit) in
    let after : read_lines (map step_text j.steps ++ all_lines journals) ≡ record { steps = j.steps; journals = journals } =
    read_steps j.steps (all_lines journals) first.steps
    ∙ ap (λ (rest : Read). let all : Read = record { steps = j.steps ++ rest.steps; journals = rest.journals } in all) others
    ∙ ap (λ (steps : List Step). let all : Read = record { steps = steps; journals = journals } in all) (append-nil j.steps) in
    ap (read_line (port_line j.port)) after ∙ read_port j.port _ first.port

-- ---- reading a text

abbrev all_but_last : List (List ℕ) → List (List ℕ)
all_but_last [] = []
all_but_last (line ∷ []) = []
all_but_last (line ∷ next ∷ lines) = line ∷ all_but_last (next ∷ lines)

all_but_last-push : (lines : List (List ℕ)) (last : List ℕ) → all_but_last (lines ++ last ∷ []) ≡ lines
all_but_last-push [] last = refl
all_but_last-push (line ∷ []) last = refl
all_but_last-push (line ∷ next ∷ lines) last =
    ap (λ (rest : List (List ℕ)). line ∷ rest) (all_but_last-push (next ∷ lines) last)

abbrev read_text : List ℕ → List Journal
read_text text = (read_lines (all_but_last (slice_split is_feed text))).journals

read_text-is : (journals : List Journal) → All IsPrintableJournal journals → read_text (journals_text journals) ≡ journals
read_text-is journals fit =
    ap read_text (sym (journals_text-is journals))
    ∙ ap (λ (lines : List (List ℕ)). (read_lines (all_but_last lines)).journals) (split_lines (all_lines journals) (journals_are_lines journals fit))
    ∙ ap (λ (lines : List (List ℕ)). (read_lines lines).journals) (all_but_last-push (all_lines journals) [])
    ∙ ap (λ (r : Read). r.journals) (read_journals journals fit)

pub one_to_one : (a b : List Journal) → All IsPrintableJournal a → All IsPrintableJournal b
    → journals_text a ≡ journals_text b → a ≡ b
one_to_one a b fit_a fit_b same = sym (read_text-is a fit_a) ∙ ap read_text same ∙ read_text-is b fit_b
