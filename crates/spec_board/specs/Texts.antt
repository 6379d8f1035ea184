-- Journals as text: for each port a line `port P`, and then a line for each step.
use Rattle.std.specs.Prelude.{ℕ, List, [], ◌∷◌, ◌++◌, codes}
use Rattle.std.specs.List.{flat_map}
use Rattle.std.specs.Fmt.{decimal}
use Rattle.spec_board.specs.declared.looked.Looked.{Looked}
use Rattle.spec_board.specs.declared.looked.Looked.TheVariants.{Exact, Mega, Miss}
use Rattle.spec_board.specs.declared.put_done.PutDone.{PutDone}
use Rattle.spec_board.specs.declared.put_done.PutDone.TheVariants.{Idle, Removed, Kept, Replaced}
use Rattle.spec_board.specs.Steps.{Step, Open, Look, Settle, Begin, Put, End, Settled, Present, Full, Installed}

-- a word and a number, with a space between them
abbrev pub word_with : List ℕ → ℕ → List ℕ
word_with word n = word ++ (codes " " ++ decimal n)

-- a text, a space, and a word
abbrev pub followed_by : List ℕ → List ℕ → List ℕ
followed_by text word = text ++ (codes " " ++ word)

abbrev pub looked_text : Looked → List ℕ
looked_text (Exact n) = word_with (codes "exact") n
looked_text (Mega n) = word_with (codes "mega") n
looked_text Miss = codes "miss"

-- the numbers of the entries that were dropped, each after a space
abbrev pub numbers_text : List ℕ → List ℕ
numbers_text numbers = flat_map (λ n. codes " " ++ decimal n) numbers

abbrev pub dropped_text : List ℕ → List ℕ
dropped_text [] = []
dropped_text (n ∷ numbers) = codes " drop" ++ numbers_text (n ∷ numbers)

abbrev pub settled_text : Settled → List ℕ
settled_text (Present n) = word_with (codes "present") n
settled_text Full = codes "full"
settled_text (Installed n numbers) = word_with (codes "installed") n ++ dropped_text numbers

abbrev pub put_text : PutDone → List ℕ
put_text Idle = codes "idle"
put_text Removed = codes "removed"
put_text Kept = codes "kept"
put_text Replaced = codes "replaced"

abbrev pub step_text : Step → List ℕ
step_text (Open block) = word_with (codes "open") block
step_text (Look place r) = followed_by (word_with (codes "look") place) (looked_text r)
step_text (Settle place v r) = followed_by (followed_by (word_with (codes "settle") place) (decimal v)) (settled_text r)
step_text (Begin v) = word_with (codes "begin") v
step_text (Put number v r) = followed_by (followed_by (word_with (codes "put") number) (decimal v)) (put_text r)
step_text End = codes "end"

-- the journal of a port
pub record Journal : Type 0 where
  pub port : ℕ
  pub steps : List Step

abbrev pub line_of : List ℕ → List ℕ
line_of text = text ++ codes "\n"

abbrev pub journal_text : Journal → List ℕ
journal_text j = line_of (word_with (codes "port") j.port) ++ flat_map (λ step. line_of (step_text step)) j.steps

abbrev pub journals_text : List Journal → List ℕ
journals_text journals = flat_map journal_text journals
