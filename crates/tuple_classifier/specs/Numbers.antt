-- Lists of numbers, and of numbers that are kept with their counts.
use Rattle.std.specs.Prelude.{ℕ, ◌==◌, if◌then◌else◌, slice_index, List, map, replicate, count_by}
use Rattle.std.specs.List.{flat_map}
use Rattle.tuple_classifier.specs.declared.sorted.Counted.{Counted}

-- how often a number stands in a list
abbrev pub times : ℕ → List ℕ → ℕ
times n numbers = count_by (λ x. x == n) numbers

-- the numbers that entries stand for, each as often as its counts say
unfoldable pub numbers_in : List Counted → List ℕ
numbers_in entries = flat_map (λ c. replicate c.count c.number) entries

abbrev pub entry_numbers : List Counted → List ℕ
entry_numbers entries = map (λ c. c.number) entries

abbrev pub entry_counts : List Counted → List ℕ
entry_counts entries = map (λ c. c.count) entries

-- the number of the entry at a place, and its count
abbrev pub number_at : ℕ → List Counted → ℕ
number_at place entries = slice_index (entry_numbers entries) place

abbrev pub count_at : ℕ → List Counted → ℕ
count_at place entries = slice_index (entry_counts entries) place

-- how often a number stands by an entry with this number and count
abbrev pub times_by : ℕ → ℕ → ℕ → ℕ
times_by n number count = if number == n then count else 0
