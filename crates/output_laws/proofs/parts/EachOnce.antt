-- The sums over the decisions of a whole journal are sums over the places of its trace.
use Rattle.std.proofs.Common.{◌≡◌, ◌⊎◌, inl, inr, ℕ, zero, suc, ◌+◌, ◌-◌, ◌*◌, ◌<◌, ◌≤◌, ◌==◌, Bool, true, false, if◌then◌else◌, List, [], ◌∷◌, ◌++◌, length, All, count_by, Option, Some, None, refl, sym, ap, ◌∙◌, arith}
use Rattle.std.specs.List.{find, sum_by, range_with_len}
use Rattle.std.specs.Option.{option_map, option_map_or}
use Rattle.std.proofs.lemmas.Bool.{cases_lt, cases_eq, eq-eqb, eqb-true, ne_eqb, false≢true}
use Rattle.std.proofs.lemmas.List.{get_or_past}
use Rattle.std.proofs.lemmas.List.Elements.{All-nil, All-cons, All-head, All-tail, All-append}
use Rattle.std.proofs.lemmas.List.Sums.{sum_by-cons, sum_by-append}
use Rattle.spec_case.specs.Run.{Run, frame_at, frames_of}
use Rattle.spec_case.specs.Blocks.{hi, block_of}
use Rattle.spec_board.specs.Steps.{Step}
use Rattle.spec_board.specs.State.{Place, Waiting, Pending, Decided, State, place_at, is_decided}
use Rattle.spec_board.specs.Results.{key_at, translated}
use Rattle.spec_board.specs.Effects.{effect}
use Rattle.spec_board.specs.Journals.{after, opened}
use Rattle.spec_board.specs.Decisions.{Decision, decided_place, decision_as, decision_at, decisions_from, decisions, is_of, decides, times_decided, due_packets, due_bytes}
use Rattle.spec_board.specs.Counts.{times_visited}
use Rattle.spec_board.specs.Texts.{Journal}
use Rattle.spec_run.specs.Journals.{HasEditsApart, IsWhole}
use Rattle.board_laws.proofs.Journals.{after_step}
use Rattle.board_laws.proofs.PlaceLaws.{at_there}
use Rattle.board_laws.proofs.Places.{all_places}
use Rattle.board_laws.proofs.ByLastVersions.{by_last_version}
use Rattle.output_laws.proofs.parts.Apart.{by_last}

-- ---- sums

module _ {X : Type 0} where
  pub sum_alike : (f g : X → ℕ) (xs : List X) → ((x : X) → f x ≡ g x) → sum_by f xs ≡ sum_by g xs
  sum_alike f g [] same = refl
  sum_alike f g (x ∷ xs) same =
      let a = sum_by-cons f x xs in
      let b = sum_by-cons g x xs in
      let rest = sum_alike f g xs same in
      omega (arith, a, b, rest, same x)

  pub sum_both : (f g : X → ℕ) (xs : List X) → sum_by (λ x. f x + g x) xs ≡ sum_by f xs + sum_by g xs
  sum_both f g [] = refl
  sum_both f g (x ∷ xs) =
      let a = sum_by-cons (λ x. f x + g x) x xs in
      let b = sum_by-cons f x xs in
      let c = sum_by-cons g x xs in
      let rest = sum_both f g xs in
      omega (arith, a, b, c, rest)

  module _ (p : X → Bool) (f : X → ℕ) where
    -- whether an element passes, and what it has where it does
    abbrev passes : X → ℕ
    passes x = if p x then 1 else 0

    abbrev passing : X → ℕ
    passing x = if p x then f x else 0

    passes-is : (x : X) (t : Bool) → p x ≡ t → passes x ≡ (if t then 1 else 0)
    passes-is x t is = ap (λ (t : Bool). if t then 1 else 0) is

    passing-is : (x : X) (t : Bool) → p x ≡ t → passing x ≡ (if t then f x else 0)
    passing-is x t is = ap (λ (t : Bool). if t then f x else 0) is

    none_pass : (xs : List X) → count_by p xs ≤ 0 → sum_by passing xs ≡ 0
    none_pass [] none = refl
    none_pass (x ∷ xs) none = at (p x) refl (none_pass xs)
      where
        counts : count_by p (x ∷ xs) ≡ passes x + count_by p xs
        counts = sum_by-cons passes x xs

        sums : sum_by passing (x ∷ xs) ≡ passing x + sum_by passing xs
        sums = sum_by-cons passing x xs

        at : (t : Bool) → p x ≡ t → (count_by p xs ≤ 0 → sum_by passing xs ≡ 0) → sum_by passing (x ∷ xs) ≡ 0
        at true is others = absurd (let one = passes-is x true is in omega (arith, counts, one, none))
        at false is others =
            let no_more = passing-is x false is in
            let rest = others (omega (arith, counts, none)) in
            omega (arith, sums, no_more, rest)

    -- the only one that passes is the one that is found
    one_passes : (it : X) (xs : List X) → find p xs ≡ Some it → count_by p xs ≤ 1 → sum_by passing xs ≡ f it
    one_passes it [] is once = absurd (cc is)
    one_passes it (x ∷ xs) is once = at (p x) refl is (one_passes it xs)
      where
        counts : count_by p (x ∷ xs) ≡ passes x + count_by p xs
        counts = sum_by-cons passes x xs

        sums : sum_by passing (x ∷ xs) ≡ passing x + sum_by passing xs
        sums = sum_by-cons passing x xs

        first : x ≡ it → p x ≡ true → sum_by passing (x ∷ xs) ≡ f it
        first same is =
            let one = passes-is x true is in
            let all = passing-is x true is in
            let value = ap f same in
            let rest = none_pass xs (omega (arith, counts, one, once)) in
            omega (arith, sums, all, value, rest)

        at : (t : Bool) → p x ≡ t → (if t then Some x else find p xs) ≡ Some it
            → (find p xs ≡ Some it → count_by p xs ≤ 1 → sum_by passing xs ≡ f it) → sum_by passing (x ∷ xs) ≡ f it
        at true is found others = first (cc found) is
        at false is found others =
            let nothing = passing-is x false is in
            let rest = others found (omega (arith, counts, once)) in
            omega (arith, sums, nothing, rest)

found_passes : {X : Type 0} (p : X → Bool) (it : X) (xs : List X) → find p xs ≡ Some it → p it ≡ true
found_passes p it [] is = absurd (cc is)
found_passes p it (x ∷ xs) is = at (p x) refl is (found_passes p it xs)
  where
    at : (t : Bool) → p x ≡ t → (if t then Some x else find p xs) ≡ Some it → (find p xs ≡ Some it → p it ≡ true) → p it ≡ true
    at true passes is others = let same : x ≡ it = cc is in ap p (sym same) ∙ passes
    at false fails is others = others is

-- one of the numbers of a range, and none of the others
module _ (at_it : ℕ → ℕ) (it : ℕ) where
  abbrev chosen : ℕ → ℕ
  chosen n = if it == n then at_it n else 0

  not_chosen : (from n : ℕ) → it < from → sum_by chosen (range_with_len from n) ≡ 0
  not_chosen from zero l = refl
  not_chosen from (suc n) l =
      let s = sum_by-cons chosen from (range_with_len (from + 1) n) in
      let other : chosen from ≡ 0 = ap {B = ℕ} (λ (t : Bool). if t then at_it from else 0) (ne_eqb it from (λ e. omega (arith, e, l))) in
      let rest = not_chosen (from + 1) n (omega (arith, l)) in
      omega (arith, s, other, rest)

  one_chosen : (from n : ℕ) → from ≤ it → it < from + n → sum_by chosen (range_with_len from n) ≡ at_it it
  one_chosen from zero first last = absurd (omega (arith, first, last))
  one_chosen from (suc n) first last = at (cases_eq it from) (one_chosen (from + 1) n)
    where
      s : sum_by chosen (range_with_len from (suc n)) ≡ chosen from + sum_by chosen (range_with_len (from + 1) n)
      s = sum_by-cons chosen from (range_with_len (from + 1) n)

      at : (it ≡ from) ⊎ (it ≡ from → ⊥) → (from + 1 ≤ it → it < from + 1 + n → sum_by chosen (range_with_len (from + 1) n) ≡ at_it it)
          → sum_by chosen (range_with_len from (suc n)) ≡ at_it it
      at (inl e) others =
          let this : chosen from ≡ at_it from = ap {B = ℕ} (λ (t : Bool). if t then at_it from else 0) (eq-eqb it from e) in
          let value = ap at_it e in
          let rest = not_chosen (from + 1) n (omega (arith, e)) in
          omega (arith, s, this, value, rest)
      at (inr differ) others =
          let other : chosen from ≡ 0 = ap {B = ℕ} (λ (t : Bool). if t then at_it from else 0) (ne_eqb it from differ) in
          let rest = others (omega (arith, first, differ)) (omega (arith, last)) in
          omega (arith, s, other, rest)

-- A sum is one over a range of numbers, where each element has one of them.
module _ {X : Type 0} (number : X → ℕ) (f : X → ℕ) (from n : ℕ) where
  abbrev IsOne : X → Type 0
  IsOne x = (from ≤ number x) × (number x < from + n)

  abbrev of_number : ℕ → X → ℕ
  of_number k x = if number x == k then f x else 0

  by_numbers : (xs : List X) → All IsOne xs → sum_by f xs ≡ sum_by (λ k. sum_by (of_number k) xs) (range_with_len from n)
  by_numbers [] all = sym (nothing from n)
    where
      nothing : (from n : ℕ) → sum_by (λ k. 0) (range_with_len from n) ≡ 0
      nothing from zero = refl
      nothing from (suc n) =
          let s = sum_by-cons (λ (k : ℕ). 0) from (range_with_len (from + 1) n) in let rest = nothing (from + 1) n in omega (arith, s, rest)
  by_numbers (x ∷ xs) all =
      let is = All-head IsOne x xs all in
      let a = sum_by-cons f x xs in
      let rest = by_numbers xs (All-tail IsOne x xs all) in
      let here = one_chosen (λ k. f x) (number x) from n is.0 is.1 in
      let apart = sum_alike (λ k. sum_by (of_number k) (x ∷ xs)) (λ k. of_number k x + sum_by (of_number k) xs) (range_with_len from n) (λ k. sum_by-cons (of_number k) x xs) in
      let both = sum_both (λ k. of_number k x) (λ k. sum_by (of_number k) xs) (range_with_len from n) in
      omega (arith, a, rest, here, apart, both)

-- ---- which places are decided

abbrev IsWithin : Run → ℕ → Decision → Type 0
IsWithin run port d = (1 ≤ d.place) × (d.place < 1 + length (frames_of run port))

-- a decided place is one of the board's
module _ (s : State) (place : ℕ) (is : is_decided (place_at place s) ≡ true) where
  decided_from : 1 ≤ place
  decided_from = by_cases (cases_eq place 0)
    where
      by_cases : (place ≡ 0) ⊎ (place ≡ 0 → ⊥) → 1 ≤ place
      by_cases (inl e) = absurd (false≢true (ap (λ i. is_decided (place_at i s)) (sym e) ∙ is))
      by_cases (inr n) = omega (arith, n)

  decided_upto : place ≤ length s.places
  decided_upto = by_cases (cases_lt (length s.places) place)
    where
      by_cases : (length s.places < place) ⊎ (place ≤ length s.places) → place ≤ length s.places
      by_cases (inl l) =
          absurd (false≢true (ap is_decided (sym (at_there s.places place decided_from ∙ get_or_past s.places (place - 1) Waiting (omega (arith, l)))) ∙ is))
      by_cases (inr r) = r

module _ (run : Run) (port : ℕ) where
  -- a decision of a step is of a place of the trace
  decision_within : (s t : State) (o : Option ℕ) → length t.places ≡ length (frames_of run port) → All (IsWithin run port) (decision_at o s t)
  decision_within s t None count = All-nil (IsWithin run port)
  decision_within s t (Some place) count = at (place_at place t) refl
    where
      at : (p : Place) → place_at place t ≡ p → All (IsWithin run port) (decision_as place p s t)
      at Waiting is = All-nil (IsWithin run port)
      at Pending is = All-nil (IsWithin run port)
      at (Decided v actions) is =
          let last = decided_upto t place (ap is_decided is) in
          All-cons (IsWithin run port) (record { place = place; version = v; actions = actions; before = s; after = t }) []
          (decided_from t place (ap is_decided is), omega (arith, last, count)) (All-nil (IsWithin run port))

  decisions_within : (done steps : List Step) (s : State) → s ≡ after run port done → All (IsWithin run port) (decisions_from run port s steps)
  unfolding decisions_from
  decisions_within done [] s is = All-nil (IsWithin run port)
  decisions_within done (step ∷ steps) s is =
      let t = effect run port s step in
      let next : t ≡ after run port (done ++ step ∷ []) = ap (λ (x : State). effect run port x step) is ∙ sym (after_step run port done step) in
      let count : length t.places ≡ length (frames_of run port) = ap (λ (x : State). length x.places) next ∙ all_places run port (done ++ step ∷ []) in
      All-append (IsWithin run port) (decision_at (decided_place step) s t) (decisions_from run port t steps)
      (decision_within s t (decided_place step) count) (decisions_within (done ++ step ∷ []) steps t next)

  -- no more are of a place than steps decide it
  decision_counts : (place : ℕ) (s t : State) (o : Option ℕ)
      → count_by (is_of place) (decision_at o s t) ≤ (if option_map_or (λ p. p == place) o false then 1 else 0)
  decision_counts place s t None = omega arith
  decision_counts place s t (Some p) = at (place_at p t)
    where
      at : (x : Place) → count_by (is_of place) (decision_as p x s t) ≤ (if p == place then 1 else 0)
      at Waiting = omega arith
      at Pending = omega arith
      at (Decided v actions) =
          let d : Decision = record { place = p; version = v; actions = actions; before = s; after = t } in
          let c = sum_by-cons (λ x. if is_of place x then 1 else 0) d [] in omega (arith, c)

  decisions_count : (place : ℕ) (s : State) (steps : List Step) → count_by (is_of place) (decisions_from run port s steps) ≤ times_decided steps place
  unfolding decisions_from
  decisions_count place s [] = omega arith
  decisions_count place s (step ∷ steps) =
      let t = effect run port s step in
      let a = sum_by-append (λ d. if is_of place d then 1 else 0) (decision_at (decided_place step) s t) (decisions_from run port t steps) in
      let first = decision_counts place s t (decided_place step) in
      let later = decisions_count place t steps in
      let c = sum_by-cons (λ x. if decides place x then 1 else 0) step steps in omega (arith, a, first, later, c)

-- ---- a whole journal, where no block has both edits and frames

-- what a sum over places has at a place of the trace
abbrev AgreeWithin : Run → ℕ → (ℕ → ℕ) → (ℕ → ℕ) → Type 0
AgreeWithin run port f g = (place : ℕ) → 1 ≤ place → place ≤ length (frames_of run port) → f place ≡ g place

pub sum_range : (f g : ℕ → ℕ) (from n : ℕ) → ((k : ℕ) → from ≤ k → k < from + n → f k ≡ g k)
    → sum_by f (range_with_len from n) ≡ sum_by g (range_with_len from n)
sum_range f g from zero same = refl
sum_range f g from (suc n) same =
    let a = sum_by-cons f from (range_with_len (from + 1) n) in
    let b = sum_by-cons g from (range_with_len (from + 1) n) in
    let here = same from (omega arith) (omega arith) in
    let rest = sum_range f g (from + 1) n (λ k low high. same k (omega (arith, low)) (omega (arith, high))) in
    omega (arith, a, b, here, rest)

module _ (run : Run) (j : Journal) (apart : HasEditsApart run) (whole : IsWhole run j) where
  abbrev size : ℕ
  size = length (frames_of run j.port)

  -- a sum over decisions of what a decision has by its place and its version
  through_places : (f : ℕ → ℕ → ℕ)
      → sum_by (λ (d : Decision). f d.place d.version) (decisions run j.port j.steps)
      ≡ sum_by (λ place. f place (hi run (block_of run j.port place))) (range_with_len 1 size)
  through_places f =
      by_numbers (λ (d : Decision). d.place) (λ (d : Decision). f d.place d.version) 1 size (decisions run j.port j.steps)
      (decisions_within run j.port [] j.steps (opened run j.port) refl)
      ∙ sum_range (λ k. sum_by (of_number (λ (d : Decision). d.place) (λ (d : Decision). f d.place d.version) 1 size k) (decisions run j.port j.steps))
      (λ place. f place (hi run (block_of run j.port place))) 1 size (λ k first last. at_place k first (omega (arith, last)))
    where
      at_place : (k : ℕ) → 1 ≤ k → k ≤ size
          → sum_by (of_number (λ (d : Decision). d.place) (λ (d : Decision). f d.place d.version) 1 size k) (decisions run j.port j.steps)
          ≡ f k (hi run (block_of run j.port k))
      at_place k first last =
          let d = whole.decided k first last in
          let most = decisions_count run j.port k (opened run j.port) j.steps in
          let same = sym (ap (option_map (λ (x : Decision). x.version)) d.is_decision) ∙ by_last_version run j apart whole k first last in
          let version : d.decision.version ≡ hi run (block_of run j.port k) = cc same in
          let here : d.decision.place ≡ k = eqb-true d.decision.place k (found_passes (is_of k) d.decision (decisions run j.port j.steps) d.is_decision) in
          one_passes (is_of k) (λ (d : Decision). f d.place d.version) d.decision (decisions run j.port j.steps) d.is_decision (omega (arith, most, d.once))
          ∙ ap (λ p. f p d.decision.version) here ∙ ap (f k) version

  pub packets_due : (rule : ℕ)
      → due_packets run j.port j.steps rule ≡ sum_by (λ place. times_visited rule (by_last run j.port place).visits) (range_with_len 1 size)
  packets_due rule = through_places (λ place v. times_visited rule (translated run v (key_at run j.port place)).visits)

  pub bytes_due : (rule : ℕ)
      → due_bytes run j.port j.steps rule
      ≡ sum_by (λ place. times_visited rule (by_last run j.port place).visits * length (frame_at run j.port place).bytes) (range_with_len 1 size)
  bytes_due rule =
      through_places (λ place v. times_visited rule (translated run v (key_at run j.port place)).visits * length (frame_at run j.port place).bytes)
