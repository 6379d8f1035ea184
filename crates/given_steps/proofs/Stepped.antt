-- What a given step does to the boards of a run, which are values that boards are seen of.
use Rattle.std.proofs.Common.{◌≡◌, ◌⊎◌, inl, inr, ℕ, zero, suc, ◌+◌, ◌≤◌, ◌<◌, ◌==◌, if◌then◌else◌, Bool, true, false, List, [], ◌∷◌, length, map, Some, None, get_or, set, refl, sym, ap, ◌∙◌, subst, arith}
use Rattle.std.specs.Prelude.{nat_lt, nat_eq, position}
use Rattle.std.specs.List.{list_any, IsDistinct}
use Rattle.std.proofs.lemmas.Bool.{ltb-true, eqb-true, eq-eqb, ne_eqb, or_parts, false≢true, cases_lt, cond-true, cond-false}
use Rattle.std.proofs.lemmas.List.{get_or-map, length-map}
use Rattle.std.proofs.lemmas.List.Quantifiers.{position-Some}
use Rattle.std.proofs.lemmas.Map.Keys.{apart_from_distinct}
use Rattle.std.proofs.lemmas.Simd.{map-map}
use Rattle.spec_case.specs.declared.run_step.RunStep.{RunStep}
use Rattle.spec_case.specs.Run.{Run}
use Rattle.spec_case.specs.Blocks.{hi, last_block}
use Rattle.spec_board.specs.Schedules.{Board, Schedule, least_block}
use Rattle.spec_board.specs.GivenSteps.{given_step, counted, is_met_at, with_port_step, with_edit_step}
use Rattle.given_steps.specs.ByNumber.{NumberedBoard, by_number, NumberedSchedule, all_by_number}
use Rattle.given_steps.specs.Running.{board_of, stepped_at}
use Rattle.given_steps.proofs.StepLaws.{step_goes}

-- ---- the board of a port, by the place of the port

module _ {V : Type 0} (S : V → Board) (port : ℕ) where
  abbrev is_port : ℕ → Bool
  is_port p = p == port

  abbrev port_of : V → ℕ
  port_of v = (S v).port

  found_at : (items : List V) (place : ℕ) (d : V) → place < length items → is_port (port_of (get_or items place d)) ≡ true
      → ((k : ℕ) → k < place → is_port (port_of (get_or items k d)) ≡ false) → board_of port (map S items) ≡ Some (S (get_or items place d))
  found_at [] place d within is before = absurd (omega (arith, within))
  found_at (v ∷ items) zero d within is before = cond-true (is_port (port_of v)) (Some (S v)) (board_of port (map S items)) is
  found_at (v ∷ items) (suc place) d within is before =
      cond-false (is_port (port_of v)) (Some (S v)) (board_of port (map S items)) (before 0 (omega arith))
      ∙ found_at items place d (omega (arith, within)) is (λ k less. before (suc k) (omega (arith, less)))

  -- where the port stands, there its board does
  pub found : (ports : List ℕ) (items : List V) (place : ℕ) (d : V) → map port_of items ≡ ports → position is_port ports ≡ Some place
      → board_of port (map S items) ≡ Some (S (get_or items place d))
  found ports items place d are at =
      let h = position-Some is_port (map port_of items) place (port_of d) (ap (position is_port) are ∙ at) in
      let n = length-map items port_of in
      let within : place < length items = (let w = h.0 in omega (arith, w, n)) in
      let same : (k : ℕ) → k < length items → get_or (map port_of items) k (port_of d) ≡ port_of (get_or items k d) = λ k less. get_or-map port_of items k d (port_of d) less in
      found_at items place d within (ap is_port (sym (same place within)) ∙ h.1)
      (λ k less. ap is_port (sym (same k (omega (arith, less, within)))) ∙ h.2 k less)

  pub there : (ports : List ℕ) (items : List V) (place : ℕ) → map port_of items ≡ ports → position is_port ports ≡ Some place → place < length items
  there ports items place are at =
      let h = (position-Some is_port ports place 0 at).0 in
      omega (arith, h, sym (length-map items port_of) ∙ ap length are)

  pub port_there : (ports : List ℕ) (items : List V) (place : ℕ) (d : V) → map port_of items ≡ ports → position is_port ports ≡ Some place → port_of (get_or items place d) ≡ port
  port_there ports items place d are at =
      let h = (position-Some is_port (map port_of items) place (port_of d) (ap (position is_port) are ∙ at)).1 in
      let same = get_or-map port_of items place d (port_of d) (there ports items place are at) in
      eqb-true (port_of (get_or items place d)) port (ap is_port (sym same) ∙ h)

  -- no other board is of that port
  pub others : (ports : List ℕ) (items : List V) (place : ℕ) (d : V) → map port_of items ≡ ports → IsDistinct nat_eq ports → position is_port ports ≡ Some place
      → (k : ℕ) → k < length items → (k ≡ place → ⊥) → is_port (port_of (get_or items k d)) ≡ false
  others ports items place d are distinct at k within differ = by_order (cases_lt k place)
    where
      listed : List ℕ
      listed = map port_of items

      here : port_of (get_or items place d) ≡ port
      here = port_there ports items place d are at

      same : (k : ℕ) → k < length items → get_or listed k (port_of d) ≡ port_of (get_or items k d)
      same k less = get_or-map port_of items k d (port_of d) less

      apart : (i j : ℕ) → i < j → j < length items → nat_eq (port_of (get_or items i d)) (port_of (get_or items j d)) ≡ false
      apart i j less inside =
          let n = length-map items port_of in
          let a = same i (omega (arith, less, inside)) in
          let b = same j inside in
          ap (nat_eq (port_of (get_or items i d))) (sym b) ∙ ap (λ x. nat_eq x (get_or listed j (port_of d))) (sym a)
          ∙ apart_from_distinct nat_eq listed i j (port_of d) (subst (IsDistinct nat_eq) (sym are) distinct) less (omega (arith, inside, n))

      by_order : (k < place) ⊎ (place ≤ k) → is_port (port_of (get_or items k d)) ≡ false
      by_order (inl less) = ap (nat_eq (port_of (get_or items k d))) (sym here) ∙ apart k place less (there ports items place are at)
      by_order (inr more) =
          let first = apart place k (omega (arith, more, differ)) within in
          ne_eqb (port_of (get_or items k d)) port (λ e. alike (sym (ap (λ x. nat_eq x (port_of (get_or items k d))) here ∙ ap (nat_eq port) e) ∙ first))
        where
          alike : nat_eq port port ≡ false → ⊥
          alike h = false≢true (sym h ∙ eq-eqb port port refl)

  -- where the port isn't there, no board is of it
  pub none_there : (items : List V) → list_any is_port (map port_of items) ≡ false → board_of port (map S items) ≡ None
  none_there [] none = refl
  none_there (v ∷ items) none =
      let parts = or_parts (is_port (port_of v)) (list_any is_port (map port_of items)) none in
      cond-false (is_port (port_of v)) (Some (S v)) (board_of port (map S items)) parts.0 ∙ none_there items parts.1

-- ---- the boards after a step of a port

module _ {V B W : Type 0} (S : V → B) (F : B → W) (T : V → W) where
  -- only the board of one place changes
  pub map_stepped : (items : List V) (place : ℕ) (v d : V) → place < length items → T v ≡ F (S (get_or items place d))
      → ((k : ℕ) → k < length items → (k ≡ place → ⊥) → F (S (get_or items k d)) ≡ T (get_or items k d))
      → map T (set items place v) ≡ map F (map S items)
  map_stepped [] place v d within is others = absurd (omega (arith, within))
  map_stepped (x ∷ items) zero v d within is others =
      ap (λ b. b ∷ map T items) is
      ∙ ap (λ bs. F (S x) ∷ bs) (map_same items d (λ k less. others (suc k) (omega (arith, less)) (λ e. omega (arith, e))))
    where
      map_same : (ys : List V) (d : V) → ((k : ℕ) → k < length ys → F (S (get_or ys k d)) ≡ T (get_or ys k d)) → map T ys ≡ map F (map S ys)
      map_same [] d same = refl
      map_same (y ∷ ys) d same =
          ap (λ b. b ∷ map T ys) (sym (same 0 (omega arith)))
          ∙ ap (λ bs. F (S y) ∷ bs) (map_same ys d (λ k less. same (suc k) (omega (arith, less))))
  map_stepped (x ∷ items) (suc place) v d within is others =
      ap (λ b. b ∷ map T (set items place v)) (sym (others 0 (omega arith) (λ e. omega (arith, e))))
      ∙ ap (λ bs. F (S x) ∷ bs) (map_stepped items place v d (omega (arith, within)) is (λ k less differ. others (suc k) (omega (arith, less)) (λ e. differ (omega (arith, e)))))

module _ {V : Type 0} (S : V → Board) (run : Run) (v : ℕ) (step : RunStep) (port : ℕ) where
  -- the board at the place of the port takes the step
  pub taken_at : (ports : List ℕ) (items : List V) (place : ℕ) (new d : V) → map (λ x. (S x).port) items ≡ ports → IsDistinct nat_eq ports
      → position (λ p. p == port) ports ≡ Some place → by_number (S new) ≡ by_number (given_step run v step (S (get_or items place d))).1
      → map by_number (map S (set items place new)) ≡ map by_number (map (stepped_at run v step port) (map S items))
  taken_at ports items place new d are distinct at is =
      let b = S (get_or items place d) in
      let stepped : Board → Board = stepped_at run v step port in
      map-map by_number S (set items place new)
      ∙ map_stepped S (λ x. by_number (stepped x)) (λ x. by_number (S x)) items place new d (there S port ports items place are at)
      (is ∙ sym (ap by_number (cond-true (b.port == port) (given_step run v step b).1 b (eq-eqb b.port port (port_there S port ports items place d are at)))))
      (λ k less differ. ap by_number (cond-false ((S (get_or items k d)).port == port) _ _ (others S port ports items place d are distinct at k less differ)))
      ∙ sym (map-map by_number stepped (map S items))

  -- and where the port isn't there, none does
  pub none_taken : (items : List V) → list_any (λ p. p == port) (map (λ x. (S x).port) items) ≡ false
      → map S items ≡ map (stepped_at run v step port) (map S items)
  none_taken [] none = refl
  none_taken (x ∷ items) none =
      let b = S x in
      let parts = or_parts (b.port == port) (list_any (λ p. p == port) (map (λ y. (S y).port) items)) none in
      ap (λ a. a ∷ map S items) (sym (cond-false (b.port == port) (given_step run v step b).1 b parts.0))
      ∙ ap (λ bs. stepped_at run v step port b ∷ bs) (none_taken items parts.1)

-- ---- the least block

stepped_block : (run : Run) (v : ℕ) (step : RunStep) (port : ℕ) (b : Board) → b.state.block ≤ (stepped_at run v step port b).state.block
stepped_block run v step port b = by_test (b.port == port)
  where
    by_test : (t : Bool) → b.state.block ≤ (if t then (given_step run v step b).1 else b).state.block
    by_test true = (step_goes run v step b).block
    by_test false = omega arith

-- no step takes it back
pub stepped_least : (run : Run) (v : ℕ) (step : RunStep) (port most : ℕ) (bs : List Board)
    → least_block most bs ≤ least_block most (map (stepped_at run v step port) bs)
unfolding least_block
stepped_least run v step port most [] = omega arith
stepped_least run v step port most (b ∷ bs) =
    let first = stepped_block run v step port b in
    let others = stepped_least run v step port most bs in omega (arith, first, others)

-- ---- schedules

abbrev pub schedule_of : ℕ → ℕ → List Board → Schedule
schedule_of newest unmet boards = record { newest = newest; boards = boards; unmet = unmet }

-- a bundle is published, or not
pub edit_is : (run : Run) (v unmet w : ℕ) (met : Bool) (boards : List Board) → met ≡ nat_lt v (hi run (least_block (last_block run) boards)) → w ≡ (if met then v + 1 else v)
    → all_by_number (schedule_of w (counted met unmet) boards) ≡ all_by_number (with_edit_step run (schedule_of v unmet boards))
edit_is run v unmet w met boards is at =
    ap all_by_number (ap (λ n. schedule_of n (counted met unmet) boards) at ∙ by_test met ∙ ap (λ t. if t then schedule_of (v + 1) unmet boards else schedule_of v (unmet + 1) boards) is)
  where
    by_test : (t : Bool) → schedule_of (if t then v + 1 else v) (counted t unmet) boards ≡ (if t then schedule_of (v + 1) unmet boards else schedule_of v (unmet + 1) boards)
    by_test true = refl
    by_test false = refl

pub edit_within : (v h w : ℕ) (met : Bool) → met ≡ nat_lt v h → w ≡ (if met then v + 1 else v) → v ≤ h → w ≤ h
edit_within v h w true is at before = let less = ltb-true v h (sym is) in omega (arith, at, less)
edit_within v h w false is at before = omega (arith, at, before)

-- a step of a port is taken
pub port_step_is : (run : Run) (v unmet : ℕ) (step : RunStep) (port : ℕ) (met : Bool) (old new : List Board)
    → met ≡ is_met_at run v step (board_of port old) → map by_number new ≡ map by_number (map (stepped_at run v step port) old)
    → all_by_number (schedule_of v (counted met unmet) new) ≡ all_by_number (with_port_step run step port (schedule_of v unmet old))
port_step_is run v unmet step port met old new is taken =
    let numbered : ℕ → List NumberedBoard → NumberedSchedule = λ n boards. record { newest = v; boards = boards; unmet = n } in
    ap (numbered (counted met unmet)) taken ∙ ap (λ t. numbered (counted t unmet) (map by_number (map (stepped_at run v step port) old))) is
