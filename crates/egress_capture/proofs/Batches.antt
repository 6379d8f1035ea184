-- Elements of a list that are written at once, and those that are sent on as they came in.
use Rattle.std.proofs.Common.{◌≡◌, ℕ, zero, suc, ◌+◌, ◌-◌, ◌≤◌, ◌<◌, List, [], ◌∷◌, ◌++◌, length, get_or, take, drop, refl, sym, ap, ◌∙◌, subst, inl, inr, append_assoc, arith}
use Rattle.std.specs.List.{flat_map}
use Rattle.std.proofs.lemmas.Bool.{eq-eqb}
use Rattle.std.proofs.lemmas.List.{drop_more, take-append-drop}
use Rattle.std.proofs.lemmas.Grind.{flat_map-append}
use Rattle.std.proofs.Math.Seq.{take-add}
use Rattle.spec_actions.specs.declared.action.DpAction.{DpAction}
use Rattle.spec_actions.specs.declared.action.DpAction.TheVariants.{Output}
use Rattle.spec_case.specs.declared.arrival.Arrival.{Arrival}
use Rattle.spec_case.specs.Run.{Run, frame_at}
use Rattle.spec_board.specs.Texts.{Journal}
use Rattle.spec_run.specs.Journals.{actions_for}
use Rattle.spec_run.specs.Outputs.{frames_by, sent_to}
use Rattle.egress_capture.specs.declared.port_filter.PortFilter.{PortFilter}
use Rattle.egress_capture.specs.Batches.{IsNext, IsBatch}
use Rattle.egress_capture.specs.Filters.{LackBit}
use Rattle.egress_capture.proofs.Prefixes.{of_one}
use Rattle.egress_capture.proofs.Sends.{out_sending}

-- ---- frames that are sent on once, as they came in

-- What is sent of a frame whose actions are one output is that frame.
pub sent_once : (run : Run) (journals : List Journal) (port : ℕ) (a : Arrival)
    → actions_for run journals a.port a.place ≡ Output port ∷ []
    → sent_to run journals port a ≡ frame_at run a.port a.place ∷ []
sent_once run journals port a is =
    let frame = frame_at run a.port a.place in
    ap (λ (actions : List DpAction). frames_by run actions port a) is
    ∙ out_sending port frame.time (Output port) frame.bytes (eq-eqb port port refl)

-- ---- a batch that goes on

module _ (came : List Arrival) (filters : List PortFilter) (port at : ℕ) where
  pub begun : IsBatch came filters port at zero 0
  unfolding IsBatch
  begun = refl

  pub one_more : (n count : ℕ) → IsNext came filters port at (at + n) count → IsBatch came filters port at n count
      → IsBatch came filters port at (suc n) (count + 1)
  unfolding IsBatch
  one_more n count next batch =
      let before : (count + 1) - 1 ≡ count = omega arith in
      inr (
        omega arith,
        subst (λ (k : ℕ). IsNext came filters port at (at + n) k × IsBatch came filters port at n k) (sym before) (next, batch),
      )

  -- what follows it lacks the bit of the port
  pub passed_over : (n more all count : ℕ) → all ≡ n + more → LackBit filters port (at + n) (at + all)
      → IsBatch came filters port at n count → IsBatch came filters port at all count
  unfolding IsBatch
  passed_over n zero all count is lack batch =
      let same : n ≡ all = omega (arith, is) in
      subst (λ (k : ℕ). IsBatch came filters port at k count) same batch
  passed_over n (suc more) all count is lack batch =
      let last : suc (n + more) ≡ all = omega (arith, is) in
      subst (λ (k : ℕ). IsBatch came filters port at k count) last (inl (
        λ f. lack (at + (n + more)) f (omega arith) (omega (arith, last)),
        passed_over n more (n + more) count refl (λ k f from lt. lack k f from (omega (arith, lt, last))) batch,
      ))

-- ---- several elements of a list at once, of which the first are written

-- one of them
pub one_alone : {X : Type 0} (bytes : X → List ℕ) (xs : List X) (i : ℕ) (d : X) → i < length xs
    → flat_map bytes (take 1 (drop i xs)) ≡ bytes (get_or xs i d)
one_alone {X = X} bytes xs i d lt = ap (λ (ys : List X). flat_map bytes (take 1 ys)) (drop_more xs i d lt) ∙ of_one bytes (get_or xs i d)

module _ {X : Type 0} (bytes : X → List ℕ) (xs : List X) (i n : ℕ) where
  pub several_more : flat_map bytes (take (i + n) xs) ≡ flat_map bytes (take i xs) ++ flat_map bytes (take n (drop i xs))
  several_more = ap (flat_map bytes) (take-add i n xs) ∙ flat_map-append bytes (take i xs) (take n (drop i xs))

  pub around_several : (m : ℕ) → i + n ≤ m
      → flat_map bytes (take m xs)
      ≡ flat_map bytes (take i xs) ++ (flat_map bytes (take n (drop i xs)) ++ flat_map bytes (take (m - (i + n)) (drop n (drop i xs))))
  around_several m few =
      let rest = take (m - (i + n)) (drop n (drop i xs)) in
      let all : i + (n + (m - (i + n))) ≡ m = omega (arith, few) in
      let cut : take m xs ≡ take i xs ++ (take n (drop i xs) ++ rest) =
      ap (λ (k : ℕ). take k xs) (sym all) ∙ take-add i (n + (m - (i + n))) xs
      ∙ ap (λ (ys : List X). take i xs ++ ys) (take-add n (m - (i + n)) (drop i xs)) in
      ap (flat_map bytes) cut ∙ flat_map-append bytes (take i xs) (take n (drop i xs) ++ rest)
      ∙ ap (λ (zs : List ℕ). flat_map bytes (take i xs) ++ zs) (flat_map-append bytes (take n (drop i xs)) rest)

-- the same of the pieces of each, after a header
module _ {X Z : Type 0} (pieces : X → List Z) (bytes : Z → List ℕ) (header : List ℕ) (xs : List X) (i n : ℕ) where
  abbrev file : List X → List ℕ
  file xs = header ++ flat_map bytes (flat_map pieces xs)

  abbrev batch : List X
  batch = take n (drop i xs)

  joined : (ys zs : List X) → file (ys ++ zs) ≡ file ys ++ flat_map bytes (flat_map pieces zs)
  joined ys zs =
      ap (λ (all : List Z). header ++ flat_map bytes all) (flat_map-append pieces ys zs)
      ∙ ap (λ (all : List ℕ). header ++ all) (flat_map-append bytes (flat_map pieces ys) (flat_map pieces zs))
      ∙ sym (append_assoc header (flat_map bytes (flat_map pieces ys)) (flat_map bytes (flat_map pieces zs)))

  pub batch_more : file (take (i + n) xs) ≡ file (take i xs) ++ flat_map bytes (flat_map pieces batch)
  batch_more = ap file (take-add i n xs) ∙ joined (take i xs) batch

  pub around_batch : file xs
      ≡ file (take i xs) ++ (flat_map bytes (flat_map pieces batch) ++ flat_map bytes (flat_map pieces (drop n (drop i xs))))
  around_batch =
      let rest = drop n (drop i xs) in
      ap file (sym (take-append-drop i xs) ∙ ap (λ (ys : List X). take i xs ++ ys) (sym (take-append-drop n (drop i xs))))
      ∙ joined (take i xs) (batch ++ rest)
      ∙ ap (λ (zs : List Z). file (take i xs) ++ flat_map bytes zs) (flat_map-append pieces batch rest)
      ∙ ap (λ (zs : List ℕ). file (take i xs) ++ zs) (flat_map-append bytes (flat_map pieces batch) (flat_map pieces rest))
