-- Totals and what is owed are what is due: what every step keeps.
use Rattle.std.proofs.Common.{◌≡◌, ℕ, ◌+◌, ◌*◌, List, [], ◌∷◌, ◌++◌, length, map, None, refl, sym, ap, ◌∙◌, arith}
use Rattle.std.specs.List.{sum_by}
use Rattle.std.proofs.lemmas.List.Sums.{sum_by-cons}
use Rattle.spec_actions.specs.declared.action.DpAction.{DpAction}
use Rattle.spec_xlate.specs.Translation.{Translation}
use Rattle.spec_case.specs.Run.{Run, last_version, frame_at}
use Rattle.spec_case.specs.Blocks.{AreInOrder}
use Rattle.spec_board.specs.declared.looked.Looked.TheVariants.{Exact, Mega, Miss}
use Rattle.spec_board.specs.declared.put_done.PutDone.TheVariants.{Idle, Removed, Kept, Replaced}
use Rattle.spec_board.specs.Steps.{Step, Open, Look, Settle, Begin, Put, End, Settled, Present, Full, Installed}
use Rattle.spec_board.specs.State.{Entry, State, Total}
use Rattle.spec_board.specs.Results.{key_at, translated, mask_for, entry_of}
use Rattle.spec_board.specs.Effects.{effect, credited, new_entry, key_of_entry}
use Rattle.spec_board.specs.Journals.{Legal, IsLegal, opened, after}
use Rattle.spec_board.specs.Decisions.{Decision, decided_place, decision_at, decisions_from, decisions, visits_of, due_packets, due_bytes}
use Rattle.board_laws.specs.Entries.{HasKeys}
use Rattle.spec_board.specs.Counts.{times_visited, owed_packets, owed_bytes}
use Rattle.board_laws.proofs.Refusals.{may_look}
use Rattle.board_laws.proofs.Journals.{after_all}
use Rattle.board_laws.proofs.Changes.{hit, left_by, renewed_by, paid_totals}
use Rattle.board_laws.proofs.Hits.{Hits}
use Rattle.board_laws.proofs.Right.{right_from-made}
use Rattle.board_laws.proofs.Kept.{key_clean, keys_before}
use Rattle.board_laws.proofs.KeptInOrder.{IsKeptInOrder, AreTaken, all_taken}
use Rattle.board_laws.proofs.Told.{DecidesAs, exact_hit, mega_hit, exact_decides, mega_decides, settled}
use Rattle.board_laws.proofs.Once.{decision_is}
use Rattle.board_laws.proofs.Owing.{Part, Packets, Bytes, part, unit, owing, owing_of, pick, credited_part, owing_push, paid_balance, dropped_owing, renewed_owing, hit_owing}

-- a rule's total, and what the entries owe it
abbrev pub balance : Part → ℕ → State → ℕ
balance c rule s = part c (s.totals rule) + owing c rule s.entries

abbrev pub due_of : Run → ℕ → Part → ℕ → Decision → ℕ
due_of run port c rule d = visits_of run port rule d * unit c (frame_at run port d.place)

abbrev pub dues : Run → ℕ → Part → ℕ → List Decision → ℕ
dues run port c rule [] = 0
dues run port c rule (d ∷ ds) = due_of run port c rule d + dues run port c rule ds

dues-append : (run : Run) (port : ℕ) (c : Part) (rule : ℕ) (ds es : List Decision)
    → dues run port c rule (ds ++ es) ≡ dues run port c rule ds + dues run port c rule es
dues-append run port c rule [] es = omega arith
dues-append run port c rule (d ∷ ds) es = let h = dues-append run port c rule ds es in omega (arith, h)

module _ (run : Run) (port limit : ℕ) (c : Part) (rule : ℕ) (s : State) (k : IsKeptInOrder run port limit s) where
  -- the state after a step
  abbrev next : Step → State
  next step = effect run port s step

  abbrev Balances : Step → Type 0
  Balances step = balance c rule (next step) ≡ balance c rule s + dues run port c rule (decision_at (decided_place step) s (next step))

  -- what a frame counts for a rule under a version
  abbrev visited : ℕ → ℕ → ℕ
  visited place v = times_visited rule (translated run v (key_at run port place)).visits * unit c (frame_at run port place)

  one_due : (step : Step) (place v : ℕ) (actions : List DpAction) → DecidesAs run port s (next step) step place v actions
      → dues run port c rule (decision_at (decided_place step) s (next step)) ≡ visited place v
  one_due step place v actions d = ap (dues run port c rule) (decision_is run port s (next step) step place v actions d) ∙ (omega arith)

  -- an entry that is hit owes what the frame counts
  hit_balance : (step : Step) (place n : ℕ) → place ≡ s.next → HasKeys run port (s.next + 1) → (h : Hits s (key_at run port place) n)
      → (next step).totals ≡ s.totals → (next step).entries ≡ map (hit n (frame_at run port place)) s.entries
      → DecidesAs run port s (next step) step place h.entry.version h.entry.actions → Balances step
  hit_balance step place n turn keys h totals entries d =
      let e = h.entry in
      let frame = frame_at run port place in
      let made = k.kept.made (keys_before run port s.next (s.next + 1) (omega arith) keys) e h.live in
      let key_is = keys place (omega (arith, turn, k.kept.places.from_one)) (omega (arith, turn)) in
      let visits : e.visits ≡ (translated run e.version (key_at run port place)).visits =
      (right_from-made run e made).visits (key_at run port place) key_is (key_clean run port place) h.covers in
      let more : owing c rule (next step).entries ≡ owing c rule s.entries + times_visited rule e.visits * unit c frame =
      ap (owing c rule) entries ∙ hit_owing c rule frame s.entries e n h.number k.kept.apart.rising h.live in
      let same : part c ((next step).totals rule) ≡ part c (s.totals rule) = ap (λ (ts : ℕ → Total). part c (ts rule)) totals in
      let due = one_due step place e.version e.actions d ∙ ap (λ (vs : List ℕ). times_visited rule vs * unit c frame) (sym visits) in
      add_up _ _ _ _ _ _ same more due
    where
      add_up : (a b x y z w : ℕ) → a ≡ b → x ≡ y + z → w ≡ z → a + x ≡ (b + y) + w
      add_up a b x y z w p q r = omega arith

  -- a settle credits at once; what it pays was owed
  settle_balance : (step : Step) (place v : ℕ)
      → part c ((next step).totals rule) + owing c rule (next step).entries
      ≡ part c (credited (translated run v (key_at run port place)).visits 1 (length (frame_at run port place).bytes) s.totals rule) + owing c rule s.entries
      → DecidesAs run port s (next step) step place v (translated run v (key_at run port place)).actions → Balances step
  settle_balance step place v e d =
      let visits = (translated run v (key_at run port place)).visits in
      let q = credited_part c visits 1 (length (frame_at run port place).bytes) s.totals rule in
      add_up _ (owing c rule s.entries) _ (part c (s.totals rule)) (visited place v) _ e q (one_due step place v _ d)
    where
      add_up : (g x b s z w : ℕ) → g ≡ b + x → b ≡ s + z → w ≡ z → g ≡ (s + x) + w
      add_up g x b s z w p q r = omega arith

  silent_balance : (step : Step) → decided_place step ≡ None → balance c rule (next step) ≡ balance c rule s → Balances step
  silent_balance step none e =
      let z : dues run port c rule (decision_at (decided_place step) s (next step)) ≡ 0 = ap (λ o. dues run port c rule (decision_at o s (next step))) none in
      add_up _ _ _ e z
    where
      add_up : (a b w : ℕ) → a ≡ b → w ≡ 0 → a ≡ b + w
      add_up a b w p q = omega arith

  -- ---- entries that are paid

  left_balance : (numbers : List ℕ) (totals : ℕ → Total)
      → part c (paid_totals numbers s.entries totals rule) + owing c rule (left_by numbers s.entries) ≡ part c (totals rule) + owing c rule s.entries
  left_balance numbers totals =
      ap (λ (n : ℕ). part c (paid_totals numbers s.entries totals rule) + n) (dropped_owing c rule numbers s.entries)
      ∙ paid_balance c rule numbers s.entries totals

  installed_balance : (numbers : List ℕ) (totals : ℕ → Total) (e : Entry) → owing_of c rule e ≡ 0
      → part c (paid_totals numbers s.entries totals rule) + owing c rule (left_by numbers s.entries ++ e ∷ []) ≡ part c (totals rule) + owing c rule s.entries
  installed_balance numbers totals e z =
      ap (λ (n : ℕ). part c (paid_totals numbers s.entries totals rule) + n) (owing_push c rule (left_by numbers s.entries) e z)
      ∙ left_balance numbers totals

  renewed_balance : (n v : ℕ) (t : Translation)
      → part c (paid_totals (n ∷ []) s.entries s.totals rule) + owing c rule (renewed_by n v t s.entries) ≡ part c (s.totals rule) + owing c rule s.entries
  renewed_balance n v t =
      ap (λ (m : ℕ). part c (paid_totals (n ∷ []) s.entries s.totals rule) + m) (renewed_owing c rule n v t s.entries)
      ∙ paid_balance c rule (n ∷ []) s.entries s.totals

  -- ---- all steps

  none_owed : (c : Part) (times : ℕ) → times * pick c 0 0 ≡ 0
  none_owed Packets times = omega arith
  none_owed Bytes times = omega arith

  settles : (place v : ℕ) (r : Settled) → Legal run port limit s (Settle place v r) → Balances (Settle place v r)
  settles place v (Present n) legal = settle_balance (Settle place v (Present n)) place v refl (settled run port limit s k place v (Present n) legal)
  settles place v Full legal = settle_balance (Settle place v Full) place v refl (settled run port limit s k place v Full legal)
  settles place v (Installed n numbers) legal =
      let key = key_at run port place in
      let t = translated run v key in
      let frame = frame_at run port place in
      let new = new_entry n key (mask_for run v key) v t frame in
      settle_balance (Settle place v (Installed n numbers)) place v
      (installed_balance numbers (credited t.visits 1 (length frame.bytes) s.totals) new (none_owed c (times_visited rule t.visits)))
      (settled run port limit s k place v (Installed n numbers) legal)

  balances : (step : Step) → Legal run port limit s step → HasKeys run port (effect run port s step).next → Balances step
  balances (Open block) legal keys = silent_balance (Open block) refl refl
  balances (Look place (Exact n)) legal keys =
      hit_balance (Look place (Exact n)) place n (may_look run port s place legal.0).0 keys (exact_hit run port limit s k place n legal) refl refl
      (exact_decides run port limit s k place n legal keys)
  balances (Look place (Mega n)) legal keys =
      hit_balance (Look place (Mega n)) place n (may_look run port s place legal.0).0 keys (mega_hit run port limit s k place n legal) refl refl
      (mega_decides run port limit s k place n legal keys)
  balances (Look place Miss) legal keys = silent_balance (Look place Miss) refl refl
  balances (Settle place v (Present n)) legal keys = settles place v (Present n) legal
  balances (Settle place v Full) legal keys = settles place v Full legal
  balances (Settle place v (Installed n numbers)) legal keys = settles place v (Installed n numbers) legal
  balances (Begin v) legal keys = silent_balance (Begin v) refl refl
  balances (Put n v Idle) legal keys = silent_balance (Put n v Idle) refl (left_balance (n ∷ []) s.totals)
  balances (Put n v Removed) legal keys = silent_balance (Put n v Removed) refl (left_balance (n ∷ []) s.totals)
  balances (Put n v Kept) legal keys = silent_balance (Put n v Kept) refl (renewed_balance n v (translated run v (key_of_entry (entry_of n s.entries))))
  balances (Put n v Replaced) legal keys = silent_balance (Put n v Replaced) refl (renewed_balance n v (translated run v (key_of_entry (entry_of n s.entries))))
  balances End legal keys = silent_balance End refl refl

-- ---- over a journal

balanced_from : (run : Run) (port limit : ℕ) (c : Part) (rule : ℕ) (s : State) (steps : List Step) → AreTaken run port limit s steps
    → balance c rule (after_all run port s steps) ≡ balance c rule s + dues run port c rule (decisions_from run port s steps)
unfolding decisions_from
balanced_from run port limit c rule s [] taken = omega arith
balanced_from run port limit c rule s (step ∷ steps) taken =
    let t = effect run port s step in
    let others = balanced_from run port limit c rule t steps taken.1 in
    let one = balances run port limit c rule s taken.0.kept step taken.0.legal taken.0.keys in
    let both = dues-append run port c rule (decision_at (decided_place step) s t) (decisions_from run port t steps) in
    add_up _ _ _ _ _ _ others one both
  where
    add_up : (x y z d e w : ℕ) → x ≡ y + e → y ≡ z + d → w ≡ d + e → x ≡ z + w
    add_up x y z d e w p q r = omega arith

balanced : (run : Run) (port limit : ℕ) (c : Part) (rule : ℕ) → AreInOrder run.syncs (last_version run) → (steps : List Step)
    → HasKeys run port (after run port steps).next → IsLegal run port limit steps
    → balance c rule (after run port steps) ≡ dues run port c rule (decisions run port steps)
balanced run port limit c rule in_order steps keys legal =
    balanced_from run port limit c rule (opened run port) steps (all_taken run port limit in_order steps legal keys) ∙ at c
  where
    at : (c : Part) → balance c rule (opened run port) + dues run port c rule (decisions run port steps) ≡ dues run port c rule (decisions run port steps)
    at Packets = omega arith
    at Bytes = omega arith

-- ---- in the words of the definitions

owing_packets : (rule : ℕ) (es : List Entry) → owed_packets rule es ≡ owing Packets rule es
owing_packets rule [] = refl
owing_packets rule (e ∷ es) =
    sum_by-cons (λ (e : Entry). times_visited rule e.visits * e.owed_packets) e es
    ∙ ap (λ (n : ℕ). owing_of Packets rule e + n) (owing_packets rule es)

owing_bytes : (rule : ℕ) (es : List Entry) → owed_bytes rule es ≡ owing Bytes rule es
owing_bytes rule [] = refl
owing_bytes rule (e ∷ es) =
    sum_by-cons (λ (e : Entry). times_visited rule e.visits * e.owed_bytes) e es
    ∙ ap (λ (n : ℕ). owing_of Bytes rule e + n) (owing_bytes rule es)

dues_packets : (run : Run) (port rule : ℕ) (ds : List Decision) → sum_by (visits_of run port rule) ds ≡ dues run port Packets rule ds
dues_packets run port rule [] = refl
dues_packets run port rule (d ∷ ds) = let h = dues_packets run port rule ds in sum_by-cons (visits_of run port rule) d ds ∙ (omega (arith, h))

dues_bytes : (run : Run) (port rule : ℕ) (ds : List Decision)
    → sum_by (λ (d : Decision). visits_of run port rule d * length (frame_at run port d.place).bytes) ds ≡ dues run port Bytes rule ds
dues_bytes run port rule [] = refl
dues_bytes run port rule (d ∷ ds) =
    sum_by-cons (λ (d : Decision). visits_of run port rule d * length (frame_at run port d.place).bytes) d ds
    ∙ ap (λ (n : ℕ). due_of run port Bytes rule d + n) (dues_bytes run port rule ds)

pub packets_balance : (run : Run) (port limit rule : ℕ) → AreInOrder run.syncs (last_version run) → (steps : List Step)
    → HasKeys run port (after run port steps).next → IsLegal run port limit steps
    → ((after run port steps).totals rule).packets + owed_packets rule (after run port steps).entries ≡ due_packets run port steps rule
packets_balance run port limit rule in_order steps keys legal =
    ap (λ (n : ℕ). ((after run port steps).totals rule).packets + n) (owing_packets rule (after run port steps).entries)
    ∙ balanced run port limit Packets rule in_order steps keys legal ∙ sym (dues_packets run port rule (decisions run port steps))

pub bytes_balance : (run : Run) (port limit rule : ℕ) → AreInOrder run.syncs (last_version run) → (steps : List Step)
    → HasKeys run port (after run port steps).next → IsLegal run port limit steps
    → ((after run port steps).totals rule).bytes + owed_bytes rule (after run port steps).entries ≡ due_bytes run port steps rule
bytes_balance run port limit rule in_order steps keys legal =
    ap (λ (n : ℕ). ((after run port steps).totals rule).bytes + n) (owing_bytes rule (after run port steps).entries)
    ∙ balanced run port limit Bytes rule in_order steps keys legal ∙ sym (dues_bytes run port rule (decisions run port steps))
