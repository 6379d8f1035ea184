-- Datapath actions emitted at once, and cut off at the limit.
use Rattle.std.proofs.Common.{◌≡◌, inl, inr, ℕ, ◌≤◌, ◌<◌, Bool, true, false, ◌==◌, nat_lt, if◌then◌else◌, List, [], ◌∷◌, ◌++◌, length, take, refl, sym, ap, ap₂, ◌∙◌, subst, eq-eqb, ne_eqb, lt-ltb, le-ltb, length-append, append_assoc, append-nil, take_at, take_all, arith}
use Rattle.std.proofs.lemmas.Bool.{cases_eq}
use Rattle.spec_actions.specs.declared.action.DpAction.{DpAction}
use Rattle.spec_xlate.specs.Commit.{commit}
use Rattle.spec_xlate.specs.Translation.{State, Mode, action_limit, stopped, emit, emit_all, committed}
use Rattle.spec_xlate.specs.Translation.Mode.{Stopped}

-- a state with these actions behind its own, as far as the limit allows
abbrev pub with_actions : List DpAction → State → State
with_actions xs s = record s {
  actions = take action_limit (s.actions ++ xs);
  mode = if nat_lt action_limit (length (s.actions ++ xs)) then Stopped else s.mode;
}

-- at the limit nothing more is emitted
full : (xs : List DpAction) (s : State) → length s.actions ≡ 128 → emit_all xs (stopped s) ≡ stopped s
unfolding emit_all emit
full [] s at_limit = refl
full (x ∷ xs) s at_limit =
    ap (λ t. emit_all xs (if t then stopped s else record (stopped s) { actions = s.actions ++ x ∷ [] })) (eq-eqb (length s.actions) 128 at_limit) ∙ full xs s at_limit

within_limit : (xs : List DpAction) (s : State) → length (s.actions ++ xs) ≤ 128 → with_actions xs s ≡ record s { actions = s.actions ++ xs }
within_limit xs s few =
    ap₂ (λ (ys : List DpAction) (t : Bool). record s { actions = ys; mode = if t then Stopped else s.mode }) (take_all 128 (s.actions ++ xs) few) (le-ltb 128 (length (s.actions ++ xs)) few)

over_limit : (xs : List DpAction) (s : State) → length s.actions ≡ 128 → 128 < length (s.actions ++ xs) → with_actions xs s ≡ stopped s
over_limit xs s at_limit many =
    ap₂ (λ (ys : List DpAction) (t : Bool). record s { actions = ys; mode = if t then Stopped else s.mode }) (take_at s.actions xs 128 at_limit) (lt-ltb 128 (length (s.actions ++ xs)) many)

emitted : (xs : List DpAction) (s : State) → length s.actions ≤ 128 → emit_all xs s ≡ with_actions xs s
unfolding emit_all emit
emitted [] s few =
    let within : length (s.actions ++ []) ≤ 128 = subst (λ (ys : List DpAction). length ys ≤ 128) (sym (append-nil s.actions)) few in
    sym (within_limit [] s within ∙ ap (λ (ys : List DpAction). record s { actions = ys }) (append-nil s.actions))
emitted (x ∷ xs) s few =
    elim (cases_eq (length s.actions) 128) [
      | inl at_limit ↦
          ap (λ t. emit_all xs (if t then stopped s else record s { actions = s.actions ++ x ∷ [] })) (eq-eqb (length s.actions) 128 at_limit)
          ∙ full xs s at_limit ∙ sym (over_limit (x ∷ xs) s at_limit (omega (arith, length-append s.actions (x ∷ xs))))
      | inr room ↦
          ap (λ t. emit_all xs (if t then stopped s else record s { actions = s.actions ++ x ∷ [] })) (ne_eqb (length s.actions) 128 room)
          ∙ emitted xs (record s { actions = s.actions ++ x ∷ [] }) (omega (arith, length-append s.actions (x ∷ [])))
          ∙ ap (λ (ys : List DpAction). record s { actions = take action_limit ys; mode = if nat_lt action_limit (length ys) then Stopped else s.mode }) (append_assoc s.actions (x ∷ []) xs)
    ]

-- ---- a commit and outputs in one go

emit-rebased : (x : DpAction) (s : State) (key : List ℕ) → emit x (record s { base = key }) ≡ record (emit x s) { base = key }
unfolding emit
emit-rebased x s key = by_test (length s.actions == action_limit)
  where
    by_test : (t : Bool) → (if t then stopped (record s { base = key }) else record s { base = key; actions = s.actions ++ x ∷ [] }) ≡ record (if t then stopped s else record s { actions = s.actions ++ x ∷ [] }) { base = key }
    by_test true = refl
    by_test false = refl

emit_all-rebased : (xs : List DpAction) (s : State) (key : List ℕ) → emit_all xs (record s { base = key }) ≡ record (emit_all xs s) { base = key }
unfolding emit_all
emit_all-rebased [] s key = refl
emit_all-rebased (x ∷ xs) s key = ap (emit_all xs) (emit-rebased x s key) ∙ emit_all-rebased xs (emit x s) key

emit_all-append : (xs ys : List DpAction) (s : State) → emit_all (xs ++ ys) s ≡ emit_all ys (emit_all xs s)
unfolding emit_all
emit_all-append [] ys s = refl
emit_all-append (x ∷ xs) ys s = emit_all-append xs ys (emit x s)

-- the frame becomes one of the current key, and further actions follow
pub sent : (outputs : List DpAction) (s : State) → length s.actions ≤ 128
    → emit_all outputs (committed s) ≡ record (with_actions (commit s.base s.current ++ outputs) s) { base = s.current }
unfolding committed
sent outputs s few =
    let first = emitted (commit s.base s.current) s few in
    emit_all-rebased outputs (emit_all (commit s.base s.current) s) (emit_all (commit s.base s.current) s).current
    ∙ ap₂ (λ (t : State) (key : List ℕ). record t { base = key })
    (sym (emit_all-append (commit s.base s.current) outputs s) ∙ emitted (commit s.base s.current ++ outputs) s few)
    (ap (λ (t : State). t.current) first)

-- the same by what the code has: the actions before and after they are cut off, and the mode
pub sent_by_code : (outputs : List DpAction) (s : State) (appended cut : List DpAction) (mode : Mode) → length s.actions ≤ 128
    → appended ≡ s.actions ++ (commit s.base s.current ++ outputs) → cut ≡ take action_limit appended → mode ≡ (if nat_lt action_limit (length appended) then Stopped else s.mode)
    → record s { base = s.current; actions = cut; mode = mode } ≡ emit_all outputs (committed s)
sent_by_code outputs s appended cut mode few is_appended is_cut is_mode =
    ap₂ (λ (ys : List DpAction) (m : Mode). record s { base = s.current; actions = ys; mode = m })
    (is_cut ∙ ap (take action_limit) is_appended)
    (is_mode ∙ ap (λ (ys : List DpAction). if nat_lt action_limit (length ys) then Stopped else s.mode) is_appended)
    ∙ sym (sent outputs s few)
