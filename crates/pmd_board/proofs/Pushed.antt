-- One more step of a board.
use Rattle.std.proofs.Common.{◌≡◌, ℕ, ◌+◌, ◌<◌, ◌≤◌, List, [], ◌∷◌, ◌++◌, ◌⊎◌, inl, inr, sym, ap, ◌∙◌, subst, arith}
use Rattle.std.proofs.lemmas.List.{map-append}
use Rattle.std.proofs.lemmas.Bool.{cases_lt}
use Rattle.spec_keys.specs.Keys.{IsKey}
use Rattle.spec_actions.specs.declared.action.DpAction.{DpAction}
use Rattle.spec_tables.specs.Bundles.{AreBundles}
use Rattle.spec_case.specs.Run.{Run, edit_count, last_version}
use Rattle.spec_case.specs.Blocks.{AreInOrder}
use Rattle.spec_board.specs.Steps.{Step}
use Rattle.spec_board.specs.State.{State, Decided, place_at, is_decided}
use Rattle.spec_board.specs.Results.{key_at}
use Rattle.spec_board.specs.Effects.{effect}
use Rattle.spec_board.specs.Journals.{Legal, IsLegal, opened, after}
use Rattle.board_laws.specs.Entries.{HasKeys}
use Rattle.board_laws.proofs.Balance.{packets_balance, bytes_balance}
use Rattle.board_laws.proofs.Journals.{after_step, legal_step}
use Rattle.board_laws.proofs.Looked.{next_after}
use Rattle.board_laws.proofs.Once.{decided_in}
use Rattle.board_laws.proofs.Stated.{apart_after, decided_after, few_entries, list_is_live, places_after, recent_after, right_after, slots_after, versions_after}
use Rattle.run_case.specs.Places.{HasPort}
use Rattle.board_steps.specs.declared.step.Step as rust
use Rattle.board_steps.specs.StepViews.{step_view, steps_view}
use Rattle.pmd_board.specs.declared.board.Board.TheInside.{Inside}
use Rattle.pmd_board.specs.BoardView.{BoardView, Appends, IsDecision, IsLawful, state_of}
use Rattle.pmd_board.specs.Fields.{view_of, AreVersionsOf, ArePlacesOf, HasCachesOf, AreBounds, HasRoom, IsKept}

-- ---- what the laws say of a legal journal

lawful_after : (run : Run) (port limit : ℕ) (steps : List Step) → AreInOrder run.syncs (last_version run)
    → HasKeys run port (after run port steps).next → IsLegal run port limit steps
    → IsLawful run (record { port = port; flow_limit = limit; journal = steps })
lawful_after run port limit steps in_order keys legal = record {
  versions = versions_after run port limit steps in_order legal;
  places = places_after run port limit steps legal;
  next_within = next_after run port limit steps in_order legal;
  apart = apart_after run port limit steps legal;
  few = few_entries run port limit steps legal;
  right = right_after run port limit steps keys legal;
  recent = recent_after run port limit steps in_order legal;
  slots = slots_after run port limit steps legal;
  listed = list_is_live run port limit steps legal;
  decided = decided_after run port limit steps in_order keys legal;
  accounted = λ rule. record {
    packets = packets_balance run port limit rule in_order steps keys legal;
    bytes = bytes_balance run port limit rule in_order steps keys legal;
  };
}

-- a place more was looked up, whose frame has a key
pub key_looked_up : (run : Run) (port next : ℕ) → HasKeys run port next → (place : ℕ) → place ≡ next → IsKey (key_at run port place)
    → HasKeys run port (next + 1)
key_looked_up run port next keys place turn has other first last = at (cases_lt other next)
  where
    at : (other < next) ⊎ (next ≤ other) → IsKey (key_at run port other)
    at (inl before) = keys other first before
    at (inr this) = subst (λ i. IsKey (key_at run port i)) (let e : place ≡ other = omega (arith, turn, this, last) in e) has

-- ---- journals with one more step

steps_pushed : (steps items : List rust.Step) (step : rust.Step) → items ≡ steps ++ step ∷ [] → steps_view items ≡ steps_view steps ++ step_view step ∷ []
steps_pushed steps items step is = ap steps_view is ∙ map-append step_view steps (step ∷ [])

-- A board c is b with one more step in its journal.
pub record IsPushed {X : Type 0} (b c : Inside X) (step : rust.Step) : Type 0 where
  pub port : c.port ≡ b.port
  pub limit : c.caches.limit ≡ b.caches.limit
  pub items : c.journal.items ≡ b.journal.items ++ step ∷ []

-- what a call says of it
pub appends : {X : Type 0} (run : Run) (b : Inside X) (step : rust.Step) (before : BoardView) (port limit : ℕ) (items : List rust.Step)
    → view_of b ≡ before → port ≡ b.port → limit ≡ b.caches.limit → items ≡ b.journal.items ++ step ∷ []
    → Legal run b.port b.caches.limit (state_of run (view_of b)) (step_view step)
    → Appends run before (step_view step) (record { port = port; flow_limit = limit; journal = steps_view items })
appends run b step before port limit items view port_is limit_is pushed_is legal =
    let journal : List Step → BoardView = λ j. record { port = b.port; flow_limit = b.caches.limit; journal = j } in
    subst (λ (x : BoardView). Appends run x (step_view step) (record { port = port; flow_limit = limit; journal = steps_view items })) view
    (record { legal = legal; appended = rw (port_is, limit_is) (ap journal (steps_pushed b.journal.items items step pushed_is)) })

-- the same of a step that is written otherwise
pub appends_as : {X : Type 0} (run : Run) (b : Inside X) (step : rust.Step) (said : Step) (before : BoardView) (port limit : ℕ) (items : List rust.Step)
    → step_view step ≡ said → view_of b ≡ before → port ≡ b.port → limit ≡ b.caches.limit → items ≡ b.journal.items ++ step ∷ []
    → Legal run b.port b.caches.limit (state_of run (view_of b)) (step_view step)
    → Appends run before said (record { port = port; flow_limit = limit; journal = steps_view items })
appends_as run b step said before port limit items is view port_is limit_is pushed_is legal =
    subst (λ (x : Step). Appends run before x (record { port = port; flow_limit = limit; journal = steps_view items })) is
    (appends run b step before port limit items view port_is limit_is pushed_is legal)

-- It keeps what it has to, if the step is legal and its fields fit that step.
pub pushed : {X : Type 0} (run : Run) (b c : Inside X) (step : rust.Step) → IsKept run b → IsPushed b c step → c.blocks ≡ b.blocks
    → Legal run b.port b.caches.limit (state_of run (view_of b)) (step_view step)
    → HasKeys run b.port (effect run b.port (state_of run (view_of b)) (step_view step)).next
    → AreVersionsOf c (effect run b.port (state_of run (view_of b)) (step_view step))
    → ArePlacesOf c (effect run b.port (state_of run (view_of b)) (step_view step))
    → HasCachesOf run c (effect run b.port (state_of run (view_of b)) (step_view step))
    → HasRoom run c → IsKept run c
pushed run b c step k p blocks legal keys versions places caches room =
    let steps = steps_view b.journal.items in
    let longer = steps_pushed b.journal.items c.journal.items step p.items in
    let state : state_of run (view_of c) ≡ effect run b.port (state_of run (view_of b)) (step_view step) =
    ap (after run c.port) longer ∙ ap (λ q. after run q (steps ++ step_view step ∷ [])) p.port ∙ after_step run b.port steps (step_view step) in
    let legal_now : IsLegal run c.port c.caches.limit (steps_view c.journal.items) =
    rw (p.port, p.limit, longer) (legal_step run b.port b.caches.limit steps (step_view step) k.legal legal) in
    let keys_now : HasKeys run c.port (state_of run (view_of c)).next = rw (state, p.port) keys in
    record {
      has_port = rw p.port k.has_port;
      bundled = k.bundled;
      in_order = k.in_order;
      legal = legal_now;
      has_keys = keys_now;
      lawful = lawful_after run c.port c.caches.limit (steps_view c.journal.items) k.in_order keys_now legal_now;
      versions = rw state versions;
      places = rw state places;
      caches = rw state caches;
      bounds = rw (p.port, blocks) k.bounds;
      room = room;
    }

-- the same, where what the step leads to is written otherwise
pub pushed_as : {X : Type 0} (run : Run) (b c : Inside X) (step : rust.Step) (t : State) → effect run b.port (state_of run (view_of b)) (step_view step) ≡ t
    → IsKept run b → IsPushed b c step → c.blocks ≡ b.blocks → Legal run b.port b.caches.limit (state_of run (view_of b)) (step_view step)
    → HasKeys run b.port t.next → AreVersionsOf c t → ArePlacesOf c t → HasCachesOf run c t → HasRoom run c → IsKept run c
pushed_as run b c step t led k p blocks legal keys versions places caches room =
    pushed run b c step k p blocks legal (rw led keys) (rw led versions) (rw led places) (rw led caches) room

-- A new board keeps what it has to.
pub opened_keeps : {X : Type 0} (run : Run) (b : Inside X) → HasPort run.ports b.port → AreBundles run.bundles (edit_count run) → AreInOrder run.syncs (last_version run)
    → b.journal.items ≡ [] → AreVersionsOf b (opened run b.port) → ArePlacesOf b (opened run b.port) → HasCachesOf run b (opened run b.port)
    → AreBounds run b.port b.blocks.items → HasRoom run b → IsKept run b
opened_keeps run b has_port bundled in_order none versions places caches bounds room =
    let empty = ap steps_view none in
    let state : state_of run (view_of b) ≡ opened run b.port = ap (after run b.port) empty in
    let legal : IsLegal run b.port b.caches.limit (steps_view b.journal.items) = subst (IsLegal run b.port b.caches.limit) (sym empty) tt in
    let keys : HasKeys run b.port (state_of run (view_of b)).next = rw state (λ place first last. absurd (omega (arith, first, last))) in
    record {
      has_port = has_port;
      bundled = bundled;
      in_order = in_order;
      legal = legal;
      has_keys = keys;
      lawful = lawful_after run b.port b.caches.limit (steps_view b.journal.items) in_order keys legal;
      versions = rw state versions;
      places = rw state places;
      caches = rw state caches;
      bounds = bounds;
      room = room;
    }

-- ---- decisions

-- what a legal journal decided of a frame, by what it has at its place
pub decision_in : (run : Run) (port limit : ℕ) (steps : List Step) → AreInOrder run.syncs (last_version run) → HasKeys run port (after run port steps).next
    → IsLegal run port limit steps → (place v : ℕ) (actions : List DpAction) → place_at place (after run port steps) ≡ Decided v actions
    → IsDecision run (record { port = port; flow_limit = limit; journal = steps }) place v actions
decision_in run port limit steps in_order keys legal place v actions at =
    let d = decided_in run port place limit in_order steps legal keys (ap is_decided at) in
    let same : Decided v actions ≡ Decided d.0.decision.version d.0.decision.actions = sym at ∙ d.1 in
    record { decided = d.0; version_is = cc same; actions_are = cc same }
