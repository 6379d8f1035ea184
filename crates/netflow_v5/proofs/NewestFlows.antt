-- The newest flow of a class, and the flow that a packet joins.
use Rattle.std.proofs.Common.{◌≡◌, ℕ, zero, suc, ◌<◌, Bool, true, false, ◌&&◌, cond, List, [], ◌∷◌, ◌++◌, length, get_or, set, Option, Some, None, refl, sym, ap, ◌∙◌, arith}
use Rattle.std.specs.Prelude.{not, is_some, ◌==◌, ◌||◌, IfSome}
use Rattle.std.specs.List.{list_any}
use Rattle.spec_keys.specs.Keys.{same}
use Rattle.spec_netflow.specs.declared.flow_record.FlowRecord.{FlowRecord}
use Rattle.spec_netflow.specs.Flows.{Flow, is_of, has_room, takes, joined, with_packet}
use Rattle.netflow_v5.specs.declared.class.FlowClass.{FlowClass}
use Rattle.netflow_v5.specs.Views.{class_view}
use Rattle.netflow_v5.specs.Newest.{first_or_later, newest, is_same_class}

-- ---- classes

and_true : (b : Bool) → b && true ≡ b
and_true true = refl
and_true false = refl

pub same_views : (a b : FlowClass) → same (class_view a) (class_view b) ≡ is_same_class a b
unfolding same
same_views a b = rw (and_true (a.tp_dst == b.tp_dst)) refl

-- ---- the newest flow

pub newest-push : (class : List ℕ) (flows : List Flow) (f : Flow)
    → newest class (flows ++ f ∷ []) ≡ cond (is_of class f) (Some (length flows)) (newest class flows)
unfolding newest
newest-push class [] f = at (is_of class f)
  where
    at : (t : Bool) → first_or_later t None ≡ cond t (Some 0) None
    at true = refl
    at false = refl
newest-push class (g ∷ flows) f = ap (first_or_later (is_of class g)) (newest-push class flows f) ∙ at (is_of class f)
  where
    at : (t : Bool) → first_or_later (is_of class g) (cond t (Some (length flows)) (newest class flows))
        ≡ cond t (Some (suc (length flows))) (first_or_later (is_of class g) (newest class flows))
    at true = refl
    at false = refl

-- it stands where flows of one's class stand
some_newest : (class : List ℕ) (flows : List Flow) → list_any (is_of class) flows ≡ is_some (newest class flows)
unfolding newest
some_newest class [] = refl
some_newest class (f ∷ flows) = ap (λ (b : Bool). is_of class f || b) (some_newest class flows) ∙ at (is_of class f) (newest class flows)
  where
    at : (t : Bool) (o : Option ℕ) → (t || is_some o) ≡ is_some (first_or_later t o)
    at true None = refl
    at true (Some i) = refl
    at false None = refl
    at false (Some i) = refl

-- it has that class, and an index
module _ (class : List ℕ) (d : Flow) where
  abbrev IsFound : List Flow → ℕ → Type 0
  IsFound flows i = (i < length flows) × (is_of class (get_or flows i d) ≡ true)

  found_by : (f : Flow) (flows : List Flow) (i : ℕ) (t : Bool) → is_of class f ≡ t → (o : Option ℕ) → ((j : ℕ) → o ≡ Some j → IsFound flows j)
      → first_or_later t o ≡ Some i → IsFound (f ∷ flows) i
  found_by f flows i t here (Some j) later e =
      let next : i ≡ suc j = cc in
      let below = later j refl in
      rw next (omega (arith, below.0), below.1)
  found_by f flows i true here None later e = let first : i ≡ 0 = cc in rw first (omega arith, here)
  found_by f flows i false here None later e = absurd cc

  pub found : (flows : List Flow) (i : ℕ) → newest class flows ≡ Some i → IsFound flows i
  unfolding newest
  found [] i is = absurd cc
  found (f ∷ flows) i is = found_by f flows i (is_of class f) refl (newest class flows) (λ j. found flows j) is

-- what is told of a flow says nothing of its class
pub newest-set : (class : List ℕ) (flows : List Flow) (i : ℕ) (d : Flow) (told : FlowRecord) → i < length flows
    → newest class (set flows i (record (get_or flows i d) { told = told })) ≡ newest class flows
unfolding newest
newest-set class [] i d told lt = absurd (omega arith)
newest-set class (f ∷ flows) zero d told lt = refl
newest-set class (f ∷ flows) (suc i) d told lt = ap (first_or_later (is_of class f)) (newest-set class flows i d told (omega arith))

-- ---- where a packet goes

no_take : (here room : Bool) → here && (not true && room) ≡ false
no_take true room = refl
no_take false room = refl

module _ (p d : Flow) where
  -- a flow with the packet
  abbrev pub more : Flow → Flow
  more f = record f { told = joined f.told p.told }

  one_step : (f : Flow) (flows : List Flow) → with_packet (f ∷ flows) p ≡ cond (takes f flows p) (more f ∷ flows) (f ∷ with_packet flows p)
  unfolding with_packet
  one_step f flows = refl

  -- a later flow of the class is newer
  passed : (f : Flow) (flows : List Flow) (j : ℕ) → newest p.class flows ≡ Some j → takes f flows p ≡ false
  passed f flows j later =
      let there : list_any (is_of p.class) flows ≡ true = some_newest p.class flows ∙ ap is_some later in
      rw there (no_take (is_of p.class f) (has_room f p))

  alone_of_class : (f : Flow) (flows : List Flow) (t : Bool) → is_of p.class f ≡ t → newest p.class flows ≡ None → takes f flows p ≡ t && has_room f p
  alone_of_class f flows t here none =
      let nowhere : list_any (is_of p.class) flows ≡ false = some_newest p.class flows ∙ ap is_some none in
      rw (nowhere, here) refl

  begins_by : (f : Flow) (flows : List Flow) (t : Bool) → is_of p.class f ≡ t → (o : Option ℕ) → newest p.class flows ≡ o
      → (o ≡ None → with_packet flows p ≡ flows ++ p ∷ []) → first_or_later t o ≡ None → with_packet (f ∷ flows) p ≡ f ∷ (flows ++ p ∷ [])
  begins_by f flows t here (Some j) is others e = absurd cc
  begins_by f flows true here None is others e = absurd cc
  begins_by f flows false here None is others e =
      one_step f flows ∙ ap (λ (b : Bool). cond b (more f ∷ flows) (f ∷ with_packet flows p)) (alone_of_class f flows false here is)
      ∙ ap (λ (fs : List Flow). f ∷ fs) (others refl)

  -- where no flow has its class it begins one
  pub begins : (flows : List Flow) → newest p.class flows ≡ None → with_packet flows p ≡ flows ++ p ∷ []
  unfolding newest with_packet
  begins [] none = refl
  begins (f ∷ flows) none = begins_by f flows (is_of p.class f) refl (newest p.class flows) refl (begins flows) none

  -- it joins the newest, or begins one where that is full
  abbrev goes : List Flow → ℕ → List Flow
  goes flows i = cond (has_room (get_or flows i d) p) (set flows i (more (get_or flows i d))) (flows ++ p ∷ [])

  under : (f : Flow) (flows : List Flow) (j : ℕ) (room : Bool)
      → f ∷ cond room (set flows j (more (get_or flows j d))) (flows ++ p ∷ [])
      ≡ cond room (f ∷ set flows j (more (get_or flows j d))) (f ∷ (flows ++ p ∷ []))
  under f flows j true = refl
  under f flows j false = refl

  goes_by : (f : Flow) (flows : List Flow) (i : ℕ) (t : Bool) → is_of p.class f ≡ t → (o : Option ℕ) → newest p.class flows ≡ o
      → ((j : ℕ) → o ≡ Some j → with_packet flows p ≡ goes flows j) → first_or_later t o ≡ Some i → with_packet (f ∷ flows) p ≡ goes (f ∷ flows) i
  goes_by f flows i t here (Some j) is others e =
      let next : i ≡ suc j = cc in
      rw next (one_step f flows ∙ ap (λ (b : Bool). cond b (more f ∷ flows) (f ∷ with_packet flows p)) (passed f flows j is)
      ∙ ap (λ (fs : List Flow). f ∷ fs) (others j refl) ∙ under f flows j (has_room (get_or flows j d) p))
  goes_by f flows i true here None is others e =
      let first : i ≡ 0 = cc in
      rw first (one_step f flows ∙ ap (λ (b : Bool). cond b (more f ∷ flows) (f ∷ with_packet flows p)) (alone_of_class f flows true here is)
      ∙ ap (λ (fs : List Flow). cond (has_room f p) (more f ∷ flows) (f ∷ fs)) (begins flows is))
  goes_by f flows i false here None is others e = absurd cc

  pub where_it_goes : (flows : List Flow) (i : ℕ) → newest p.class flows ≡ Some i → with_packet flows p ≡ goes flows i
  unfolding newest
  where_it_goes [] i is = absurd cc
  where_it_goes (f ∷ flows) i is =
      goes_by f flows i (is_of p.class f) refl (newest p.class flows) refl (λ j. where_it_goes flows j) is

pub found_within : (class : List ℕ) (flows : List Flow) (n : ℕ) → length flows ≡ n → (o : Option ℕ) → o ≡ newest class flows → IfSome o (λ i. i < n)
found_within class flows n long None is = tt
found_within class flows n long (Some i) is =
    let none : FlowRecord = record { src = 0; dst = 0; input = 0; output = 0; packets = 0; octets = 0; first = 0; last = 0; sport = 0; dport = 0; flags = 0; proto = 0; tos = 0 } in
    let below = (found class (record { class = []; told = none }) flows i (sym is)).0 in
    omega (arith, below, long)
