-- What an action sends, of a packet of which so many datapath actions were made: to which ports, and within how many actions.
use Rattle.std.proofs.Common.{◌≡◌, ℕ, suc, ◌+◌, ◌-◌, ◌≤◌, Bool, true, false, not, ◌==◌, nat_lt, if◌then◌else◌, List, [], ◌∷◌, ◌++◌, length, map, filter, ◌⊎◌, inl, inr, refl, sym, ap, ap₂, ◌∙◌, subst, arith, eqb-true, length-append}
use Rattle.spec_base.proofs.SortLaws.{length-sort_by}
use Rattle.spec_keys.specs.declared.field_id.FieldId.{FieldId}
use Rattle.spec_keys.specs.Keys.{value_of}
use Rattle.spec_actions.specs.declared.action.OfAction.{OfAction}
use Rattle.spec_actions.specs.declared.action.OfAction.TheVariants.{Output, OutputField, InPort, All, Flood, Resubmit, Goto, Set, Move, DecTtl, PushVlan, PopVlan, SetVid, SetPcp}
use Rattle.spec_actions.specs.declared.action.DpAction.{DpAction}
use Rattle.spec_actions.specs.declared.action.DpAction.TheVariants as datapath
use Rattle.spec_xlate.specs.Commit.{commit}
use Rattle.spec_xlate.specs.Translation.{Switch, State, action_limit, in_port_of, is_other_port, other_ports, rising, slice_of, act}
use Rattle.table_diff.specs.Sending.{ports_in, is_frame_field, number_after}
use Rattle.table_diff.specs.Following.{commit_limit, sends, cost}
use Rattle.table_diff.proofs.EmitLaws.{ports_in-append, ports_in-outputs, commit-ports, commit-length, commit-none, sending, sent, is_output, one_port, ports_of, act-sends}
use Rattle.table_diff.proofs.NumberLaws.{number_after-append, number_after-outputs, number_after-commit}

-- ---- what is sent

-- after a state has sent to these ports, within so many datapath actions
pub record Emits (s u : State) (ps : List ℕ) (most : ℕ) : Type 0 where
  pub mode : u.mode ≡ s.mode
  pub ports : ports_in u.actions ≡ ports_in s.actions ++ ps
  pub quiet : (ports_in s.actions ≡ [] → s.actions ≡ []) → ports_in u.actions ≡ [] → u.actions ≡ []
  pub few : length u.actions ≤ most
  pub clean : (s.base ≡ s.current) ⊎ (1 ≤ length ps) → u.base ≡ u.current
  pub turned : (f : FieldId) → is_frame_field f ≡ true → (x : ℕ) → number_after f s.actions x ≡ value_of s.base f → number_after f u.actions x ≡ value_of u.base f

append-none : (xs : List ℕ) → xs ++ [] ≡ xs
append-none [] = refl
append-none (x ∷ xs) = ap (λ (z : List ℕ). x ∷ z) (append-none xs)

-- there is something where something comes last
none-last : (xs : List ℕ) (p : ℕ) (ps : List ℕ) → xs ++ (p ∷ ps) ≡ [] → ⊥
none-last [] p ps e = cc
none-last (x ∷ xs) p ps e = cc

sending-emits : (ps : List ℕ) (s : State) (most : ℕ) → length s.actions ≤ most → most ≤ action_limit
    → (1 ≤ length ps → length s.actions + (length (commit s.base s.current) + length ps) ≤ most) → Emits s (sending ps s) ps most
sending-emits [] s most few within room = record {
  mode = refl;
  ports = sym (append-none (ports_in s.actions));
  quiet = λ before now. before now;
  few = few;
  clean = λ known. at known;
  turned = λ f is x same. same;
}
  where
    at : (s.base ≡ s.current) ⊎ (1 ≤ 0) → s.base ≡ s.current
    at (inl same) = same
    at (inr some) = absurd (omega arith)
sending-emits (p ∷ ps) s most few within room =
    let changes = commit s.base s.current in
    let here : length s.actions + (length changes + length (p ∷ ps)) ≤ most = room (omega arith) in
    subst (λ (u : State). Emits s u (p ∷ ps) most) (sym (sent p ps s (omega arith))) (record {
      mode = refl;
      ports = added_ports changes;
      quiet = λ before now. absurd (none-last (ports_in s.actions) p ps (sym (added_ports changes) ∙ now));
      few = added_length changes here;
      clean = λ known. refl;
      turned = λ f is x same. added_number f is x same;
    })
  where
    outputs : List DpAction
    outputs = map datapath.Output (p ∷ ps)

    added_ports : (changes : List DpAction) → ports_in (s.actions ++ (commit s.base s.current ++ map datapath.Output (p ∷ ps))) ≡ ports_in s.actions ++ (p ∷ ps)
    added_ports changes =
        ports_in-append s.actions (commit s.base s.current ++ map datapath.Output (p ∷ ps))
        ∙ ap (λ (z : List ℕ). ports_in s.actions ++ z)
        (ports_in-append (commit s.base s.current) (map datapath.Output (p ∷ ps))
        ∙ ap₂ (λ (x y : List ℕ). x ++ y) (commit-ports s.base s.current) (ports_in-outputs (p ∷ ps)))

    added_number : (f : FieldId) → is_frame_field f ≡ true → (x : ℕ) → number_after f s.actions x ≡ value_of s.base f
        → number_after f (s.actions ++ (commit s.base s.current ++ map datapath.Output (p ∷ ps))) x ≡ value_of s.current f
    added_number f is x same =
        number_after-append f s.actions (commit s.base s.current ++ map datapath.Output (p ∷ ps)) x
        ∙ number_after-append f (commit s.base s.current) (map datapath.Output (p ∷ ps)) (number_after f s.actions x)
        ∙ number_after-outputs f (p ∷ ps) (number_after f (commit s.base s.current) (number_after f s.actions x))
        ∙ ap (number_after f (commit s.base s.current)) same
        ∙ number_after-commit f s.base s.current is

    many : (qs : List ℕ) → length (map datapath.Output qs) ≡ length qs
    many [] = refl
    many (q ∷ qs) = ap suc (many qs)

    added_length : (changes : List DpAction) → length s.actions + (length (commit s.base s.current) + length (p ∷ ps)) ≤ most
        → length (s.actions ++ (commit s.base s.current ++ map datapath.Output (p ∷ ps))) ≤ most
    added_length changes here =
        omega (arith, length-append s.actions (commit s.base s.current ++ map datapath.Output (p ∷ ps)), length-append (commit s.base s.current) (map datapath.Output (p ∷ ps)), many (p ∷ ps), here)

-- ---- how much that is

-- an action sends to no more ports than it is said to
filter-length : (test : ℕ → Bool) (ps : List ℕ) → length (filter test ps) ≤ length ps
filter-length test [] = omega arith
filter-length test (p ∷ ps) = at (test p) (filter-length test ps)
  where
    at : (t : Bool) → length (filter test ps) ≤ length ps → length (if t then p ∷ filter test ps else filter test ps) ≤ suc (length ps)
    at true h = omega arith
    at false h = omega arith

one_port-length : (sw : Switch) (key : List ℕ) (n : ℕ) → length (one_port sw key n) ≤ 1
one_port-length sw key n = at (is_other_port sw key n)
  where
    at : (t : Bool) → length (if t then n ∷ [] else []) ≤ 1
    at true = omega arith
    at false = omega arith

others-length : (sw : Switch) (key : List ℕ) → length (other_ports sw key) ≤ length sw.ports
others-length sw key =
    omega (arith, filter-length (λ p. not (p == in_port_of key)) (rising sw.ports), length-sort_by nat_lt sw.ports)

pub few-ports : (sw : Switch) (x : OfAction) (key : List ℕ) → length (ports_of sw x key) ≤ sends sw.ports x key
unfolding sends
few-ports sw (Output n) key = at (is_other_port sw key n)
  where
    at : (t : Bool) → length (if t then n ∷ [] else []) ≤ (if t then 1 else 0)
    at true = omega arith
    at false = omega arith
few-ports sw (OutputField slice) key = one_port-length sw key (slice_of key slice)
few-ports sw InPort key = omega arith
few-ports sw All key = others-length sw key
few-ports sw Flood key = others-length sw key
few-ports sw (Resubmit table) key = omega arith
few-ports sw (Goto table) key = omega arith
few-ports sw (Set name value mask) key = omega arith
few-ports sw (Move source target) key = omega arith
few-ports sw DecTtl key = omega arith
few-ports sw (PushVlan tpid) key = omega arith
few-ports sw PopVlan key = omega arith
few-ports sw (SetVid vid) key = omega arith
few-ports sw (SetPcp pcp) key = omega arith

cost-some : (dirty : Bool) (n : ℕ) → 1 ≤ n → cost dirty n ≡ (if dirty then commit_limit + n else n)
cost-some dirty n some = at (n == 0) refl
  where
    at : (t : Bool) → (n == 0) ≡ t → (if t then 0 else (if dirty then commit_limit + n else n)) ≡ (if dirty then commit_limit + n else n)
    at true e = let zero_ = eqb-true n 0 e in absurd (omega arith)
    at false e = refl

-- a key that may have changed costs a commit, and one that hasn't costs nothing
within_cost : (s : State) (ps : List ℕ) (dirty : Bool) (n : ℕ) → (dirty ≡ false → s.base ≡ s.current) → length ps ≤ n → 1 ≤ length ps
    → length (commit s.base s.current) + length ps ≤ cost dirty n
within_cost s ps dirty n clean few some =
    subst (λ (z : ℕ). length (commit s.base s.current) + length ps ≤ z) (sym (cost-some dirty n (omega arith))) (at dirty refl)
  where
    at : (t : Bool) → dirty ≡ t → length (commit s.base s.current) + length ps ≤ (if t then commit_limit + n else n)
    at true e = omega (arith, commit-length s.base s.current)
    at false e =
        let none : commit s.base s.current ≡ [] = ap (λ (key : List ℕ). commit key s.current) (clean e) ∙ commit-none s.current in
        let zero_ : length (commit s.base s.current) ≡ 0 = ap length none in
        omega arith

-- an action that sends, within what is left
pub output-emits : (sw : Switch) (sub : ℕ → State → State) (x : OfAction) → is_output x ≡ true → (s : State) (dirty : Bool) (used n : ℕ) → length s.actions ≤ used
    → (dirty ≡ false → s.base ≡ s.current) → length (ports_of sw x s.current) ≤ n → used + cost dirty n ≤ action_limit
    → Emits s (act sw sub x s) (ports_of sw x s.current) (used + cost dirty n)
output-emits sw sub x is s dirty used n few clean count within =
    subst (λ (u : State). Emits s u (ports_of sw x s.current) (used + cost dirty n)) (sym (act-sends sw sub x is s))
    (sending-emits (ports_of sw x s.current) s (used + cost dirty n) (omega arith) within
    (λ some. let fits = within_cost s (ports_of sw x s.current) dirty n clean count some in omega arith))
