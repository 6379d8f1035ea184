-- A translation makes no more lookups than are left to it.
use Rattle.std.proofs.Common.{◌≡◌, ℕ, zero, suc, ◌+◌, ◌-◌, ◌≤◌, ◌==◌, nat_le, Bool, true, false, if◌then◌else◌, List, [], ◌∷◌, ◌++◌, length, map, set, Option, Some, None, refl, sym, ap, ◌∙◌, subst, arith, length-append}
use Rattle.spec_actions.specs.declared.named_field.NamedField.{NamedField}
use Rattle.spec_actions.specs.declared.named_field.Prerequisite.TheVariants as needs
use Rattle.spec_actions.specs.declared.action.OfAction.{OfAction}
use Rattle.spec_actions.specs.declared.action.OfAction.TheVariants.{Output, OutputField, InPort, All, Flood, Resubmit, Goto, Set, Move, DecTtl, PushVlan, PopVlan, SetVid, SetPcp}
use Rattle.spec_actions.specs.declared.action.DpAction.{DpAction}
use Rattle.spec_actions.specs.declared.action.DpAction.TheVariants as datapath
use Rattle.spec_actions.specs.Named.{named}
use Rattle.spec_keys.specs.declared.field_id.FieldId.TheVariants as field
use Rattle.spec_keys.specs.Fields.{place_of}
use Rattle.spec_keys.specs.Keys.{value_of}
use Rattle.spec_tables.specs.Rules.{Rule, winner}
use Rattle.spec_xlate.specs.Commit.{commit}
use Rattle.spec_xlate.specs.Needs.{is_met}
use Rattle.spec_xlate.specs.Tags.{is_full, pushed}
use Rattle.spec_xlate.specs.Translation.{Switch, State, Mode, deepest, lookup_limit, action_limit, stopped, with_current, emit, emit_all, committed, is_other_port, other_ports, output, output_all, in_field, written, written_bits, write, slice_of, slice_bits, lower_ttl, act, in_mode, while_going, run, visited, resumed, follow, with_lookups_left, enter, look, start}
use Rattle.spec_xlate.specs.Translation.Mode.{Going, ListEnded, Stopped}
use Rattle.spec_tools.specs.declared.lookup.Lookup.{Lookup}
use Rattle.spec_tools.specs.Paths.{act_path, in_mode_path, while_going_path, run_path, follow_path, enter_path, look_path, path_of}

-- ---- no action but a lookup takes one of those that are left

either : (t : Bool) (x y : State) (n : ℕ) → x.lookups_left ≡ n → y.lookups_left ≡ n → (if t then x else y).lookups_left ≡ n
either true x y n e f = e
either false x y n e f = f

emit-left : (a : DpAction) (s : State) → (emit a s).lookups_left ≡ s.lookups_left
unfolding emit
emit-left a s = either (length s.actions == action_limit) (stopped s) (record s { actions = s.actions ++ a ∷ [] }) s.lookups_left refl refl

emit_all-left : (actions : List DpAction) (s : State) → (emit_all actions s).lookups_left ≡ s.lookups_left
unfolding emit_all
emit_all-left [] s = refl
emit_all-left (a ∷ actions) s = emit_all-left actions (emit a s) ∙ emit-left a s

committed-left : (s : State) → (committed s).lookups_left ≡ s.lookups_left
unfolding committed
committed-left s = emit_all-left (commit s.base s.current) s

output-left : (sw : Switch) (n : ℕ) (s : State) → (output sw n s).lookups_left ≡ s.lookups_left
unfolding output
output-left sw n s =
    either (is_other_port sw s.current n) (emit (datapath.Output n) (committed s)) s s.lookups_left
    (emit-left (datapath.Output n) (committed s) ∙ committed-left s) refl

output_all-left : (ports : List ℕ) (s : State) → (output_all ports s).lookups_left ≡ s.lookups_left
unfolding output_all
output_all-left [] s = refl
output_all-left (p ∷ ports) s = emit_all-left (map datapath.Output (p ∷ ports)) (committed s) ∙ committed-left s

write-left : (name : NamedField) (value bits : ℕ) (s : State) → (write name value bits s).lookups_left ≡ s.lookups_left
unfolding write
write-left name value bits s =
    either (is_met (named name).write_needs s.current)
    (with_current (written (named name).field (in_field name value) (written_bits name bits) s.current) s) s s.lookups_left refl refl

lower_ttl-left : (s : State) → (lower_ttl s).lookups_left ≡ s.lookups_left
lower_ttl-left s = by_test (nat_le (value_of s.current field.NwTtl) 1)
  where
    by_test : (t : Bool)
        → (if t then record s { mode = ListEnded } else with_current (set s.current (place_of field.NwTtl) (value_of s.current field.NwTtl - 1)) s).lookups_left ≡ s.lookups_left
    by_test true = refl
    by_test false = refl

-- ---- lookups made, and lookups left

-- These lookups and those left after a step are no more than were left before it.
abbrev Counts : (State → List Lookup) → (State → State) → Type 0
Counts lookups step = (s : State) → length (lookups s) + (step s).lookups_left ≤ s.lookups_left

keeps : (s t : State) → t.lookups_left ≡ s.lookups_left → length {A = Lookup} [] + t.lookups_left ≤ s.lookups_left
keeps s t same = omega (arith, same)

module _ (sw : Switch) (sub : ℕ → State → State) (lookups : ℕ → State → List Lookup) (counts : (table : ℕ) → Counts (lookups table) (sub table)) where
  act-counts : (a : OfAction) → Counts (act_path lookups a) (act sw sub a)
  unfolding act_path act
  act-counts (Output n) s = keeps s (output sw n s) (output-left sw n s)
  act-counts (OutputField slice) s = keeps s (output sw (slice_of s.current slice) s) (output-left sw (slice_of s.current slice) s)
  act-counts InPort s = keeps s (act sw sub InPort s) (emit-left _ (committed s) ∙ committed-left s)
  act-counts All s = keeps s (act sw sub All s) (output_all-left (other_ports sw s.current) s)
  act-counts Flood s = keeps s (act sw sub Flood s) (output_all-left (other_ports sw s.current) s)
  act-counts (Resubmit table) s = counts table s
  act-counts (Goto table) s = counts table s
  act-counts (Set name value mask) s = keeps s (write name value mask s) (write-left name value mask s)
  act-counts (Move source target) s = keeps s (act sw sub (Move source target) s) (write-left target.name _ (slice_bits target) s)
  act-counts DecTtl s = keeps s (act sw sub DecTtl s) (either (is_met needs.Ip s.current) (lower_ttl s) s s.lookups_left (lower_ttl-left s) refl)
  act-counts (PushVlan tpid) s = keeps s (act sw sub (PushVlan tpid) s) (either (is_full s.current) (stopped s) (with_current (pushed tpid s.current) s) s.lookups_left refl refl)
  act-counts PopVlan s = keeps s (act sw sub PopVlan s) refl
  act-counts (SetVid vid) s = keeps s (act sw sub (SetVid vid) s) refl
  act-counts (SetPcp pcp) s = keeps s (act sw sub (SetPcp pcp) s) refl

  in_mode-counts : (path : State → List Lookup) (rest : State → State) → Counts path rest → (mode : Mode) (s : State)
      → length (in_mode_path mode path s) + (in_mode mode rest s).lookups_left ≤ s.lookups_left
  in_mode-counts path rest count Going s = count s
  in_mode-counts path rest count ListEnded s = keeps s s refl
  in_mode-counts path rest count Stopped s = keeps s s refl

  run-counts : (actions : List OfAction) → Counts (run_path sw sub lookups actions) (run sw sub actions)
  unfolding run_path run
  run-counts [] s = keeps s s refl
  run-counts (a ∷ actions) s =
      joined (act_path lookups a s) (while_going_path (run_path sw sub lookups actions) next) (act-counts a s)
      (in_mode-counts (run_path sw sub lookups actions) (run sw sub actions) (run-counts actions) next.mode next)
    where
      next : State
      next = act sw sub a s

      joined : (first others : List Lookup) → length first + next.lookups_left ≤ s.lookups_left
          → length others + (while_going (run sw sub actions) next).lookups_left ≤ next.lookups_left
          → length (first ++ others) + (while_going (run sw sub actions) next).lookups_left ≤ s.lookups_left
      joined first others h k = omega (arith, length-append first others, h, k)

  follow-counts : (won : Option Rule) → Counts (follow_path sw sub lookups won) (follow sw sub won)
  follow-counts None s = keeps s s refl
  follow-counts (Some r) s = run-counts r.actions (visited r s)

  enter-counts : (depth table left : ℕ) (s : State) → s.lookups_left ≡ left
      → length (enter_path sw sub lookups depth table left s) + (enter sw sub table left s).lookups_left ≤ s.lookups_left
  enter-counts depth table zero s is = keeps s (stopped s) refl
  enter-counts depth table (suc n) s is =
      let won = winner (sw.tables table) s.current in
      more (follow_path sw sub lookups won (with_lookups_left n s)) (follow sw sub won (with_lookups_left n s)).lookups_left
      (follow-counts won (with_lookups_left n s))
    where
      more : (others : List Lookup) (left : ℕ) → length others + left ≤ n → suc (length others) + left ≤ s.lookups_left
      more others left h = omega (arith, h, is)

look-counts : (sw : Switch) (depths table : ℕ) → Counts (look_path sw depths table) (look sw depths table)
unfolding look_path look
look-counts sw zero table s = keeps s (stopped s) refl
look-counts sw (suc depths) table s =
    enter-counts sw (look sw depths) (look_path sw depths) (look-counts sw depths) (deepest - depths) table s.lookups_left s refl

-- 512 at most
pub few_lookups : (sw : Switch) (key : List ℕ) → length (path_of sw key) ≤ lookup_limit
unfolding path_of
few_lookups sw key = omega (arith, look-counts sw 65 0 (start key))
