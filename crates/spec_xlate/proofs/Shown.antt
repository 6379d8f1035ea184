-- A translation as rows show it: the datapath actions, the rules visited, and the match of the megaflow.
use Rattle.std.specs.Prelude.{ℕ, List}
use Rattle.spec_keys.specs.Keys.{none, masked, same, joined, only_at}
use Rattle.spec_keys.specs.Fields.{widths, stages}
use Rattle.spec_actions.specs.declared.action.DpAction.{DpAction}
use Rattle.spec_actions.specs.declared.action.OfAction.{OfAction}
use Rattle.spec_tables.specs.Rules.{Rule, Match, winner}
use Rattle.spec_tables.proofs.Packets.{Stated, key_of, mask_of, match_of}
use Rattle.spec_xlate.specs.Needs.{is_met, fields_needed}
use Rattle.spec_xlate.specs.Tags.{outer_tags, commit_tags}
use Rattle.spec_xlate.specs.Commit.{commit, commit_field, commit_fields}
use Rattle.spec_base.specs.Sorting.{insert_by, sort_by}
use Rattle.spec_xlate.specs.Translation.{Switch, switch_of, pipe, act, run, look, last_state, write, output, output_all, emit, emit_all, committed}
use Rattle.spec_keys.specs.Stages.{through}
use Rattle.spec_xlate.specs.Lookup.{length_up_to, common_length, deciding, probe, consults}
use Rattle.spec_xlate.specs.Consulted.{act_bits, run_bits, look_bits, consulted}

pub record Shown : Type 0 where
  pub actions : List DpAction
  pub visits : List ℕ
  pub megaflow : Match

-- these datapath actions, rules visited, and match
abbrev pub gives : List DpAction → List ℕ → List Stated → Shown
gives actions visits stated = record { actions = actions; visits = visits; megaflow = match_of stated }

-- what the switch with these rules and ports makes of a packet
unfoldable pub shown : List Rule → List ℕ → List Stated → Shown
unfolding none masked same joined only_at widths stages winner key_of mask_of is_met fields_needed outer_tags commit_tags commit commit_field commit_fields pipe act run look last_state write output output_all emit emit_all committed insert_by sort_by through length_up_to common_length deciding probe consults act_bits run_bits look_bits consulted
shown rules ports packet = of_key (switch_of rules ports) (key_of packet)
  where
    of_key : Switch → List ℕ → Shown
    of_key sw key = record { actions = (pipe sw key).actions; visits = (pipe sw key).visits; megaflow = record { key = masked key (consulted sw key); mask = consulted sw key } }

-- a rule of a table, of a priority, with a number
abbrev pub rule : ℕ → ℕ → ℕ → List Stated → List OfAction → Rule
rule number table priority stated actions = record { number = number; table = table; priority = priority; cookie = 0; matching = match_of stated; actions = actions }
