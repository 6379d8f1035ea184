-- Runs from small tables and few frames, and what rows show of them.
use Rattle.std.specs.Prelude.{ℕ, ◌*◌, true, List, [], ◌∷◌, length, map, replicate, None}
use Rattle.std.specs.List.{range_with_len}
use Rattle.spec_base.specs.Bytes.{big_endian_at}
use Rattle.spec_keys.specs.declared.field_id.FieldId.TheVariants as field
use Rattle.spec_keys.specs.Keys.{none, masked, same, joined, only_at}
use Rattle.spec_keys.specs.Fields.{widths, stages}
use Rattle.spec_keys.specs.Hash.{hash_bytes, field_bytes, key_hash}
use Rattle.spec_actions.specs.declared.action.DpAction.TheVariants.{Output}
use Rattle.spec_actions.specs.declared.action.OfAction.{OfAction}
use Rattle.spec_tables.specs.declared.edit_word.EditWord.{EditWord}
use Rattle.spec_tables.specs.declared.edit_word.EditWord.TheVariants.{Add}
use Rattle.spec_tables.specs.Rules.{winner}
use Rattle.spec_tables.specs.Edits.{Edit, after_edits}
use Rattle.spec_tables.specs.Bundles.{each_alone}
use Rattle.spec_tables.proofs.Packets.{Stated, is, match_of, mask_of}
use Rattle.spec_tables.proofs.Packets as packets
use Rattle.spec_frames.specs.Ethernet.{is_tag_at, tag_count, tci_at, carried, carried_by}
use Rattle.spec_frames.specs.Network.{network_at}
use Rattle.spec_frames.specs.Key as frames
use Rattle.spec_xlate.specs.Needs.{is_met, fields_needed}
use Rattle.spec_xlate.specs.Tags.{outer_tags, commit_tags}
use Rattle.spec_xlate.specs.Commit.{commit, commit_field, commit_fields}
use Rattle.spec_base.specs.Sorting.{insert_by, sort_by}
use Rattle.spec_xlate.specs.Translation.{pipe, act, run, look, last_state, write, output, output_all, emit, emit_all, committed}
use Rattle.spec_keys.specs.Stages.{through}
use Rattle.spec_xlate.specs.Lookup.{length_up_to, common_length, deciding, probe, consults}
use Rattle.spec_xlate.specs.Consulted.{act_bits, run_bits, look_bits, consulted}
use Rattle.spec_pcap.specs.Pcap.{Frame, Capture}
use Rattle.spec_tables.specs.declared.sync_point.SyncPoint.{SyncPoint}
use Rattle.spec_case.specs.declared.run_step.RunStep.{RunStep}
use Rattle.spec_case.specs.Run.{Run, frames_in}
use Rattle.spec_case.specs.Blocks.{ends_after}
use Rattle.spec_board.specs.Steps.{Step}
use Rattle.spec_board.specs.State.{Entry, Place, Decided, Total}
use Rattle.spec_board.specs.Texts.{Journal}
use Rattle.spec_board.specs.Results.{are_same_actions}
use Rattle.spec_board.specs.Effects.{credited_by}
use Rattle.spec_board.specs.Decisions.{decisions_from}
use Rattle.spec_board.specs.Schedules.{Board, Schedule, finish_board, least_block, finish}
use Rattle.spec_board.specs.GivenSteps.{with_given_steps}
use Rattle.spec_board.specs.Scheduled.{scheduled}

-- ---- runs

-- 60 bytes that come in at a second, from 00:00:00:00:00:01 to an address that ends in d, of the type 0x88b5 for local
-- experiments (IEEE 802)
abbrev pub frame : ℕ → ℕ → Frame
frame second d = record {
  time = second * 1000000000;
  bytes = 0 ∷ 0 ∷ 0 ∷ 0 ∷ 0 ∷ d ∷ 0 ∷ 0 ∷ 0 ∷ 0 ∷ 0 ∷ 1 ∷ 0x88 ∷ 0xb5 ∷ replicate 46 0;
}

abbrev pub edit : EditWord → ℕ → List Stated → List OfAction → Edit
edit word priority stated actions =
    record { word = word; table = None; priority = priority; cookie = None; matching = match_of stated; actions = actions }

abbrev pub add : ℕ → List Stated → List OfAction → Edit
add priority stated actions = edit Add priority stated actions

abbrev pub in_port_1 : List Stated
in_port_1 = is field.InPort 1 ∷ []

abbrev pub dl_dst : ℕ → List Stated
dl_dst address = is field.DlDst address ∷ []

-- a sync point at a second, after so many edits
abbrev pub sync : ℕ → ℕ → SyncPoint
sync second after = record { time = second * 1000000000; after = after }

abbrev pub trace : List Frame → Capture
trace frames = record { nanos = true; frames = frames }

-- The frames come in at port 1; these are the numbers of the other ports.
abbrev pub run_of : ℕ → List ℕ → List Edit → List SyncPoint → List Frame → List RunStep → Run
run_of limit others edits syncs frames steps = record {
  ports = 1 ∷ others;
  edits = edits;
  bundles = each_alone edits;
  syncs = syncs;
  traces = trace frames ∷ map (λ p. trace []) others;
  flow_limit = limit;
  steps = steps;
}

-- the most entries of a port where a row doesn't say another number
abbrev pub flow_limit : ℕ
flow_limit = 8192

-- ---- what is shown

-- the numbers of an entry
pub record Counted : Type 0 where
  pub number : ℕ
  pub version : ℕ
  pub packets : ℕ
  pub bytes : ℕ
  pub owed_packets : ℕ
  pub owed_bytes : ℕ

abbrev counted : Entry → Counted
counted e = record {
  number = e.number;
  version = e.version;
  packets = e.packets;
  bytes = e.bytes;
  owed_packets = e.owed_packets;
  owed_bytes = e.owed_bytes;
}

-- What a run comes to: how many of its given steps were not met, and the journal of each port; of the first port how
-- each frame was decided, the entries at the end, and the totals of the rules that the edits add.
pub record Shown : Type 0 where
  pub unmet : ℕ
  pub journals : List Journal
  pub places : List Place
  pub entries : List Counted
  pub totals : List Total

abbrev first_port_shown : ℕ → Run → List Board → Shown
first_port_shown unmet run [] = record { unmet = unmet; journals = []; places = []; entries = []; totals = [] }
first_port_shown unmet run (b ∷ bs) = record {
  unmet = unmet;
  journals = map (λ (c : Board). record { port = c.port; steps = c.steps }) (b ∷ bs);
  places = b.state.places;
  entries = map counted b.state.entries;
  totals = map b.state.totals (range_with_len 1 (length run.edits));
}

-- what the schedule of a run leads to
unfoldable pub shown : Run → Shown
unfolding big_endian_at none masked same joined only_at widths stages hash_bytes field_bytes key_hash winner after_edits packets.key_of mask_of frames.key_of is_tag_at tag_count tci_at carried carried_by network_at frames.with_network is_met fields_needed outer_tags commit_tags commit commit_field commit_fields pipe act run look last_state write output output_all emit emit_all committed insert_by sort_by through length_up_to common_length deciding probe consults act_bits run_bits look_bits consulted frames_in ends_after are_same_actions credited_by decisions_from finish_board least_block finish with_given_steps
shown r = of_schedule (scheduled r)
  where
    of_schedule : Schedule → Shown
    of_schedule s = first_port_shown s.unmet r s.boards

-- ---- how answers are written

abbrev pub journal : ℕ → List Step → Journal
journal port steps = record { port = port; steps = steps }

abbrev pub entry : ℕ → ℕ → ℕ → ℕ → ℕ → ℕ → Counted
entry number version packets bytes owed_packets owed_bytes = record {
  number = number;
  version = version;
  packets = packets;
  bytes = bytes;
  owed_packets = owed_packets;
  owed_bytes = owed_bytes;
}

-- an entry that has decided no frame
abbrev pub unused_entry : ℕ → ℕ → Counted
unused_entry number version = entry number version 0 0 0 0

-- so many packets of 60 bytes
abbrev pub total : ℕ → Total
total packets = record { packets = packets; bytes = packets * 60 }

-- a frame that was decided under a version, and sent to these ports
abbrev pub sent : ℕ → List ℕ → Place
sent version ports = Decided version (map Output ports)
