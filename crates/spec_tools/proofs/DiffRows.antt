-- Worked rows: which matches speak of a key, what lines say of it, and what flow actions do to a frame.
use Rattle.std.specs.Prelude.{◌≡◌, ℕ, true, false, ◌+◌, ◌-◌, ◌^◌, List, [], ◌∷◌, codes, refl}
use Rattle.std.specs.Fmt.{digits}
use Rattle.spec_keys.specs.declared.field_id.FieldId.TheVariants as field
use Rattle.spec_keys.specs.Keys.{none, masked, same, only_at}
use Rattle.spec_actions.specs.declared.named_field.NamedField.TheVariants as name
use Rattle.spec_actions.specs.declared.action.OfAction.{OfAction}
use Rattle.spec_actions.specs.declared.action.OfAction.TheVariants.{Output, Resubmit, Set, DecTtl}
use Rattle.spec_actions.specs.declared.action.DpAction.{DpAction}
use Rattle.spec_actions.specs.declared.action.DpAction.TheVariants as datapath
use Rattle.spec_tables.specs.Rules.{Rule, Match, winner}
use Rattle.spec_tables.proofs.Packets.{Stated, is, key_of, mask_of, match_of}
use Rattle.spec_board.specs.Results.{are_same_actions}
use Rattle.spec_flow_text.specs.DpTextPrinted.{dp_actions_printed}
use Rattle.spec_xlate.specs.Needs.{is_met}
use Rattle.spec_xlate.specs.Tags.{outer_tags, commit_tags}
use Rattle.spec_xlate.specs.Commit.{commit, commit_field, commit_fields}
use Rattle.spec_xlate.specs.Translation.{switch_of, pipe, act, run, look, last_state, write, output, emit, emit_all, committed}
use Rattle.spec_tools.specs.Classes.{holding, done, done_by, is_plain}
use Rattle.spec_tools.specs.Classes.Deed.{Datapath, Flow}
use Rattle.spec_tools.specs.Lines.{Said, Line, said_of, differing}
use Rattle.spec_tools.specs.Lines.Said.{Alike, Differ}
use Rattle.spec_tools.specs.DiffTexts.{is_same_deed, kinds_of, text_of_lines}

-- a match of bits of the port where a packet came in
port : ℕ → ℕ → Match
port value bits = record { key = only_at 0 value; mask = only_at 0 bits }

bits_outside_a_mask_say_nothing : holding (only_at 0 5) (port 1 3 ∷ port 4 4 ∷ port 4 5 ∷ []) ≡ 2
unfolding masked same only_at port
bits_outside_a_mask_say_nothing = refl

-- ---- lines

-- packets of even numbers are dropped no longer but sent to port 3, but for those of 4, 12, 20..; and so are those of 5
lines : List Line
lines =
    record { matching = port 4 7; said = Alike }
    ∷ record { matching = port 0 1; said = Differ (Datapath []) (Datapath (datapath.Output 3 ∷ [])) }
    ∷ record { matching = port 5 15; said = Differ (Datapath (datapath.Output 3 ∷ [])) (Datapath []) }
    ∷ []

-- what is said of packets that came in by a port
said : ℕ → Said
unfolding masked same only_at port lines
said number = said_of lines (only_at 0 number)

the_first_line_counts : said 12 ≡ Alike
unfolding said
the_first_line_counts = refl

a_line_tells_of_what_no_line_before_has : said 6 ≡ Differ (Datapath []) (Datapath (datapath.Output 3 ∷ []))
unfolding said
a_line_tells_of_what_no_line_before_has = refl

later_lines_are_for_others : said 5 ≡ Differ (Datapath (datapath.Output 3 ∷ [])) (Datapath [])
unfolding said
later_lines_are_for_others = refl

what_is_in_no_line_is_treated_alike : said 7 ≡ Alike
unfolding said
what_is_in_no_line_is_treated_alike = refl

lines_that_tell_no_difference_are_none_of_the_differing : differing lines ≡ port 0 1 ∷ port 5 15 ∷ []
unfolding lines
lines_that_tell_no_difference_are_none_of_the_differing = refl

-- ---- flow actions

-- a UDP packet at port 1 of a switch of three ports, with a destination and a TTL
abbrev udp : ℕ → ℕ → List Stated
udp dl_dst ttl = is field.InPort 1 ∷ is field.DlDst dl_dst ∷ is field.DlType 0x0800 ∷ is field.NwProto 17 ∷ is field.NwTtl ttl ∷ []

-- what flow actions do to a packet
unfoldable done_to : List OfAction → List Stated → List DpAction
unfolding none key_of is_met outer_tags commit_tags commit commit_field commit_fields act run write output emit emit_all committed
done_to actions packet = done_by (3 ∷ 1 ∷ 2 ∷ []) actions (key_of packet)

abbrev mod_dl_dst : ℕ → OfAction
mod_dl_dst value = Set name.DlDst value (2 ^ 48 - 1)

the_datapath_writes_the_bits_that_differ :
    done_to (mod_dl_dst 9 ∷ Output 2 ∷ []) (udp 2 64) ≡ datapath.Set field.DlDst 9 11 ∷ datapath.Output 2 ∷ []
unfolding done_to
the_datapath_writes_the_bits_that_differ = refl

it_writes_nothing_that_stands_there_already :
    done_to (mod_dl_dst 9 ∷ Output 2 ∷ []) (udp 9 64) ≡ datapath.Output 2 ∷ []
unfolding done_to
it_writes_nothing_that_stands_there_already = refl

it_writes_nothing_where_nothing_is_sent : done_to (mod_dl_dst 9 ∷ Output 1 ∷ []) (udp 2 64) ≡ []
unfolding done_to
it_writes_nothing_where_nothing_is_sent = refl

a_ttl_that_runs_out_ends_the_list : done_to (DecTtl ∷ Output 2 ∷ []) (udp 2 1) ≡ []
unfolding done_to
a_ttl_that_runs_out_ends_the_list = refl

-- ---- the same by lookups

-- the rule of a table, which every packet matches
abbrev always : ℕ → List OfAction → Rule
always table actions = record { number = table + 1; table = table; priority = 0; cookie = 0; matching = match_of []; actions = actions }

-- what rules do to a packet that lead it to table 1 and back
unfoldable done_in : List OfAction → List OfAction → List Stated → List DpAction
unfolding none masked same winner key_of mask_of is_met outer_tags commit_tags commit commit_field commit_fields pipe act run look last_state write output emit emit_all committed
done_in first second packet = done (switch_of (always 0 first ∷ always 1 second ∷ []) (3 ∷ 1 ∷ 2 ∷ [])) (key_of packet)

actions_of_a_table_stand_in_place_of_the_lookup :
    done_in (Resubmit 1 ∷ Output 3 ∷ []) (DecTtl ∷ Output 2 ∷ []) (udp 2 64)
    ≡ done_to (DecTtl ∷ Output 2 ∷ Output 3 ∷ []) (udp 2 64)
unfolding done_to done_in
actions_of_a_table_stand_in_place_of_the_lookup = refl

-- the list of table 1 ends, and that of table 0 goes on
a_ttl_that_runs_out_is_no_action_of_the_straight_list :
    done_in (Resubmit 1 ∷ Output 3 ∷ []) (DecTtl ∷ Output 2 ∷ []) (udp 2 1)
    ≡ done_to (Output 3 ∷ []) (udp 2 1)
unfolding done_to done_in
a_ttl_that_runs_out_is_no_action_of_the_straight_list = refl

lookups_are_not_straight :
    (is_plain (Flow (Resubmit 1 ∷ Output 3 ∷ [])) ≡ false)
    × (is_plain (Flow (DecTtl ∷ Output 3 ∷ [])) ≡ true)
    × (is_plain (Datapath []) ≡ true)
lookups_are_not_straight = (refl, refl, refl)

-- ---- kinds

what_is_said_is_told_apart :
    (is_same_deed (Flow (mod_dl_dst 9 ∷ [])) (Flow (mod_dl_dst 9 ∷ [])) ≡ true)
    × (is_same_deed (Flow (mod_dl_dst 9 ∷ [])) (Flow (mod_dl_dst 8 ∷ [])) ≡ false)
    × (is_same_deed (Flow []) (Datapath []) ≡ false)
what_is_said_is_told_apart = (refl, refl, refl)

-- ---- texts

-- a match of the port where packets came in, all of its bits
at_port : ℕ → Match
at_port number = port number (2 ^ 16 - 1)

sent_otherwise : ℕ → Line
sent_otherwise number = record { matching = at_port number; said = Differ (Datapath []) (Datapath (datapath.Output 3 ∷ [])) }

-- two lines of one kind, and one between them that tells no difference
short : List Line
short = sent_otherwise 1 ∷ record { matching = at_port 2; said = Alike } ∷ sent_otherwise 4 ∷ []

classes_of_one_kind_are_one_line_in_brief : text_of_lines true short ≡ codes "2: drop -> 3\n2 classes, 1 kinds\n"
unfolding digits are_same_actions dp_actions_printed kinds_of short sent_otherwise at_port
classes_of_one_kind_are_one_line_in_brief = refl

no_line_prints_nothing : text_of_lines false [] ≡ []
no_line_prints_nothing = refl
