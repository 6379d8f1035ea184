-- Worked rows: what a list of actions and one lookup consult, one after the other.
use Rattle.std.specs.Prelude.{◌≡◌, ℕ, ◌==◌, if◌then◌else◌, List, [], ◌∷◌, ◌++◌, map, replicate, refl}
use Rattle.spec_keys.specs.declared.field_id.FieldId.TheVariants as field
use Rattle.spec_keys.specs.Keys.{none, masked, same, joined, only_at}
use Rattle.spec_keys.specs.Fields.{widths, stages}
use Rattle.spec_keys.specs.Stages.{through}
use Rattle.spec_actions.specs.declared.action.OfAction.{OfAction}
use Rattle.spec_actions.specs.declared.action.OfAction.TheVariants.{Resubmit, Goto}
use Rattle.spec_tables.specs.Rules.{Rule, winner}
use Rattle.spec_tables.proofs.Packets.{Stated, is, begins, key_of, mask_of}
use Rattle.spec_xlate.specs.Translation.{Switch, State, act, start, stopped}
use Rattle.spec_xlate.specs.Translation.Mode.{ListEnded}
use Rattle.spec_xlate.specs.Lookup.{length_up_to, common_length, deciding, probe, consults}
use Rattle.spec_xlate.specs.Consulted.{act_bits, run_bits, enter_bits, look_bits}
use Rattle.spec_xlate.proofs.Shown.{rule}

-- ---- lists of actions

-- a lookup in a table visits a rule of the table's number; table 8 ends the list, and table 9 the translation
abbrev lookup : ℕ → State → State
lookup table s =
    if table == 8 then record s { mode = ListEnded }
    else (if table == 9 then stopped s else record s { visits = s.visits ++ table ∷ [] })

-- in place of a mask, the table that is looked up, how many lookups are left, and what was visited before
abbrev told : ℕ → State → List (List ℕ)
told table s = (table ∷ s.lookups_left ∷ s.visits) ∷ []

-- table 0 has one rule, which every packet matches and which leads to table 1; the other tables have none
abbrev rules_of : ℕ → List Rule
rules_of table = if table == 0 then rule 7 0 5 [] (Resubmit 1 ∷ []) ∷ [] else []

abbrev switch : Switch
switch = record { tables = rules_of; ports = [] }

unfoldable told_by : List OfAction → List (List ℕ)
unfolding act act_bits run_bits
told_by actions = run_bits switch lookup told actions (start none)

each_action_consults_in_the_state_that_those_before_it_left :
    told_by (Resubmit 1 ∷ Resubmit 2 ∷ Goto 3 ∷ []) ≡ (1 ∷ 512 ∷ []) ∷ (2 ∷ 512 ∷ 1 ∷ []) ∷ (3 ∷ 512 ∷ 1 ∷ 2 ∷ []) ∷ []
unfolding told_by
each_action_consults_in_the_state_that_those_before_it_left = refl

what_ends_a_list_consults_and_nothing_after_it_does :
    (told_by (Resubmit 1 ∷ Resubmit 8 ∷ Resubmit 3 ∷ []) ≡ (1 ∷ 512 ∷ []) ∷ (8 ∷ 512 ∷ 1 ∷ []) ∷ [])
    × ((told_by (Resubmit 1 ∷ Resubmit 9 ∷ Resubmit 3 ∷ []) ≡ (1 ∷ 512 ∷ []) ∷ (9 ∷ 512 ∷ 1 ∷ []) ∷ []) × (told_by [] ≡ []))
unfolding told_by
what_ends_a_list_consults_and_nothing_after_it_does = (refl, (refl, refl))

-- what the lookup consults, and then the actions of the rule found, which was visited, with one lookup less
a_lookup_consults_its_masks_and_then_what_its_rule_does :
    (enter_bits switch lookup told 0 5 (start none) ≡ consults (rules_of 0) none ++ (1 ∷ 4 ∷ 7 ∷ []) ∷ [])
    × ((enter_bits switch lookup told 2 5 (start none) ≡ [])
    × ((enter_bits switch lookup told 0 0 (start none) ≡ []) × (look_bits switch 0 0 (start none) ≡ [])))
unfolding none masked same joined only_at key_of mask_of winner widths stages through length_up_to common_length deciding probe consults act act_bits run_bits look_bits
a_lookup_consults_its_masks_and_then_what_its_rule_does = (refl, (refl, (refl, refl)))

-- ---- one mask of a table

abbrev stated : List Stated
stated =
    is field.InPort 1 ∷ is field.DlDst 2 ∷ begins field.NwDst 0x0a000100 24 ∷ is field.NwProto 17 ∷ is field.TpDst 53 ∷ []

-- a packet that the rule matches, and others, each of which differs in one field
abbrev matched : List ℕ
matched = key_of (is field.InPort 1 ∷ is field.DlDst 2 ∷ is field.NwDst 0x0a000105 ∷ is field.NwProto 17 ∷ is field.TpDst 53 ∷ [])

abbrev at_port_2 : List ℕ
at_port_2 = key_of (is field.InPort 2 ∷ is field.DlDst 2 ∷ is field.NwDst 0x0a000105 ∷ is field.NwProto 17 ∷ is field.TpDst 53 ∷ [])

abbrev to_3 : List ℕ
to_3 = key_of (is field.InPort 1 ∷ is field.DlDst 3 ∷ is field.NwDst 0x0a000105 ∷ is field.NwProto 17 ∷ is field.TpDst 53 ∷ [])

-- 10.0.2.5, whose first 22 bits are those of 10.0.1.0
abbrev to_another_network : List ℕ
to_another_network = key_of (is field.InPort 1 ∷ is field.DlDst 2 ∷ is field.NwDst 0x0a000205 ∷ is field.NwProto 17 ∷ is field.TpDst 53 ∷ [])

abbrev of_tcp : List ℕ
of_tcp = key_of (is field.InPort 1 ∷ is field.DlDst 2 ∷ is field.NwDst 0x0a000105 ∷ is field.NwProto 6 ∷ is field.TpDst 53 ∷ [])

abbrev to_port_80 : List ℕ
to_port_80 = key_of (is field.InPort 1 ∷ is field.DlDst 2 ∷ is field.NwDst 0x0a000105 ∷ is field.NwProto 17 ∷ is field.TpDst 80 ∷ [])

unfoldable probed : List Stated → List ℕ → List (List ℕ)
unfolding none masked same joined only_at key_of mask_of winner widths stages through length_up_to common_length deciding probe
probed rule_states key = probe (rule 1 0 5 rule_states [] ∷ []) key (mask_of rule_states)

-- the bits of the metadata, those through Ethernet, the prefix, those through the network, and all
abbrev metadata : List ℕ
metadata = mask_of (is field.InPort 0 ∷ [])

abbrev ethernet : List ℕ
ethernet = mask_of (is field.InPort 0 ∷ is field.DlDst 0 ∷ [])

-- bits of the destination, which stands behind 23 fields, and of the source before it
abbrev of_destination : ℕ → List ℕ
of_destination bits = replicate 23 0 ++ bits ∷ []

abbrev of_source : ℕ → List ℕ
of_source bits = replicate 22 0 ++ bits ∷ []

abbrev network : List ℕ
network = mask_of (is field.InPort 0 ∷ is field.DlDst 0 ∷ begins field.NwDst 0 24 ∷ is field.NwProto 0 ∷ [])

a_mask_is_consulted_as_far_as_some_rule_of_it_agrees :
    map (probed stated) (at_port_2 ∷ to_3 ∷ to_another_network ∷ of_tcp ∷ to_port_80 ∷ matched ∷ [])
    ≡ (metadata ∷ []) ∷ (metadata ∷ ethernet ∷ []) ∷ (metadata ∷ ethernet ∷ of_destination 0xfffffe00 ∷ [])
    ∷ (metadata ∷ ethernet ∷ of_destination 0xffffff00 ∷ network ∷ []) ∷ (metadata ∷ ethernet ∷ of_destination 0xffffff00 ∷ network ∷ mask_of stated ∷ [])
    ∷ (metadata ∷ ethernet ∷ of_destination 0xffffff00 ∷ network ∷ mask_of stated ∷ []) ∷ []
unfolding none key_of mask_of probed
a_mask_is_consulted_as_far_as_some_rule_of_it_agrees = refl

-- the source comes before the destination, which isn't consulted where the source decides
abbrev two_prefixes : List Stated
two_prefixes = begins field.NwSrc 0x0a000000 8 ∷ begins field.NwDst 0x0a000100 24 ∷ []

the_prefix_of_the_source_comes_first :
    (probed two_prefixes (key_of (is field.NwSrc 0x0b000001 ∷ is field.NwDst 0x0a000205 ∷ []))
    ≡ none ∷ none ∷ of_source 0xff000000 ∷ [])
    × (probed two_prefixes (key_of (is field.NwSrc 0x0a000001 ∷ is field.NwDst 0x0a000205 ∷ []))
    ≡ none ∷ none ∷ of_source 0xff000000 ∷ of_destination 0xfffffe00 ∷ [])
unfolding none key_of mask_of probed
the_prefix_of_the_source_comes_first = (refl, refl)
