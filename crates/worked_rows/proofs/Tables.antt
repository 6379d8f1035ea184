-- Packets that pass through several tables.
use Rattle.std.proofs.Common.{◌≡◌, ℕ, List, [], ◌∷◌, replicate, refl}
use Rattle.spec_keys.specs.declared.field_id.FieldId.TheVariants as field
use Rattle.spec_actions.specs.declared.named_field.NamedField.{NamedField}
use Rattle.spec_actions.specs.declared.named_field.NamedField.TheVariants as name
use Rattle.spec_actions.specs.declared.action.Slice.{Slice}
use Rattle.spec_actions.specs.declared.action.OfAction.{OfAction}
use Rattle.spec_actions.specs.declared.action.OfAction.TheVariants.{Output, OutputField, InPort, Flood, Resubmit, Set, DecTtl, SetVid}
use Rattle.spec_actions.specs.declared.action.DpAction.TheVariants as datapath
use Rattle.spec_tables.specs.Rules.{Rule}
use Rattle.spec_tables.proofs.Packets.{Stated, is, begins}
use Rattle.spec_xlate.proofs.Shown.{shown, gives, rule}

-- ---- resubmits

abbrev frame : List Stated
frame = is field.InPort 1 ∷ is field.DlSrc 1 ∷ is field.DlDst 2 ∷ is field.DlType 0x88b5 ∷ []

a_table_that_leads_to_itself_is_left_at_depth_65 :
    shown (rule 1 0 32768 [] (Resubmit 0 ∷ []) ∷ []) (1 ∷ 2 ∷ []) frame
    ≡ gives [] (replicate 65 1) (is field.InPort 1 ∷ is field.DlType 0x88b5 ∷ [])
unfolding shown
a_table_that_leads_to_itself_is_left_at_depth_65 = refl

the_greatest_table_port_and_priority :
    shown
    (rule 1 0 65535 (is field.InPort 65279 ∷ []) (Resubmit 254 ∷ [])
    ∷ rule 2 254 0 [] (InPort ∷ []) ∷ [])
    (65279 ∷ []) (is field.InPort 65279 ∷ is field.DlSrc 1 ∷ is field.DlDst 2 ∷ is field.DlType 0x88b5 ∷ [])
    ≡ gives (datapath.Output 65279 ∷ []) (1 ∷ 2 ∷ []) (is field.InPort 65279 ∷ is field.DlType 0x88b5 ∷ [])
unfolding shown
the_greatest_table_port_and_priority = refl

a_lookup_in_a_table_without_rules_finds_nothing :
    shown (rule 1 0 32768 [] (Resubmit 9 ∷ []) ∷ []) (1 ∷ 2 ∷ []) (is field.InPort 2 ∷ [])
    ≡ gives [] (1 ∷ []) (is field.InPort 2 ∷ is field.DlType 0 ∷ [])
unfolding shown
a_lookup_in_a_table_without_rules_finds_nothing = refl

-- ---- registers

a_register_carries_a_number_to_the_next_table :
    shown
    (rule 1 0 32768 [] (Set name.Reg0 7 0xffffffff ∷ Resubmit 1 ∷ [])
    ∷ rule 2 1 32768 (is field.Reg0 7 ∷ []) (Set name.DlSrc 5 0xffffffffffff ∷ Output 2 ∷ []) ∷ [])
    (1 ∷ 2 ∷ []) (is field.InPort 1 ∷ is field.DlType 0x88b5 ∷ [])
    ≡ gives (datapath.Set field.DlSrc 5 5 ∷ datapath.Output 2 ∷ []) (1 ∷ 2 ∷ []) (is field.InPort 1 ∷ is field.DlSrc 0
    ∷ is field.DlType 0x88b5 ∷ [])
unfolding shown
a_register_carries_a_number_to_the_next_table = refl

-- ---- one run, step by step (docs/DEFINITIONS.md has its picture)

abbrev number_and_vlan : List Rule
number_and_vlan =
    rule 1 0 32768 (is field.InPort 1 ∷ []) (Set name.Reg0 7 0xffffffff ∷ Resubmit 1 ∷ Output 3 ∷ [])
    ∷ rule 2 1 32768 (is field.Reg0 7 ∷ []) (SetVid 5 ∷ Output 2 ∷ [])
    ∷ []

the_run_of_the_picture :
    shown number_and_vlan (1 ∷ 2 ∷ 3 ∷ []) frame
    ≡ gives (datapath.PushVlan 0x8100 0x1005 ∷ datapath.Output 2 ∷ datapath.Output 3 ∷ []) (1 ∷ 2 ∷ [])
    (is field.InPort 1 ∷ is field.DlType 0x88b5 ∷ is field.VlanTci 0 ∷ is field.VlanTpid 0 ∷ is field.VlanTci2 0 ∷ is field.VlanTpid2 0 ∷ [])
unfolding shown
the_run_of_the_picture = refl

-- ---- a small router
-- Port 1 has the network 10.0.0.0/24, port 2 the rest, of which 192.0.2.0/24 is known. Register 0 is the side that a
-- packet came from and register 1 the side that it goes to.

abbrev arp : List Stated
arp = is field.DlType 0x0806 ∷ []

abbrev ip : List Stated
ip = is field.DlType 0x0800 ∷ []

abbrev tcp : List Stated
tcp = is field.NwProto 6 ∷ ip

abbrev icmp : List Stated
icmp = is field.NwProto 1 ∷ ip

-- a whole register loaded with a number, and the lower half of register 1
abbrev load : NamedField → ℕ → OfAction
load register n = Set register n 0xffffffff

abbrev side : Slice
side = record { name = name.Reg1; low = 0; high = 15 }

router : List Rule
router =
    rule 1 0 100 arp (Flood ∷ [])
    ∷ rule 2 0 90 (is field.InPort 1 ∷ []) (load name.Reg0 1 ∷ Resubmit 1 ∷ [])
    ∷ rule 3 0 90 (is field.InPort 2 ∷ []) (load name.Reg0 2 ∷ Resubmit 1 ∷ [])
    ∷ rule 4 0 0 [] []
    ∷ rule 5 1 50 (begins field.NwDst 0x0a000000 24 ∷ ip) (load name.Reg1 1 ∷ Resubmit 2 ∷ [])
    ∷ rule 6 1 40 (begins field.NwDst 0xc0000200 24 ∷ ip) (DecTtl ∷ load name.Reg1 2 ∷ Resubmit 2 ∷ [])
    ∷ rule 7 1 0 [] []
    ∷ rule 8 2 80 (is field.Reg1 2 ∷ is field.TpDst 80 ∷ tcp) (OutputField side ∷ [])
    ∷ rule 9 2 80 (is field.Reg1 2 ∷ is field.TpDst 443 ∷ tcp) (Output 2 ∷ [])
    ∷ rule 10 2 80 (is field.Reg1 1 ∷ is field.TpSrc 80 ∷ tcp) (Output 1 ∷ [])
    ∷ rule 11 2 10 icmp (InPort ∷ [])
    ∷ rule 12 2 0 [] []
    ∷ []

-- who has 10.0.0.1? from 10.0.0.5
abbrev arp_request : List Stated
arp_request =
    is field.InPort 1 ∷ is field.DlSrc 5 ∷ is field.DlDst 0xffffffffffff ∷ is field.NwSrc 0x0a000005 ∷ is field.NwDst 0x0a000001
    ∷ is field.NwProto 1 ∷ is field.ArpSha 5 ∷ arp

-- from 10.0.0.5 port 40000 to 192.0.2.7 port 80
abbrev web_request : List Stated
web_request =
    is field.InPort 1 ∷ is field.DlSrc 5 ∷ is field.DlDst 1 ∷ is field.NwSrc 0x0a000005 ∷ is field.NwDst 0xc0000207
    ∷ is field.NwTtl 64 ∷ is field.TpSrc 40000 ∷ is field.TpDst 80 ∷ tcp

-- and back
abbrev web_answer : List Stated
web_answer =
    is field.InPort 2 ∷ is field.DlSrc 1 ∷ is field.DlDst 5 ∷ is field.NwSrc 0xc0000207 ∷ is field.NwDst 0x0a000005
    ∷ is field.NwTtl 64 ∷ is field.TpSrc 80 ∷ is field.TpDst 40000 ∷ tcp

an_arp_request_floods :
    shown router (1 ∷ 2 ∷ []) arp_request ≡ gives (datapath.Output 2 ∷ []) (1 ∷ []) (is field.InPort 1 ∷ arp)
unfolding shown router
an_arp_request_floods = refl

a_request_leaves_by_the_register_with_its_ttl_lowered :
    shown router (1 ∷ 2 ∷ []) web_request
    ≡ gives (datapath.Set field.NwTtl 0x3f 0x7f ∷ datapath.Output 2 ∷ []) (2 ∷ 6 ∷ 8 ∷ [])
    (is field.InPort 1 ∷ begins field.NwDst 0xc0000200 24 ∷ is field.NwTtl 64 ∷ is field.IpFrag 0 ∷ is field.TpDst 80 ∷ tcp)
unfolding shown router
a_request_leaves_by_the_register_with_its_ttl_lowered = refl

-- the rules of side 2 end in their first stage, since register 1 is 1
its_answer_comes_back_unchanged :
    shown router (1 ∷ 2 ∷ []) web_answer
    ≡ gives (datapath.Output 1 ∷ []) (3 ∷ 5 ∷ 10 ∷ [])
    (is field.InPort 2 ∷ begins field.NwDst 0x0a000000 24 ∷ is field.IpFrag 0 ∷ is field.TpSrc 80 ∷ tcp)
unfolding shown router
its_answer_comes_back_unchanged = refl
