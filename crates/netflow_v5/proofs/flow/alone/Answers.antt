use Rattle.std.proofs.Common.{◌≡◌, ℕ, List, get_or, sym, ap, ◌∙◌, arith}
use Rattle.spec_frames.specs.declared.layout.Layout.{Layout}
use Rattle.spec_frames.specs.declared.layout.L3.TheVariants.{Ipv4}
use Rattle.spec_frames.specs.Key.{key_of}
use Rattle.spec_frames.specs.Layout.{layout_of}
use Rattle.spec_netflow.specs.Flows.{class_of}
use Rattle.netflow_laws.proofs.IcmpPorts.{type_and_code}
use Rattle.netflow_v5.specs.Views.{class_view}
use Rattle.netflow_v5.proofs.Packets.{some_octets}
use Rattle.netflow_v5.proofs.flow.alone.Goals as goal

pub told_destination-requires : goal.told_destination-requires
told_destination-requires c = λ icmp.
    let key = key_of c.args.port c.args.frame.now in
    let here : (layout_of c.args.frame.now).l3 ≡ Ipv4 c.args.at = sym (ap (λ (l : Layout). l.l3) c.requires.layout) ∙ c.requires.ipv4 in
    let view : class_view c.of_packet-class.result ≡ class_of key = c.of_packet-class.ensures in
    let number : (i : ℕ) → get_or (class_view c.of_packet-class.result) i 0 ≡ get_or (class_of key) i 0 = λ i. ap (λ (xs : List ℕ). get_or xs i 0) view in
    let both = type_and_code c.args.port c.args.frame.now c.args.at (λ k. let fits = c.type_inv.frame k in omega (arith, fits)) here (sym (number 3) ∙ icmp) in
    (omega (arith, both.0, number 5), omega (arith, both.1, number 6))

pub returns-clause-octets : goal.returns-clause-octets
returns-clause-octets c =
    let here : (layout_of c.args.frame.now).l3 ≡ Ipv4 c.args.at = sym (ap (λ (l : Layout). l.l3) c.requires.layout) ∙ c.requires.ipv4 in
    let some = some_octets c.args.frame.now c.args.at here in
    omega (arith, some, c.be16.ensures, c.from.ensures)
