use Rattle.std.proofs.Common.{◌≡◌, ap, sym, ◌∙◌}
use Rattle.spec_frames.specs.declared.layout.Layout.{Layout}
use Rattle.spec_frames.specs.declared.layout.L3.TheVariants.{Ipv4}
use Rattle.spec_frames.specs.Ipv4.{fragment}
use Rattle.spec_frames.specs.Layout.{layout_of}
use Rattle.netflow_v5.proofs.Classes.{class_of_packet, shown_before}
use Rattle.netflow_v5.proofs.class.FlowClass.of_packet.Goals as goal

pub ports_in-tp_src-requires : goal.ports_in-tp_src-requires
ports_in-tp_src-requires c = rw c.shown.ensures (shown_before (fragment c.args.frame.now c.args.at) c.args.layout.now.l4 _ c.requires.within.transport)

pub returns : goal.returns
returns c =
    let here : (layout_of c.args.frame.now).l3 ≡ Ipv4 c.args.at = sym (ap (λ (l : Layout). l.l3) c.requires.layout) ∙ c.requires.ipv4 in
    let class = rw (← c.requires.layout) at (class_of_packet c.args.port c.args.frame.now c.args.at here) in
    rw (c.be32.ensures, c.be32-2.ensures, c.ports_in-tp_src.ensures.source, c.ports_in-tp_src.ensures.destination, c.shown.ensures) (sym class)
