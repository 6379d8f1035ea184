use Rattle.std.proofs.Common.{◌≡◌, refl, sym, ap, ◌∙◌}
use Rattle.ovs_fields.specs.Packed.{bits}
use Rattle.table_diff.specs.Sending.{ports_in}
use Rattle.table_diff.proofs.WayLaws.{other_ports}
use Rattle.table_diff.proofs.ways.judge_by_ports.Goals as goal

pub returns : goal.returns
returns c key o n ports ho hn so sn =
    c.differ.ensures o n key ho hn so sn
    (other_ports o n ports key (bits c.args.mask) c.args.old c.args.new ho hn so sn
    (λ same. c.in_ok-same.ensures c.if-same.false (ap ports_in c.as_slice.ensures ∙ same ∙ sym (ap ports_in c.as_slice-2.ensures))))
