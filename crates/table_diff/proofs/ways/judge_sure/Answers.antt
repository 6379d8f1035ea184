use Rattle.std.proofs.Common.{refl}
use Rattle.std.proofs.lemmas.Bool.{and_parts}
use Rattle.ovs_fields.specs.Packed.{numbers, bits}
use Rattle.table_diff.proofs.WayLaws.{alike_nothing, alike_led, other_sent, found_map}
use Rattle.table_diff.proofs.ways.judge_sure.Goals as goal

pub returns-then-do_nothing : goal.returns-then-do_nothing
returns-then-do_nothing c o n ports ho hn so sn = record {
  same_mask = refl;
  holds = alike_nothing o n ports (numbers c.args.key.now) (bits c.args.mask) c.args.old c.args.new ho hn so sn
      (c.do_nothing.ensures.old c.if-do_nothing.true) (c.do_nothing.ensures.new c.if-do_nothing.true);
  printable = tt;
}

pub returns-then-are_led_alike : goal.returns-then-are_led_alike
returns-then-are_led_alike c o n ports ho hn so sn = record {
  same_mask = refl;
  holds = alike_led o n ports (numbers c.args.key.now) (bits c.args.mask) c.args.old c.args.new ho hn (c.are_led_alike.ensures c.if-are_led_alike.true);
  printable = tt;
}

pub returns-then-old-new : goal.returns-then-old-new
returns-then-old-new c o n ports ho hn so sn =
    let told = and_parts c.args.old.told c.args.new.told c.if-old-new.true in
    c.judge_told.ensures o n (numbers c.args.key.now) ports ho hn told.0 told.1

pub returns-then-are_sent_otherwise : goal.returns-then-are_sent_otherwise
returns-then-are_sent_otherwise c o n ports ho hn so sn =
    c.differ.ensures o n (numbers c.args.key.now) ho hn so sn
    (other_sent o n ports (numbers c.args.key.now) (bits c.args.mask) c.args.old c.args.new ho hn (c.are_sent_otherwise.ensures c.if-are_sent_otherwise.true))

pub returns : goal.returns
returns c = found_map c.judge_by_ports.result c.judge_by_ports.ensures (λ judged found. found (numbers c.args.key.now))
