use Rattle.std.proofs.Common.{List, map, subst}
use Rattle.spec_tables.specs.Rules.{Rule}
use Rattle.ovs_fields.specs.Packed.{bits}
use Rattle.rule_tables.specs.Views.{match_view}
use Rattle.pipe_model.specs.Runnable.{IsAmong}
use Rattle.dump_lines.specs.Live.{live_in}
use Rattle.rule_changes.specs.declared.pair.Pair.{Pair}
use Rattle.rule_changes.specs.declared.pair.Side.TheVariants.{Old, New}
use Rattle.rule_changes.specs.Pairs.{IsCovered}
use Rattle.rule_changes.proofs.OrderLaws.{covered_more}
use Rattle.rule_changes.proofs.PairLaws.{find_alike, do_alike}
use Rattle.rule_changes.proofs.comparing.changes_of.Goals as goal

pub returns : goal.returns
returns c =
    let rs = live_in c.args.old.now in
    let ss = live_in c.args.new.now in
    let pairs = c.in_ok-pairs.pairs.items in
    let mid = map match_view c.set_all_aside.new.aside.items in
    let ms = map match_view c.set_all_aside-2.new.aside.items in
    let old : (r : Rule) → IsAmong r rs → IsCovered Old pairs ms r =
    λ r i. subst (λ (ps : List Pair). IsCovered Old ps ms r) c.deref.ensures.value
    (covered_more Old c.deref.result.now mid ms r c.in_ok-set_all_aside-2.ensures.kept (c.in_ok-set_all_aside.ensures.covered r i)) in
    let new : (s : Rule) → IsAmong s ss → IsCovered New pairs ms s =
    λ s i. subst (λ (ps : List Pair). IsCovered New ps ms s) c.deref-2.ensures.value (c.in_ok-set_all_aside-2.ensures.covered s i) in
    do_alike rs ss ms (bits c.kept_bits-kept.result)
    (find_alike rs ss c.requires.old_runnable c.requires.new_runnable pairs c.in_ok-pairs.ensures ms old new) c.kept_bits-kept.ensures
