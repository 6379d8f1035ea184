use Rattle.std.proofs.Common.{sym, ◌∙◌}
use Rattle.spec_keys.specs.Keys.{masked}
use Rattle.ovs_fields.specs.Packed.{numbers, bits}
use Rattle.masked_map.proofs.MapLaws.{wanted_added, wanted_passed}
use Rattle.masked_map.proofs.map.add_whole.Goals as goal

pub entries-preserved-in-Continue-1 : goal.entries-preserved-in-Continue-1
entries-preserved-in-Continue-1 g c =
    wanted_added numbers (masked (numbers c.args.key.now) (bits c.args.mask.now)) (bits c.args.mask.now) c.entries.found.items c.push.new.self.items (c.in-Some.own.now, c.in-Some.value.now) c.next.new.self _
    c.in-Some.ensures.steps c.in_ok-push.ensures.items (sym c.agree.ensures ∙ c.if-agree.true)
    ∙ c.entries.invariant

pub entries-preserved : goal.entries-preserved
entries-preserved g c =
    wanted_passed numbers (masked (numbers c.args.key.now) (bits c.args.mask.now)) (bits c.args.mask.now) c.entries.found.items (c.in-Some.own.now, c.in-Some.value.now) c.next.new.self _
    c.in-Some.ensures.steps (sym c.agree.ensures ∙ c.if-agree.false)
    ∙ c.entries.invariant
