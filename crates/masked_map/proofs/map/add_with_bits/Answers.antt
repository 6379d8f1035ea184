use Rattle.std.proofs.Common.{sym, ◌∙◌}
use Rattle.masked_map.specs.Compact.{list_of}
use Rattle.masked_map.proofs.MapLaws.{wanted_added, wanted_passed}
use Rattle.masked_map.proofs.map.add_with_bits.Goals as goal

pub entries-preserved-in-Continue-1 : goal.entries-preserved-in-Continue-1
entries-preserved-in-Continue-1 g c =
    wanted_added list_of (list_of c.args.wanted.now) (list_of c.args.mask.now) c.entries.found.items c.push.new.self.items (c.in-Some.fields.now, c.in-Some.value.now) c.next.new.self _
    c.in-Some.ensures.steps c.in_ok-push.ensures.items (sym c.has_bits.ensures ∙ c.if-has_bits.true)
    ∙ c.entries.invariant

pub entries-preserved : goal.entries-preserved
entries-preserved g c =
    wanted_passed list_of (list_of c.args.wanted.now) (list_of c.args.mask.now) c.entries.found.items (c.in-Some.fields.now, c.in-Some.value.now) c.next.new.self _
    c.in-Some.ensures.steps (sym c.has_bits.ensures ∙ c.if-has_bits.false)
    ∙ c.entries.invariant
