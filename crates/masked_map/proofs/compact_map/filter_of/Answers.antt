use Rattle.std.proofs.Common.{sym, ap, ◌∙◌}
use Rattle.std.specs.Map.{lookup}
use Rattle.spec_keys.specs.Keys.{same}
use Rattle.masked_map.specs.Compact.{list_of}
use Rattle.masked_map.specs.Filters.{has_mark}
use Rattle.masked_map.specs.Listed.{listed}
use Rattle.masked_map.specs.Marks.{mark_of}
use Rattle.masked_map.proofs.FilterLaws.{not_added, no_more, passed}
use Rattle.masked_map.proofs.compact_map.filter_of.Goals as goal

pub entries-preserved : goal.entries-preserved
entries-preserved g c q out =
    passed (c.in-Some.key.now, c.in-Some.field-0-1.now) c.next.new.self c.args.by_key.now.entries q
    (not_added c.add.new.self q (list_of c.in-Some.key.now) (sym (ap (has_mark c.add.new.self) (c.mark.ensures (list_of c.in-Some.key.now) c.of.ensures.words)) ∙ c.add.ensures.marked) out)
    (sym (ap (λ es. lookup (same q) (listed list_of es)) c.in-Some.ensures.steps)
    ∙ c.entries.invariant q (no_more c.entries.filter c.add.new.self q (c.add.ensures.keeps (mark_of q)) out))

pub returns : goal.returns
returns g c key out = sym (c.entries.invariant key out) ∙ ap (λ es. lookup (same key) (listed list_of es)) c.in-None.ensures.steps.0
