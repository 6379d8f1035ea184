use Rattle.std.proofs.Common.{sym, ap, subst, ◌∙◌}
use Rattle.std.specs.Prelude.{nat_lt}
use Rattle.std.specs.List.{find}
use Rattle.megaflow_table.specs.Live.{IsRising}
use Rattle.megaflow_table.specs.Entries.{Flows, numbers_of}
use Rattle.megaflow_table.specs.Parts.{look_in}
use Rattle.megaflow_table.proofs.EntryLaws.{numbers-entries}
use Rattle.megaflow_table.proofs.megaflows.Megaflows.after.Goals as goal

pub first_above-requires : goal.first_above-requires
first_above-requires c = subst IsRising (sym c.deref.ensures.value) c.self.invariant.consistent.rising

pub returns : goal.returns
returns c =
    c.first_above.ensures
    ∙ ap (find (λ n. nat_lt c.args.number n))
    (c.deref.ensures.value ∙ sym (numbers-entries (look_in c.self.inside) c.self.inside.live.items c.self.invariant.consistent.found) ∙ ap (λ (f : Flows). numbers_of f.entries) c.self.view_is)
