use Rattle.std.proofs.Common.{sym, ap, ◌∙◌}
use Rattle.megaflow_table.specs.Entries.{Flows, numbers_of}
use Rattle.megaflow_table.specs.Parts.{look_in}
use Rattle.megaflow_table.proofs.EntryLaws.{numbers-entries}
use Rattle.megaflow_table.proofs.megaflows.Megaflows.numbers.Goals as goal

pub returns : goal.returns
returns c =
    c.deref.ensures.value
    ∙ sym (numbers-entries (look_in c.self.inside) c.self.inside.live.items c.self.invariant.consistent.found)
    ∙ ap (λ (f : Flows). numbers_of f.entries) c.self.view_is
