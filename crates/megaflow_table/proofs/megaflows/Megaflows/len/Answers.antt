use Rattle.std.proofs.Common.{◌∙◌, sym, ap, length, subst}
use Rattle.megaflow_table.specs.Entries.{Flows, AreDisjoint, AreRising}
use Rattle.megaflow_table.specs.Subtables.{number_under}
use Rattle.megaflow_table.specs.Parts.{look_in}
use Rattle.megaflow_table.proofs.EntryLaws.{length-entries}
use Rattle.megaflow_table.proofs.FindLaws.{disjoint_entries, rising_entries}
use Rattle.megaflow_table.proofs.megaflows.Megaflows.len.Goals as goal

pub returns-clause-length : goal.returns-clause-length
returns-clause-length c =
    c.len.ensures ∙ c.self.inside.live.ok.0 ∙ sym (length-entries (look_in c.self.inside) c.self.inside.live.items c.self.invariant.consistent.found) ∙ ap (λ (f : Flows). length f.entries) c.self.view_is

pub returns-clause-disjoint : goal.returns-clause-disjoint
returns-clause-disjoint c =
    subst (λ (f : Flows). AreDisjoint f.entries) c.self.view_is
    (disjoint_entries c.self.inside.live.items (look_in c.self.inside) (number_under c.self.inside.subtables) c.self.invariant.consistent)

pub returns-clause-rising : goal.returns-clause-rising
returns-clause-rising c =
    subst (λ (f : Flows). AreRising f.entries) c.self.view_is
    (rising_entries c.self.inside.live.items (look_in c.self.inside) (number_under c.self.inside.subtables) c.self.invariant.consistent)
