use Rattle.std.proofs.Common.{◌≡◌, Option, Some, None, sym, ap, ◌∙◌}
use Rattle.std.specs.Option.{option_map}
use Rattle.spec_board.specs.State as states
use Rattle.spec_board.specs.Results as board
use Rattle.megaflow_table.specs.declared.entry.Entry.{Entry}
use Rattle.megaflow_table.specs.Entries.{entry_of}
use Rattle.port_caches.specs.Views.{Caches, entry_view}
use Rattle.port_caches.proofs.Views.{entry_of-view}
use Rattle.port_caches.proofs.caches.PortCaches.key_of.Goals as goal

pub returns-in-Some : goal.returns-in-Some
returns-in-Some c =
    let b = c.self.inside in
    let n = c.args.number in
    let got : Some c.in-Some.entry.now ≡ entry_of n b.flows.entries = rw c.in-Some.is at c.get.ensures in
    ap (λ (o : Option Entry). option_map (λ (e : states.Entry). e.key) (option_map (entry_view b.lists.items) o)) got
    ∙ ap (option_map (λ (e : states.Entry). e.key)) (sym (entry_of-view b.lists.items n b.flows.entries) ∙ ap (λ (v : Caches). board.entry_of n v.entries) c.self.view_is)

pub returns-in-None : goal.returns-in-None
returns-in-None c =
    let b = c.self.inside in
    let n = c.args.number in
    let got : None ≡ entry_of n b.flows.entries = rw c.in-None.is at c.get.ensures in
    ap (λ (o : Option Entry). option_map (λ (e : states.Entry). e.key) (option_map (entry_view b.lists.items) o)) got
    ∙ ap (option_map (λ (e : states.Entry). e.key)) (sym (entry_of-view b.lists.items n b.flows.entries) ∙ ap (λ (v : Caches). board.entry_of n v.entries) c.self.view_is)
