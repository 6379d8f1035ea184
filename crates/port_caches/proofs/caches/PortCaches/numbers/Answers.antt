use Rattle.std.proofs.Common.{sym, ap, ◌∙◌}
use Rattle.spec_board.specs.Results as board
use Rattle.port_caches.specs.Views.{Caches}
use Rattle.port_caches.proofs.Views.{numbers_of-view}
use Rattle.port_caches.proofs.caches.PortCaches.numbers.Goals as goal

pub returns : goal.returns
returns c =
    let b = c.self.inside in
    c.numbers.ensures ∙ sym (numbers_of-view b.lists.items b.flows.entries) ∙ ap (λ (v : Caches). board.numbers_of v.entries) c.self.view_is
