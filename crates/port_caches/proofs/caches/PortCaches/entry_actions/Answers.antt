use Rattle.std.proofs.Common.{◌≡◌, ◌<◌, ℕ, length, Some, sym, ap, subst, ◌∙◌}
use Rattle.std.specs.Prelude.{is_some, IsSome}
use Rattle.std.specs.Option.{option_map}
use Rattle.spec_board.specs.State as states
use Rattle.spec_board.specs.Results as board
use Rattle.port_caches.specs.Views.{Caches, entry_view}
use Rattle.port_caches.specs.Lists.{actions_at}
use Rattle.port_caches.proofs.Kept.{kept_found}
use Rattle.port_caches.proofs.Views.{entry_of-view, viewed_some}
use Rattle.port_caches.proofs.caches.PortCaches.entry_actions.Goals as goal

pub named_by-list-requires : goal.named_by-list-requires
named_by-list-requires c =
    let b = c.self.inside in
    ap is_some (viewed_some b.lists.items c.args.number b.flows.entries (subst (λ (v : Caches). IsSome (board.entry_of c.args.number v.entries)) (sym c.self.view_is) c.requires)).1

pub actions-requires : goal.actions-requires
actions-requires c =
    let b = c.self.inside in
    let there = viewed_some b.lists.items c.args.number b.flows.entries (subst (λ (v : Caches). IsSome (board.entry_of c.args.number v.entries)) (sym c.self.view_is) c.requires) in
    let kept = kept_found (length b.lists.items) b.made (length b.totals) b.flows.entries c.args.number there.0 c.self.invariant.entries there.1 in
    subst (λ (v : Caches). c.named_by-list.result.1 < length v.lists) c.self.view_is
    (subst (λ (n : ℕ). n < length b.lists.items) (sym (c.named_by-list.ensures there.0 there.1).1) kept.list)

pub returns : goal.returns
returns c =
    let b = c.self.inside in
    let there = viewed_some b.lists.items c.args.number b.flows.entries (subst (λ (v : Caches). IsSome (board.entry_of c.args.number v.entries)) (sym c.self.view_is) c.requires) in
    let seen : board.entry_of c.args.number c.args.self.now.entries ≡ Some (entry_view b.lists.items there.0) =
    ap (λ (v : Caches). board.entry_of c.args.number v.entries) (sym c.self.view_is) ∙ entry_of-view b.lists.items c.args.number b.flows.entries
    ∙ ap (option_map (entry_view b.lists.items)) there.1 in
    ap (option_map (λ (e : states.Entry). e.actions)) seen
    ∙ ap (λ (n : ℕ). Some (actions_at b.lists.items n)) (sym (c.named_by-list.ensures there.0 there.1).1)
    ∙ ap (λ (v : Caches). Some (actions_at v.lists c.named_by-list.result.1)) c.self.view_is
    ∙ ap Some (sym c.actions.ensures)
