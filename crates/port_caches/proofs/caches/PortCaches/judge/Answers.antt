use Rattle.std.proofs.Common.{◌≡◌, ap, sym, subst, ◌∙◌, arith, length, Some}
use Rattle.std.specs.Option.{option_copied}
use Rattle.std.specs.Prelude.{IsSome}
use Rattle.std.proofs.lemmas.Option.{none-some, same_Some}
use Rattle.spec_board.specs.State as states
use Rattle.spec_board.specs.Results.{entry_of, put_of}
use Rattle.ovs_fields.specs.Packed.{bits}
use Rattle.pipe_model.specs.Plains.{translation_in}
use Rattle.port_caches.specs.Lists.{actions_at}
use Rattle.port_caches.specs.Views.{Caches, entry_view}
use Rattle.port_caches.proofs.Views.{viewed, viewed_some}
use Rattle.port_caches.proofs.Kept.{kept_found}
use Rattle.port_caches.proofs.HeldLists.{read_actions}
use Rattle.port_caches.proofs.caches.PortCaches.judge.Goals as goal

pub unreachable-requires : goal.unreachable-requires
unreachable-requires c =
    let b = c.self.inside in
    let there = viewed_some b.lists.items c.args.number b.flows.entries (subst (λ (v : Caches). IsSome (entry_of c.args.number v.entries)) (sym c.self.view_is) c.requires) in
    none-some there.0 (ap option_copied (sym c.in_default.is) ∙ c.get.ensures ∙ there.1)

pub index-requires : goal.index-requires
index-requires c =
    let b = c.self.inside in
    let kept = kept_found (length b.lists.items) b.made (length b.totals) b.flows.entries c.args.number c.in-Some.entry.now c.self.invariant.entries (sym c.in-Some.ensures) in
    omega (arith, kept.list, b.lists.ok.0)

pub returns : goal.returns
returns c s e clock is =
    let b = c.self.inside in
    let d = c.in-Some.entry.now in
    let kept = kept_found (length b.lists.items) b.made (length b.totals) b.flows.entries c.args.number d c.self.invariant.entries (sym c.in-Some.ensures) in
    let there = viewed b.lists.items c.args.number b.flows.entries e (subst (λ (v : Caches). entry_of c.args.number v.entries ≡ Some e) (sym c.self.view_is) is) in
    let same : entry_view b.lists.items d ≡ e = ap (entry_view b.lists.items) (same_Some d there.0 (c.in-Some.ensures ∙ there.1)) ∙ there.2 in
    let own : actions_at b.lists.items d.actions ≡ c.as_slice-own.result.now =
    read_actions b.lists.items d.actions c.index.result.now kept.list c.index.ensures ∙ sym c.as_slice-own.ensures in
    subst (λ (x : states.Entry). c.judged.result ≡ put_of x (translation_in c.args.made.now) (bits c.args.mask.now) s) same (c.judged.ensures b.lists.items s own clock)
