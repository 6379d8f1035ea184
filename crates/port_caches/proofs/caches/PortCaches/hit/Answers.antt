use Rattle.std.proofs.Common.{◌≡◌, ℕ, ◌<◌, List, Some, length, ap, sym, subst, ◌∙◌}
use Rattle.std.specs.Prelude.{slice_set, is_some}
use Rattle.std.specs.Option.{option_map}
use Rattle.std.proofs.lemmas.Option.{same_Some}
use Rattle.megaflow_table.specs.declared.entry.Entry.{Entry}
use Rattle.megaflow_table.specs.Entries.{entry_of}
use Rattle.port_caches.specs.Views.{Caches}
use Rattle.port_caches.specs.Lists.{actions_at}
use Rattle.port_caches.specs.Kept.{caches_in}
use Rattle.port_caches.specs.Steps as steps
use Rattle.port_caches.proofs.HeldLists.{held_list}
use Rattle.port_caches.proofs.Hits.{can_hit, hit_kept, hit_is}
use Rattle.port_caches.proofs.Kept.{kept_found}
use Rattle.port_caches.proofs.caches.PortCaches.hit.Goals as goal

-- what the table answers of the entry that it hits
answered : (entries : List Entry) (number : ℕ) (d : Entry) (part : Entry → ℕ) (told : ℕ) → option_map part (entry_of number entries) ≡ Some told → entry_of number entries ≡ Some d → told ≡ part d
answered entries number d part told is there = same_Some told (part d) (sym is ∙ ap (option_map part) there)

pub hit-hit-requires : goal.hit-hit-requires
hit-hit-requires c =
    let there = can_hit c.self.inside c.args.number c.args.length (subst (steps.CanHit c.args.number c.args.length) (sym c.self.view_is) c.requires) in
    ap is_some there.1

pub hold-requires : goal.hold-requires
hold-requires c =
    let b = c.self.inside in
    let there = can_hit b c.args.number c.args.length (subst (steps.CanHit c.args.number c.args.length) (sym c.self.view_is) c.requires) in
    subst (λ (n : ℕ). n < length b.lists.items) (sym (answered b.flows.entries c.args.number there.0 (λ (e : Entry). e.actions) c.hit-hit.result.actions c.hit-hit.ensures.actions there.1))
    (kept_found (length b.lists.items) b.made (length b.totals) b.flows.entries c.args.number there.0 c.self.invariant.entries there.1).list

pub invariant_of-self : goal.invariant_of-self
invariant_of-self c =
    let b = c.self.inside in
    let there = can_hit b c.args.number c.args.length (subst (steps.CanHit c.args.number c.args.length) (sym c.self.view_is) c.requires) in
    let list = (answered b.flows.entries c.args.number there.0 (λ (e : Entry). e.actions) c.hit-hit.result.actions c.hit-hit.ensures.actions there.1) in
    hit_kept b c.self.invariant c.args.number c.args.length c.args.time there.0 there.1 there.2 c.hit-hit.new.self c.hold.new.lists c.hit-hit.ensures.entries c.hit-hit.ensures.limit
    (c.hold.ensures.items ∙ ap (λ (n : ℕ). slice_set b.lists.items n (held_list (actions_at b.lists.items n))) list) c.hold.ensures.len c.hold.ensures.capacity

pub returns : goal.returns
returns c =
    let b = c.self.inside in
    let there = can_hit b c.args.number c.args.length (subst (steps.CanHit c.args.number c.args.length) (sym c.self.view_is) c.requires) in
    let version = answered b.flows.entries c.args.number there.0 (λ (e : Entry). e.version) c.hit-hit.result.version c.hit-hit.ensures.version there.1 in
    let list = answered b.flows.entries c.args.number there.0 (λ (e : Entry). e.actions) c.hit-hit.result.actions c.hit-hit.ensures.actions there.1 in
    let hit = hit_is b c.self.invariant c.args.number c.args.length c.args.time there.0 there.1 there.2 c.hit-hit.new.self c.hold.new.lists c.hit-hit.ensures.entries c.hit-hit.ensures.limit
    (c.hold.ensures.items ∙ ap (λ (n : ℕ). slice_set b.lists.items n (held_list (actions_at b.lists.items n))) list) c.hold.ensures.len c.hold.ensures.capacity in
    let after = caches_in (record b { flows = c.hit-hit.new.self; lists = c.hold.new.lists }) in
    subst (λ (v : Caches). steps.IsHit c.args.number c.args.length c.args.time c.hit-hit.result.version c.hit-hit.result.actions v after) c.self.view_is
    (subst (λ (n : ℕ). steps.IsHit c.args.number c.args.length c.args.time n c.hit-hit.result.actions (caches_in b) after) (sym version)
    (subst (λ (n : ℕ). steps.IsHit c.args.number c.args.length c.args.time there.0.version n (caches_in b) after) (sym list) hit))
