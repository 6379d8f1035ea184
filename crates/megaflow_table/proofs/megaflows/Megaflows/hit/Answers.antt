use Rattle.std.proofs.Common.{◌≡◌, ℕ, List, Option, Some, refl, sym, ap, subst, ◌∙◌}
use Rattle.std.specs.Prelude.{slice_get, IfSome}
use Rattle.std.proofs.lemmas.Option.{same_Some}
use Rattle.std.specs.Option.{option_map}
use Rattle.indexmap.specs.IndexMap.{with_value_at}
use Rattle.ovs_fields.specs.Packed.{bits}
use Rattle.megaflow_table.specs.declared.placed.Placed.{Placed}
use Rattle.megaflow_table.specs.declared.entry.Entry.{Entry}
use Rattle.megaflow_table.specs.Entries.{Flows, entry_of, hit_at}
use Rattle.megaflow_table.specs.Order.{CountsHit}
use Rattle.megaflow_table.specs.Subtables.{order_of}
use Rattle.megaflow_table.proofs.StepLaws.{counted_table}
use Rattle.megaflow_table.proofs.WriteLaws.{found_at, table_at, flows_at, not_live, names_from, entry_in}
use Rattle.megaflow_table.proofs.megaflows.Megaflows.hit.Goals as goal

-- what is lent by its place is the entry of the number that stands there
same_entry : (entries : List (ℕ × Placed)) (place number k : ℕ) (e : Placed) → (p : Placed) × (slice_get entries place ≡ Some (number, p)) → slice_get entries place ≡ Some (k, e)
    → slice_get entries place ≡ Some (number, e)
same_entry entries place number k e there lent = there.1 ∙ ap (λ (t : ℕ × Placed). Some (number, t.1)) (same_Some (number, there.0) (k, e) (sym there.1 ∙ lent))

pub unreachable-requires : goal.unreachable-requires
unreachable-requires c = not_live c.self.inside c.args.number c.args.self.now c.self.view_is c.self.invariant c.requires (sym (c.place_of.ensures.none c.in_default.is))

pub invariant_of-self : goal.invariant_of-self
invariant_of-self c =
    let inside = c.self.inside in
    let placed = c.pair_mut-placed.result.1.now in
    let place = c.in-Some.place in
    let there = same_entry inside.entries.entries place c.args.number c.pair_mut-placed.result.0.now placed c.in-Some.ensures.there c.pair_mut-placed.ensures.value in
    counted_table (record inside { entries = with_value_at inside.entries place (record placed { entry = c.hit.new.self; place = c.count_hit-placed.result }) }) c.count_hit-placed.new.subtables
    (table_at inside c.args.number place placed (record placed { entry = c.hit.new.self; place = c.count_hit-placed.result }) c.self.invariant c.pair_mut-placed.ensures.unique there
    (names_from (hit_at c.args.length c.args.time) placed.entry c.hit.new.self c.hit.ensures (record { number = refl; key = refl; mask = refl })))
    c.count_hit-placed.ensures.keeps c.count_hit-placed.ensures.ranked

pub returns : goal.returns
returns c =
    let inside = c.self.inside in
    let placed = c.pair_mut-placed.result.1.now in
    let place = c.in-Some.place in
    let there = same_entry inside.entries.entries place c.args.number c.pair_mut-placed.result.0.now placed c.in-Some.ensures.there c.pair_mut-placed.ensures.value in
    let found = found_at inside c.args.number place placed placed c.self.invariant c.pair_mut-placed.ensures.unique there in
    let flows = flows_at inside c.args.number place placed (record placed { entry = c.hit.new.self; place = c.count_hit-placed.result }) c.self.invariant c.pair_mut-placed.ensures.unique there
    (hit_at c.args.length c.args.time) c.hit.ensures c.args.self.now c.self.view_is in
    let live : entry_of c.args.number c.args.self.now.entries ≡ Some placed.entry = entry_in inside c.args.number c.args.self.now c.self.view_is c.self.invariant ∙ sym (ap (option_map (λ (p : Placed). p.entry)) found) in
    let order = order_of c.count_hit-placed.new.subtables in
    record {
      version = ap (option_map (λ (e : Entry). e.version)) live ∙ ap (λ (e : Entry). Some e.version) (sym c.hit.ensures);
      actions = ap (option_map (λ (e : Entry). e.actions)) live ∙ ap (λ (e : Entry). Some e.actions) (sym c.hit.ensures);
      entries = ap (λ (f : Flows). f.entries) flows;
      hits =
          subst (λ (o : Option Entry). IfSome o (λ (e : Entry). CountsHit (bits e.mask) c.args.self.now.order order)) (sym live)
          (subst (λ (e : Entry). CountsHit (bits e.mask) c.args.self.now.order order) c.hit.ensures
          (subst (λ (f : Flows). CountsHit (bits c.hit.new.self.mask) f.order order) c.self.view_is c.count_hit-placed.ensures.order));
      room = ap (λ (f : Flows). f.room) flows;
      limit = ap (λ (f : Flows). f.limit) flows;
    }
