use Rattle.std.proofs.Common.{Some, refl, sym, ap, ◌∙◌}
use Rattle.std.specs.Option.{option_copied_mut, option_map}
use Rattle.megaflow_table.specs.declared.placed.Placed.{Placed}
use Rattle.megaflow_table.specs.declared.entry.Entry.{Entry}
use Rattle.megaflow_table.specs.Entries.{Flows, changed_to}
use Rattle.megaflow_table.proofs.WriteLaws.{entry_in, written_table, written_flows, not_live, names_from}
use Rattle.megaflow_table.proofs.megaflows.Megaflows.change.Goals as goal

pub unreachable-requires : goal.unreachable-requires
unreachable-requires c = not_live c.self.inside c.args.number c.args.self.now c.self.view_is c.self.invariant c.requires (ap option_copied_mut (sym c.in_default.is) ∙ c.get_mut.ensures.value)

pub invariant_of-self : goal.invariant_of-self
invariant_of-self c =
    written_table c.self.inside c.args.number c.in-Some.placed.now (record c.in-Some.placed.now { entry = c.change.new.self }) (c.get_mut.follows.lender (record c.in-Some.placed.now { entry = c.change.new.self })) c.self.invariant c.in-Some.ensures.value (c.get_mut.follows.holds (record c.in-Some.placed.now { entry = c.change.new.self }))
    (names_from (changed_to c.args.version c.args.actions c.args.visits) c.in-Some.placed.now.entry c.change.new.self c.change.ensures.changed (record { number = refl; key = refl; mask = refl }))

pub returns : goal.returns
returns c =
    let flows = written_flows c.self.inside c.args.number c.in-Some.placed.now (record c.in-Some.placed.now { entry = c.change.new.self }) (c.get_mut.follows.lender (record c.in-Some.placed.now { entry = c.change.new.self })) c.self.invariant c.in-Some.ensures.value (c.get_mut.follows.holds (record c.in-Some.placed.now { entry = c.change.new.self }))
    (changed_to c.args.version c.args.actions c.args.visits) c.change.ensures.changed c.args.self.now c.self.view_is in
    record {
      visits =
          ap (option_map (λ (e : Entry). e.visits)) (entry_in c.self.inside c.args.number c.args.self.now c.self.view_is c.self.invariant ∙ sym (ap (option_map (λ (p : Placed). p.entry)) c.in-Some.ensures.value))
          ∙ ap Some (sym c.change.ensures.visits);
      entries = ap (λ (f : Flows). f.entries) flows;
      order = ap (λ (f : Flows). f.order) flows;
      room = ap (λ (f : Flows). f.room) flows;
      limit = ap (λ (f : Flows). f.limit) flows;
    }
