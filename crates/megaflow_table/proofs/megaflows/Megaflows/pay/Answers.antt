use Rattle.std.proofs.Common.{refl, sym, ap, ◌∙◌}
use Rattle.std.specs.Option.{option_copied_mut}
use Rattle.megaflow_table.specs.Entries.{Flows, paid}
use Rattle.megaflow_table.proofs.WriteLaws.{written_table, written_flows, not_live, names_from}
use Rattle.megaflow_table.proofs.megaflows.Megaflows.pay.Goals as goal

pub unreachable-requires : goal.unreachable-requires
unreachable-requires c = not_live c.self.inside c.args.number c.args.self.now c.self.view_is c.self.invariant c.requires (ap option_copied_mut (sym c.in_default.is) ∙ c.get_mut.ensures.value)

pub invariant_of-self : goal.invariant_of-self
invariant_of-self c =
    written_table c.self.inside c.args.number c.in-Some.placed.now (record c.in-Some.placed.now { entry = c.pay.new.self }) (c.get_mut.follows.lender (record c.in-Some.placed.now { entry = c.pay.new.self })) c.self.invariant c.in-Some.ensures.value (c.get_mut.follows.holds (record c.in-Some.placed.now { entry = c.pay.new.self }))
    (names_from paid c.in-Some.placed.now.entry c.pay.new.self c.pay.ensures (record { number = refl; key = refl; mask = refl }))

pub returns : goal.returns
returns c =
    let flows = written_flows c.self.inside c.args.number c.in-Some.placed.now (record c.in-Some.placed.now { entry = c.pay.new.self }) (c.get_mut.follows.lender (record c.in-Some.placed.now { entry = c.pay.new.self })) c.self.invariant c.in-Some.ensures.value (c.get_mut.follows.holds (record c.in-Some.placed.now { entry = c.pay.new.self }))
    paid c.pay.ensures c.args.self.now c.self.view_is in
    record { entries = ap (λ (f : Flows). f.entries) flows; order = ap (λ (f : Flows). f.order) flows; room = ap (λ (f : Flows). f.room) flows; limit = ap (λ (f : Flows). f.limit) flows }
