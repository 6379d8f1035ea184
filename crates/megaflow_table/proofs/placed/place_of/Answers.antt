use Rattle.std.proofs.Common.{ℕ, Some, sym, ap, ◌∙◌}
use Rattle.megaflow_table.proofs.WriteLaws.{places_found}
use Rattle.megaflow_table.proofs.placed.place_of.Goals as goal

pub returns-in-Some-clause-there : goal.returns-in-Some-clause-there
returns-in-Some-clause-there c = (c.in-Some.field-0-1.now, sym c.in-Some.ensures.entry ∙ ap (λ (n : ℕ). Some (n, c.in-Some.field-0-1.now)) c.if-there-number.true)

pub returns-in_default-clause-there : goal.returns-in_default-clause-there
returns-in_default-clause-there c = places_found c.args.entries.now c.args.number c.get_index_of.result c.get_index_of.ensures.index c.get_index_of.ensures.within
