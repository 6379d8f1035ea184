use Rattle.std.proofs.Common.{◌≡◌, ℕ, Some, sym, ap, ◌∙◌}
use Rattle.std.specs.Prelude.{slice_get}
use Rattle.std.specs.Option.{option_map}
use Rattle.megaflow_table.specs.declared.placed.Placed.{Placed}
use Rattle.megaflow_table.proofs.WriteLaws.{entry_in, found_at}
use Rattle.megaflow_table.proofs.megaflows.Megaflows.get_seen.Goals as goal

pub returns-in-Some : goal.returns-in-Some
returns-in-Some c =
    let placed = c.in-Some.placed.now in
    let there : slice_get c.self.inside.entries.entries c.args.seen ≡ Some (c.args.number, placed) = sym c.in-Some.ensures.entry ∙ ap (λ (n : ℕ). Some (n, placed)) c.if-there-number.true in
    ap (option_map (λ (p : Placed). p.entry)) (found_at c.self.inside c.args.number c.args.seen placed placed c.self.invariant c.len.ensures.unique there)
    ∙ sym (entry_in c.self.inside c.args.number c.args.self.now c.self.view_is c.self.invariant)
