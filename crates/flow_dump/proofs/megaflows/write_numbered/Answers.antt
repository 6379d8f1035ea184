use Rattle.std.proofs.Common.{ℕ, List, [], Option, subst, sym, ap, ◌∙◌}
use Rattle.std.specs.Option.{option_map_or}
use Rattle.edge_io.specs.Written.{WritesAll}
use Rattle.spec_board.specs.State.{Entry}
use Rattle.spec_run.specs.Megaflows.{megaflow_line}
use Rattle.pmd_board.specs.BoardView.{state_of}
use Rattle.dump_lines.specs.Views.{entry_with}
use Rattle.flow_dump.proofs.Numbered.{entry_with-is, none-is}
use Rattle.flow_dump.proofs.megaflows.write_numbered.Goals as goal

pub unreachable-requires : goal.unreachable-requires
unreachable-requires g c =
    let viewed = c.entries.ensures.entries in
    none-is viewed.0 c.args.number c.entries.result.now.entries (state_of g.C.Case.run c.args.board.now).entries viewed.1 (sym c.in-None.ensures) c.requires.live

pub returns : goal.returns
returns g c =
    let port = c.args.board.now.port in
    let e = entry_with c.printable_actions-actions.result.now c.in-Some.entry.now in
    let viewed = c.entries.ensures.entries in
    let is = entry_with-is viewed.0 c.args.number c.entries.result.now.entries (state_of g.C.Case.run c.args.board.now).entries c.in-Some.entry.now
    c.printable_actions-actions.result.now viewed.1 (sym c.in-Some.ensures) c.printable_actions-actions.ensures.same in
    let text = ap (λ (p : ℕ). megaflow_line p e) c.port.ensures.same ∙ sym (ap (λ (o : Option Entry). option_map_or (megaflow_line port) o []) is) in
    subst (λ (t : List ℕ). WritesAll g.S.Shelf c.args.shelf.now c.write_entry.new.shelf t c.write_entry.result) text c.write_entry.ensures
