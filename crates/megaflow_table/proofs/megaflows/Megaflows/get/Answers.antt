use Rattle.std.proofs.Common.{◌≡◌, ℕ, Option, None, ◌∙◌, sym, ap}
use Rattle.std.specs.Prelude.{nat_eq}
use Rattle.std.specs.Option.{option_map, option_copied}
use Rattle.indexmap.specs.IndexMap.{get}
use Rattle.megaflow_table.specs.declared.placed.Placed.{Placed}
use Rattle.megaflow_table.specs.declared.megaflows.Megaflows.TheInside.{Inside}
use Rattle.megaflow_table.specs.Entries.{Flows, entry_of}
use Rattle.megaflow_table.specs.Parts.{IsTable, flows_in}
use Rattle.megaflow_table.proofs.WriteLaws.{entry_in}
use Rattle.megaflow_table.proofs.megaflows.Megaflows.get.Goals as goal

-- what is placed under a number has the entry of that number
placed_entry : (a : Inside) (number : ℕ) (flows : Flows) (placed : Option Placed) → flows_in a ≡ flows → IsTable a → placed ≡ get nat_eq a.entries number
    → option_map (λ (p : Placed). p.entry) placed ≡ entry_of number flows.entries
placed_entry a number flows placed view table found = ap (option_map (λ (p : Placed). p.entry)) found ∙ sym (entry_in a number flows view table)

pub returns-in_err-placed : goal.returns-in_err-placed
returns-in_err-placed c =
    ap option_copied c.from_residual.ensures ∙ placed_entry c.self.inside c.args.number c.args.self.now None c.self.view_is c.self.invariant c.in_err-placed.ensures.value

pub returns : goal.returns
returns c = placed_entry c.self.inside c.args.number c.args.self.now _ c.self.view_is c.self.invariant c.in_ok-placed.ensures.value
