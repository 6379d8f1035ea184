use Rattle.std.proofs.Common.{ℕ, List, sym, ap, ◌∙◌, arith}
use Rattle.std.specs.Option.{option_map}
use Rattle.spec_keys.specs.Keys.{masked}
use Rattle.ovs_fields.specs.declared.key.Key.{Key}
use Rattle.ovs_fields.specs.Packed.{numbers, bits}
use Rattle.masked_map.specs.Maps.{mask_of}
use Rattle.megaflow_table.specs.declared.entry.Entry.{Entry}
use Rattle.megaflow_table.specs.Entries.{Flows, covering}
use Rattle.megaflow_table.specs.Subtables.{number_in}
use Rattle.megaflow_table.specs.Parts.{look_in}
use Rattle.megaflow_table.proofs.FindLaws.{IsPassed, found_in_subtable, nothing_passed, one_more, passed_here}
use Rattle.megaflow_table.proofs.megaflows.Megaflows.find.Goals as goal

pub returns-then-is_some : goal.returns-then-is_some
returns-then-is_some c =
    found_in_subtable c.self.inside.live.items (look_in c.self.inside) c.self.inside.subtables c.self.invariant.consistent (numbers c.args.key.now) c.in-Some.field-0-0.now c.in-Some.subtable.now
    c.in-Some.ensures.value c.number_in-found.result (c.number_in-found.ensures ∙ ap (λ (k : Key). number_in c.in-Some.subtable.now (masked (numbers k) (mask_of c.in-Some.subtable.now.numbers))) c.new-packet.ensures ∙ ap (λ (m : List ℕ). number_in c.in-Some.subtable.now (masked (numbers c.args.key.now) m)) (c.self.invariant.masked (bits c.in-Some.field-0-0.now) c.in-Some.subtable.now c.in-Some.ensures.value)) (sym c.is_some.ensures ∙ c.if-is_some.true)
    ∙ ap (λ (f : Flows). option_map (λ (e : Entry). e.number) (covering (numbers c.args.key.now) f.entries)) c.self.view_is

pub subtables-preserved : goal.subtables-preserved
subtables-preserved c =
    one_more (IsPassed (numbers c.args.key.now)) c.self.inside.subtables.entries c.subtables.i
    (λ u at. passed_here (numbers c.args.key.now) c.in-Some.field-0-0.now c.in-Some.subtable.now u c.number_in-found.result (c.in-Some.ensures.entry ∙ at) (c.number_in-found.ensures ∙ ap (λ (k : Key). number_in c.in-Some.subtable.now (masked (numbers k) (mask_of c.in-Some.subtable.now.numbers))) c.new-packet.ensures ∙ ap (λ (m : List ℕ). number_in c.in-Some.subtable.now (masked (numbers c.args.key.now) m)) (c.self.invariant.masked (bits c.in-Some.field-0-0.now) c.in-Some.subtable.now c.in-Some.ensures.value)) (sym c.is_some.ensures ∙ c.if-is_some.false))
    c.subtables.invariant

pub returns : goal.returns
returns c =
    sym (nothing_passed c.self.inside.live.items (look_in c.self.inside) c.self.inside.subtables c.self.invariant.consistent (numbers c.args.key.now) c.subtables.i (omega (arith, c.subtables-test.false, c.len-i-end.ensures.len)) c.subtables.invariant)
    ∙ ap (λ (f : Flows). option_map (λ (e : Entry). e.number) (covering (numbers c.args.key.now) f.entries)) c.self.view_is
