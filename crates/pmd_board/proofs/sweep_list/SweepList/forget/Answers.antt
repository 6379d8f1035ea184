use Rattle.std.proofs.Common.{rules, ◌≡◌, ◌<◌, ◌==◌, not, filter, length, sym, ap, subst, ◌∙◌}
use Rattle.std.specs.Prelude.{slice_index}
use Rattle.std.specs.List.{remove}
use Rattle.megaflow_table.specs.Live.{IsRising}
use Rattle.megaflow_table.proofs.LiveLaws.{removed_at}
use Rattle.pmd_board.proofs.Listed.{nothing_left_out, rising_left}
use Rattle.pmd_board.proofs.sweep_list.SweepList.forget.Goals as goal

pub invariant_of-self : goal.invariant_of-self
invariant_of-self c =
    let xs = c.self.inside.0.items in
    let number = c.args.number in
    let there = subst (λ ns. (c.in-Some.place < length ns) × (slice_index ns c.in-Some.place ≡ number)) (sym c.self.view_is) c.in-Some.ensures.some in
    let within = there.0 in
    let items : c.remove.new.self.items ≡ remove xs c.in-Some.place = search rules in
    let removed = items ∙ removed_at number xs c.self.invariant c.in-Some.place there.0 there.1 in
    subst IsRising (sym removed) (rising_left (λ n. not (n == number)) xs c.self.invariant)

pub returns-in-Some : goal.returns-in-Some
returns-in-Some c =
    let xs = c.self.inside.0.items in
    let number = c.args.number in
    let there = subst (λ ns. (c.in-Some.place < length ns) × (slice_index ns c.in-Some.place ≡ number)) (sym c.self.view_is) c.in-Some.ensures.some in
    let within = there.0 in
    let items : c.remove.new.self.items ≡ remove xs c.in-Some.place = search rules in
    items ∙ removed_at number xs c.self.invariant c.in-Some.place there.0 there.1 ∙ ap (filter (λ n. not (n == number))) c.self.view_is

pub returns-in_default : goal.returns-in_default
returns-in_default c = sym (nothing_left_out c.args.number c.args.self.now c.in_default.ensures.none)
