use Rattle.std.proofs.Common.{◌≡◌, ℕ, List, sym, ap, ap₂, ◌∙◌}
use Rattle.spec_tables.specs.Rules.{Rule}
use Rattle.spec_case.specs.Run.{Run}
use Rattle.spec_xlate.specs.Translation.{Switch, switch_of, pipe}
use Rattle.spec_xlate.specs.Consulted.{consulted}
use Rattle.spec_board.specs.Results.{switch_at, translated, mask_for}
use Rattle.ovs_fields.specs.Packed.{numbers}
use Rattle.tuple_classifier.specs.Versions.{Version}
use Rattle.run_tables.specs.OfRun.{AreOfRun}
use Rattle.run_tables.proofs.OfRun.{of_run-runnable, rules_are}
use Rattle.run_tables.proofs.tables.ClassifierTablesRunTables.translate.Goals as goal

pub translate-requires : goal.translate-requires
translate-requires g c = of_run-runnable g.C.Case.run c.self.inside.rules c.self.invariant

-- the rules and the ports are the run's
same_switch : (run : Run) (rules : Version) (ports : List ℕ) → AreOfRun run rules → ports ≡ run.ports → switch_of rules.rules ports ≡ switch_at run rules.number
same_switch run rules ports are is_ports = ap₂ (λ (rs : List Rule) (ps : List ℕ). switch_of rs ps) (rules_are run rules are) is_ports

pub new-requires-clause-translation : goal.new-requires-clause-translation
new-requires-clause-translation g c =
    let run : Run = g.C.Case.run in
    let same = same_switch run c.self.inside.rules c.as_slice.result.now c.self.invariant (c.as_slice.ensures.list ∙ c.ports.ensures) in
    c.in_ok-made.ensures.translation
    ∙ ap (λ (sw : Switch). pipe sw (numbers c.args.key.now)) same
    ∙ ap₂ (translated run) (sym c.in_ok-made.ensures.version) (sym c.in_ok-made.ensures.key)

pub new-requires-clause-mask : goal.new-requires-clause-mask
new-requires-clause-mask g c =
    let run : Run = g.C.Case.run in
    let same = same_switch run c.self.inside.rules c.as_slice.result.now c.self.invariant (c.as_slice.ensures.list ∙ c.ports.ensures) in
    c.in_ok-made.ensures.mask
    ∙ ap (λ (sw : Switch). consulted sw (numbers c.args.key.now)) same
    ∙ ap₂ (mask_for run) (sym c.in_ok-made.ensures.version) (sym c.in_ok-made.ensures.key)
