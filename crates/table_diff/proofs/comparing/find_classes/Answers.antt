use Rattle.std.proofs.Common.{rules, ◌≡◌, ◌++◌, ℕ, suc, ◌<◌, List, [], ◌∷◌, length, map, refl, sym, ap, subst, ◌∙◌, arith}
use Rattle.std.proofs.lemmas.Bool.{eqb-false}
use Rattle.spec_tables.specs.Rules.{Match}
use Rattle.spec_xlate.specs.Translation.{switch_of}
use Rattle.dump_lines.specs.Live.{live_in}
use Rattle.spec_tools.specs.Classes.{from_port}
use Rattle.spec_tools.specs.Progress.{IsPartWay, cube_limit}
use Rattle.table_diff.specs.declared.cube.Cube.{Cube}
use Rattle.table_diff.specs.declared.class.Class.{Class}
use Rattle.table_diff.specs.Cubes.{cubes_view, classes_view}
use Rattle.table_diff.proofs.StandLaws.{begun, difference_of}
use Rattle.table_diff.proofs.comparing.find_classes.Goals as goal

pub cubes-init : goal.cubes-init
cubes-init c =
    let o = switch_of (live_in c.args.old.now) c.args.ports.now in
    let n = switch_of (live_in c.args.new.now) c.args.ports.now in
    let first = map from_port c.args.ports.now in
    subst (λ (w : List Match). IsPartWay o n first w (classes_view c.new-classes.result.items) 0) (sym c.in_ok-work.ensures)
    (subst (λ (cs : List Class). IsPartWay o n first first (classes_view cs) 0) (sym c.new-classes.ensures.items) (begun o n first))

pub cubes-preserved : goal.cubes-preserved
cubes-preserved c =
    let o = switch_of (live_in c.args.old.now) c.args.ports.now in
    let n = switch_of (live_in c.args.new.now) c.args.ports.now in
    let first = map from_port c.args.ports.now in
    let taken : c.cubes.work.items ≡ c.pop.new.self.items ++ c.in-Some.cube ∷ [] = search rules in
    c.in_ok-settle-in-Some.ensures o n first c.cubes.counter c.in_ok-judged-in-Some.ensures.holds
    (subst (λ (w : List Cube). IsPartWay o n first (cubes_view w) (classes_view c.cubes.classes.items) c.cubes.counter) taken c.cubes.invariant)

pub returns-in-None-clause-ok : goal.returns-in-None-clause-ok
returns-in-None-clause-ok c =
    let o = switch_of (live_in c.args.old.now) c.args.ports.now in
    let n = switch_of (live_in c.args.new.now) c.args.ports.now in
    let first = map from_port c.args.ports.now in
    let none : c.cubes.work.items ≡ [] = search rules in
    let way = subst (λ (w : List Cube). IsPartWay o n first (cubes_view w) (classes_view c.cubes.classes.items) c.cubes.counter) none c.cubes.invariant in
    difference_of o n c.args.ports.now (classes_view c.cubes.classes.items) c.cubes.counter way

empty : (work : List Cube) → length work ≡ 0 → work ≡ []
empty [] h = refl
empty (x ∷ work) h = absurd (omega arith)

length-view : (work : List Cube) → length (cubes_view work) ≡ length work
length-view [] = refl
length-view (x ∷ work) = ap suc (length-view work)

pub returns-then-is_empty-clause-ok : goal.returns-then-is_empty-clause-ok
returns-then-is_empty-clause-ok c =
    let o = switch_of (live_in c.args.old.now) c.args.ports.now in
    let n = switch_of (live_in c.args.new.now) c.args.ports.now in
    let first = map from_port c.args.ports.now in
    let none : length c.cubes.work.items ≡ 0 = search rules in
    let way = subst (λ (w : List Cube). IsPartWay o n first (cubes_view w) (classes_view c.cubes.classes.items) c.cubes.counter)
    (empty c.cubes.work.items none) c.cubes.invariant in
    difference_of o n c.args.ports.now (classes_view c.cubes.classes.items) c.cubes.counter way

pub returns-clause-too_many : goal.returns-clause-too_many
returns-clause-too_many c is =
    let o = switch_of (live_in c.args.old.now) c.args.ports.now in
    let n = switch_of (live_in c.args.new.now) c.args.ports.now in
    let first = map from_port c.args.ports.now in
    let past = c.cubes-test.false in
    let within = c.cubes.auto.counter-end in
    let last : c.cubes.counter ≡ cube_limit = omega arith in
    let none_not = eqb-false _ 0 (sym c.is_empty.ensures ∙ c.if-is_empty.false) in
    let some : 0 < length c.cubes.work.items = omega (arith, none_not) in
    record {
      left = cubes_view c.cubes.work.items;
      classes = classes_view c.cubes.classes.items;
      part_way = subst (IsPartWay o n first (cubes_view c.cubes.work.items) (classes_view c.cubes.classes.items)) last c.cubes.invariant;
      more = subst (λ (m : ℕ). 0 < m) (sym (length-view c.cubes.work.items))
          some;
    }
