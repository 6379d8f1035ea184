use Rattle.std.proofs.Common.{rules as found, List, [], ◌∷◌, ◌++◌, ◌+◌, ◌≡◌, ◌∙◌, sym, ap, subst, arith}
use Rattle.spec_tables.specs.Live.{is_live}
use Rattle.rule_tables.specs.History.{applied, rules_of}
use Rattle.dump_lines.specs.declared.rules.places.RulePlace.{RulePlace}
use Rattle.dump_lines.specs.Live.{live_in}
use Rattle.dump_lines.proofs.rules.Listed.{AreListedTo, none_listed, one_listed, none_here, all_listed, rise_live}
use Rattle.dump_lines.proofs.rules.live.live_places.Goals as goal
use Rattle.dump_lines.proofs.rules.live.live_places.Goals.{then-live+in_ok-push, else-live}

pub numbers-init : goal.numbers-init
numbers-init c =
    let none = none_listed (live_in c.args.rules.now) (applied c.args.rules.now.edits) (rise_live c.args.rules.now c.requires) in
    subst (λ (places : List RulePlace). AreListedTo (live_in c.args.rules.now) 0 (applied c.args.rules.now.edits) places) (search found) none

pub numbers-preserved : goal.numbers-preserved
numbers-preserved c =
    let rules = live_in c.args.rules.now in
    let last = applied c.args.rules.now.edits in
    let live : c.live.result ≡ is_live (c.numbers.before + 1) rules =
    c.live.ensures ∙ ap (λ v. is_live (c.numbers.before + 1) (rules_of c.args.rules.now v)) c.version-version.ensures in
    let P : List RulePlace → Type 0 = λ places. AreListedTo rules (c.numbers.before + 1) last places in
    elim c.if-live.branch [
      | then-live+in_ok-push w ↦
          let more : c.if-live.places.items ≡ c.numbers.places.items ++ w.place.result ∷ [] = search found in
          subst P (sym more) (one_listed rules c.numbers.before last c.numbers.places.items c.numbers.invariant (sym live ∙ w.if-live.true) w.place.result w.place.ensures)
      | else-live w ↦
          let same : c.if-live.places.items ≡ c.numbers.places.items = search found in
          subst P (sym same) (none_here rules c.numbers.before last c.numbers.places.items c.numbers.invariant (sym live ∙ w.if-live.false))
    ]

pub returns : goal.returns
returns c = all_listed (live_in c.args.rules.now) c.numbers.before (applied c.args.rules.now.edits) c.numbers.places.items c.numbers.invariant (omega arith)
