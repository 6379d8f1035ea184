use Rattle.std.proofs.Common.{◌≡◌, ℕ, ◌++◌, ◌∷◌, [], Bool, List, Option, None, Some, sym, ap, ◌∙◌, subst}
use Rattle.std.specs.Prelude.{IfOk}
use Rattle.std.specs.Option.{option_map}
use Rattle.spec_flow_text.specs.Characters.{comma}
use Rattle.spec_flow_text.specs.Numbers.{split_once}
use Rattle.spec_tools.specs.TraceWords.{new_port}
use Rattle.trace_app.specs.Commands.{ports_if}
use Rattle.trace_app.proofs.PortsWithin.{within-full, within-last, within-none, within-more}
use Rattle.trace_app.proofs.words.+add_ports.Goals as goal

pub returns-then-room-eq0 : goal.returns-then-room-eq0
returns-then-room-eq0 t c = within-full c.args.room c.args.ports.now.items c.args.text.now c.if-room-eq0.true

pub returns-then-not-branch : goal.returns-then-not-branch
returns-then-not-branch t c =
    let cut : Some (c.in-Some.word.now, c.in-Some.rest.now) ≡ split_once comma c.args.text.now = c.in-Some.ensures in
    let none : None ≡ option_map (λ port. c.args.ports.now.items ++ port ∷ []) (new_port c.args.ports.now.items c.in-Some.word.now) =
    sym (ap (λ (b : Bool). ports_if b c.add_port-in-Some.new.ports.items) c.if-not-branch.true) ∙ c.in_ok-add_port-in-Some.ensures in
    within-none c.args.room c.args.ports.now.items c.args.text.now c.in-Some.word.now c.in-Some.rest.now c.if-room-eq0.false cut none

pub returns-in-None : goal.returns-in-None
returns-in-None t c =
    subst (λ (z : Option (List ℕ)). IfOk c.add_port.result (λ added. ports_if added c.add_port.new.ports.items ≡ z))
    (within-last c.args.room c.args.ports.now.items c.args.text.now c.if-room-eq0.false c.in-None.ensures) c.add_port.ensures

pub returns-else-not-branch : goal.returns-else-not-branch
returns-else-not-branch t c =
    let cut : Some (c.in-Some.word.now, c.in-Some.rest.now) ≡ split_once comma c.args.text.now = c.in-Some.ensures in
    let added : Some c.add_port-in-Some.new.ports.items ≡ option_map (λ port. c.args.ports.now.items ++ port ∷ []) (new_port c.args.ports.now.items c.in-Some.word.now) =
    sym (ap (λ (b : Bool). ports_if b c.add_port-in-Some.new.ports.items) c.if-not-branch.false) ∙ c.in_ok-add_port-in-Some.ensures in
    subst (λ (z : Option (List ℕ)). IfOk c.add_ports.result (λ done. ports_if done c.add_ports.new.ports.items ≡ z))
    (within-more c.args.room c.args.ports.now.items c.args.text.now c.in-Some.word.now c.in-Some.rest.now c.add_port-in-Some.new.ports.items c.if-room-eq0.false cut added) c.add_ports.ensures
