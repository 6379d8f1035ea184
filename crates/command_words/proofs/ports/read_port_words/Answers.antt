use Rattle.std.proofs.Common.{◌+◌, ◌∷◌, [], ◌++◌, length, drop, sym, ap, ◌∙◌, arith}
use Rattle.std.proofs.lemmas.List.{map_push, length_push}
use Rattle.spec_input.specs.Words.{port_words}
use Rattle.command_words.specs.PortViews.{lent, port_view, ports_view}
use Rattle.command_words.proofs.PortWords.{none_more, some_more, at_end, distinct_all}
use Rattle.command_words.proofs.ports.read_port_words.Goals as goal

pub returns-in-None-clause-ports : goal.returns-in-None-clause-ports
returns-in-None-clause-ports c =
    none_more (ports_view c.deref.result.now) c.args.words.now c.words.word-index _ c.words-test.true c.in-None.ensures
    ∙ ap (λ ports. port_words (ports_view ports) (lent (drop c.words.word-index c.args.words.now))) c.deref.ensures.value
    ∙ c.words.invariant.0

pub words-preserved : goal.words-preserved
words-preserved c =
    let rest = lent (drop (c.words.word-index + 1) c.args.words.now) in
    let pushed = ap (λ ports. port_words ports rest) (ap ports_view c.in_ok-push-in-Some.ensures.items ∙ map_push port_view c.words.ports.items c.in-Some.port) in
    let more = some_more (ports_view c.deref.result.now) c.args.words.now c.words.word-index _ (port_view c.in-Some.port) c.words-test.true c.in-Some.ensures in
    let same = ap ports_view c.deref.ensures.value in (
      pushed ∙ ap (λ ports. port_words (ports ++ port_view c.in-Some.port ∷ []) rest) (sym same) ∙ sym more
          ∙ ap (λ ports. port_words ports (lent (drop c.words.word-index c.args.words.now))) same ∙ c.words.invariant.0,
      ap length c.in_ok-push-in-Some.ensures.items ∙ length_push c.words.ports.items c.in-Some.port ∙ ap (λ n. n + 1) c.words.invariant.1,
    )

pub returns-clause-ports : goal.returns-clause-ports
returns-clause-ports c = sym (sym c.words.invariant.0 ∙ at_end (ports_view c.words.ports.items) c.args.words.now c.words.word-index (omega arith))

pub returns-clause-distinct : goal.returns-clause-distinct
returns-clause-distinct c = distinct_all (lent c.args.words.now) (ports_view c.words.ports.items) (sym c.words.invariant.0 ∙ at_end (ports_view c.words.ports.items) c.args.words.now c.words.word-index (omega arith))
