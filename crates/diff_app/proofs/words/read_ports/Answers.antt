use Rattle.std.proofs.Common.{rules, ◌≡◌, ◌++◌, [], ◌∷◌, sym}
use Rattle.diff_app.proofs.PortLaws.{many, step_none, step_some, all_words}
use Rattle.diff_app.proofs.words.read_ports.Goals as goal

pub returns-then-words-gt-MOST_PORTS : goal.returns-then-words-gt-MOST_PORTS
returns-then-words-gt-MOST_PORTS c = sym (many c.args.words.now c.if-words-gt-MOST_PORTS.true)

pub returns-in-None : goal.returns-in-None
returns-in-None c =
    step_none c.args.words.now c.words.word-index c.word-item.result c.words.ports.items c.deref.result.now c.as_str.result.now
    c.if-words-gt-MOST_PORTS.false c.words-test.true c.word-item.is c.deref.ensures.value c.as_str.ensures.value c.in-None.ensures c.words.invariant

pub words-preserved : goal.words-preserved
words-preserved c =
    let more : c.push.new.self.items ≡ c.words.ports.items ++ c.in-Some.port ∷ [] = search rules in
    step_some c.args.words.now c.words.word-index c.word-item.result c.words.ports.items c.deref.result.now c.as_str.result.now
    c.push.new.self.items c.in-Some.port c.words-test.true c.word-item.is c.deref.ensures.value c.as_str.ensures.value c.in-Some.ensures
    more c.words.invariant

pub returns : goal.returns
returns c =
    all_words c.args.words.now c.words.word-index c.words.ports.items c.if-words-gt-MOST_PORTS.false c.words-test.false c.words.invariant
