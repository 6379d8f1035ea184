use Rattle.std.proofs.Common.{◌^◌, ◌<◌, ◌≤◌, sym, ap, subst, arith}
use Rattle.std.proofs.lemmas.Result.{on_ok_weaker, on_err_weaker}
use Rattle.ovs_fields.specs.Packed.{numbers}
use Rattle.address_prefixes.specs.Prefixes.{times}
use Rattle.address_prefixes.proofs.TrieLaws.{none_more, one_more_at}
use Rattle.address_prefixes.proofs.field_trie.insert_prefix.Goals as goal

pub returns-then-prefix-eq0-clause-ok : goal.returns-then-prefix-eq0-clause-ok
returns-then-prefix-eq0-clause-ok c = none_more c.args.prefix.now.field c.args.prefix.now.length (numbers c.args.key.now) c.args.trie.now c.if-prefix-eq0.true

pub insert-requires-clause-fits : goal.insert-requires-clause-fits
insert-requires-clause-fits c = subst (λ w. c.get.result < 2 ^ w) (sym c.requires.width) c.get.ensures.within

pub insert-requires-clause-within : goal.insert-requires-clause-within
insert-requires-clause-within c = subst (λ w. c.args.prefix.now.length ≤ w) (sym c.requires.width) c.args.prefix.now.within

pub returns-clause-ok : goal.returns-clause-ok
returns-clause-ok c =
    let none = c.if-prefix-eq0.false in
    on_ok_weaker c.insert.result (λ more. one_more_at c.args.prefix.now.field c.args.prefix.now.length c.get.result (numbers c.args.key.now) c.args.trie.now _ c.requires.width c.insert.ensures.width c.get.ensures.value (omega (arith, none)) more) c.insert.ensures.ok

pub returns-clause-err : goal.returns-clause-err
returns-clause-err c = on_err_weaker c.insert.result (λ same. record { same_width = ap (λ t. t.width) same; same = λ q. ap (λ t. times q t.list) same }) c.insert.ensures.err
