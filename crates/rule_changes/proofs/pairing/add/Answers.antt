use Rattle.std.proofs.Common.{rules, ◌≡◌, ◌++◌, [], ◌∷◌, sym, subst}
use Rattle.table_laws.specs.Members.{Among}
use Rattle.dump_lines.specs.Live.{live_in}
use Rattle.rule_changes.specs.Pairs.{ArePairs}
use Rattle.rule_changes.proofs.OrderLaws.{one_pair_more}
use Rattle.rule_changes.proofs.pairing.add.Goals as goal

pub returns-in_ok-push : goal.returns-in_ok-push
returns-in_ok-push c ss is are =
    let rs = live_in c.args.old.now in
    let more : c.push.new.self.items ≡ c.args.pairs.now.items ++ c.args.pair ∷ [] = search rules in
    let fits = c.fits.ensures in
    subst (ArePairs rs ss) (sym more)
    (one_pair_more rs ss c.args.pairs.now.items c.args.pair
    (λ q among. fits.after c.if-fits.true q (subst (Among q) (sym c.deref.ensures.value) among))
    (λ q among. fits.before c.if-fits.true q (subst (Among q) (sym c.deref.ensures.value) among)) is are)
