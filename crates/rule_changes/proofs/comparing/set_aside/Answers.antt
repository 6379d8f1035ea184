use Rattle.std.proofs.Common.{rules, ◌≡◌, ◌==◌, ◌++◌, true, ℕ, [], ◌∷◌, map, inl, inr, sym, ap, ◌∙◌, subst}
use Rattle.std.specs.List.{list_any}
use Rattle.spec_tables.specs.Rules as tables
use Rattle.table_laws.specs.Members.{Among}
use Rattle.table_laws.proofs.MemberLaws.{Among-append_left, Among-append_right}
use Rattle.rule_tables.specs.Views.{match_view}
use Rattle.rule_changes.specs.declared.pair.Pair.{Pair}
use Rattle.rule_changes.specs.Pairs.{number_in}
use Rattle.rule_changes.proofs.ListLaws.{map-push}
use Rattle.rule_changes.proofs.comparing.set_aside.Goals as goal

pub returns-then-is_paired-clause-covered : goal.returns-then-is_paired-clause-covered
returns-then-is_paired-clause-covered c r found number =
    let paired : list_any (λ (p : Pair). number_in c.args.side p == c.args.number) c.args.pairs.now ≡ true = sym c.is_paired.ensures ∙ c.if-is_paired.true in
    inl (ap (λ (n : ℕ). list_any (λ (p : Pair). number_in c.args.side p == n) c.args.pairs.now) number ∙ paired)

pub returns-in_ok-push-in-Some-clause-kept : goal.returns-in_ok-push-in-Some-clause-kept
returns-in_ok-push-in-Some-clause-kept c m among =
    let one = c.in-Some.found.rule.now.matching in
    let more : c.push.new.self.items ≡ c.args.aside.now.items ++ one ∷ [] = search rules in
    subst (Among m) (sym (ap (map match_view) more ∙ map-push match_view c.args.aside.now.items one))
    (Among-append_left m (map match_view c.args.aside.now.items) (match_view one ∷ []) among)

pub returns-in_ok-push-in-Some-clause-covered : goal.returns-in_ok-push-in-Some-clause-covered
returns-in_ok-push-in-Some-clause-covered c r found number =
    let one = c.in-Some.found.rule.now.matching in
    let live = c.in-Some.ensures.some in
    let more : c.push.new.self.items ≡ c.args.aside.now.items ++ one ∷ [] = search rules in
    let both = sym found ∙ live.found in
    let same : r ≡ live.rule = cc both in
    let its : r.matching ≡ match_view one = ap (λ (z : tables.Rule). z.matching) same ∙ sym live.matching in
    inr (subst (Among r.matching) (sym (ap (map match_view) more ∙ map-push match_view c.args.aside.now.items one))
    (Among-append_right r.matching (map match_view c.args.aside.now.items) (match_view one ∷ []) (inl its)))
