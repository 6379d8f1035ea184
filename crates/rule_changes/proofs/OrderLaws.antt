-- Pairs that keep their order, one by one.
use Rattle.std.proofs.Common.{◌≡◌, ℕ, Bool, true, false, not, ◌&&◌, List, [], ◌∷◌, ◌++◌, Some, ◌⊎◌, inl, inr, refl, sym, ap, ◌∙◌, subst, arith}
use Rattle.spec_actions.specs.declared.action.OfAction.{OfAction}
use Rattle.spec_keys.specs.Keys.{overlap}
use Rattle.spec_tables.specs.Rules.{Rule, Match, is_matched}
use Rattle.spec_tables.specs.Live.{rule_numbered}
use Rattle.table_laws.specs.Members.{Among}
use Rattle.rule_tables.specs.declared.rule.Rule as stored
use Rattle.rule_tables.specs.History.{History}
use Rattle.rule_tables.specs.Views.{match_view}
use Rattle.dump_lines.specs.Live.{live_in}
use Rattle.rule_changes.specs.declared.pair.Pair.{Pair}
use Rattle.rule_changes.specs.declared.pair.Side.{Side}
use Rattle.rule_changes.specs.Live.{IsLiveRule}
use Rattle.rule_changes.specs.Twins.{AreTwins, DontClash}
use Rattle.rule_changes.specs.Pairs.{IsPair, KeepOrder, ArePairs, IsCovered}
use Rattle.rule_changes.proofs.ListLaws.{among_push}
use Rattle.rule_changes.proofs.MaskLaws.{both_overlap}

some_one : (r s : Rule) → Some r ≡ Some s → r ≡ s
some_one r s e = cc e

-- rules that don't overlap, or do the same
pub dont_clash : (r : stored.Rule) (list : List OfAction) (s : stored.Rule) (others : List OfAction) (may same : Bool)
    → may ≡ overlap (match_view r.matching).key (match_view r.matching).mask (match_view s.matching).key (match_view s.matching).mask
    → (same ≡ true → list ≡ others) → (may && not same) ≡ false → DontClash r list s others
dont_clash r list s others false same is alike h key mr ms =
    let clash : false ≡ true = is ∙ both_overlap key (match_view r.matching) (match_view s.matching) mr ms in absurd (cc clash)
dont_clash r list s others true true is alike h key mr ms = alike refl
dont_clash r list s others true false is alike h key mr ms = absurd (cc h)

pub clash_free : (h : History) (m n : ℕ) (r s : stored.Rule) (list others : List OfAction) → IsLiveRule h m r list → IsLiveRule h n s others
    → DontClash r list s others → (x y : Rule) → rule_numbered m (live_in h) ≡ Some x → rule_numbered n (live_in h) ≡ Some y → (key : List ℕ)
    → is_matched key x.matching ≡ true → is_matched key y.matching ≡ true → x.actions ≡ y.actions
clash_free h m n r s list others first second free x y fx fy key mx my =
    let ex : x ≡ first.rule = some_one x first.rule (sym fx ∙ first.found) in
    let ey : y ≡ second.rule = some_one y second.rule (sym fy ∙ second.found) in
    let matched_x : is_matched key (match_view r.matching) ≡ true =
    ap (is_matched key) (first.matching ∙ ap (λ (z : Rule). z.matching) (sym ex)) ∙ mx in
    let matched_y : is_matched key (match_view s.matching) ≡ true =
    ap (is_matched key) (second.matching ∙ ap (λ (z : Rule). z.matching) (sym ey)) ∙ my in
    ap (λ (z : Rule). z.actions) ex ∙ sym first.actions ∙ free key matched_x matched_y ∙ second.actions ∙ sym (ap (λ (z : Rule). z.actions) ey)

-- rules that are the same are a pair
pub pair_of : (h g : History) (m n : ℕ) (r s : stored.Rule) (list others : List OfAction) → IsLiveRule h m r list → IsLiveRule g n s others
    → AreTwins r list s others → IsPair (live_in h) (live_in g) (record { old = m; new = n; table = r.table; priority = r.priority })
pair_of h g m n r s list others first second twins = record {
  r = first.rule;
  s = second.rule;
  old = first.found;
  new = second.found;
  old_table = first.table;
  new_table = twins.table ∙ second.table;
  old_priority = first.priority;
  new_priority = twins.priority ∙ second.priority;
  matching = sym first.matching ∙ twins.matching ∙ second.matching;
  actions = sym first.actions ∙ twins.actions ∙ second.actions;
}

-- no pair is out of order with itself
itself : (rs : List Rule) (p : Pair) → KeepOrder rs p p
itself rs p r t fr ft table priority before after key mr mt = absurd (let b = before in omega arith)

pub one_pair_more : (rs ss : List Rule) (pairs : List Pair) (p : Pair) → ((q : Pair) → Among q pairs → KeepOrder rs p q)
    → ((q : Pair) → Among q pairs → KeepOrder rs q p) → IsPair rs ss p → ArePairs rs ss pairs → ArePairs rs ss (pairs ++ p ∷ [])
one_pair_more rs ss pairs p after before is are = record { each = each; order = order }
  where
    each : (q : Pair) → Among q (pairs ++ p ∷ []) → IsPair rs ss q
    each q among = at (among_push q p pairs among)
      where
        at : Among q pairs ⊎ (q ≡ p) → IsPair rs ss q
        at (inl h) = are.each q h
        at (inr e) = subst (IsPair rs ss) (sym e) is

    order : (q s : Pair) → Among q (pairs ++ p ∷ []) → Among s (pairs ++ p ∷ []) → KeepOrder rs q s
    order q s among_q among_s = at (among_push q p pairs among_q) (among_push s p pairs among_s)
      where
        at : Among q pairs ⊎ (q ≡ p) → Among s pairs ⊎ (s ≡ p) → KeepOrder rs q s
        at (inl h) (inl g) = are.order q s h g
        at (inl h) (inr e) = subst (KeepOrder rs q) (sym e) (before q h)
        at (inr e) (inl g) = subst (λ (z : Pair). KeepOrder rs z s) (sym e) (after s g)
        at (inr d) (inr e) = subst (λ (z : Pair). KeepOrder rs z s) (sym d) (subst (KeepOrder rs p) (sym e) (itself rs p))

pub no_pairs : (rs ss : List Rule) → ArePairs rs ss []
no_pairs rs ss = record { each = λ p h. absurd h; order = λ p q h. absurd h }

pub covered_more : (side : Side) (pairs : List Pair) (ms ns : List Match) (r : Rule) → ((m : Match) → Among m ms → Among m ns)
    → IsCovered side pairs ms r → IsCovered side pairs ns r
covered_more side pairs ms ns r more (inl paired) = inl paired
covered_more side pairs ms ns r more (inr aside) = inr (more r.matching aside)
