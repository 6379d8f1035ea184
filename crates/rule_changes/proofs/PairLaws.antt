-- Two versions find alike where no changed rule matches, and do alike where none can.
use Rattle.std.proofs.Common.{◌≡◌, ℕ, ◌<◌, ◌≤◌, ◌⊎◌, ◌==◌, true, false, List, [], ◌∷◌, Option, Some, None, IsTrue, inl, inr, refl, sym, ap, ◌∙◌, subst, arith, eqb-true, eq-eqb}
use Rattle.std.proofs.lemmas.Bool.{cases_lt}
use Rattle.std.specs.List.{list_all}
use Rattle.spec_keys.specs.Keys.{masked}
use Rattle.spec_tables.specs.Rules.{Rule, Match, rules_in, is_matched, winner}
use Rattle.spec_tables.specs.Live.{rule_numbered}
use Rattle.spec_xlate.specs.Translation.{switch_of}
use Rattle.spec_tools.specs.Classes.{done}
use Rattle.table_laws.specs.Members.{Among}
use Rattle.table_laws.proofs.MemberLaws.{Among-filter, Among_in-filter}
use Rattle.table_laws.proofs.WinnerLaws.{IsWinner, winner-IsWinner}
use Rattle.pipe_model.specs.Runnable.{IsAmong, AreRunnable}
use Rattle.rule_changes.specs.declared.pair.Pair.{Pair}
use Rattle.rule_changes.specs.declared.pair.Side.TheVariants.{Old, New}
use Rattle.rule_changes.specs.Lockstep.{keeps, FoundAlike, NoneMatches}
use Rattle.rule_changes.specs.Pairs.{number_in, IsPair, KeepOrder, ArePairs, IsCovered}
use Rattle.rule_changes.specs.Changes.{FindAlike, AllKeep}
use Rattle.rule_changes.proofs.ListLaws.{some_passes, is_among, among_is}
use Rattle.rule_changes.proofs.NumberLaws.{numbered}
use Rattle.rule_changes.proofs.LockstepLaws.{lockstep}

none_among : (key : List ℕ) (ms : List Match) (m : Match) → NoneMatches key ms → Among m ms → is_matched key m ≡ false
none_among key [] m none h = absurd h
none_among key (x ∷ ms) m none (inl e) = ap (is_matched key) e ∙ none.0
none_among key (x ∷ ms) m none (inr h) = none_among key ms m none.1 h

some_one : (r s : Rule) → Some r ≡ Some s → r ≡ s
some_one r s e = cc e

in_table : (table : ℕ) (rules : List Rule) (r : Rule) → Among r rules → r.table ≡ table → Among r (rules_in table rules)
in_table table rules r among e = Among_in-filter (λ (x : Rule). x.table == table) r rules among (eq-eqb r.table table e)

module _ (rs ss : List Rule) (old_runs : AreRunnable rs) (new_runs : AreRunnable ss) (pairs : List Pair) (are : ArePairs rs ss pairs) where
  -- rules of a pair
  record Both (r s : Rule) : Type 0 where
    pub pair : Pair
    pub among : Among pair pairs
    pub found : rule_numbered pair.old rs ≡ Some r
    pub old_among : Among r rs
    pub new_among : Among s ss
    pub old_number : r.number ≡ pair.old
    pub new_number : s.number ≡ pair.new
    pub old_table : pair.table ≡ r.table
    pub new_table : pair.table ≡ s.table
    pub old_priority : pair.priority ≡ r.priority
    pub new_priority : pair.priority ≡ s.priority
    pub matching : r.matching ≡ s.matching
    pub actions : r.actions ≡ s.actions

  both_of : (p : Pair) → Among p pairs → (is : IsPair rs ss p) → Both is.r is.s
  both_of p among is =
      let r = numbered p.old rs is.r is.old in
      let s = numbered p.new ss is.s is.new in
      record {
        pair = p;
        among = among;
        found = is.old;
        old_among = among_is is.r rs r.among;
        new_among = among_is is.s ss s.among;
        old_number = r.number;
        new_number = s.number;
        old_table = is.old_table;
        new_table = is.new_table;
        old_priority = is.old_priority;
        new_priority = is.new_priority;
        matching = is.matching;
        actions = is.actions;
      }

  module _ (ms : List Match) (old : (r : Rule) → IsAmong r rs → IsCovered Old pairs ms r) (new : (s : Rule) → IsAmong s ss → IsCovered New pairs ms s)
      (key : List ℕ) (none : NoneMatches key ms) where
    -- a rule that matches is one of a pair
    record HasNew (r : Rule) : Type 0 where
      pub s : Rule
      pub both : Both r s

    record HasOld (s : Rule) : Type 0 where
      pub r : Rule
      pub both : Both r s

    has_new : (r : Rule) → Among r rs → is_matched key r.matching ≡ true → HasNew r
    has_new r among matched = at (old r (is_among r rs among))
      where
        at : IsCovered Old pairs ms r → HasNew r
        at (inr aside) = let clash : true ≡ false = sym matched ∙ none_among key ms r.matching none aside in absurd (cc clash)
        at (inl paired) =
            let p = some_passes (λ (q : Pair). number_in Old q == r.number) pairs paired in
            let is = are.each p.element p.among in
            let number : p.element.old ≡ r.number = eqb-true p.element.old r.number p.passes in
            let same : is.r ≡ r = some_one is.r r (sym is.old ∙ ap (λ (n : ℕ). rule_numbered n rs) number ∙ old_runs.numbered r (is_among r rs among)) in
            record { s = is.s; both = subst (λ (z : Rule). Both z is.s) same (both_of p.element p.among is) }

    has_old : (s : Rule) → Among s ss → is_matched key s.matching ≡ true → HasOld s
    has_old s among matched = at (new s (is_among s ss among))
      where
        at : IsCovered New pairs ms s → HasOld s
        at (inr aside) = let clash : true ≡ false = sym matched ∙ none_among key ms s.matching none aside in absurd (cc clash)
        at (inl paired) =
            let p = some_passes (λ (q : Pair). number_in New q == s.number) pairs paired in
            let is = are.each p.element p.among in
            let number : p.element.new ≡ s.number = eqb-true p.element.new s.number p.passes in
            let same : is.s ≡ s = some_one is.s s (sym is.new ∙ ap (λ (n : ℕ). rule_numbered n ss) number ∙ new_runs.numbered s (is_among s ss among)) in
            record { r = is.r; both = subst (λ (z : Rule). Both is.r z) same (both_of p.element p.among is) }

    -- winners of one priority are those of a pair, or their pairs are in another order
    same_actions : (r s q t : Rule) → Both r s → Both q t → is_matched key r.matching ≡ true → is_matched key q.matching ≡ true
        → r.table ≡ q.table → r.priority ≡ q.priority → r.number ≤ q.number → t.number ≤ s.number → r.actions ≡ t.actions
    same_actions r s q t b c mr mq table priority up down = at (cases_lt r.number q.number) (cases_lt t.number s.number)
      where
        order : KeepOrder rs b.pair c.pair
        order = are.order b.pair c.pair b.among c.among

        at : (r.number < q.number) ⊎ (q.number ≤ r.number) → (t.number < s.number) ⊎ (s.number ≤ t.number) → r.actions ≡ t.actions
        at (inr le) y =
            let number : r.number ≡ q.number = omega arith in
            let one : r ≡ q =
            some_one r q (sym (old_runs.numbered r (is_among r rs b.old_among)) ∙ ap (λ (n : ℕ). rule_numbered n rs) number
            ∙ old_runs.numbered q (is_among q rs c.old_among)) in
            ap (λ (z : Rule). z.actions) one ∙ c.actions
        at (inl lt) (inr le) =
            let number : s.number ≡ t.number = omega arith in
            let one : s ≡ t =
            some_one s t (sym (new_runs.numbered s (is_among s ss b.new_among)) ∙ ap (λ (n : ℕ). rule_numbered n ss) number
            ∙ new_runs.numbered t (is_among t ss c.new_among)) in
            b.actions ∙ ap (λ (z : Rule). z.actions) one
        at (inl lt) (inl gt) =
            let before : b.pair.old < c.pair.old = let m = b.old_number in let n = c.old_number in omega arith in
            let after : c.pair.new < b.pair.new = let m = b.new_number in let n = c.new_number in omega arith in
            order r q b.found c.found (b.old_table ∙ table ∙ sym c.old_table) (b.old_priority ∙ priority ∙ sym c.old_priority) before after key mr mq
            ∙ c.actions

    module _ (table : ℕ) where
      abbrev o : List Rule
      o = rules_in table rs

      abbrev n : List Rule
      n = rules_in table ss

      from_old : (r : Rule) → Among r o → Among r rs × (r.table ≡ table)
      from_old r h = let f = Among-filter (λ (x : Rule). x.table == table) r rs h in (f.0, eqb-true r.table table f.1)

      from_new : (s : Rule) → Among s n → Among s ss × (s.table ≡ table)
      from_new s h = let f = Among-filter (λ (x : Rule). x.table == table) s ss h in (f.0, eqb-true s.table table f.1)

      found_alike : (w v : Option Rule) → IsWinner o key w → IsWinner n key v → FoundAlike w v
      unfolding IsWinner
      found_alike None None h g = tt
      found_alike (Some r) None h g =
          let f = from_old r h.is_rule in
          let has = has_new r f.0 h.matches in
          let there = in_table table ss has.s has.both.new_among (sym has.both.new_table ∙ has.both.old_table ∙ f.1) in
          let clash : true ≡ false = sym h.matches ∙ ap (is_matched key) has.both.matching ∙ g has.s there in
          absurd (cc clash)
      found_alike None (Some t) h g =
          let f = from_new t g.is_rule in
          let has = has_old t f.0 g.matches in
          let there = in_table table rs has.r has.both.old_among (sym has.both.old_table ∙ has.both.new_table ∙ f.1) in
          let clash : true ≡ false = sym g.matches ∙ sym (ap (is_matched key) has.both.matching) ∙ h has.r there in
          absurd (cc clash)
      found_alike (Some r) (Some t) h g =
          let f = from_old r h.is_rule in
          let e = from_new t g.is_rule in
          let x = has_new r f.0 h.matches in
          let y = has_old t e.0 g.matches in
          let s_there = in_table table ss x.s x.both.new_among (sym x.both.new_table ∙ x.both.old_table ∙ f.1) in
          let q_there = in_table table rs y.r y.both.old_among (sym y.both.old_table ∙ y.both.new_table ∙ e.1) in
          let s_matched : is_matched key x.s.matching ≡ true = sym (ap (is_matched key) x.both.matching) ∙ h.matches in
          let q_matched : is_matched key y.r.matching ≡ true = ap (is_matched key) y.both.matching ∙ g.matches in
          let q_low = h.highest y.r q_there q_matched in
          let s_low = g.highest x.s s_there s_matched in
          let rs_same : r.priority ≡ x.s.priority = sym x.both.old_priority ∙ x.both.new_priority in
          let qt_same : y.r.priority ≡ t.priority = sym y.both.old_priority ∙ y.both.new_priority in
          let priority : r.priority ≡ y.r.priority = level r.priority x.s.priority y.r.priority t.priority q_low s_low rs_same qt_same in
          let up = h.least y.r q_there q_matched (sym priority) in
          let down = g.least x.s s_there s_matched (sym rs_same ∙ priority ∙ qt_same) in
          same_actions r x.s y.r t x.both y.both h.matches q_matched (f.1 ∙ sym e.1 ∙ sym y.both.new_table ∙ y.both.old_table) priority up down
        where
          level : (a b c d : ℕ) → c ≤ a → b ≤ d → a ≡ b → c ≡ d → a ≡ c
          level a b c d x y e f = omega arith

  pub find_alike : (ms : List Match) → ((r : Rule) → IsAmong r rs → IsCovered Old pairs ms r) → ((s : Rule) → IsAmong s ss → IsCovered New pairs ms s)
      → FindAlike rs ss ms
  find_alike ms old new table key none =
      found_alike ms old new key none table (winner (rules_in table rs) key) (winner (rules_in table ss) key)
      (winner-IsWinner (rules_in table rs) key) (winner-IsWinner (rules_in table ss) key)

-- what the winner leaves
winner_keeps : (rules : List Rule) (table : ℕ) (kept key : List ℕ) → AllKeep rules kept → (r : Rule)
    → winner (rules_in table rules) key ≡ Some r → IsTrue (list_all (keeps kept) r.actions)
unfolding IsWinner
winner_keeps rules table kept key all r wins = at (winner (rules_in table rules) key) (winner-IsWinner (rules_in table rules) key) wins
  where
    at : (w : Option Rule) → IsWinner (rules_in table rules) key w → w ≡ Some r → IsTrue (list_all (keeps kept) r.actions)
    at None h e = absurd (cc e)
    at (Some q) h e =
        let one : q ≡ r = some_one q r e in
        let f = Among-filter (λ (x : Rule). x.table == table) q rules h.is_rule in
        all r (is_among r rules (subst (λ (z : Rule). Among z rules) one f.0))

-- Both do the same to a packet that meets no changed rule, whatever becomes of the bits that actions write.
pub do_alike : (rs ss : List Rule) (ms : List Match) (kept : List ℕ) → FindAlike rs ss ms → AllKeep rs kept → (ports key : List ℕ)
    → ((now : List ℕ) → masked now kept ≡ masked key kept → NoneMatches now ms) → done (switch_of rs ports) key ≡ done (switch_of ss ports) key
do_alike rs ss ms kept find all ports key apart =
    lockstep (switch_of rs ports) (switch_of ss ports) refl kept key (λ table now e. find table now (apart now e))
    (λ table now r wins. winner_keeps rs table kept now all r wins)
