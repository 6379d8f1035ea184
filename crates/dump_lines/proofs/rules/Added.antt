-- A live rule is the one that an edit added, but for its cookie and its actions.
use Rattle.std.proofs.Common.{◌≡◌, ◌⊎◌, inl, inr, ℕ, zero, suc, ◌≤◌, ◌==◌, Bool, true, false, not, if◌then◌else◌, List, [], ◌∷◌, ◌++◌, length, filter, slice_get, Option, Some, None, IsTrue, refl, sym, ap, subst, ◌∙◌, eqb-true, eq-eqb, arith}
use Rattle.std.specs.Prelude.{is_some}
use Rattle.std.specs.List.{list_all}
use Rattle.std.specs.Option.{option_and_then, option_map}
use Rattle.std.proofs.lemmas.Bool.{and_parts}
use Rattle.std.proofs.lemmas.Option.{slice_get_within}
use Rattle.spec_actions.specs.Sound.{AreSound}
use Rattle.spec_tables.specs.declared.edit_word.EditWord.{EditWord}
use Rattle.spec_tables.specs.declared.edit_word.EditWord.TheVariants.{Add, Modify, ModifyStrict, Delete, DeleteStrict}
use Rattle.spec_tables.specs.Rules as tables
use Rattle.spec_tables.specs.Rules.{Rule}
use Rattle.spec_tables.specs.Edits.{Edit, rule_of, with_actions, modified, without, is_named_by, is_reached_by, edited, after_edit, after_edits, has_sound_actions}
use Rattle.spec_tables.specs.Bundles.{AreBundles}
use Rattle.spec_tables.specs.Live.{rule_added, rule_by, rule_numbered, is_live}
use Rattle.rule_tables.specs.History.{History, newest, rules_of, rules_after, added_as, edit_history, history_of}
use Rattle.rule_tables.proofs.Histories.{rules_after-edit_history}
use Rattle.pipe_model.specs.Runnable.{IsAmong, is_sound_rule}
use Rattle.pipe_model.proofs.Versions.{runnable-after_edits}
use Rattle.pipe_model.proofs.Winners.{in_filter}
use Rattle.rule_tables.specs.declared.rule.Rule as stored
use Rattle.rule_tables.specs.Added.{IsAdded}
use Rattle.rule_tables.specs.Views.{rule_view}
use Rattle.spec_actions.specs.declared.action.OfAction.{OfAction}
use Rattle.dump_lines.specs.declared.rules.places.RulePlace.{RulePlace}
use Rattle.dump_lines.specs.Live.{IsOfEdits, live_in, live_view, is_gone_in}
use Rattle.dump_lines.specs.Places.{place_of}
use Rattle.dump_lines.proofs.rules.Rising.{is_live-rule_numbered}

-- two rules are the same but for cookie and actions
pub record IsSame (a b : Rule) : Type 0 where
  pub number : a.number ≡ b.number
  pub table : a.table ≡ b.table
  pub priority : a.priority ≡ b.priority
  pub matching : a.matching ≡ b.matching

itself : (r : Rule) → IsSame r r
itself r = record { number = refl; table = refl; priority = refl; matching = refl }

back : {a b : Rule} → IsSame a b → IsSame b a
back f = record { number = sym f.number; table = sym f.table; priority = sym f.priority; matching = sym f.matching }

along : (a b c : Rule) → IsSame a b → IsSame b c → IsSame a c
along a b c f g = record {
  number = f.number ∙ g.number;
  table = f.table ∙ g.table;
  priority = f.priority ∙ g.priority;
  matching = f.matching ∙ g.matching;
}

-- an edit added such a rule
pub record WasAdded (edits : List Edit) (r : Rule) : Type 0 where
  pub rule : Rule
  pub is : rule_added edits r.number ≡ Some rule
  pub same : IsSame rule r

was_added : (edits : List Edit) (a b : Rule) → IsSame a b → WasAdded edits a → WasAdded edits b
was_added edits a b same added = record {
  rule = added.rule;
  is = ap (rule_added edits) (sym same.number) ∙ added.is;
  same = along added.rule a b added.same same;
}

-- ---- rules are among others

-- what comes of a modification was a rule before
pub record WasBefore (r : Rule) (rules : List Rule) : Type 0 where
  pub before : Rule
  pub among : IsAmong before rules
  pub same : IsSame before r

in_modified : (picked : Rule → Bool) (e : Edit) (r : Rule) (rules : List Rule) → IsAmong r (modified picked e rules) → WasBefore r rules
in_modified picked e r [] h = absurd h
in_modified picked e r (x ∷ rules) h = by_test (picked x) (in_modified picked e r rules) h
  where
    by_test : (t : Bool) → (IsAmong r (modified picked e rules) → WasBefore r rules)
        → ((if t then with_actions e x else x) ≡ r) ⊎ IsAmong r (modified picked e rules) → WasBefore r (x ∷ rules)
    by_test true others (inl same) = record { before = x; among = inl refl; same = subst (IsSame x) same (record { number = refl; table = refl; priority = refl; matching = refl }) }
    by_test false others (inl same) = record { before = x; among = inl refl; same = subst (IsSame x) same (itself x) }
    by_test t others (inr i) = let b = others i in record { before = b.before; among = inr b.among; same = b.same }

in_push : (r x : Rule) (rules : List Rule) → IsAmong r (rules ++ x ∷ []) → IsAmong r rules ⊎ (x ≡ r)
in_push r x [] (inl same) = inr same
in_push r x [] (inr i) = absurd i
in_push r x (y ∷ rules) (inl same) = inl (inl same)
in_push r x (y ∷ rules) (inr i) = elim (in_push r x rules i) [ inl there ↦ inl (inr there) | inr last ↦ inr last ]

-- ---- edit by edit

module _ (edits : List Edit) (v : ℕ) (so_far : (r : Rule) → IsAmong r (after_edits edits v) → WasAdded edits r) where
  kept : (p : Rule → Bool) (r : Rule) → IsAmong r (filter p (after_edits edits v)) → WasAdded edits r
  kept p r i = so_far r (in_filter p r (after_edits edits v) i)

  changed : (picked : Rule → Bool) (e : Edit) (r : Rule) → IsAmong r (modified picked e (after_edits edits v)) → WasAdded edits r
  changed picked e r i =
      let b = in_modified picked e r (after_edits edits v) i in
      was_added edits b.before r b.same (so_far b.before b.among)

  in_edited : (word : EditWord) (e : Edit) → rule_added edits (suc v) ≡ rule_by word (suc v) e → (r : Rule)
      → IsAmong r (edited word (suc v) e (after_edits edits v)) → WasAdded edits r
  in_edited Add e is r i = elim (in_push r (rule_of (suc v) e) (without (is_named_by e) (after_edits edits v)) i) [
    | inl before ↦ kept (λ x. not (is_named_by e x)) r before
    | inr new ↦ subst (WasAdded edits) new (record { rule = rule_of (suc v) e; is = is; same = itself (rule_of (suc v) e) })
  ]
  in_edited Modify e is r i = changed (is_reached_by e) e r i
  in_edited ModifyStrict e is r i = changed (is_named_by e) e r i
  in_edited Delete e is r i = kept (λ x. not (is_reached_by e x)) r i
  in_edited DeleteStrict e is r i = kept (λ x. not (is_named_by e x)) r i

  in_next : (o : Option Edit) → slice_get edits v ≡ o → (r : Rule) → IsAmong r (after_edit (suc v) o (after_edits edits v)) → WasAdded edits r
  in_next None is r i = so_far r i
  in_next (Some e) is r i = in_edited e.word e (rw is refl) r i

among_added : (edits : List Edit) (v : ℕ) (r : Rule) → IsAmong r (after_edits edits v) → WasAdded edits r
unfolding after_edits
among_added edits zero r i = absurd i
among_added edits (suc v) r i = in_next edits v (among_added edits v) (slice_get edits v) refl r i

-- ---- by numbers

numbered_among : (n : ℕ) (rules : List Rule) (r : Rule) → rule_numbered n rules ≡ Some r → IsAmong r rules × (r.number ≡ n)
numbered_among n [] r h = absurd (cc h)
numbered_among n (x ∷ rules) r h = by_test (x.number == n) refl (numbered_among n rules r) h
  where
    by_test : (t : Bool) → (x.number == n) ≡ t → (rule_numbered n rules ≡ Some r → IsAmong r rules × (r.number ≡ n))
        → (if t then Some x else rule_numbered n rules) ≡ Some r → IsAmong r (x ∷ rules) × (r.number ≡ n)
    by_test true is others same = let here : x ≡ r = cc in (inl here, sym (ap (λ (y : Rule). y.number) here) ∙ eqb-true x.number n is)
    by_test false is others later = let rest = others later in (inr rest.0, rest.1)

-- a rule of a number is found where one was pushed
pushed_numbered : (n : ℕ) (x : Rule) (rules : List Rule) → x.number ≡ n → is_some (rule_numbered n (rules ++ x ∷ [])) ≡ true
pushed_numbered n x [] is = ap (λ (t : Bool). is_some (if t then Some x else None)) (eq-eqb x.number n is)
pushed_numbered n x (y ∷ rules) is = by_test (y.number == n) (pushed_numbered n x rules is)
  where
    by_test : (t : Bool) → is_some (rule_numbered n (rules ++ x ∷ [])) ≡ true → is_some (if t then Some y else rule_numbered n (rules ++ x ∷ [])) ≡ true
    by_test true others = refl
    by_test false others = others

some_is : {A : Type 0} (o : Option A) → is_some o ≡ true → (x : A) × (o ≡ Some x)
some_is None h = absurd (cc h)
some_is (Some x) h = (x, refl)

-- a rule stands among the rules after the edit that added it
added_numbered : (edits : List Edit) (n : ℕ) (r : Rule) → rule_added edits n ≡ Some r → is_some (rule_numbered n (after_edits edits n)) ≡ true
unfolding after_edits
added_numbered edits zero r h = absurd (cc h)
added_numbered edits (suc m) r h = by_edit (slice_get edits m) h
  where
    by_word : (word : EditWord) (e : Edit) → rule_by word (suc m) e ≡ Some r → is_some (rule_numbered (suc m) (edited word (suc m) e (after_edits edits m))) ≡ true
    by_word Add e is = pushed_numbered (suc m) (rule_of (suc m) e) (without (is_named_by e) (after_edits edits m)) refl
    by_word Modify e is = absurd (cc is)
    by_word ModifyStrict e is = absurd (cc is)
    by_word Delete e is = absurd (cc is)
    by_word DeleteStrict e is = absurd (cc is)

    by_edit : (o : Option Edit) → option_and_then (λ (e : Edit). rule_by e.word (suc m) e) o ≡ Some r
        → is_some (rule_numbered (suc m) (after_edit (suc m) o (after_edits edits m))) ≡ true
    by_edit None is = absurd (cc is)
    by_edit (Some e) is = by_word e.word e is

-- ---- live rules

-- A live rule, and the rule as its edit added it.
pub record IsLiveAs (h : History) (n : ℕ) : Type 0 where
  pub rule : Rule
  pub added : Rule
  pub found : rule_numbered n (live_in h) ≡ Some rule
  pub was : added_as h.edits n ≡ Some added
  pub same : IsSame added rule
  pub sound : AreSound rule.actions

-- all edits made the rules of the last version
pub live_in-history : (edits : List Edit) (bundles : List ℕ) → AreBundles bundles (length edits) → live_in (history_of edits bundles) ≡ after_edits edits (length edits)
live_in-history edits bundles are = ap (rules_after (edit_history edits)) are.whole ∙ rules_after-edit_history edits (length edits) (omega arith)

module _ (edits : List Edit) (sound : IsTrue (list_all has_sound_actions edits)) where
  sound_among : (rules : List Rule) (r : Rule) → list_all is_sound_rule rules ≡ true → IsAmong r rules → AreSound r.actions
  sound_among [] r all i = absurd i
  sound_among (x ∷ rules) r all (inl same) = subst (λ (y : Rule). AreSound y.actions) same (and_parts (is_sound_rule x) (list_all is_sound_rule rules) all).0
  sound_among (x ∷ rules) r all (inr i) = sound_among rules r (and_parts (is_sound_rule x) (list_all is_sound_rule rules) all).1 i

  pub added_within : (n : ℕ) (r : Rule) → rule_added edits n ≡ Some r → n ≤ length edits
  added_within zero r is = absurd (cc is)
  added_within (suc m) r is = within (slice_get edits m) refl is
    where
      within : (o : Option Edit) → slice_get edits m ≡ o → option_and_then (λ (e : Edit). rule_by e.word (suc m) e) o ≡ Some r → suc m ≤ length edits
      within None at none = absurd (cc none)
      within (Some e) at some = let lt = slice_get_within edits m e at in omega (arith, lt)

  -- the rule of a number after the edit of that number is the one that was added
  pub added_as-rule_added : (n : ℕ) → n ≤ length edits → is_some (added_as (edit_history edits) n) ≡ is_some (rule_added edits n)
  added_as-rule_added n le = rw (rules_after-edit_history edits n le) (by_added (rule_added edits n) refl)
    where
      by_added : (o : Option Rule) → rule_added edits n ≡ o → is_some (rule_numbered n (after_edits edits n)) ≡ is_some o
      by_added (Some r) is = added_numbered edits n r is
      by_added None is = none (rule_numbered n (after_edits edits n)) refl
        where
          none : (o : Option Rule) → rule_numbered n (after_edits edits n) ≡ o → is_some o ≡ false
          none None found = refl
          none (Some r) found =
              let there = numbered_among n (after_edits edits n) r found in
              let added = among_added edits n r there.0 in
              let clash : None ≡ Some added.rule = sym is ∙ ap (rule_added edits) (sym there.1) ∙ added.is in
              absurd (cc clash)

  live_of : (bundles : List ℕ) → AreBundles bundles (length edits) → (n : ℕ) → is_live n (after_edits edits (length edits)) ≡ true → IsLiveAs (history_of edits bundles) n
  live_of bundles whole n live =
      let rules = after_edits edits (length edits) in
      let all : live_in (history_of edits bundles) ≡ rules = live_in-history edits bundles whole in
      let rule = some_is (rule_numbered n rules) (sym (is_live-rule_numbered n rules) ∙ live) in
      let there = numbered_among n rules rule.0 rule.1 in
      let added = among_added edits (length edits) rule.0 there.0 in
      let by_number : rule_added edits n ≡ Some added.rule = ap (rule_added edits) (sym there.1) ∙ added.is in
      let within = added_within n added.rule by_number in
      let first = some_is (rule_numbered n (after_edits edits n)) (added_numbered edits n added.rule by_number) in
      let first_there = numbered_among n (after_edits edits n) first.0 first.1 in
      let first_added = among_added edits n first.0 first_there.0 in
      let both : Some first_added.rule ≡ Some added.rule = sym (ap (rule_added edits) (sym first_there.1) ∙ first_added.is) ∙ by_number in
      let one : first_added.rule ≡ added.rule = cc in
      record {
        rule = rule.0;
        added = first.0;
        found = rw all rule.1;
        was = rw (rules_after-edit_history edits n within) first.1;
        same = along first.0 added.rule rule.0 (back (subst (λ (r : Rule). IsSame r first.0) one first_added.same)) added.same;
        sound = sound_among rules rule.0 (runnable-after_edits edits (length edits) sound).sound there.0;
      }

pub live_as : (h : History) → IsOfEdits h → (n : ℕ) → is_live n (live_in h) ≡ true → IsLiveAs h n
live_as h of n live =
    let P : History → Type 0 = λ g. is_live n (live_in g) ≡ true → IsLiveAs g n in
    let all : live_in (history_of of.edits of.bundles) ≡ after_edits of.edits (length of.edits) = live_in-history of.edits of.bundles of.whole in
    subst P (sym of.history) (λ there. live_of of.edits of.sound of.bundles of.whole n (rw all at there)) live

-- a live rule isn't gone
pub not_gone : (h : History) → IsOfEdits h → (n : ℕ) → is_live n (live_in h) ≡ true → false ≡ is_gone_in h n
not_gone h of n now = rw (now, (live_as h of n now).was) refl

-- what is known of a live rule, by the rule as it was added
module _ (h : History) (of : IsOfEdits h) (n : ℕ) (live : is_live n (live_in h) ≡ true) (r : stored.Rule) (was : IsAdded h.edits n r) where
  one : rule_view r was.0 ≡ (live_as h of n live).added
  one =
      let both : Some (rule_view r was.0) ≡ Some (live_as h of n live).added = sym was.1 ∙ (live_as h of n live).was in
      cc

  pub place_is : option_map place_of (rule_numbered n (live_in h)) ≡ Some (record { table = r.table; priority = record { 0 = r.priority }; number = r.number })
  place_is =
      let l = live_as h of n live in
      let at : ℕ → ℕ → ℕ → Option RulePlace = λ table priority number. Some (record { table = table; priority = record { 0 = priority }; number = number }) in
      ap (option_map place_of) l.found
      ∙ ap (λ t. at t l.rule.priority l.rule.number) (sym (ap (λ (x : Rule). x.table) one ∙ l.same.table))
      ∙ ap (λ p. at r.table p l.rule.number) (sym (ap (λ (x : Rule). x.priority) one ∙ l.same.priority))
      ∙ ap (λ k. at r.table r.priority k) (sym (ap (λ (x : Rule). x.number) one ∙ l.same.number))

  module _ (v : ℕ) (last : v ≡ newest h) (actions : List OfAction) (has_actions : option_map (λ (x : Rule). x.actions) (rule_numbered n (rules_of h v)) ≡ Some actions) where
    actions_are : (live_as h of n live).rule.actions ≡ actions
    actions_are =
        let l = live_as h of n live in
        let at : Some l.rule.actions ≡ Some actions =
        sym (ap (option_map (λ (x : Rule). x.actions)) l.found) ∙ ap (λ w. option_map (λ (x : Rule). x.actions) (rule_numbered n (rules_of h w))) (sym last) ∙ has_actions in
        cc

    pub live_is_sound : AreSound actions
    live_is_sound = subst (λ (list : List OfAction). AreSound list) actions_are (live_as h of n live).sound

    pub live_is : (cookie : ℕ) → option_map (λ (x : Rule). x.cookie) (rule_numbered n (rules_of h v)) ≡ Some cookie
        → rule_numbered n (live_in h) ≡ Some (live_view r cookie actions)
    live_is cookie has_cookie =
        let l = live_as h of n live in
        let at : Some l.rule.cookie ≡ Some cookie =
        sym (ap (option_map (λ (x : Rule). x.cookie)) l.found) ∙ ap (λ w. option_map (λ (x : Rule). x.cookie) (rule_numbered n (rules_of h w))) (sym last) ∙ has_cookie in
        let cookie_is : l.rule.cookie ≡ cookie = cc in
        let rule_with : ℕ → ℕ → ℕ → ℕ → tables.Match → List OfAction → Rule = λ number table priority given matching list.
        record { number = number; table = table; priority = priority; cookie = given; matching = matching; actions = list } in
        let rest = live_view r cookie actions in
        l.found ∙ ap (λ (x : Rule). Some x) (
        ap (λ k. rule_with k l.rule.table l.rule.priority l.rule.cookie l.rule.matching l.rule.actions) (sym (ap (λ (x : Rule). x.number) one ∙ l.same.number))
        ∙ ap (λ t. rule_with rest.number t l.rule.priority l.rule.cookie l.rule.matching l.rule.actions) (sym (ap (λ (x : Rule). x.table) one ∙ l.same.table))
        ∙ ap (λ p. rule_with rest.number rest.table p l.rule.cookie l.rule.matching l.rule.actions) (sym (ap (λ (x : Rule). x.priority) one ∙ l.same.priority))
        ∙ ap (λ k. rule_with rest.number rest.table rest.priority k l.rule.matching l.rule.actions) cookie_is
        ∙ ap (λ m. rule_with rest.number rest.table rest.priority cookie m l.rule.actions) (sym (ap (λ (x : Rule). x.matching) one ∙ l.same.matching))
        ∙ ap (λ list. rule_with rest.number rest.table rest.priority cookie rest.matching list) actions_are
        )
