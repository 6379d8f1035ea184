-- What holds of live rules, number by number.
use Rattle.std.proofs.Common.{◌≡◌, ℕ, ◌+◌, ◌<◌, ◌≤◌, ◌⊎◌, ◌==◌, Bool, true, false, if◌then◌else◌, List, [], ◌∷◌, Option, Some, None, inl, inr, refl, sym, ap, ◌∙◌, subst, arith, eqb-true}
use Rattle.std.specs.Prelude.{is_some}
use Rattle.std.specs.Option.{option_map}
use Rattle.std.proofs.lemmas.Bool.{cases_lt}
use Rattle.spec_tables.specs.Rules.{Rule}
use Rattle.spec_tables.specs.Live.{is_live, rule_numbered}
use Rattle.spec_actions.specs.declared.action.OfAction.{OfAction}
use Rattle.rule_tables.specs.declared.rule.Rule as stored
use Rattle.rule_tables.specs.Added.{IsAdded}
use Rattle.rule_tables.specs.History.{History, applied, newest, rules_of}
use Rattle.rule_tables.specs.Views.{rule_view}
use Rattle.pipe_model.specs.Runnable.{IsAmong, AreRunnable}
use Rattle.pipe_model.proofs.Rising.{Rise}
use Rattle.dump_lines.specs.Live.{IsOfEdits, live_in}
use Rattle.dump_lines.proofs.rules.Added.{live_as}
use Rattle.dump_lines.proofs.rules.Rising.{is_live-rule_numbered}
use Rattle.dump_lines.proofs.rules.Listed.{rise_live}
use Rattle.rule_changes.specs.Live.{IsLiveRule}

pub record IsNumbered (n : ℕ) (rules : List Rule) (r : Rule) : Type 0 where
  pub among : IsAmong r rules
  pub number : r.number ≡ n

pub numbered : (n : ℕ) (rules : List Rule) (r : Rule) → rule_numbered n rules ≡ Some r → IsNumbered n rules r
numbered n [] r h = absurd (cc h)
numbered n (x ∷ rules) r h = at (x.number == n) refl (numbered n rules r) h
  where
    at : (t : Bool) → (x.number == n) ≡ t → (rule_numbered n rules ≡ Some r → IsNumbered n rules r)
        → (if t then Some x else rule_numbered n rules) ≡ Some r → IsNumbered n (x ∷ rules) r
    at true e others same =
        let here : x ≡ r = cc same in
        record { among = inl here; number = sym (ap (λ (z : Rule). z.number) here) ∙ eqb-true x.number n e }
    at false e others later = let i = others later in record { among = inr i.among; number = i.number }

-- A fact holds of the rules up to a number.
abbrev pub UpTo : (Rule → Type 0) → List Rule → ℕ → Type 0
UpTo P rules before = (r : Rule) → IsAmong r rules → r.number ≤ before → P r

highs : (low high : ℕ) (rules : List Rule) → Rise low high rules → (r : Rule) → IsAmong r rules → r.number ≤ high
highs low high [] h r i = absurd i
highs low high (x ∷ rules) h r (inl e) = subst (λ (y : Rule). y.number ≤ high) e h.1
highs low high (x ∷ rules) h r (inr i) = highs x.number high rules h.2 r i

lows : (low high : ℕ) (rules : List Rule) → Rise low high rules → (r : Rule) → IsAmong r rules → low < r.number
lows low high [] h r i = absurd i
lows low high (x ∷ rules) h r (inl e) = subst (λ (y : Rule). low < y.number) e h.0
lows low high (x ∷ rules) h r (inr i) = let b = lows x.number high rules h.2 r i in let c = h.0 in omega (arith, b, c)

pub none_yet : (P : Rule → Type 0) (h : History) → IsOfEdits h → UpTo P (live_in h) 0
none_yet P h of r i le = absurd (let b = lows 0 (applied h.edits) (live_in h) (rise_live h of) r i in omega (arith, b, le))

pub one_more : (P : Rule → Type 0) (rules : List Rule) → AreRunnable rules → (before : ℕ) → UpTo P rules before
    → ((r : Rule) → rule_numbered (before + 1) rules ≡ Some r → r.number ≡ before + 1 → P r) → UpTo P rules (before + 1)
one_more P rules runnable before h step r i le = at (cases_lt before r.number)
  where
    at : (before < r.number) ⊎ (r.number ≤ before) → P r
    at (inr earlier) = h r i earlier
    at (inl later) =
        let here : r.number ≡ before + 1 = omega arith in
        step r (subst (λ (n : ℕ). rule_numbered n rules ≡ Some r) here (runnable.numbered r i)) here

pub all_done : (P : Rule → Type 0) (h : History) → IsOfEdits h → (before : ℕ) → UpTo P (live_in h) before → applied h.edits ≤ before
    → (r : Rule) → IsAmong r (live_in h) → P r
all_done P h of before up le r i = up r i (let b = highs 0 (applied h.edits) (live_in h) (rise_live h of) r i in omega arith)

-- ---- what is stored of a live rule

pub not_found : (number : ℕ) (rules : List Rule) → is_live number rules ≡ false → rule_numbered number rules ≡ None
not_found number rules dead = at (rule_numbered number rules) (sym (is_live-rule_numbered number rules) ∙ dead)
  where
    at : (o : Option Rule) → is_some o ≡ false → o ≡ None
    at None h = refl
    at (Some r) h = absurd (cc h)

pub made_live : (h : History) → IsOfEdits h → (number : ℕ) → is_live number (live_in h) ≡ true → (r : stored.Rule) → IsAdded h.edits number r
    → (v : ℕ) → v ≡ newest h → (list : List OfAction) → option_map (λ (x : Rule). x.actions) (rule_numbered number (rules_of h v)) ≡ Some list
    → IsLiveRule h number r list
made_live h of number live r was v last list actions =
    let l = live_as h of number live in
    let both : Some (rule_view r was.0) ≡ Some l.added = sym was.1 ∙ l.was in
    let one : rule_view r was.0 ≡ l.added = cc in
    let found : Some l.rule.actions ≡ Some list =
    sym (ap (option_map (λ (x : Rule). x.actions)) l.found)
    ∙ ap (λ (w : ℕ). option_map (λ (x : Rule). x.actions) (rule_numbered number (rules_of h w))) (sym last) ∙ actions in
    let given : l.rule.actions ≡ list = cc in
    record {
      rule = l.rule;
      found = l.found;
      table = ap (λ (x : Rule). x.table) one ∙ l.same.table;
      priority = ap (λ (x : Rule). x.priority) one ∙ l.same.priority;
      matching = ap (λ (x : Rule). x.matching) one ∙ l.same.matching;
      actions = sym given;
    }
