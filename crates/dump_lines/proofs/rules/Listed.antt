-- The live rules, found by their numbers one after the other, and listed in the order of the dump.
use Rattle.std.proofs.Common.{◌≡◌, inl, inr, ℕ, ◌+◌, ◌≤◌, ◌<◌, true, false, List, [], ◌∷◌, ◌++◌, length, map, Option, Some, None, IsTrue, All, refl, sym, ap, ◌∙◌, subst, append_assoc, arith}
use Rattle.std.specs.Prelude.{is_some}
use Rattle.std.specs.List.{list_all}
use Rattle.std.specs.Option.{option_map}
use Rattle.std.proofs.lemmas.Bool.{cases_Bool, cases_eq, false≢true}
use Rattle.std.proofs.lemmas.List.{append-nil}
use Rattle.std.proofs.lemmas.List.Elements.{All-nil, All-cons, All-head, All-tail, All-weaker, All-map}
use Rattle.spec_tables.specs.Rules.{Rule}
use Rattle.spec_tables.specs.Edits.{Edit, after_edits, has_sound_actions}
use Rattle.spec_tables.specs.Bundles.{AreBundles}
use Rattle.spec_tables.specs.Live.{is_live, rule_numbered}
use Rattle.spec_base.proofs.SortLaws.{All-sort_by}
use Rattle.spec_run.specs.Rules.{comes_before, in_order}
use Rattle.rule_tables.specs.History.{History, applied, history_of}
use Rattle.rule_tables.proofs.Histories.{applied-edit_history}
use Rattle.pipe_model.specs.Runnable.{IsAmong}
use Rattle.pipe_model.proofs.Rising.{Rise, rise_after_edits}
use Rattle.pipe_model.proofs.Versions.{runnable-after_edits}
use Rattle.dump_lines.specs.declared.rules.places.RulePlace.{RulePlace}
use Rattle.dump_lines.specs.Live.{IsOfEdits, IsLiveIn, live_in}
use Rattle.dump_lines.specs.Places.{place_of}
use Rattle.dump_lines.proofs.rules.Added.{live_in-history}
use Rattle.dump_lines.proofs.rules.Rising.{none_numbered, first_numbered, later_numbered, is_live-rule_numbered}

-- ---- number by number

-- The places of the live rules up to a number were put into a list. The others are left, and are found by their numbers.
pub record AreListedTo (rules : List Rule) (before last : ℕ) (places : List RulePlace) : Type 0 where
  pub rest : List Rule
  pub rise : Rise before last rest
  pub whole : places ++ map place_of rest ≡ map place_of rules
  pub alike : (n : ℕ) → before < n → rule_numbered n rules ≡ rule_numbered n rest

pub none_listed : (rules : List Rule) (last : ℕ) → Rise 0 last rules → AreListedTo rules 0 last []
none_listed rules last rise = record { rest = rules; rise = rise; whole = refl; alike = λ n lt. refl }

module _ (rules : List Rule) (before last : ℕ) (places : List RulePlace) where
  -- a rule that is found is live
  live_where : (rest : List Rule) → rule_numbered (before + 1) rules ≡ rule_numbered (before + 1) rest
      → (o : Option Rule) → rule_numbered (before + 1) rest ≡ o → is_live (before + 1) rules ≡ is_some o
  live_where rest alike o is = is_live-rule_numbered (before + 1) rules ∙ ap is_some (alike ∙ is)

  passed : (r : Rule) (rest : List Rule) → before < r.number → (r.number ≡ before + 1 → ⊥) → r.number ≤ last → Rise r.number last rest → Rise (before + 1) last (r ∷ rest)
  passed r rest above other le rise = (omega (arith, above, other), le, rise)

  pub one_listed : AreListedTo rules before last places → is_live (before + 1) rules ≡ true
      → (p : RulePlace) → option_map place_of (rule_numbered (before + 1) rules) ≡ Some p → AreListedTo rules (before + 1) last (places ++ p ∷ [])
  one_listed so_far live p is = by_rest so_far.rest so_far.rise so_far.whole so_far.alike
    where
      by_rest : (rest : List Rule) → Rise before last rest → places ++ map place_of rest ≡ map place_of rules
          → ((n : ℕ) → before < n → rule_numbered n rules ≡ rule_numbered n rest) → AreListedTo rules (before + 1) last (places ++ p ∷ [])
      by_rest [] rise whole alike =
          absurd (false≢true (sym (live_where [] (alike (before + 1) (omega arith)) None refl) ∙ live))
      by_rest (r ∷ rest) rise whole alike = elim (cases_eq r.number (before + 1)) [
        | inl here ↦
            let found = alike (before + 1) (omega arith) ∙ first_numbered r rest (before + 1) here in
            let both : Some (place_of r) ≡ Some p = sym (ap (option_map place_of) found) ∙ is in
            let same : place_of r ≡ p = cc in
            record {
              rest = rest;
              rise = subst (λ n. Rise n last rest) here rise.2;
              whole = append_assoc places (p ∷ []) (map place_of rest) ∙ ap (λ q. places ++ q ∷ map place_of rest) (sym same) ∙ whole;
              alike = λ n lt. alike n (omega arith) ∙ later_numbered r rest n (λ e. omega (arith, e, here));
            }
        | inr other ↦
            let none = none_numbered (before + 1) last (before + 1) (r ∷ rest) (passed r rest rise.0 other rise.1 rise.2) (omega arith) in
            absurd (false≢true (sym (live_where (r ∷ rest) (alike (before + 1) (omega arith)) None none) ∙ live))
      ]

  pub none_here : AreListedTo rules before last places → is_live (before + 1) rules ≡ false → AreListedTo rules (before + 1) last places
  none_here so_far dead = by_rest so_far.rest so_far.rise so_far.whole so_far.alike
    where
      by_rest : (rest : List Rule) → Rise before last rest → places ++ map place_of rest ≡ map place_of rules
          → ((n : ℕ) → before < n → rule_numbered n rules ≡ rule_numbered n rest) → AreListedTo rules (before + 1) last places
      by_rest [] rise whole alike = record { rest = []; rise = tt; whole = whole; alike = λ n lt. alike n (omega arith) }
      by_rest (r ∷ rest) rise whole alike = elim (cases_eq r.number (before + 1)) [
        | inl here ↦
            absurd (false≢true (sym dead ∙ live_where (r ∷ rest) (alike (before + 1) (omega arith)) (Some r) (first_numbered r rest (before + 1) here)))
        | inr other ↦ record {
          rest = r ∷ rest;
          rise = passed r rest rise.0 other rise.1 rise.2;
          whole = whole;
          alike = λ n lt. alike n (omega arith);
        }
      ]

  pub all_listed : AreListedTo rules before last places → last ≤ before → places ≡ map place_of rules
  all_listed so_far le = by_rest so_far.rest so_far.rise so_far.whole
    where
      by_rest : (rest : List Rule) → Rise before last rest → places ++ map place_of rest ≡ map place_of rules → places ≡ map place_of rules
      by_rest [] rise whole = sym (append-nil places) ∙ whole
      by_rest (r ∷ rest) rise whole = absurd (omega (arith, rise.0, rise.1))

-- ---- in order

all_among : (P : Rule → Type 0) (rules : List Rule) → ((r : Rule) → IsAmong r rules → P r) → All P rules
all_among P [] each = All-nil P
all_among P (r ∷ rules) each = All-cons P r rules (each r (inl refl)) (all_among P rules (λ s i. each s (inr i)))

bounds : (low high : ℕ) (rules : List Rule) → Rise low high rules → (r : Rule) → IsAmong r rules → (low < r.number) × (r.number ≤ high)
bounds low high [] h r i = absurd i
bounds low high (x ∷ rules) h r (inl e) = (subst (λ y. low < y.number) e h.0, subst (λ y. y.number ≤ high) e h.1)
bounds low high (x ∷ rules) h r (inr i) = let b = bounds x.number high rules h.2 r i in (omega (arith, b.0, h.0), b.1)

-- A rule is live, and found by its number.
pub record IsListed (h : History) (r : Rule) : Type 0 where
  pub found : rule_numbered r.number (live_in h) ≡ Some r
  pub live : IsLiveIn h r.number

listed_of : (edits : List Edit) (bundles : List ℕ) → AreBundles bundles (length edits) → IsTrue (list_all has_sound_actions edits) → All (IsListed (history_of edits bundles)) (live_in (history_of edits bundles))
listed_of edits bundles whole sound = all_among (IsListed (history_of edits bundles)) (live_in (history_of edits bundles)) (λ r i.
    let rules = after_edits edits (length edits) in
    let there : IsAmong r rules = subst (IsAmong r) (live_in-history edits bundles whole) i in
    let found = ap (rule_numbered r.number) (live_in-history edits bundles whole) ∙ (runnable-after_edits edits (length edits) sound).numbered r there in
    let within = bounds 0 (length edits) rules (rise_after_edits edits (length edits)) r there in
    record {
      found = found;
      live = record {
        live = is_live-rule_numbered r.number (live_in (history_of edits bundles)) ∙ ap is_some found;
        first = omega (arith, within.0);
        last = omega (arith, within.1, applied-edit_history edits);
      };
    })

pub listed : (h : History) → IsOfEdits h → All (IsListed h) (in_order (live_in h))
listed h of =
    let P : History → Type 0 = λ g. All (IsListed g) (live_in g) in
    All-sort_by comes_before (IsListed h) (live_in h) (subst P (sym of.history) (listed_of of.edits of.bundles of.whole of.sound))

-- the places of these name live rules
pub places_live : (h : History) → IsOfEdits h → All (λ (p : RulePlace). IsLiveIn h p.number) (map place_of (in_order (live_in h)))
places_live h of =
    All-map (λ (p : RulePlace). IsLiveIn h p.number) place_of (in_order (live_in h))
    (All-weaker (IsListed h) (λ (r : Rule). IsLiveIn h r.number) (λ r l. l.live) (in_order (live_in h)) (listed h of))

-- the numbers of the live rules rise
pub rise_live : (h : History) → IsOfEdits h → Rise 0 (applied h.edits) (live_in h)
rise_live h of =
    let P : History → Type 0 = λ g. Rise 0 (applied g.edits) (live_in g) in
    let h_of = history_of of.edits of.bundles in
    let n = length of.edits in
    let rise : Rise 0 n (live_in h_of) = subst (λ (rs : List Rule). Rise 0 n rs) (sym (live_in-history of.edits of.bundles of.whole)) (rise_after_edits of.edits n) in
    let all : P h_of = subst (λ (k : ℕ). Rise 0 k (live_in h_of)) (sym (applied-edit_history of.edits)) rise in
    subst P (sym of.history) all
