-- The rule that a scan finds, among rules that can be run.
use Rattle.std.proofs.Common.{◌≡◌, ◌⊎◌, inl, inr, ℕ, ◌==◌, ◌||◌, Bool, true, false, if◌then◌else◌, List, [], ◌∷◌, filter, Option, Some, None, refl, sym, subst}
use Rattle.std.specs.List.{list_all}
use Rattle.std.specs.Option.{option_map}
use Rattle.std.proofs.lemmas.Bool.{and_parts}
use Rattle.spec_actions.specs.Sound.{AreSound}
use Rattle.spec_tables.specs.Rules.{Rule, rules_in, is_matched, better, is_beaten, winner}
use Rattle.spec_tables.specs.Live.{rule_numbered, is_live}
use Rattle.pipe_model.specs.Runnable.{IsAmong, AreRunnable, is_sound_rule}

-- ---- the winner is among the rules

pub in_filter : (p : Rule → Bool) (r : Rule) (rules : List Rule) → IsAmong r (filter p rules) → IsAmong r rules
in_filter p r [] h = h
in_filter p r (x ∷ rules) h = by_test (p x) (in_filter p r rules) h
  where
    by_test : (t : Bool) → (IsAmong r (filter p rules) → IsAmong r rules) → IsAmong r (if t then x ∷ filter p rules else filter p rules) → (x ≡ r) ⊎ IsAmong r rules
    by_test true others (inl e) = inl e
    by_test true others (inr i) = inr (others i)
    by_test false others i = inr (others i)

in_better : (x r : Rule) (rules : List Rule) (best : Option Rule) → ((s : Rule) → best ≡ Some s → IsAmong s rules) → better x best ≡ Some r → (x ≡ r) ⊎ IsAmong r rules
in_better x r rules None among h = inl (cc h)
in_better x r rules (Some s) among h = by_test (is_beaten x s) h
  where
    by_test : (t : Bool) → (if t then Some s else Some x) ≡ Some r → (x ≡ r) ⊎ IsAmong r rules
    by_test true e = inr (among r e)
    by_test false e = inl (cc e)

in_winner : (rules : List Rule) (key : List ℕ) (r : Rule) → winner rules key ≡ Some r → IsAmong r rules
unfolding winner
in_winner [] key r h = absurd (cc h)
in_winner (x ∷ rules) key r h = by_test (is_matched key x.matching) (in_winner rules key) h
  where
    by_test : (t : Bool) → ((s : Rule) → winner rules key ≡ Some s → IsAmong s rules) → (if t then better x (winner rules key) else winner rules key) ≡ Some r → (x ≡ r) ⊎ IsAmong r rules
    by_test true others e = in_better x r rules (winner rules key) others e
    by_test false others e = inr (others r e)

-- ---- what a scan finds

sound_among : (rules : List Rule) (r : Rule) → list_all is_sound_rule rules ≡ true → IsAmong r rules → is_sound_rule r ≡ true
sound_among [] r all i = absurd i
sound_among (x ∷ rules) r all (inl e) = subst (λ y. is_sound_rule y ≡ true) e (and_parts (is_sound_rule x) (list_all is_sound_rule rules) all).0
sound_among (x ∷ rules) r all (inr i) = sound_among rules r (and_parts (is_sound_rule x) (list_all is_sound_rule rules) all).1 i

numbered_live : (number : ℕ) (rules : List Rule) (r : Rule) → rule_numbered number rules ≡ Some r → is_live number rules ≡ true
numbered_live number [] r h = absurd (cc h)
numbered_live number (x ∷ rules) r h = by_test (x.number == number) (numbered_live number rules r) h
  where
    by_test : (t : Bool) → (rule_numbered number rules ≡ Some r → is_live number rules ≡ true) → (if t then Some x else rule_numbered number rules) ≡ Some r → (t || is_live number rules) ≡ true
    by_test true others e = refl
    by_test false others e = others e

pub record Won (rules : List Rule) (table : ℕ) (key : List ℕ) (number : ℕ) : Type 0 where
  pub rule : Rule
  pub wins : winner (rules_in table rules) key ≡ Some rule
  pub its_number : rule.number ≡ number
  pub numbered : rule_numbered number rules ≡ Some rule
  pub live : is_live number rules ≡ true
  pub sound : AreSound rule.actions

-- the rule of the number that a scan answers
pub won_by_number : (rules : List Rule) (table : ℕ) (key : List ℕ) (number : ℕ) → AreRunnable rules → Some number ≡ option_map (λ (r : Rule). r.number) (winner (rules_in table rules) key) → Won rules table key number
won_by_number rules table key number runnable is = by_winner (winner (rules_in table rules) key) refl is
  where
    by_winner : (w : Option Rule) → winner (rules_in table rules) key ≡ w → Some number ≡ option_map (λ (r : Rule). r.number) w → Won rules table key number
    by_winner None wins e = absurd (cc e)
    by_winner (Some r) wins e =
        let same : number ≡ r.number = cc e in
        let among = in_filter (λ x. x.table == table) r rules (in_winner (rules_in table rules) key r wins) in
        let found : rule_numbered number rules ≡ Some r = subst (λ n. rule_numbered n rules ≡ Some r) (sym same) (runnable.numbered r among) in
        record { rule = r; wins = wins; its_number = sym same; numbered = found; live = numbered_live number rules r found; sound = sound_among rules r runnable.sound among }

-- where it answers none, no rule wins
pub none_won : (rules : List Rule) (table : ℕ) (key : List ℕ) → None ≡ option_map (λ (r : Rule). r.number) (winner (rules_in table rules) key) → winner (rules_in table rules) key ≡ None
none_won rules table key is = by_winner (winner (rules_in table rules) key) is
  where
    by_winner : (w : Option Rule) → None ≡ option_map (λ (r : Rule). r.number) w → w ≡ None
    by_winner None e = refl
    by_winner (Some r) e = absurd (cc e)
