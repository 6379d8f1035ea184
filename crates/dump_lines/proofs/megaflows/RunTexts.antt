-- Visits that are gone through once are those that are put together from the last one on.
use Rattle.std.proofs.Common.{◌≡◌, ℕ, suc, ◌+◌, ◌-◌, ◌<◌, ◌≤◌, Bool, true, false, ◌==◌, if◌then◌else◌, List, [], ◌∷◌, ◌++◌, map, length, get_or, take, drop, refl, sym, ap, ◌∙◌, arith, append_assoc, append-nil, eqb-true, eq-eqb, ne_eqb}
use Rattle.std.specs.List.{join_with_byte}
use Rattle.std.proofs.lemmas.List.{take_all, drop_more, drop_all}
use Rattle.spec_flow_text.specs.Characters.{hyphen}
use Rattle.spec_run.specs.Megaflows.{Visited, once, visited_before, together, plus_sign, visited_text, joined_visits, visits_text}
use Rattle.dump_lines.specs.Runs.{once_more, runs_text}

-- so many visits of a rule before others
abbrev times_before : Visited → List Visited → List Visited
times_before v [] = v ∷ []
times_before v (w ∷ ws) = if w.rule == v.rule then record w { times = w.times + v.times } ∷ ws else v ∷ w ∷ ws

abbrev runs_joined : List Visited → List ℕ
runs_joined vs = join_with_byte plus_sign (map visited_text vs)

-- ---- put together from the last one on

-- A list begins with visits of this rule.
record BeginsWith (rule : ℕ) (vs : List Visited) : Type 0 where
  pub head : Visited
  pub tail : List Visited
  pub whole : vs ≡ head ∷ tail
  pub of_rule : head.rule ≡ rule

begins_in : (rule : ℕ) (v : Visited) (vs : List Visited) (b : Bool) → (v.rule == rule) ≡ b
    → BeginsWith rule (if b then record v { times = v.times + 1 } ∷ vs else once rule ∷ v ∷ vs)
begins_in rule v vs true is = record { head = record v { times = v.times + 1 }; tail = vs; whole = refl; of_rule = eqb-true v.rule rule is }
begins_in rule v vs false is = record { head = once rule; tail = v ∷ vs; whole = refl; of_rule = refl }

begins : (rule : ℕ) (vs : List Visited) → BeginsWith rule (visited_before rule vs)
begins rule [] = record { head = once rule; tail = []; whole = refl; of_rule = refl }
begins rule (v ∷ vs) = begins_in rule v vs (v.rule == rule) refl

once_before : (rule : ℕ) (vs : List Visited) → visited_before rule vs ≡ times_before (once rule) vs
once_before rule [] = refl
once_before rule (v ∷ vs) = refl

-- visits of a rule, and then one more of it before others
abbrev pub visits_of : ℕ → ℕ → Visited
visits_of rule times = record { rule = rule; times = times }

more_in : (rule times : ℕ) (v : Visited) (vs : List Visited) (b : Bool) → (v.rule == rule) ≡ b
    → times_before (visits_of rule times) (if b then record v { times = v.times + 1 } ∷ vs else once rule ∷ v ∷ vs)
    ≡ (if b then record v { times = v.times + (times + 1) } ∷ vs else visits_of rule (times + 1) ∷ v ∷ vs)
more_in rule times v vs true is =
    let sum : (v.times + 1) + times ≡ v.times + (times + 1) = omega arith in
    rw is (ap (λ n. visits_of v.rule n ∷ vs) sum)
more_in rule times v vs false is =
    let same : (rule == rule) ≡ true = eq-eqb rule rule refl in
    let sum : 1 + times ≡ times + 1 = omega arith in
    rw same (ap (λ n. visits_of rule n ∷ v ∷ vs) sum)

more : (rule times : ℕ) (vs : List Visited)
    → times_before (visits_of rule times) (visited_before rule vs) ≡ times_before (visits_of rule (times + 1)) vs
more rule times [] =
    let same : (rule == rule) ≡ true = eq-eqb rule rule refl in
    let sum : 1 + times ≡ times + 1 = omega arith in
    rw same (ap (λ n. visits_of rule n ∷ []) sum)
more rule times (v ∷ vs) = more_in rule times v vs (v.rule == rule) refl

others : (v : Visited) (rule : ℕ) (vs : List Visited) → (rule == v.rule) ≡ false
    → times_before v (visited_before rule vs) ≡ v ∷ visited_before rule vs
others v rule vs differs =
    let b = begins rule vs in
    let not_same : (b.head.rule == v.rule) ≡ false = ap (λ n. n == v.rule) b.of_rule ∙ differs in
    rw b.whole (rw not_same refl)

-- ---- gone through once

before_others : (v : Visited) (rule : ℕ) (vs : List Visited)
    → runs_joined (v ∷ visited_before rule vs) ≡ visited_text v ++ (plus_sign ∷ runs_joined (visited_before rule vs))
before_others v rule vs =
    let b = begins rule vs in
    rw b.whole refl

runs_in : (v : Visited) (rule : ℕ) (visits : List ℕ) (b : Bool) → (rule == v.rule) ≡ b
    → runs_text (once_more v) visits ≡ runs_joined (times_before (once_more v) (together visits))
    → runs_text (once rule) visits ≡ runs_joined (times_before (once rule) (together visits))
    → (if b then runs_text (once_more v) visits else visited_text v ++ (plus_sign ∷ runs_text (once rule) visits))
    ≡ runs_joined (times_before v (visited_before rule (together visits)))
runs_in v rule visits true is same other =
    let of_rule : rule ≡ v.rule = eqb-true rule v.rule is in
    same ∙ ap runs_joined (sym (more v.rule v.times (together visits)))
    ∙ ap (λ r. runs_joined (times_before v (visited_before r (together visits)))) (sym of_rule)
runs_in v rule visits false is same other =
    ap (λ t. visited_text v ++ (plus_sign ∷ t)) (other ∙ ap runs_joined (sym (once_before rule (together visits))))
    ∙ sym (before_others v rule (together visits)) ∙ ap runs_joined (sym (others v rule (together visits) is))

runs-are : (v : Visited) (visits : List ℕ) → runs_text v visits ≡ runs_joined (times_before v (together visits))
unfolding runs_text together
runs-are v [] = refl
runs-are v (rule ∷ visits) =
    runs_in v rule visits (rule == v.rule) refl (runs-are (once_more v) visits) (runs-are (once rule) visits)

all_joined : (rule : ℕ) (vs : List Visited) → joined_visits (visited_before rule vs) ≡ runs_joined (visited_before rule vs)
all_joined rule vs =
    let b = begins rule vs in
    rw b.whole refl

visits-are : (first : ℕ) (visits : List ℕ) → visits_text (first ∷ visits) ≡ runs_text (once first) visits
unfolding together
visits-are first visits =
    all_joined first (together visits) ∙ ap runs_joined (once_before first (together visits)) ∙ sym (runs-are (once first) visits)

-- ---- in a loop

no_more : (v : Visited) → runs_text v [] ≡ visited_text v
unfolding runs_text
no_more v = refl

one_more : (v : Visited) (rule : ℕ) (visits : List ℕ) (b : Bool) → (rule == v.rule) ≡ b
    → runs_text v (rule ∷ visits) ≡ (if b then runs_text (once_more v) visits else visited_text v ++ (plus_sign ∷ runs_text (once rule) visits))
unfolding runs_text
one_more v rule visits b is = rw is refl

-- the next visit is of the same rule
pub same_run : (start out : List ℕ) (rule times : ℕ) (visits : List ℕ) (i : ℕ) → i < length visits → get_or visits i 0 ≡ rule
    → out ++ runs_text (visits_of rule times) (drop i visits) ≡ start
    → out ++ runs_text (visits_of rule (times + 1)) (drop (i + 1) visits) ≡ start
same_run start out rule times visits i lt is so_far =
    let step : runs_text (visits_of rule times) (drop i visits) ≡ runs_text (visits_of rule (times + 1)) (drop (i + 1) visits) =
    rw (drop_more visits i 0 lt)
    (one_more (visits_of rule times) (get_or visits i 0) (drop (i + 1) visits) true (eq-eqb (get_or visits i 0) rule is)) in
    ap (λ t. out ++ t) (sym step) ∙ so_far

-- the next visit is of another rule, and the run and a sign were printed
pub next_run : (start out new : List ℕ) (rule times : ℕ) (visits : List ℕ) (i : ℕ) → i < length visits → (get_or visits i 0 ≡ rule → ⊥)
    → new ≡ out ++ (visited_text (visits_of rule times) ++ plus_sign ∷ [])
    → out ++ runs_text (visits_of rule times) (drop i visits) ≡ start
    → new ++ runs_text (once (get_or visits i 0)) (drop (i + 1) visits) ≡ start
next_run start out new rule times visits i lt differs is so_far =
    let run = visited_text (visits_of rule times) in
    let rest = runs_text (once (get_or visits i 0)) (drop (i + 1) visits) in
    let step : runs_text (visits_of rule times) (drop i visits) ≡ run ++ (plus_sign ∷ rest) =
    rw (drop_more visits i 0 lt)
    (one_more (visits_of rule times) (get_or visits i 0) (drop (i + 1) visits) false (ne_eqb (get_or visits i 0) rule differs)) in
    ap (λ t. t ++ rest) is ∙ append_assoc out (run ++ plus_sign ∷ []) rest
    ∙ ap (λ t. out ++ t) (append_assoc run (plus_sign ∷ []) rest ∙ sym step) ∙ so_far

-- no visit is left
pub last_run : (start out : List ℕ) (rule times : ℕ) (visits : List ℕ) (i : ℕ) → length visits ≤ i
    → out ++ runs_text (visits_of rule times) (drop i visits) ≡ start
    → out ++ visited_text (visits_of rule times) ≡ start
last_run start out rule times visits i le so_far =
    let step : runs_text (visits_of rule times) (drop i visits) ≡ visited_text (visits_of rule times) =
    rw (drop_all i visits le) (no_more (visits_of rule times)) in
    ap (λ t. out ++ t) (sym step) ∙ so_far

-- ---- all visits

pub no_visits : (visits : List ℕ) → length visits < 1 → hyphen ∷ [] ≡ visits_text visits
unfolding together
no_visits [] lt = refl
no_visits (rule ∷ visits) lt = absurd (omega arith)

pub all_visits : (visits : List ℕ) → 1 ≤ length visits
    → runs_text (once (get_or visits 0 0)) (take (length visits - 1) (drop 1 visits)) ≡ visits_text visits
all_visits [] le = absurd (omega arith)
all_visits (rule ∷ visits) le =
    let whole : take (length (rule ∷ visits) - 1) visits ≡ visits = take_all (length (rule ∷ visits) - 1) visits (omega arith) in
    ap (λ t. runs_text (once rule) t) whole ∙ sym (visits-are rule visits)
