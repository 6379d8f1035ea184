-- What holds of entries that are kept.
use Rattle.std.proofs.Common.{◌≡◌, ℕ, ◌≤◌, Bool, true, false, cond, ◌==◌, List, [], ◌∷◌, ◌++◌, map, Some, inl, inr, refl, sym, ap, subst, ◌∙◌, arith}
use Rattle.std.specs.Prelude.{filter, ◌≢◌}
use Rattle.std.proofs.lemmas.Bool.{eqb-true, eqb-false}
use Rattle.table_laws.proofs.MemberLaws.{Among}
use Rattle.megaflow_table.specs.declared.entry.Entry.{Entry}
use Rattle.megaflow_table.specs.Entries.{entry_of, changed}
use Rattle.port_caches.specs.Steps.{AreRules}
use Rattle.port_caches.specs.Kept.{AreKept, IsApart, IsKeptEntry}
use Rattle.port_caches.proofs.ListLaws.{found, among-filter}

pub kept_at : (lists made rules : ℕ) (es : List Entry) (e : Entry) → AreKept lists made rules es → Among e es → IsKeptEntry lists made rules e
kept_at lists made rules [] e kept m = absurd m
kept_at lists made rules (x ∷ xs) e kept (inl first) = subst (IsKeptEntry lists made rules) (sym first) kept.0
kept_at lists made rules (x ∷ xs) e kept (inr rest) = kept_at lists made rules xs e kept.2 rest

pub apart_at : (x : Entry) (es : List Entry) (e : Entry) → IsApart x es → Among e es → (x.number ≢ e.number) × (x.actions ≢ e.actions)
apart_at x [] e apart m = absurd m
apart_at x (y ∷ ys) e apart (inl first) = subst (λ (z : Entry). (x.number ≢ z.number) × (x.actions ≢ z.actions)) (sym first) (apart.0, apart.1)
apart_at x (y ∷ ys) e apart (inr rest) = apart_at x ys e apart.2 rest

-- the entry of a number
pub kept_found : (lists made rules : ℕ) (es : List Entry) (n : ℕ) (e : Entry) → AreKept lists made rules es → entry_of n es ≡ Some e → IsKeptEntry lists made rules e
kept_found lists made rules es n e kept is = kept_at lists made rules es e kept (found (λ (x : Entry). x.number == n) es e is).0

apart_from : (x : Entry) (es : List Entry) → ((e : Entry) → Among e es → (x.number ≢ e.number) × (x.actions ≢ e.actions)) → IsApart x es
apart_from x [] each = tt
apart_from x (y ∷ ys) each = let here = each y (inl refl) in (here.0, here.1, apart_from x ys (λ e m. each e (inr m)))

-- of two entries with one number both are the same
pub same_entry : (lists made rules : ℕ) (es : List Entry) (a b : Entry) → AreKept lists made rules es → Among a es → Among b es → a.number ≡ b.number → a ≡ b
same_entry lists made rules [] a b kept m n same = absurd m
same_entry lists made rules (x ∷ xs) a b kept (inl m) (inl n) same = m ∙ sym n
same_entry lists made rules (x ∷ xs) a b kept (inl m) (inr n) same = absurd ((apart_at x xs b kept.1 n).0 (ap (λ (e : Entry). e.number) (sym m) ∙ same))
same_entry lists made rules (x ∷ xs) a b kept (inr m) (inl n) same = absurd ((apart_at x xs a kept.1 m).0 (ap (λ (e : Entry). e.number) (sym n) ∙ sym same))
same_entry lists made rules (x ∷ xs) a b kept (inr m) (inr n) same = same_entry lists made rules xs a b kept.2 m n same

-- and two with one list
pub other_lists : (lists made rules : ℕ) (es : List Entry) (a b : Entry) → AreKept lists made rules es → Among a es → Among b es → a.number ≢ b.number → a.actions ≢ b.actions
other_lists lists made rules [] a b kept m n other = absurd m
other_lists lists made rules (x ∷ xs) a b kept (inl m) (inl n) other = absurd (other (ap (λ (e : Entry). e.number) (m ∙ sym n)))
other_lists lists made rules (x ∷ xs) a b kept (inl m) (inr n) other = λ same. (apart_at x xs b kept.1 n).1 (ap (λ (e : Entry). e.actions) (sym m) ∙ same)
other_lists lists made rules (x ∷ xs) a b kept (inr m) (inl n) other = λ same. (apart_at x xs a kept.1 m).1 (ap (λ (e : Entry). e.actions) (sym n) ∙ sym same)
other_lists lists made rules (x ∷ xs) a b kept (inr m) (inr n) other = other_lists lists made rules xs a b kept.2 m n other

-- ---- what keeps them

pub kept_more : (lists lists' made made' rules rules' : ℕ) (es : List Entry) → lists ≤ lists' → made ≤ made' → rules' ≡ rules → AreKept lists made rules es → AreKept lists' made' rules' es
kept_more lists lists' made made' rules rules' [] more later same kept = tt
kept_more lists lists' made made' rules rules' (e ∷ es) more later same kept =
    let here = kept.0 in (
      record {
        list = omega (arith, here.list, more);
        number = omega (arith, here.number, later);
        visits = λ k d within. let visit = here.visits k d within in (visit.0, omega (arith, visit.1, same));
      },
      kept.1,
      kept_more lists lists' made made' rules rules' es more later same kept.2,
    )

pub kept-map : (lists made rules : ℕ) (h : Entry → Entry) (lists' made' rules' : ℕ) (es : List Entry) → AreKept lists made rules es
    → ((e : Entry) → Among e es → IsKeptEntry lists' made' rules' (h e))
    → ((a b : Entry) → Among a es → Among b es → a.number ≢ b.number → a.actions ≢ b.actions → ((h a).number ≢ (h b).number) × ((h a).actions ≢ (h b).actions))
    → AreKept lists' made' rules' (map h es)
kept-map lists made rules h lists' made' rules' [] kept each apart = tt
kept-map lists made rules h lists' made' rules' (x ∷ xs) kept each apart = (
  each x (inl refl),
  behind xs kept.1 (λ b m. apart x b (inl refl) (inr m)),
  kept-map lists made rules h lists' made' rules' xs kept.2 (λ e m. each e (inr m)) (λ a b m n. apart a b (inr m) (inr n)),
)
  where
    behind : (ys : List Entry) → IsApart x ys → ((b : Entry) → Among b ys → x.number ≢ b.number → x.actions ≢ b.actions → ((h x).number ≢ (h b).number) × ((h x).actions ≢ (h b).actions)) → IsApart (h x) (map h ys)
    behind [] from each = tt
    behind (y ∷ ys) from each = let here = each y (inl refl) from.0 from.1 in (here.0, here.1, behind ys from.2 (λ b m. each b (inr m)))

pub kept-filter : (lists made rules : ℕ) (p : Entry → Bool) (es : List Entry) → AreKept lists made rules es → AreKept lists made rules (filter p es)
kept-filter lists made rules p [] kept = tt
kept-filter lists made rules p (x ∷ xs) kept = at (p x) (kept-filter lists made rules p xs kept.2)
  where
    at : (t : Bool) → AreKept lists made rules (filter p xs) → AreKept lists made rules (cond t (x ∷ filter p xs) (filter p xs))
    at true rest = (kept.0, apart_from x (filter p xs) (λ e m. apart_at x xs e kept.1 (among-filter p xs e m).0), rest)
    at false rest = rest

pub kept_push : (lists made rules : ℕ) (es : List Entry) (e : Entry) → AreKept lists made rules es → IsKeptEntry lists made rules e
    → ((d : Entry) → Among d es → (d.number ≢ e.number) × (d.actions ≢ e.actions)) → AreKept lists made rules (es ++ e ∷ [])
kept_push lists made rules [] e kept last apart = (last, tt, tt)
kept_push lists made rules (x ∷ xs) e kept last apart = (kept.0, longer xs kept.1, kept_push lists made rules xs e kept.2 last (λ d m. apart d (inr m)))
  where
    longer : (ys : List Entry) → IsApart x ys → IsApart x (ys ++ e ∷ [])
    longer [] from = let here = apart x (inl refl) in (here.0, here.1, tt)
    longer (y ∷ ys) from = (from.0, from.1, longer ys from.2)

-- a change that leaves number, list and visits
pub record KeepsNames (f : Entry → Entry) : Type 0 where
  pub number : (e : Entry) → (f e).number ≡ e.number
  pub actions : (e : Entry) → (f e).actions ≡ e.actions
  pub visits : (e : Entry) → (f e).visits ≡ e.visits

pub kept-changed : (lists made rules : ℕ) (n : ℕ) (f : Entry → Entry) (es : List Entry) → KeepsNames f → AreKept lists made rules es → AreKept lists made rules (changed n f es)
kept-changed lists made rules n f es keeps kept =
    kept-map lists made rules (λ (e : Entry). cond (e.number == n) (f e) e) lists made rules es kept
    (λ e m. each e (e.number == n) (kept_at lists made rules es e kept m))
    (λ a b m o numbers lists. apart a b (a.number == n) (b.number == n) numbers lists)
  where
    each : (e : Entry) (t : Bool) → IsKeptEntry lists made rules e → IsKeptEntry lists made rules (cond t (f e) e)
    each e true here =
        let number = keeps.number e in
        let actions = keeps.actions e in
        record {
          list = omega (arith, here.list, actions);
          number = omega (arith, here.number, number);
          visits = subst (AreRules rules) (sym (keeps.visits e)) here.visits;
        }
    each e false here = here

    number_is : (e : Entry) (t : Bool) → (cond t (f e) e).number ≡ e.number
    number_is e true = keeps.number e
    number_is e false = refl

    list_is : (e : Entry) (t : Bool) → (cond t (f e) e).actions ≡ e.actions
    list_is e true = keeps.actions e
    list_is e false = refl

    apart : (a b : Entry) (s t : Bool) → a.number ≢ b.number → a.actions ≢ b.actions
        → ((cond s (f a) a).number ≢ (cond t (f b) b).number) × ((cond s (f a) a).actions ≢ (cond t (f b) b).actions)
    apart a b s t numbers lists = (λ same. numbers (sym (number_is a s) ∙ same ∙ number_is b t), λ same. lists (sym (list_is a s) ∙ same ∙ list_is b t))

-- a change that gives the entry of a number another list, which no other entry has
pub kept_renamed : (lists lists' made rules : ℕ) (n : ℕ) (f : Entry → Entry) (es : List Entry) → lists ≤ lists' → AreKept lists made rules es
    → ((e : Entry) → Among e es → e.number ≡ n → IsKeptEntry lists' made rules (f e)) → ((e : Entry) → (f e).number ≡ e.number)
    → ((e d : Entry) → Among d es → d.number ≢ n → (f e).actions ≢ d.actions) → AreKept lists' made rules (changed n f es)
kept_renamed lists lists' made rules n f es more kept new number free =
    kept-map lists made rules (λ (e : Entry). cond (e.number == n) (f e) e) lists' made rules es kept
    (λ e m. each e (e.number == n) refl m)
    (λ a b m o numbers lists. apart a b (a.number == n) refl (b.number == n) refl m o numbers lists)
  where
    each : (e : Entry) (t : Bool) → (e.number == n) ≡ t → Among e es → IsKeptEntry lists' made rules (cond t (f e) e)
    each e true is m = new e m (eqb-true e.number n is)
    each e false is m = let here = kept_at lists made rules es e kept m in record { list = omega (arith, here.list, more); number = here.number; visits = here.visits }

    number_is : (e : Entry) (t : Bool) → (cond t (f e) e).number ≡ e.number
    number_is e true = number e
    number_is e false = refl

    lists_apart : (a b : Entry) (s : Bool) → (a.number == n) ≡ s → (t : Bool) → (b.number == n) ≡ t → Among a es → Among b es → a.number ≢ b.number → a.actions ≢ b.actions → (cond s (f a) a).actions ≢ (cond t (f b) b).actions
    lists_apart a b true is true also m o numbers lists = absurd (numbers (eqb-true a.number n is ∙ sym (eqb-true b.number n also)))
    lists_apart a b true is false fails m o numbers lists = free a b o (eqb-false b.number n fails)
    lists_apart a b false fails true is m o numbers lists = λ same. free b a m (eqb-false a.number n fails) (sym same)
    lists_apart a b false fails false also m o numbers lists = lists

    apart : (a b : Entry) (s : Bool) → (a.number == n) ≡ s → (t : Bool) → (b.number == n) ≡ t → Among a es → Among b es → a.number ≢ b.number → a.actions ≢ b.actions
        → ((cond s (f a) a).number ≢ (cond t (f b) b).number) × ((cond s (f a) a).actions ≢ (cond t (f b) b).actions)
    apart a b s is t also m o numbers lists = (λ same. numbers (sym (number_is a s) ∙ same ∙ number_is b t), lists_apart a b s is t also m o numbers lists)
