-- What is kept for each number, as the definition has it in lists and as maps have it.
use Rattle.std.proofs.Common.{◌≡◌, ℕ, ◌==◌, not, if◌then◌else◌, Bool, true, false, List, [], ◌∷◌, Option, Some, None, refl, sym, ap, ◌∙◌}
use Rattle.std.specs.Prelude.{cond, nat_eq}
use Rattle.std.specs.List.{find}
use Rattle.std.specs.Map.{lookup}
use Rattle.std.specs.Option.{option_map}
use Rattle.std.proofs.Math.Path.{fun_ext}
use Rattle.std.proofs.lemmas.Bool.{eq-eqb, ne_eqb, eqb-true, false≢true, cond-false}
use Rattle.spec_board.specs.Schedules.{Kept}
use Rattle.spec_board.specs.GivenSteps.{kept_version, given_up, keeping}
use Rattle.run_xlate.specs.Views.{XlateView}
use Rattle.given_steps.specs.Translations.{kept_views, versions}

-- ---- the lists of the definition

swap : (a b : ℕ) → (a == b) ≡ (b == a)
swap a b = at (a == b) refl
  where
    at : (t : Bool) → (a == b) ≡ t → (a == b) ≡ (b == a)
    at true is = is ∙ sym (eq-eqb b a (sym (eqb-true a b is)))
    at false is = is ∙ sym (ne_eqb b a (λ e. false≢true (sym is ∙ eq-eqb a b (sym e))))

abbrev version_in : Option Kept → Option ℕ
version_in o = option_map (λ (k : Kept). k.version) o

abbrev found_in : ℕ → List Kept → Option Kept
found_in n ks = find (λ (k : Kept). k.number == n) ks

pub given_up_version : (m n : ℕ) (ks : List Kept) → kept_version n (given_up m ks) ≡ (if nat_eq m n then None else kept_version n ks)
given_up_version m n [] = at (nat_eq m n)
  where
    at : (t : Bool) → kept_version n [] ≡ (if t then None else kept_version n [])
    at true = refl
    at false = refl
given_up_version m n (k ∷ ks) = at (k.number == m) refl (given_up_version m n ks)
  where
    dropped : (t : Bool) → kept_version n (given_up m ks) ≡ (if t then None else kept_version n ks)
        → kept_version n (given_up m ks) ≡ (if t then None else version_in (if t then Some k else found_in n ks))
    dropped true others = others
    dropped false others = others

    left : (k.number == m) ≡ false → (t : Bool) → (k.number == n) ≡ t → kept_version n (given_up m ks) ≡ (if nat_eq m n then None else kept_version n ks)
        → version_in (if t then Some k else found_in n (given_up m ks)) ≡ (if nat_eq m n then None else version_in (if t then Some k else found_in n ks))
    left differ true is others =
        sym (cond-false (nat_eq m n) None (Some k.version) (ne_eqb m n (λ e. false≢true (sym differ ∙ eq-eqb k.number m (eqb-true k.number n is ∙ sym e)))))
    left differ false is others = others

    at : (t : Bool) → (k.number == m) ≡ t → kept_version n (given_up m ks) ≡ (if nat_eq m n then None else kept_version n ks)
        → kept_version n (if not t then k ∷ given_up m ks else given_up m ks) ≡ (if nat_eq m n then None else kept_version n (k ∷ ks))
    at true is others =
        dropped (nat_eq m n) others
        ∙ ap (λ t. if nat_eq m n then None else version_in (if t then Some k else found_in n ks)) (sym (ap (λ x. x == n) (eqb-true k.number m is)))
    at false is others = left is (k.number == n) refl others

pub keeping_version : (m v n : ℕ) (ks : List Kept) → kept_version n (keeping m v ks) ≡ (if nat_eq m n then Some v else kept_version n ks)
keeping_version m v n ks = at (nat_eq m n) (given_up_version m n ks)
  where
    at : (t : Bool) → kept_version n (given_up m ks) ≡ (if t then None else kept_version n ks)
        → version_in (if t then Some (record { number = m; version = v }) else found_in n (given_up m ks)) ≡ (if t then Some v else kept_version n ks)
    at true others = refl
    at false others = others

pub given_up_alike : (m : ℕ) (a b : List Kept) → versions a ≡ versions b → versions (given_up m a) ≡ versions (given_up m b)
given_up_alike m a b same =
    fun_ext (λ n. given_up_version m n a ∙ ap (λ (f : ℕ → Option ℕ). if nat_eq m n then None else f n) same ∙ sym (given_up_version m n b))

pub keeping_alike : (m v : ℕ) (a b : List Kept) → versions a ≡ versions b → versions (keeping m v a) ≡ versions (keeping m v b)
keeping_alike m v a b same =
    fun_ext (λ n. keeping_version m v n a ∙ ap (λ (f : ℕ → Option ℕ). if nat_eq m n then Some v else f n) same ∙ sym (keeping_version m v n b))

-- ---- the entries of a map

abbrev Entries : Type 0
Entries = List (ℕ × XlateView)

abbrev version_of_xlate : Option XlateView → Option ℕ
version_of_xlate o = option_map (λ (x : XlateView). x.version) o

version_kept : (n : ℕ) (es : Entries) → kept_version n (kept_views es) ≡ version_of_xlate (lookup (nat_eq n) es)
version_kept n [] = refl
version_kept n (e ∷ es) =
    at (e.0 == n) (version_kept n es) ∙ ap (λ t. version_of_xlate (cond t (Some e.1) (lookup (nat_eq n) es))) (swap e.0 n)
  where
    at : (t : Bool) → kept_version n (kept_views es) ≡ version_of_xlate (lookup (nat_eq n) es)
        → version_in (if t then Some (record { number = e.0; version = e.1.version }) else found_in n (kept_views es))
        ≡ version_of_xlate (cond t (Some e.1) (lookup (nat_eq n) es))
    at true others = refl
    at false others = others

-- the version of what was kept for a number
pub version_of : (n : ℕ) (es : Entries) (o : Option XlateView) → o ≡ lookup (nat_eq n) es → kept_version n (kept_views es) ≡ version_of_xlate o
version_of n es o is = version_kept n es ∙ ap version_of_xlate (sym is)

-- none is kept for a number any more
pub given_up_in : (m : ℕ) (old new : Entries) → ((n : ℕ) → lookup (nat_eq n) new ≡ (if nat_eq m n then None else lookup (nat_eq n) old))
    → versions (kept_views new) ≡ versions (given_up m (kept_views old))
given_up_in m old new rest = fun_ext (λ n. version_kept n new ∙ ap version_of_xlate (rest n) ∙ at n (nat_eq m n) ∙ sym (given_up_version m n (kept_views old)))
  where
    at : (n : ℕ) (t : Bool) → version_of_xlate (if t then None else lookup (nat_eq n) old) ≡ (if t then None else kept_version n (kept_views old))
    at n true = refl
    at n false = sym (version_kept n old)

-- one more is kept
pub kept_in : (m v : ℕ) (x : XlateView) (old new : Entries) → x.version ≡ v → ((n : ℕ) → lookup (nat_eq n) new ≡ (if nat_eq m n then Some x else lookup (nat_eq n) old))
    → versions (kept_views new) ≡ versions (keeping m v (kept_views old))
kept_in m v x old new is more = fun_ext (λ n. version_kept n new ∙ ap version_of_xlate (more n) ∙ at n (nat_eq m n) ∙ sym (keeping_version m v n (kept_views old)))
  where
    at : (n : ℕ) (t : Bool) → version_of_xlate (if t then Some x else lookup (nat_eq n) old) ≡ (if t then Some v else kept_version n (kept_views old))
    at n true = ap Some is
    at n false = sym (version_kept n old)
