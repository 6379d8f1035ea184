-- The mask of a translation has the ingress port and the Ethernet type whole, and no bits of registers.
use Rattle.std.proofs.Common.{◌≡◌, ℕ, zero, suc, ◌+◌, true, false, ◌==◌, List, [], ◌∷◌, ◌++◌, set, bit_or, Option, Some, All, subst, inl, inr, refl, sym, ap, ◌∙◌}
use Rattle.std.specs.List.{list_any}
use Rattle.std.proofs.lemmas.Bool.{and_from, eq-eqb}
use Rattle.std.specs.Int.Bits.{or_zero_l}
use Rattle.spec_keys.specs.declared.field_id.FieldId.{FieldId}
use Rattle.spec_keys.specs.declared.field_id.FieldId.TheVariants as field
use Rattle.spec_keys.specs.Fields.{place_of, register_fields}
use Rattle.spec_keys.specs.Keys.{number_at, value_of, joined, none, covers, are_zero, IsKey, IsClean}
use Rattle.spec_actions.specs.Sound.{AreSound}
use Rattle.spec_tables.specs.Rules.{Rule, winner}
use Rattle.spec_xlate.specs.Translation.{Switch, deepest, start}
use Rattle.spec_xlate.specs.Lookup.{union}
use Rattle.spec_xlate.specs.Consulted.{whole, look_bits, start_bits, without, consulted}
use Rattle.table_laws.proofs.MemberLaws.{Among, All-Among, Among-append_left, list_any-Among, list_any_from-Among}
use Rattle.table_laws.proofs.UnionLaws.{Within, covers_from-Within, Within-added, joined_comm}
use Rattle.table_laws.proofs.KeysAlike.{eqb-false}
use Rattle.table_laws.proofs.WithinLaws.{without-none, elsewhere_zero, consulted-IsKey}
use Rattle.table_laws.proofs.WinnerLaws.{IsBestOf, IsWinner, winner-IsWinner}

set-zero : (m : List ℕ) (p : ℕ) → number_at m p ≡ 0 → set m p 0 ≡ m
set-zero [] p e = refl
set-zero (x ∷ m) zero e = ap (λ (z : ℕ). z ∷ m) (sym e)
set-zero (x ∷ m) (suc p) e = ap (λ (z : List ℕ). x ∷ z) (set-zero m p e)

joined-set_zero : (m n : List ℕ) (p : ℕ) → number_at n p ≡ 0 → joined (set m p 0) n ≡ set (joined m n) p 0
unfolding joined
joined-set_zero [] n p e = sym (set-zero n p e)
joined-set_zero (x ∷ m) [] zero e = refl
joined-set_zero (x ∷ m) [] (suc p) e = refl
joined-set_zero (x ∷ m) (y ∷ n) zero e = ap (λ (z : ℕ). z ∷ joined m n) (or_zero_l y ∙ e)
joined-set_zero (x ∷ m) (y ∷ n) (suc p) e = ap (λ (z : List ℕ). bit_or x y ∷ z) (joined-set_zero m n p e)

-- other fields taken away leave the bits of this one
joined-without : (fs : List FieldId) (m n : List ℕ) → ((f : FieldId) → Among f fs → number_at n (place_of f) ≡ 0)
    → joined (without fs m) n ≡ without fs (joined m n)
joined-without [] m n h = refl
joined-without (f ∷ fs) m n h = joined-without fs (set m (place_of f) 0) n (λ g a. h g (inr a)) ∙ ap (without fs) (joined-set_zero m n (place_of f) (h f (inl refl)))

Within-without : (fs : List FieldId) (m n : List ℕ) → ((f : FieldId) → Among f fs → number_at n (place_of f) ≡ 0) → Within n m
    → Within n (without fs m)
unfolding Within
Within-without fs m n h w = joined_comm n (without fs m) ∙ joined-without fs m n h ∙ ap (without fs) (joined_comm m n ∙ w)

-- a field that every translation consults, and that is no register
consulted-covers : (sw : Switch) (key : List ℕ) (f : FieldId) → Among (whole f) (start_bits key)
    → list_any (λ g. place_of g == place_of f) register_fields ≡ false → covers (consulted sw key) (whole f) ≡ true
unfolding consulted
consulted-covers sw key f a other =
    covers_from-Within (whole f) (without register_fields (union (start_bits key ++ look_bits sw (deepest + 1) 0 (start key))))
    (Within-without register_fields _ (whole f) (λ g b. elsewhere_zero (place_of f) (place_of g) _ (eqb-false (place_of g) (place_of f) (list_any-Among (λ h. place_of h == place_of f) g register_fields b other)))
    (Within-added none (whole f) (start_bits key ++ look_bits sw (deepest + 1) 0 (start key)) (Among-append_left (whole f) (start_bits key) (look_bits sw (deepest + 1) 0 (start key)) a)))

pub has_in_port : (sw : Switch) (key : List ℕ) → covers (consulted sw key) (whole field.InPort) ≡ true
has_in_port sw key = consulted-covers sw key field.InPort (inl refl) refl

pub has_dl_type : (sw : Switch) (key : List ℕ) → covers (consulted sw key) (whole field.DlType) ≡ true
has_dl_type sw key = consulted-covers sw key field.DlType (inr (inl refl)) refl

-- fields whose bits were taken away are 0
without-are_zero : (fs gs : List FieldId) (m : List ℕ) → ((g : FieldId) → Among g gs → Among g fs) → are_zero gs (without fs m) ≡ true
without-are_zero fs [] m h = refl
without-are_zero fs (g ∷ gs) m h =
    let stands = list_any_from-Among (λ f. place_of g == place_of f) g fs (h g (inl refl)) (eq-eqb (place_of g) (place_of g) refl) in
    and_from (value_of (without fs m) g == 0) (are_zero gs (without fs m))
    (eq-eqb (value_of (without fs m) g) 0 (without-none fs m (place_of g) stands)) (without-are_zero fs gs m (λ f a. h f (inr a)))

pub has_no_registers : (sw : Switch) (key : List ℕ) → IsClean (consulted sw key)
unfolding consulted
has_no_registers sw key = without-are_zero register_fields register_fields (union (start_bits key ++ look_bits sw (deepest + 1) 0 (start key))) (λ g a. a)

pub is_within : (sw : Switch) → ((table : ℕ) → All (λ r. IsKey r.matching.mask) (sw.tables table))
    → ((table : ℕ) → All (λ r. AreSound r.actions) (sw.tables table)) → (key : List ℕ) → IsKey (consulted sw key)
unfolding IsWinner
is_within sw masks actions key =
    consulted-IsKey sw key
    (λ table r a. All-Among (λ s. IsKey s.matching.mask) (sw.tables table) (masks table) r a)
    (λ table r a. All-Among (λ s. AreSound s.actions) (sw.tables table) (actions table) r a)
    (λ table k w e. is_rule table k w e (winner-IsWinner (sw.tables table) k))
  where
    is_rule : (table : ℕ) (k : List ℕ) (w : Rule) → winner (sw.tables table) k ≡ Some w
        → IsWinner (sw.tables table) k (winner (sw.tables table) k) → Among w (sw.tables table)
    is_rule table k w e h = (as_best w (subst (λ (o : Option Rule). IsWinner (sw.tables table) k o) e h)).is_rule
      where
        as_best : (v : Rule) → IsWinner (sw.tables table) k (Some v) → IsBestOf (sw.tables table) k v
        as_best v b = b
