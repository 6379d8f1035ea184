-- The types of a VLAN tag, one by one.
use Rattle.std.proofs.Common.{◌≡◌, ℕ, Bool, true, false, refl, sym, subst, eqb-true}
use Rattle.std.specs.Prelude.{◌==◌}
use Rattle.spec_keys.specs.Protocols.{customer_tag, service_tag, is_tag_type}

-- what holds of each of them holds of a number that is one
pub of_each_type : (P : ℕ → Type 0) → P customer_tag → P service_tag → (tpid : ℕ) → is_tag_type tpid ≡ true → P tpid
of_each_type P customer service tpid h = by_test (tpid == customer_tag) refl
  where
    by_test : (t : Bool) → (tpid == customer_tag) ≡ t → P tpid
    by_test true is = subst P (sym (eqb-true tpid customer_tag is)) customer
    by_test false is = let other : (tpid == service_tag) ≡ true = rw is at h in subst P (sym (eqb-true tpid service_tag other)) service
