-- What a look finds: an entry that covers the key.
use Rattle.std.proofs.Common.{◌≡◌, ℕ, ◌≤◌, Bool, true, false, if◌then◌else◌, List, Option, Some, None, refl, sym, ap, ◌∙◌, subst}
use Rattle.std.specs.Option.{option_map, option_and_then}
use Rattle.spec_keys.specs.Keys.{agree}
use Rattle.spec_board.specs.declared.looked.Looked.TheVariants.{Exact, Mega}
use Rattle.spec_board.specs.State.{Entry, Slot, State}
use Rattle.spec_board.specs.Cache.{slot_at, first_slot, second_slot, holds, cached}
use Rattle.spec_board.specs.Results.{entry_of, numbers_of, covering, exact_entry, found_by, looked}
use Rattle.table_laws.proofs.MemberLaws.{Among}
use Rattle.table_laws.proofs.KeyLaws.{same-eq}
use Rattle.board_laws.proofs.ListLaws.{find-some}
use Rattle.board_laws.proofs.NumberLaws.{Rising, entry_of-some, entry_of-among}

-- A slot names an entry that covers its key, if a live one.
pub record IsSlot (s : State) (x : Slot) : Type 0 where
  pub made : x.entry ≤ s.made
  pub covers : (e : Entry) → Among e s.entries → e.number ≡ x.entry → agree x.key e.key e.mask ≡ true

-- The entry of a number is live and covers a key.
pub record Hits (s : State) (key : List ℕ) (n : ℕ) : Type 0 where
  pub entry : Entry
  pub live : Among entry s.entries
  pub number : entry.number ≡ n
  pub is : entry_of n s.entries ≡ Some entry
  pub covers : agree key entry.key entry.mask ≡ true

pub record Caches (slots : List Slot) (key : List ℕ) (m : ℕ) : Type 0 where
  pub slot : Slot
  pub there : Among slot slots
  pub same_key : slot.key ≡ key
  pub entry : slot.entry ≡ m

module _ (slots : List Slot) (wanted : List ℕ) (m : ℕ) where
  slot_caches : (i : ℕ) (o : Option Slot) → slot_at slots i ≡ o → holds wanted o ≡ true → option_map (λ (x : Slot). x.entry) o ≡ Some m → Caches slots wanted m
  slot_caches i None q h e = absurd (cc h)
  slot_caches i (Some x) q h e = record { slot = x; there = (find-some _ slots x q).0; same_key = same-eq x.key wanted h; entry = cc e }

  either_caches : (a b : ℕ) (t u : Bool) → holds wanted (slot_at slots a) ≡ t → holds wanted (slot_at slots b) ≡ u
      → (if t then option_map (λ (x : Slot). x.entry) (slot_at slots a)
      else (if u then option_map (λ (x : Slot). x.entry) (slot_at slots b) else None)) ≡ Some m → Caches slots wanted m
  either_caches a b true u p q e = slot_caches a (slot_at slots a) refl p e
  either_caches a b false true p q e = slot_caches b (slot_at slots b) refl q e
  either_caches a b false false p q e = absurd (cc e)

  pub cached-caches : cached slots wanted ≡ Some m → Caches slots wanted m
  cached-caches e =
      let first = first_slot wanted in
      let second = second_slot wanted in
      either_caches first second (holds wanted (slot_at slots first)) (holds wanted (slot_at slots second)) refl refl e

module _ (s : State) (rising : Rising (numbers_of s.entries)) (slots : (x : Slot) → Among x s.slots → IsSlot s x) (key : List ℕ) (n : ℕ) where
  exact_by : (o : Option ℕ) → cached s.slots key ≡ o → (e : Entry) → option_and_then (λ (m : ℕ). entry_of m s.entries) o ≡ Some e → n ≡ e.number → Hits s key n
  exact_by None q e h is = absurd (cc h)
  exact_by (Some m) q e h is =
      let r = entry_of-some m s.entries e h in
      let c = cached-caches s.slots key m q in
      record {
        entry = e;
        live = r.0;
        number = sym is;
        is = ap (λ (k : ℕ). entry_of k s.entries) is ∙ entry_of-among e s.entries rising r.0;
        covers = subst (λ (k : List ℕ). agree k e.key e.mask ≡ true) c.same_key ((slots c.slot c.there).covers e r.0 (r.1 ∙ sym c.entry));
      }

  exact_found : (o p : Option Entry) → Exact n ≡ found_by o p → (e : Entry) × (o ≡ Some e) × (n ≡ e.number)
  exact_found (Some e) p h = (e, refl, cc h)
  exact_found None (Some e) h = absurd (cc h)
  exact_found None None h = absurd (cc h)

  mega_found : (o p : Option Entry) → Mega n ≡ found_by o p → (e : Entry) × (p ≡ Some e) × (n ≡ e.number)
  mega_found (Some e) p h = absurd (cc h)
  mega_found None (Some e) h = (e, refl, cc h)
  mega_found None None h = absurd (cc h)

  pub exact_hits : Exact n ≡ looked key s → Hits s key n
  exact_hits h = let r = exact_found (exact_entry key s) (covering key s.entries) h in exact_by (cached s.slots key) refl r.0 r.1 r.2

  pub mega_hits : Mega n ≡ looked key s → Hits s key n
  mega_hits h =
      let r = mega_found (exact_entry key s) (covering key s.entries) h in
      let f = find-some (λ (e : Entry). agree key e.key e.mask) s.entries r.0 r.1 in
      record {
        entry = r.0;
        live = f.0;
        number = sym r.2;
        is = ap (λ (k : ℕ). entry_of k s.entries) r.2 ∙ entry_of-among r.0 s.entries rising f.0;
        covers = f.1;
      }
