-- Reading a whole file: `opened` says what opening it told, `read` what reading it to its end and closing it did.
use Rattle.std.proofs.Common.{◌≡◌, ℕ, ◌<◌, ◌≤◌, List, [], length, Result, Ok, Err, Option, Some, Vec, Global, vec_len, sym, ap, ◌∙◌, inl, arith}
use Rattle.std.specs.Prelude.{IfOk, OnOk, IsOk}
use Rattle.std.proofs.lemmas.Result.{on_ok_weaker}
use Rattle.edge_io.specs.declared.reading.ReadFault.{ReadFault}
use Rattle.edge_io.specs.Shelf.{Told, asked}
use Rattle.edge_io.specs.ReadAll.{was_read, OnlyRead, IsAsked, Names}
use Rattle.edge_io.proofs.Always.{on_ok}

pub bytes : (contents : Option (List ℕ)) (left : List ℕ) (r : Result (Vec ℕ Global) ReadFault) →
    contents ≡ Some left → IfOk r (λ v. v.items ≡ left) → IfOk r (λ v. contents ≡ Some v.items)
bytes contents left (Ok v) found e = found ∙ ap Some (sym e)
bytes contents left (Err f) found e = tt

pub not_ok : (left : List ℕ) (max : ℕ) (r : Result (Vec ℕ Global) ReadFault) →
    IfOk r (λ v. v.items ≡ left) → IfOk r (λ v. vec_len v ≤ max) → max < length left → ¬ IsOk r
not_ok left max (Ok v) e bound long ok = let n = ap length e in omega arith
not_ok left max (Err f) e bound long ok = cc

module _ {T : Type 0} (before mid after : Told) (name : List ℕ) (r : Result T ReadFault)
    (opened : mid ≡ record (asked before name) { left = mid.left })
    (read : after ≡ record mid { left = after.left }) where
  closed : after.left ≡ [] → after ≡ was_read before name
  closed none =
      let ended : record mid { left = after.left } ≡ record mid { left = [] } =
      ap (λ (x : List ℕ). let t : Told = record mid { left = x } in t) none in
      let began : record mid { left = [] } ≡ was_read before name =
      ap (λ (x : Told). let t : Told = record x { left = [] } in t) opened in
      read ∙ (ended ∙ began)

  pub told : OnOk r (after.left ≡ []) → OnOk r (after ≡ was_read before name)
  told none = on_ok_weaker r closed none

  pub only_read : OnlyRead before after
  only_read =
      let e : after ≡ record (asked before name) { left = after.left } =
      read ∙ ap (λ (x : Told). let t : Told = record x { left = after.left } in t) opened in
      e ∙ ap (λ (x : Told). let t : Told = record before { left = after.left; last = x.last; opened = x.opened } in t)
      (sym e)

  pub names : Names before after name r
  names =
      let is : IsAsked before after name = record {
        last = ap (λ (t : Told). t.last) read ∙ ap (λ (t : Told). t.last) opened;
        opened = ap (λ (t : Told). t.opened) read ∙ ap (λ (t : Told). t.opened) opened;
      } in
      record { ok = on_ok r is; fault = λ _. is; over = λ _. is; no_memory = λ _. inl is }
