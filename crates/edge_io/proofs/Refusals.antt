-- What reading a whole file answers where opening it was refused: `from` says that the answer is made of the
-- refusal.
use Rattle.std.proofs.Common.{◌≡◌, ℕ, List, Result, Err, sym, ap, ◌∙◌, refl, inl, inr, arith}
use Rattle.std.specs.Prelude.{IsErrOf, IsErrAnd, IfOk, IsOk}
use Rattle.std.proofs.lemmas.Result.{err_from_is_err_and}
use Rattle.edge_io.specs.declared.outside.Failed.{Failed}
use Rattle.edge_io.specs.declared.outside.Failed.TheVariants as failed
use Rattle.edge_io.specs.declared.reading.ReadFault.{ReadFault}
use Rattle.edge_io.specs.declared.reading.ReadFault.TheVariants.{Fault, Over}
use Rattle.edge_io.specs.Counts.{Counts, HasCause, Notes, ReadFailed, with_read_fault}
use Rattle.edge_io.specs.Shelf.{Told, Opens}
use Rattle.edge_io.specs.ReadAll.{read_fault_of, ReadCause, OnlyRead, IsAsked, Names}

abbrev IsFrom : {T : Type 0} → Failed → Result T ReadFault → Type 0
IsFrom f r = IsErrAnd r (λ e. e ≡ read_fault_of f)

answer : {T : Type 0} (r : Result T ReadFault) (f : Failed) → IsFrom f r → r ≡ Err (read_fault_of f)
answer r f from = let p = err_from_is_err_and r from in p.1 ∙ ap Err p.2

pub not_over : {T : Type 0} (r : Result T ReadFault) (f : Failed) → IsFrom f r → ¬ IsErrOf r Over
not_over r failed.Fault from over = let e = sym (answer r failed.Fault from) ∙ over in cc
not_over r failed.OutOfMemory from over = let e = sym (answer r failed.OutOfMemory from) ∙ over in cc

pub only_read : {U : Type 0} (before after : Told) (name : List ℕ) (f : Failed) →
    Opens {T = U} before after name (Err f) → OnlyRead before after
only_read before after name failed.Fault opens = rw (opens.fault refl) refl
only_read before after name failed.OutOfMemory opens = rw (opens.no_memory refl) refl

pub names : {T U : Type 0} (before after : Told) (name : List ℕ) (r : Result T ReadFault) (f : Failed) →
    IsFrom f r → Opens {T = U} before after name (Err f) → Names before after name r
names before after name r failed.Fault from opens =
    let e = answer r failed.Fault from in
    let told = opens.fault refl in
    let is : IsAsked before after name = record { last = ap (λ (t : Told). t.last) told; opened = ap (λ (t : Told). t.opened) told } in
    record { ok = rw e tt; fault = λ _. is; over = λ _. is; no_memory = λ _. inl is }
names before after name r failed.OutOfMemory from opens =
    let e = answer r failed.OutOfMemory from in
    let told = opens.no_memory refl in
    record {
      ok = rw e tt;
      fault = λ h. let x = sym e ∙ h in cc;
      over = λ h. absurd (not_over r failed.OutOfMemory from h);
      no_memory = λ _. inr (record { last = ap (λ (t : Told). t.last) told; opened = ap (λ (t : Told). t.opened) told });
    }

read_failed : (before now : Counts) → now ≡ with_read_fault before → ReadFailed before now
read_failed before now counted = rw counted (record { reading = omega arith; writing = refl })

pub cause : {T U : Type 0} (before now : Counts) (r : Result T ReadFault) (f : Failed) → IsFrom f r →
    HasCause {T = U} with_read_fault before now (Err f) → ReadCause before now r
cause before now r failed.Fault from has =
    let e = answer r failed.Fault from in
    record {
      fault = λ _. read_failed before now (has.fault refl);
      no_memory = λ h. let x = sym e ∙ h in cc;
      over = λ h. absurd (not_over r failed.Fault from h);
      ok = rw e tt;
    }
cause before now r failed.OutOfMemory from has =
    let e = answer r failed.OutOfMemory from in
    record {
      fault = λ h. let x = sym e ∙ h in cc;
      no_memory = λ _. has.no_memory refl;
      over = λ _. has.no_memory refl;
      ok = rw e tt;
    }

-- what was noted as the name was asked for
pub noted : {T U : Type 0} (counts before now : Counts) (r : Result T ReadFault) (f : Failed) → IsFrom f r →
    Notes {T = U} counts before now (Err f) → IsErrOf r Fault → now ≡ counts
noted counts before now r failed.Fault from notes h = notes.fault refl
noted counts before now r failed.OutOfMemory from notes h =
    let x = sym (answer r failed.OutOfMemory from) ∙ h in cc

-- Where there was no memory to begin with, nothing changed.
module _ {T : Type 0} (r : Result T ReadFault) (from : IsFrom failed.OutOfMemory r) where
  not_fault : ¬ IsErrOf r Fault
  not_fault h = let x = sym (answer r failed.OutOfMemory from) ∙ h in cc

  pub nothing_read : (P : T → Type 0) → IfOk r P
  nothing_read P = rw (answer r failed.OutOfMemory from) tt

  pub not_ok : ¬ IsOk r
  not_ok ok = let is = rw (answer r failed.OutOfMemory from) at ok in cc

  pub nothing_named : (told : Told) (name : List ℕ) → Names told told name r
  nothing_named told name = record {
    ok = rw (answer r failed.OutOfMemory from) tt;
    fault = λ h. absurd (not_fault h);
    over = λ h. absurd (not_over r failed.OutOfMemory from h);
    no_memory = λ _. inr (record { last = refl; opened = refl });
  }

  pub nothing_counted : (counts : Counts) → ReadCause counts counts r
  nothing_counted counts = record {
    fault = λ h. absurd (not_fault h);
    no_memory = λ _. refl;
    over = λ _. refl;
    ok = rw (answer r failed.OutOfMemory from) tt;
  }

  pub nothing_noted : {A : Type 0} → IsErrOf r Fault → A
  nothing_noted h = absurd (not_fault h)
