-- What follows from a result.
use Rattle.std.proofs.Common.{◌≡◌, Result, Ok, Err}
use Rattle.std.specs.Prelude.{is_ok, if◌then◌else◌}
use Rattle.std.specs.Result.{OnOk, OnErr}

pub on_ok_if : {T E X : Type 0} (r : Result T E) (is one other : X) (P : Type 0) → is ≡ (if is_ok r then one else other) → (is ≡ one → P) → OnOk r P
on_ok_if (Ok x) is one other P h f = f h
on_ok_if (Err e) is one other P h f = tt

pub on_err_if : {T E X : Type 0} (r : Result T E) (is one other : X) (P : Type 0) → is ≡ (if is_ok r then one else other) → (is ≡ other → P) → OnErr r P
on_err_if (Ok x) is one other P h f = tt
on_err_if (Err e) is one other P h f = f h

pub on_err_always : {T E : Type 0} (r : Result T E) (P : Type 0) → P → OnErr r P
on_err_always (Ok x) P h = tt
on_err_always (Err e) P h = h
