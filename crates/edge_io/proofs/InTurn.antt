-- Pieces that are written in turn to the created file, each by a call of its own.
use Rattle.std.proofs.Common.{◌≡◌, ℕ, ◌+◌, ◌<◌, List, [], ◌++◌, Result, Ok, Err, length, get_or, take, drop, sym, ap, ◌∙◌, append_assoc, refl}
use Rattle.std.specs.List.{flat_map}
use Rattle.std.proofs.lemmas.List.{append-nil}
use Rattle.std.proofs.lemmas.Result.{on_ok_weaker, on_err_weaker}
use Rattle.edge_io.specs.declared.outside.Failed.{Failed}
use Rattle.edge_io.specs.declared.outside.Failed.TheVariants.{Fault, OutOfMemory}
use Rattle.edge_io.specs.declared.outside.InUse.TheVariants.{Created}
use Rattle.edge_io.specs.declared.outside.Shelf as shelf
use Rattle.edge_io.specs.Counts.{HasCause, with_write_fault}
use Rattle.edge_io.specs.Shelf.{Told, wrote}
use Rattle.edge_io.specs.Written.{WritesAll, HasWritten}
use Rattle.edge_io.proofs.Pieces.{prefix_of_first, prefix_of_second, around, wrote_more}

-- the one piece and then the other
wrote_both : (before between after : Told) (xs ys : List ℕ) → between ≡ wrote before xs → after ≡ wrote between ys → after ≡ wrote before (xs ++ ys)
wrote_both before between after xs ys first second =
    second ∙ ap (λ (t : Told). wrote t ys) first
    ∙ ap (λ (zs : List ℕ). let told : Told = record before { current = zs } in told) (append_assoc before.current xs ys)

wrote_none : (t : Told) → t ≡ wrote t []
wrote_none t = ap (λ (xs : List ℕ). let told : Told = record t { current = xs } in told) (sym (append-nil t.current))

module _ {C : Type 0} (with_one : C → C) (before now : C) where
  uncounted : {T : Type 0} (a : T) → now ≡ before → HasCause with_one before now (Ok a)
  uncounted a same = record { fault = λ h. cc; no_memory = λ h. cc; ok = same }

  -- a refusal has its cause whatever an answer without it holds
  pub recounted : {T U : Type 0} (e : Failed) → HasCause {T = T} with_one before now (Err e) → HasCause {T = U} with_one before now (Err e)
  recounted Fault cause = record { fault = λ h. cause.fault refl; no_memory = λ h. cc; ok = tt }
  recounted OutOfMemory cause = record { fault = λ h. cc; no_memory = λ h. cause.no_memory refl; ok = tt }

module _ {S : Type 0} (g : shelf.Ghosts S) where
  -- nothing was written yet
  pub none_yet : (s : S) → g.in_use s ≡ Created → HasWritten g s s []
  none_yet s is = record { in_use = is; ok = λ t. wrote_none (g.told s); err = λ t. tt; since = λ t. refl; cause = uncounted with_write_fault _ _ tt refl }

  module _ {T U : Type 0} (old new : S) (r : Result U Failed) where
    -- the first of two pieces was cut short
    pub first_cut : (xs ys : List ℕ) (e : Failed) → r ≡ Err e → WritesAll g old new {T = T} xs (Err e) → WritesAll g old new (xs ++ ys) r
    first_cut xs ys e is w = rw is (record {
      in_use = w.in_use;
      ok = λ t. tt;
      err = λ t. prefix_of_first (g.told old) (g.told new) xs ys (w.err t);
      since = w.since;
      cause = recounted with_write_fault _ _ e w.cause;
    })

    -- the first of two is whole, and this is what became of the second
    pub second : (mid : S) (xs ys : List ℕ) (a : T) → WritesAll g old mid xs (Ok a) → WritesAll g mid new ys r → WritesAll g old new (xs ++ ys) r
    second mid xs ys a first w = record {
      in_use = w.in_use;
      ok = λ t. on_ok_weaker r (wrote_both (g.told old) (g.told mid) (g.told new) xs ys (first.ok t)) (w.ok t);
      err = λ t. on_err_weaker r (prefix_of_second (g.told old) (g.told mid) (g.told new) xs ys (first.ok t)) (w.err t);
      since = λ t. w.since t ∙ first.since t;
      cause = rw (← first.cause.ok) w.cause;
    }

  -- whatever the answer holds
  pub has_written : {T : Type 0} (old new : S) (bytes : List ℕ) (a : T) → WritesAll g old new bytes (Ok a) → HasWritten g old new bytes
  has_written old new bytes a w = record { in_use = w.in_use; ok = w.ok; err = λ t. tt; since = w.since; cause = uncounted with_write_fault _ _ tt w.cause.ok }

  -- out of memory before anything was written
  pub out_of_memory : {T : Type 0} (s : S) (bytes : List ℕ) (r : Result T Failed) → r ≡ Err OutOfMemory → g.in_use s ≡ Created → WritesAll g s s bytes r
  out_of_memory s bytes r is created = rw is (record {
    in_use = created;
    ok = λ t. tt;
    err = λ t. (0, wrote_none (g.told s));
    since = λ t. refl;
    cause = record { fault = λ h. cc; no_memory = λ h. refl; ok = tt };
  })

  -- what stands before a piece is whole, and the piece was cut short
  pub cut_within : {T U : Type 0} (old mid new : S) (before piece after all : List ℕ) → all ≡ before ++ (piece ++ after) → HasWritten g old mid before
      → (r : Result U Failed) (e : Failed) → r ≡ Err e → WritesAll g mid new {T = T} piece (Err e) → WritesAll g old new all r
  cut_within old mid new before piece after all is first r e err w =
      rw is (second old new r mid before (piece ++ after) tt first (first_cut mid new r piece after e err w))

  -- both are whole
  pub more : {T : Type 0} (old mid new : S) (before piece all : List ℕ) → all ≡ before ++ piece → HasWritten g old mid before
      → (a : T) → WritesAll g mid new piece (Ok a) → HasWritten g old new all
  more old mid new before piece all is first a w = rw is (second old new (Ok tt) mid before piece tt first (has_written mid new piece a w))

  -- ---- a piece for each element of a list

  module _ {U X : Type 0} (bytes : X → List ℕ) (old mid new : S) (xs : List X) (i : ℕ) (d : X) (lt : i < length xs)
      (before : HasWritten g old mid (flat_map bytes (take i xs))) where
    -- that of one was cut short
    pub one_cut : {V : Type 0} (r : Result V Failed) (e : Failed) → r ≡ Err e → WritesAll g mid new {T = U} (bytes (get_or xs i d)) (Err e)
        → WritesAll g old new (flat_map bytes xs) r
    one_cut r e is w =
        cut_within old mid new (flat_map bytes (take i xs)) (bytes (get_or xs i d)) (flat_map bytes (drop (i + 1) xs)) (flat_map bytes xs)
        (around bytes xs i d lt) before r e is w

    -- those up to one are whole
    pub one_more : (b : U) → WritesAll g mid new (bytes (get_or xs i d)) (Ok b) → HasWritten g old new (flat_map bytes (take (i + 1) xs))
    one_more b w = record {
      in_use = w.in_use;
      ok = λ t. wrote_more bytes (g.told old) (g.told mid) (g.told new) xs i d lt (before.ok t) (w.ok t);
      err = λ t. tt;
      since = λ t. w.since t ∙ before.since t;
      cause = uncounted with_write_fault _ _ tt (w.cause.ok ∙ before.cause.ok);
    }
