-- A file that is created, filled and closed.
use Rattle.std.proofs.Common.{◌≡◌, [], Result, Ok, Err, ap, subst, ◌∙◌}
use Rattle.std.specs.Prelude.{IsTrue}
use Rattle.spec_base.specs.Files.{File}
use Rattle.edge_io.specs.declared.outside.Failed.{Failed}
use Rattle.edge_io.specs.declared.outside.InUse.TheVariants.{Nothing}
use Rattle.edge_io.specs.declared.outside.Shelf as shelf
use Rattle.edge_io.specs.Counts.{Counts, HasCause, with_write_fault}
use Rattle.edge_io.specs.Shelf.{Told, wrote, closed, kept}
use Rattle.edge_io.specs.Written.{WritesAll, WritesFile}
use Rattle.edge_io.proofs.Always.{on_ok, on_err}
use Rattle.edge_io.proofs.Files.{created_prefix, closed_prefix, closed_whole}
use Rattle.edge_io.proofs.InTurn.{recounted}

-- a cause holds from where the counts stood the same
since : {T : Type 0} {before mid now : Counts} {r : Result T Failed} → mid ≡ before → HasCause with_write_fault mid now r → HasCause with_write_fault before now r
since {T} {before} {mid} {now} {r} same cause = subst (λ x. HasCause with_write_fault x now r) same cause

module _ {S : Type 0} (g : shelf.Ghosts S) (old begun : S) (file : File)
    (created : IsTrue g.tells → g.told begun ≡ record (g.told old) { current = []; last = file.0 })
    (noted : IsTrue g.tells → g.counts_at_last begun ≡ g.counts old) (counts : g.counts begun ≡ g.counts old) where
  -- it was cut short
  pub cut : {T U : Type 0} (now : S) (e : Failed) (r : Result U Failed) → r ≡ Err e → WritesAll g begun now {T = T} file.1 (Err e)
      → WritesFile g old now file r
  cut now e r is w = rw is (record {
    in_use = tt;
    ok = λ t. tt;
    err = λ t. created_prefix (g.told old) (g.told now) file (g.in_use now) (g.told begun) w.in_use (created t) (w.err t);
    named = λ t _.
        let prefix = w.err t in
        ap (λ (x : Told). x.last) prefix.1 ∙ ap (λ (x : Told). x.last) (created t);
    since = λ t _. w.since t ∙ noted t;
    opened = λ t.
        let prefix = w.err t in
        ap (λ (x : Told). x.opened) prefix.1 ∙ ap (λ (x : Told). x.opened) (created t);
    cause = recounted with_write_fault _ _ e (since counts w.cause);
  })

  -- it was filled and closed, whatever closing it answers
  pub whole : {T U : Type 0} (filled now : S) (a : T) (r : Result U Failed) → WritesAll g begun filled file.1 (Ok a)
      → g.in_use now ≡ Nothing → (IsTrue g.tells → g.told now ≡ closed (g.told filled)) → (IsTrue g.tells → g.counts_at_last now ≡ g.counts_at_last filled)
      → HasCause with_write_fault (g.counts filled) (g.counts now) r
      → WritesFile g old now file r
  whole filled now a r w idle is stands cause = record {
    in_use = on_ok r idle;
    ok = λ t. on_ok r (made t);
    err = λ t. on_err r (closed_prefix (g.told old) (g.told now) file (g.in_use now) idle (made t));
    named = λ t _. ap (λ (x : Told). x.last) (made t);
    since = λ t _. stands t ∙ w.since t ∙ noted t;
    opened = λ t. ap (λ (x : Told). x.opened) (made t);
    cause = since (w.cause.ok ∙ counts) cause;
  }
    where
      made : IsTrue g.tells → g.told now ≡ kept (g.told old) file
      made t = closed_whole (g.told old) (g.told filled) (g.told now) file (w.ok t ∙ ap (λ (x : Told). wrote x file.1) (created t)) (is t)
