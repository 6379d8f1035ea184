-- Files that are created, written and closed: what is written of one is a prefix of it, wherever it ends.
use Rattle.std.proofs.Common.{◌≡◌, ℕ, List, [], length, refl, sym, ap, ◌∙◌, inl, inr, arith}
use Rattle.std.specs.Prelude.{◌∷◌, ◌++◌, Err}
use Rattle.std.proofs.lemmas.List.{take_all}
use Rattle.spec_base.specs.Files.{File, IsPrefixOf}
use Rattle.edge_io.specs.declared.outside.Failed.{Failed}
use Rattle.edge_io.specs.declared.outside.Failed.TheVariants.{Fault, OutOfMemory}
use Rattle.edge_io.specs.declared.outside.InUse.{InUse}
use Rattle.edge_io.specs.declared.outside.InUse.TheVariants.{Nothing, Created}
use Rattle.edge_io.specs.Shelf.{Told, Creates, closed, kept}
use Rattle.edge_io.specs.Written.{written, WrotePrefix}

module _ (before after : Told) (file : File) (in_use : InUse) where
  -- one that was not created
  pub refused_prefix : {T : Type 0} (e : Failed) → in_use ≡ Nothing → Creates {T = T} before after file.0 (Err e)
      → IsPrefixOf before.done file (written in_use after)
  refused_prefix Fault is made = rw (is, made.fault refl) (inl refl)
  refused_prefix OutOfMemory is made = rw (is, made.no_memory refl) (inl refl)

  -- one that was cut short
  pub created_prefix : (begun : Told) → in_use ≡ Created → begun ≡ record before { current = []; last = file.0 }
      → WrotePrefix begun after file.1 → IsPrefixOf before.done file (written in_use after)
  created_prefix begun is created prefix =
      let all = rw created at prefix.1 in
      rw (is, all) (inr (prefix.0, refl))

  -- one that was written whole
  pub closed_prefix : in_use ≡ Nothing → after ≡ kept before file → IsPrefixOf before.done file (written in_use after)
  closed_prefix is whole =
      rw (is, whole) (inr (length file.1, ap (λ (b : List ℕ). before.done ++ (file.0, b) ∷ []) (sym (take_all (length file.1) file.1 (omega arith)))))

-- a file that was created, written whole and closed is kept
pub closed_whole : (before filled after : Told) (file : File) → filled ≡ record before { current = file.1; last = file.0 }
    → after ≡ closed filled → after ≡ kept before file
closed_whole before filled after file whole end = end ∙ ap closed whole
