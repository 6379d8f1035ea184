-- The first file of a name stands where the search for it ends.
use Rattle.std.proofs.Common.{◌≡◌, ℕ, ◌<◌, true, List, length, drop, get_or, Some, String, Vec, Global, string_bytes, nat_eq, refl}
use Rattle.std.specs.Cmp.Lexicographic.{pointwise}
use Rattle.std.proofs.lemmas.Option.{slice_get_read, slice_get-map}
use Rattle.std.proofs.Math.Seq.{drop-cons}
use Rattle.spec_base.specs.Files.{lookup}
use Rattle.edge_io.specs.Stored.{pairs, contents_of}

pub found_at : (files : List (String Global × Vec ℕ Global)) (name : List ℕ) (place : ℕ) (file : String Global × Vec ℕ Global) →
    place < length files → file ≡ get_or files place file →
    pointwise nat_eq (string_bytes file.0) name ≡ true →
    lookup (pairs (drop place files)) name ≡ lookup (pairs files) name →
    lookup (pairs files) name ≡ Some (contents_of (pairs files) (Some place))
found_at files name place file within is named passed =
    let got = slice_get_read files (length files) place file refl within is in
    let prefix = drop-cons files place file within in
    rw (slice_get-map, got, ← passed, prefix, ← is, named) refl
