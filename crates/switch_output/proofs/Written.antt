-- The files of a run, one after the other, as they are written.
use Rattle.std.proofs.Common.{◌≡◌, ℕ, zero, suc, ◌+◌, ◌<◌, ◌≤◌, List, [], ◌∷◌, ◌++◌, length, get_or, take, map, Some, refl, sym, ap, ◌∙◌, append_assoc, inl, arith}
use Rattle.std.specs.Prelude.{Result, Ok, Err, slice_get}
use Rattle.std.specs.List.{enumerate_from}
use Rattle.std.proofs.lemmas.List.{length-map, take_all, append-nil}
use Rattle.std.proofs.lemmas.List.FromFn.{length-enumerate_from, get_or-enumerate_from}
use Rattle.std.proofs.lemmas.Option.{slice_get-get_or}
use Rattle.std.proofs.Math.ListN.{get_or-map}
use Rattle.spec_base.specs.Files.{File, IsPrefixOf}
use Rattle.spec_input.specs.Mirrors.{Mirror}
use Rattle.spec_run.specs.CutShort.{IsCutShort}
use Rattle.edge_io.specs.Shelf.{Told}
use Rattle.switch_output.specs.declared.refusal.WriteRefusal.{WriteRefusal}
use Rattle.edge_io.specs.declared.outside.Shelf as shelf
use Rattle.edge_io.specs.declared.outside.InUse.TheVariants.{Nothing}
use Rattle.switch_output.specs.declared.refusal.WriteRefusal.TheVariants.{OutOfMemory}
use Rattle.switch_output.specs.Refused.{IfWriteFault, IsCutIn, WritesOne, WritesInTurn}

-- one more of these files, after those before it
pub one_more : (files : List File) (i : ℕ) (f : File) (done before now : List File) → slice_get files i ≡ Some f
    → before ≡ done ++ take i files → now ≡ before ++ f ∷ [] → now ≡ done ++ take (i + 1) files
one_more files i f done before now here so_far grown =
    grown ∙ ap (λ fs. fs ++ f ∷ []) so_far ∙ append_assoc done (take i files) (f ∷ []) ∙ ap (λ fs. done ++ fs) (sym (take-next files i f here))
  where
    take-next : (fs : List File) (i : ℕ) (f : File) → slice_get fs i ≡ Some f → take (i + 1) fs ≡ take i fs ++ f ∷ []
    take-next [] zero f is = cc is
    take-next [] (suc i) f is = cc is
    take-next (x ∷ fs) zero f is = let same : x ≡ f = cc is in ap (λ y. y ∷ []) same
    take-next (x ∷ fs) (suc i) f is =
        let e : suc i + 1 ≡ suc (i + 1) = omega arith in
        ap (λ n. take n (x ∷ fs)) e ∙ ap (λ ys. x ∷ ys) (take-next fs i f is)

-- it is cut short there
cut_at : (files : List File) (i : ℕ) (f : File) (done before now : List File) → slice_get files i ≡ Some f
    → before ≡ done ++ take i files → IsPrefixOf before f now → IsCutShort files f done now
cut_at files i f done before now here so_far prefix = record { whole = i; next = here; prefix = rw (← so_far) prefix }

-- the file of the port that has this index
pub port_at : (file : ℕ → File) (ports all : List ℕ) (i : ℕ) → ports ≡ all → i < length ports → slice_get (map file all) i ≡ Some (file (get_or ports i 0))
port_at file ports all i same lt =
    let len : i < length (map file ports) = rw (length-map ports file) lt in
    rw (← same) (slice_get-get_or (map file ports) i (file 0) len ∙ ap (λ f. Some f) (get_or-map file ports i 0))

-- the file of the mirror that has this index
pub mirror_at : (file : ℕ → Mirror → File) (mirrors : List Mirror) (i : ℕ) (m : Mirror) → i < length mirrors → m ≡ get_or mirrors i m
    → slice_get (map (λ (n : ℕ × Mirror). file n.0 n.1) (enumerate_from 1 mirrors)) i ≡ Some (file (i + 1) m)
mirror_at file mirrors i m lt is =
    let by : ℕ × Mirror → File = λ n. file n.0 n.1 in
    let numbered : List (ℕ × Mirror) = enumerate_from 1 mirrors in
    let len : i < length (map by numbered) = rw (length-map numbered by, length-enumerate_from 1 mirrors) lt in
    let e : 1 + i ≡ i + 1 = omega arith in
    slice_get-get_or (map by numbered) i (by (1, m)) len
    ∙ ap (λ f. Some f) (get_or-map by numbered i (1, m) ∙ ap by (get_or-enumerate_from 1 mirrors i (1, m) lt) ∙ ap (λ n. file n (get_or mirrors i m)) e)
    ∙ ap (λ x. Some (file (i + 1) x)) (sym is)

-- all of them, where none is left
pub all_mirrors : (file : ℕ → Mirror → File) (mirrors : List Mirror) (i : ℕ) (done now : List File) → length mirrors ≤ i
    → now ≡ done ++ take i (map (λ (n : ℕ × Mirror). file n.0 n.1) (enumerate_from 1 mirrors)) → now ≡ done ++ map (λ (n : ℕ × Mirror). file n.0 n.1) (enumerate_from 1 mirrors)
all_mirrors file mirrors i done now le so_far =
    let by : ℕ × Mirror → File = λ n. file n.0 n.1 in
    let numbered : List (ℕ × Mirror) = enumerate_from 1 mirrors in
    let len : length (map by numbered) ≤ i = rw (length-map numbered by, length-enumerate_from 1 mirrors) le in
    so_far ∙ ap (λ fs. done ++ fs) (take_all i (map by numbered) len)

-- ---- more files, after these

nothing-at : (i : ℕ) (f : File) → slice_get {X = File} [] i ≡ Some f → ⊥
nothing-at zero f e = cc e
nothing-at (suc i) f e = cc e

get-first : (files : List File) (i : ℕ) (more : List File) (f : File) → slice_get files i ≡ Some f → slice_get (files ++ more) i ≡ Some f
get-first [] i more f is = absurd (nothing-at i f is)
get-first (x ∷ files) zero more f is = is
get-first (x ∷ files) (suc i) more f is = get-first files i more f is

take-first : (files : List File) (i : ℕ) (more : List File) (f : File) → slice_get files i ≡ Some f → take i (files ++ more) ≡ take i files
take-first [] zero more f is = refl
take-first [] (suc i) more f is = absurd (nothing-at (suc i) f is)
take-first (x ∷ files) zero more f is = refl
take-first (x ∷ files) (suc i) more f is = ap (λ ys. x ∷ ys) (take-first files i more f is)

-- what is cut short among the first files is so among all
cut_before : (files more : List File) (file : File) (done now : List File) → IsCutShort files file done now → IsCutShort (files ++ more) file done now
cut_before files more file done now cut = record {
  whole = cut.whole;
  next = get-first files cut.whole more file cut.next;
  prefix = rw (take-first files cut.whole more file cut.next) cut.prefix;
}

get-after : (files more : List File) (i : ℕ) → slice_get (files ++ more) (length files + i) ≡ slice_get more i
get-after [] more i = let e : 0 + i ≡ i = omega arith in ap (λ n. slice_get more n) e
get-after (x ∷ files) more i =
    let e : length (x ∷ files) + i ≡ suc (length files + i) = omega arith in
    ap (λ n. slice_get (x ∷ files ++ more) n) e ∙ get-after files more i

take-after : (files more : List File) (i : ℕ) → take (length files + i) (files ++ more) ≡ files ++ take i more
take-after [] more i = let e : 0 + i ≡ i = omega arith in ap (λ n. take n more) e
take-after (x ∷ files) more i =
    let e : length (x ∷ files) + i ≡ suc (length files + i) = omega arith in
    ap (λ n. take n (x ∷ files ++ more)) e ∙ ap (λ ys. x ∷ ys) (take-after files more i)

-- what is cut short among the later files is so among all, where the others are whole
cut_after : (files more : List File) (file : File) (done now : List File) → IsCutShort more file (done ++ files) now → IsCutShort (files ++ more) file done now
cut_after files more file done now cut = record {
  whole = length files + cut.whole;
  next = get-after files more cut.whole ∙ cut.next;
  prefix = rw (take-after files more cut.whole, ← append_assoc done files (take cut.whole more)) cut.prefix;
}

-- ---- what a refusal says of it

pub cut_in_at : (files : List File) (i : ℕ) (f : File) (done before now : List File) (r : WriteRefusal) → slice_get files i ≡ Some f
    → before ≡ done ++ take i files → IsPrefixOf before f now → IfWriteFault r (λ name. name ≡ f.0) → IsCutIn files done now r
cut_in_at files i f done before now r here so_far prefix named =
    record { file = f; cut = cut_at files i f done before now here so_far prefix; named = named }

cut_in_first : (files more : List File) (done now : List File) (r : WriteRefusal) → IsCutIn files done now r → IsCutIn (files ++ more) done now r
cut_in_first files more done now r cut = record { file = cut.file; cut = cut_before files more cut.file done now cut.cut; named = cut.named }

cut_in_later : (files more : List File) (done before now : List File) (r : WriteRefusal) → before ≡ done ++ files → IsCutIn more before now r → IsCutIn (files ++ more) done now r
cut_in_later files more done before now r whole cut =
    record { file = cut.file; cut = cut_after files more cut.file done now (rw (← whole) cut.cut); named = cut.named }

-- ---- files in turn

module _ {S : Type 0} (g : shelf.Ghosts S) where
  -- those after the one at which writing stopped don't matter
  pub stopped_in_turn : {T U : Type 0} (old new : S) (files more : List File) (r : WriteRefusal) → WritesInTurn g old new {T = T} files (Err r)
      → WritesInTurn g old new {T = U} (files ++ more) (Err r)
  stopped_in_turn old new files more r w = record {
    in_use = tt;
    ok = λ t. tt;
    err = λ t. cut_in_first files more _ _ r (w.err t);
    named = w.named;
    since = w.since;
    opened = w.opened;
    counts = tt;
    cause = w.cause;
  }

  -- more files after those that are whole
  pub then_in_turn : {T U : Type 0} (old mid new : S) (files more : List File) (a : T) (result : Result U WriteRefusal)
      → WritesInTurn g old mid files (Ok a) → WritesInTurn g mid new more result → WritesInTurn g old new (files ++ more) result
  then_in_turn old mid new files more a (Ok b) first w = record {
    in_use = w.in_use;
    ok = λ t. w.ok t ∙ ap (λ done. done ++ more) (first.ok t) ∙ append_assoc (g.told old).done files more;
    err = λ t. tt;
    named = λ t. tt;
    since = λ t. tt;
    opened = λ t. w.opened t ∙ first.opened t;
    counts = w.counts ∙ first.counts;
    cause = tt;
  }
  then_in_turn old mid new files more a (Err r) first w = record {
    in_use = tt;
    ok = λ t. tt;
    err = λ t. cut_in_later files more _ _ _ r (first.ok t) (w.err t);
    named = w.named;
    since = rw (← first.counts) w.since;
    opened = λ t. w.opened t ∙ first.opened t;
    counts = tt;
    cause = rw (← first.counts) w.cause;
  }

  -- ---- one file

  -- none of these is written where there is no memory for a name
  pub unwritten_in_turn : {T : Type 0} (now : S) (file : File) (more : List File) → g.in_use now ≡ Nothing → WritesInTurn g now now {T = T} (file ∷ more) (Err OutOfMemory)
  unwritten_in_turn now file more none = record {
    in_use = tt;
    ok = λ t. tt;
    err = λ t. record { file = file; cut = record { whole = 0; next = refl; prefix = rw (append-nil (g.told now).done, none) (inl refl) }; named = tt };
    named = λ t. tt;
    since = λ t. tt;
    opened = λ t. refl;
    counts = tt;
    cause = refl;
  }

  -- nor is any of these, where one is sure to be among them
  pub unwritten_before : {T : Type 0} (now : S) (first : List File) (file : File) (more : List File) → g.in_use now ≡ Nothing
      → WritesInTurn g now now {T = T} (first ++ file ∷ more) (Err OutOfMemory)
  unwritten_before now [] file more none = unwritten_in_turn now file more none
  unwritten_before now (f ∷ first) file more none = unwritten_in_turn now f (first ++ file ∷ more) none

  -- a file is one in turn by itself
  pub one_in_turn : {T : Type 0} (old new : S) (file : File) (result : Result T WriteRefusal) → WritesOne g old new file result → WritesInTurn g old new (file ∷ []) result
  one_in_turn old new file (Ok a) w = record {
    in_use = w.in_use;
    ok = λ t. ap (λ (w : Told). w.done) (w.ok t);
    err = λ t. tt;
    named = λ t. tt;
    since = λ t. tt;
    opened = w.opened;
    counts = w.counts;
    cause = tt;
  }
  one_in_turn old new file (Err r) w = record {
    in_use = tt;
    ok = λ t. tt;
    err = λ t. record { file = file; cut = record { whole = 0; next = refl; prefix = rw (append-nil (g.told old).done) (w.err t) }; named = w.fault };
    named = w.named;
    since = w.since;
    opened = w.opened;
    counts = tt;
    cause = w.cause;
  }
