-- Reading, stage after stage: what it does to a shelf in all.
use Rattle.std.proofs.Common.{◌≡◌, ℕ, List, [], ◌∷◌, ◌++◌, refl, sym, ap, ◌∙◌, subst, append_assoc}
use Rattle.std.specs.Prelude.{Result, Ok, Err, IfErr}
use Rattle.std.proofs.lemmas.List.{append-nil}
use Rattle.edge_io.specs.declared.outside.Shelf as shelf
use Rattle.edge_io.specs.Counts.{Counts}
use Rattle.edge_io.specs.Shelf.{Told}
use Rattle.edge_io.specs.Opened.{HasOpened, HasOpenedPrefix}
use Rattle.edge_io.specs.ReadAll.{OnlyRead}
use Rattle.switch_input.specs.declared.refusals.refusal.InputFault.{InputFault}
use Rattle.switch_input.specs.declared.refusals.refusal.InputRefusal.{InputRefusal}
use Rattle.switch_input.specs.declared.refusals.refusal.InputRefusal.TheVariants.{Input, ReadFault, OutOfMemory}
use Rattle.switch_input.specs.Reading.{Ending, Read, FailedIn, RanOut, IfFailed, HasCounted, HasOpenedUntil, ReadsWhere}
use Rattle.switch_input.specs.Refused.{TellsNoFault, stop_of, ending_of}

-- ---- what is told

pub only_read-trans : (a b c : Told) → OnlyRead a b → OnlyRead b c → OnlyRead a c
only_read-trans a b c first second = second ∙ ap (λ (w : Told). let x : Told = record w { left = c.left; last = c.last; opened = c.opened } in x) first

pub opened_none : (t : Told) → HasOpened t t []
opened_none t = sym (append-nil t.opened)

pub none_yet : (t : Told) (names : List (List ℕ)) → HasOpenedPrefix t t names
none_yet t names = record { opened = []; left = names; are_names = refl; has_opened = opened_none t }

pub all_is_prefix : (before now : Told) (names : List (List ℕ)) → HasOpened before now names → HasOpenedPrefix before now names
all_is_prefix before now names opened = record { opened = names; left = []; are_names = sym (append-nil names); has_opened = opened }

-- those opened before, and then these
pub opened_both : (before mid now : Told) (done next : List (List ℕ)) → HasOpened before mid done → HasOpened mid now next → HasOpened before now (done ++ next)
opened_both before mid now done next first second =
    second ∙ ap (λ ns. ns ++ next) first ∙ append_assoc before.opened done next

-- and then these, up to where it ends
pub opened_then : (before mid now : Told) (done next : List (List ℕ)) (e : Ending) → HasOpened before mid done → HasOpenedUntil mid now next e
    → HasOpenedUntil before now (done ++ next) e
opened_then before mid now done next Read first until = opened_both before mid now done next first until
opened_then before mid now done next (FailedIn name) first until = record {
  earlier = done ++ until.earlier;
  later = until.later;
  are_names = ap (λ ns. done ++ ns) until.are_names ∙ sym (append_assoc done until.earlier (name ∷ until.later));
  has_opened = opened_both before mid now done (until.earlier ++ name ∷ []) first until.has_opened ∙ ap (λ ns. before.opened ++ ns) (sym (append_assoc done until.earlier (name ∷ [])));
}
opened_then before mid now done next RanOut first until = record {
  opened = done ++ until.opened;
  left = until.left;
  are_names = ap (λ ns. done ++ ns) until.are_names ∙ sym (append_assoc done until.opened until.left);
  has_opened = opened_both before mid now done until.opened first until.has_opened;
}

counted_after : (before mid now : Counts) (e : Ending) → mid ≡ before → HasCounted mid now e → HasCounted before now e
counted_after before mid now e same counted = subst (λ (c : Counts). HasCounted c now e) same counted

since_after : (P Q : Counts) (at_last : Counts) (e : Ending) → P ≡ Q → IfFailed e (λ _. at_last ≡ P) → IfFailed e (λ _. at_last ≡ Q)
since_after P Q at_last e same since = subst (λ (c : Counts). IfFailed e (λ _. at_last ≡ c)) same since

-- ---- the shelf

module _ (knows : Type 0) {S : Type 0} (g : shelf.Ghosts S) where
  -- nothing is read
  pub reads_none : (s : S) → ReadsWhere knows g s s [] Read
  reads_none s = record {
    counts = refl;
    since = λ k. tt;
    named = λ k. tt;
    only_read = λ k. refl;
    opened = λ k. opened_none (g.told s);
  }

  -- nothing was read yet
  pub reads_unbegun : (s : S) (names : List (List ℕ)) → ReadsWhere knows g s s names RanOut
  reads_unbegun s names = record {
    counts = refl;
    since = λ k. tt;
    named = λ k. tt;
    only_read = λ k. refl;
    opened = λ k. none_yet (g.told s) names;
  }

  module _ (old new : S) (names : List (List ℕ)) (read : ReadsWhere knows g old new names Read) where
    -- what was read is all, and then it is refused, or memory runs out
    pub reads_out : ReadsWhere knows g old new names RanOut
    reads_out = record {
      counts = read.counts;
      since = λ k. tt;
      named = λ k. tt;
      only_read = read.only_read;
      opened = λ k. all_is_prefix (g.told old) (g.told new) names (read.opened k);
    }

    pub reads_still : (r : InputRefusal) → TellsNoFault r → ReadsWhere knows g old new names (stop_of r)
    reads_still (Input fault) never = read
    reads_still (ReadFault name) never = absurd never
    reads_still OutOfMemory never = reads_out

    pub reads_ending : {T : Type 0} (result : Result T InputRefusal) → IfErr result TellsNoFault → ReadsWhere knows g old new names (ending_of result)
    reads_ending (Ok a) never = read
    reads_ending (Err r) never = reads_still r never

  -- files were read and no call failed, and then more are read
  module _ (old mid new : S) (counts : g.counts mid ≡ g.counts old) (only_read : knows → OnlyRead (g.told old) (g.told mid)) where
    pub reads_after : (next all : List (List ℕ)) (e : Ending) → ReadsWhere knows g mid new next e → (knows → HasOpenedUntil (g.told old) (g.told new) all e)
        → ReadsWhere knows g old new all e
    reads_after next all e more opened = record {
      counts = counted_after (g.counts old) (g.counts mid) (g.counts new) e counts more.counts;
      since = λ k. since_after (g.counts mid) (g.counts old) (g.counts_at_last new) e counts (more.since k);
      named = more.named;
      only_read = λ k. only_read-trans (g.told old) (g.told mid) (g.told new) (only_read k) (more.only_read k);
      opened = opened;
    }

-- where more has to be known
pub reads_knowing : (knows knows_more : Type 0) → (knows_more → knows) → {S : Type 0} (g : shelf.Ghosts S) (old new : S) (names : List (List ℕ)) (e : Ending)
    → ReadsWhere knows g old new names e → ReadsWhere knows_more g old new names e
reads_knowing knows knows_more more g old new names e read = record {
  counts = read.counts;
  since = λ k. read.since (more k);
  named = λ k. read.named (more k);
  only_read = λ k. read.only_read (more k);
  opened = λ k. read.opened (more k);
}
