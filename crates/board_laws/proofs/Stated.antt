-- The laws in the words of their contracts.
use Rattle.std.proofs.Common.{◌≡◌, ℕ, zero, suc, ◌-◌, ◌<◌, ◌≤◌, true, false, List, [], ◌∷◌, ◌++◌, length, get_or, All, IsSome, IsNone, ◌↔◌, Option, Some, None, inl, inr, refl, sym, ap, ◌∙◌, subst, arith}
use Rattle.std.specs.List.{AllPairs, list_all}
use Rattle.std.proofs.lemmas.Bool.{and_parts}
use Rattle.spec_keys.specs.Keys.{agree, overlap}
use Rattle.spec_pcap.specs.Pcap.{Frame}
use Rattle.spec_tables.specs.Bundles.{edits_through}
use Rattle.spec_case.specs.Run.{Run, last_version, frames_of}
use Rattle.spec_case.specs.Blocks.{AreInOrder}
use Rattle.spec_board.specs.Steps.{Step}
use Rattle.spec_board.specs.State.{Entry, State, Place, Waiting, place_at, is_decided}
use Rattle.spec_board.specs.Results.{entry_of, numbers_of, covering, looked}
use Rattle.spec_board.specs.declared.looked.Looked.TheVariants.{Miss}
use Rattle.spec_board.specs.Effects.{effect}
use Rattle.spec_board.specs.Journals.{Legal, IsLegal, IsComplete, after}
use Rattle.spec_board.specs.Decisions.{IsDecided}
use Rattle.table_laws.proofs.MemberLaws.{Among, All_from-Among}
use Rattle.board_laws.specs.Entries.{HasKeys, IsMade, IsRight, AreApart, NamesCovering, IsFound}
use Rattle.board_laws.specs.Counts.{HasBoundedCounts, IsUsed}
use Rattle.board_laws.specs.Versions.{HasVersionsInOrder, IsRecent}
use Rattle.board_laws.proofs.NumberLaws.{Rising, number_among, among_number, entry_of-among}
use Rattle.board_laws.proofs.KeyFacts.{one_covers}
use Rattle.board_laws.specs.Places.{ArePlaces}
use Rattle.board_laws.proofs.PlaceLaws.{at_there}
use Rattle.board_laws.proofs.Places.{all_places}
use Rattle.board_laws.proofs.Right.{right_from-made}
use Rattle.board_laws.proofs.Added.{IsOfEdit, visits_added}
use Rattle.board_laws.proofs.Kept.{kept_after}
use Rattle.board_laws.proofs.KeptInOrder.{ordered_after}
use Rattle.board_laws.proofs.Once.{decided_in}
use Rattle.board_laws.proofs.Looks.{covering_is, none_missed, missed_none, found_as}
use Rattle.board_laws.proofs.Looked.{frame_le, due_packets_most, due_bytes_most}
use Rattle.board_laws.proofs.Balance.{packets_balance, bytes_balance}
use Rattle.board_laws.proofs.Journals.{after_step, legal_step}
use Rattle.board_laws.proofs.Used.{used_after}

-- ---- pairs

abbrev Ordered : {X : Type 0} → (X → X → Type 0) → List X → Type 0
Ordered R [] = Unit {0}
Ordered {X} R (x ∷ xs) = ((y : X) → Among y xs → R x y) × Ordered R xs

get_or-among : {X : Type 0} (xs : List X) (j : ℕ) (d : X) → j < length xs → Among (get_or xs j d) xs
get_or-among [] j d l = absurd (omega arith)
get_or-among (x ∷ xs) zero d l = inl refl
get_or-among (x ∷ xs) (suc j) d l = inr (get_or-among xs j d (omega arith))

pairs_from : {X : Type 0} (R : X → X → Type 0) (xs : List X) → Ordered R xs → AllPairs R xs
pairs_from R [] o i j d l h = absurd (omega arith)
pairs_from R (x ∷ xs) o zero zero d l h = absurd (omega arith)
pairs_from R (x ∷ xs) o zero (suc j) d l h = o.0 (get_or xs j d) (get_or-among xs j d (omega arith))
pairs_from R (x ∷ xs) o (suc i) zero d l h = absurd (omega arith)
pairs_from R (x ∷ xs) o (suc i) (suc j) d l h = pairs_from R xs o.1 i j d (omega arith) (omega arith)

ordered_entries : (es : List Entry) → Rising (numbers_of es)
    → ((e f : Entry) → Among e es → Among f es → (e.number ≡ f.number → ⊥) → overlap e.key e.mask f.key f.mask ≡ false) → Ordered AreApart es
ordered_entries [] r a = tt
ordered_entries (e ∷ es) r a = (λ f m. pair f m, ordered_entries es r.1 (λ x y mx my. a x y (inr mx) (inr my)))
  where
    pair : (f : Entry) → Among f es → AreApart e f
    pair f m =
        let l = r.0 f.number (number_among f es m) in
        let o = a e f (inl refl) (inr m) (λ q. omega (arith, q, l)) in
        record { rising = l; apart = o; one = λ key h. one_covers key e.key e.mask f.key f.mask o h }

-- ---- entries and slots

pub apart_after : (run : Run) (port limit : ℕ) (steps : List Step) → IsLegal run port limit steps → AllPairs AreApart (after run port steps).entries
apart_after run port limit steps legal =
    let es = (after run port steps).entries in
    let k = (kept_after run port limit steps legal).apart in
    pairs_from AreApart es (ordered_entries es k.rising k.disjoint)

pub numbers_from_one : (run : Run) (port limit : ℕ) (steps : List Step) → IsLegal run port limit steps
    → All (λ (e : Entry). 1 ≤ e.number) (after run port steps).entries
numbers_from_one run port limit steps legal =
    All_from-Among (λ (e : Entry). 1 ≤ e.number) (after run port steps).entries (kept_after run port limit steps legal).apart.from_one

pub numbers_made : (run : Run) (port limit : ℕ) (steps : List Step) → IsLegal run port limit steps
    → All (λ (e : Entry). e.number ≤ (after run port steps).made) (after run port steps).entries
numbers_made run port limit steps legal =
    let s = after run port steps in
    All_from-Among (λ (e : Entry). e.number ≤ s.made) s.entries (kept_after run port limit steps legal).apart.made

pub few_entries : (run : Run) (port limit : ℕ) (steps : List Step) → IsLegal run port limit steps → length (after run port steps).entries ≤ limit
few_entries run port limit steps legal = (kept_after run port limit steps legal).few

pub right_after : (run : Run) (port limit : ℕ) (steps : List Step) → HasKeys run port (after run port steps).next → IsLegal run port limit steps
    → All (IsRight run) (after run port steps).entries
right_after run port limit steps keys legal =
    All_from-Among (IsRight run) (after run port steps).entries (λ e m. right_from-made run e ((kept_after run port limit steps legal).made keys e m))

pub made_after : (run : Run) (port limit : ℕ) (steps : List Step) → HasKeys run port (after run port steps).next → IsLegal run port limit steps
    → All (IsMade run) (after run port steps).entries
made_after run port limit steps keys legal =
    All_from-Among (IsMade run) (after run port steps).entries ((kept_after run port limit steps legal).made keys)

pub entries_visit : (run : Run) (port limit : ℕ) (steps : List Step) → HasKeys run port (after run port steps).next → IsLegal run port limit steps
    → All (λ (e : Entry). All (λ r. (1 ≤ r) × (r ≤ edits_through run.bundles e.version)) e.visits) (after run port steps).entries
entries_visit run port limit steps keys legal =
    All_from-Among (λ (e : Entry). All (IsOfEdit (edits_through run.bundles e.version)) e.visits) (after run port steps).entries visits
  where
    visits : (e : Entry) → Among e (after run port steps).entries → All (IsOfEdit (edits_through run.bundles e.version)) e.visits
    visits e m =
        let made = (kept_after run port limit steps legal).made keys e m in
        subst (λ (vs : List ℕ). All (IsOfEdit (edits_through run.bundles e.version)) vs) (sym made.visits) (visits_added run e.version e.key)

pub slots_after : (run : Run) (port limit : ℕ) (steps : List Step) → IsLegal run port limit steps
    → All (NamesCovering (after run port steps).entries) (after run port steps).slots
slots_after run port limit steps legal =
    let s = after run port steps in
    All_from-Among (NamesCovering s.entries) s.slots
    (λ x m. All_from-Among _ s.entries ((kept_after run port limit steps legal).slots x m).covers)

pub entry_of_number : (run : Run) (port limit : ℕ) (steps : List Step) → IsLegal run port limit steps
    → All (λ (e : Entry). entry_of e.number (after run port steps).entries ≡ Some e) (after run port steps).entries
entry_of_number run port limit steps legal =
    let es = (after run port steps).entries in
    All_from-Among (λ (e : Entry). entry_of e.number es ≡ Some e) es
    (λ e m. entry_of-among e es (kept_after run port limit steps legal).apart.rising m)

pub covering_entry : (run : Run) (port limit : ℕ) (steps : List Step) → IsLegal run port limit steps → (key : List ℕ)
    → All (λ (e : Entry). agree key e.key e.mask ≡ true → covering key (after run port steps).entries ≡ Some e) (after run port steps).entries
covering_entry run port limit steps legal key =
    let s = after run port steps in
    All_from-Among (λ (e : Entry). agree key e.key e.mask ≡ true → covering key s.entries ≡ Some e) s.entries
    (λ e m c. covering_is s (kept_after run port limit steps legal).apart key e m c)

-- ---- looks

pub look_misses : (run : Run) (port limit : ℕ) (steps : List Step) → IsLegal run port limit steps → (key : List ℕ)
    → (looked key (after run port steps) ≡ Miss) ↔ IsNone (covering key (after run port steps).entries)
look_misses run port limit steps legal key =
    let s = after run port steps in
    let k = kept_after run port limit steps legal in (
      λ h. none_from (covering key s.entries) (missed_none s k.apart k.slots key h),
      λ h. none_missed s k.apart k.slots key (from_none (covering key s.entries) h),
    )
  where
    none_from : (o : Option Entry) → o ≡ None → IsNone o
    none_from o h = subst (λ (x : Option Entry). IsNone x) (sym h) refl

    from_none : (o : Option Entry) → IsNone o → o ≡ None
    from_none None h = refl
    from_none (Some e) h = absurd (cc h)

pub look_finds : (run : Run) (port limit : ℕ) (steps : List Step) → IsLegal run port limit steps → (key : List ℕ)
    → All (λ (e : Entry). agree key e.key e.mask ≡ true → IsFound (looked key (after run port steps)) e.number) (after run port steps).entries
look_finds run port limit steps legal key =
    let s = after run port steps in
    let k = kept_after run port limit steps legal in
    All_from-Among (λ (e : Entry). agree key e.key e.mask ≡ true → IsFound (looked key s) e.number) s.entries
    (λ e m c. found_as s k.apart k.slots key e m c)

-- ---- places and versions

pub places_after : (run : Run) (port limit : ℕ) (steps : List Step) → IsLegal run port limit steps → ArePlaces run port (after run port steps)
places_after run port limit steps legal = (kept_after run port limit steps legal).places

pub versions_after : (run : Run) (port limit : ℕ) (steps : List Step) → AreInOrder run.syncs (last_version run) → IsLegal run port limit steps
    → HasVersionsInOrder run (after run port steps)
versions_after run port limit steps in_order legal = (ordered_after run port limit in_order steps legal).versions

pub recent_after : (run : Run) (port limit : ℕ) (steps : List Step) → AreInOrder run.syncs (last_version run) → IsLegal run port limit steps
    → All (IsRecent (after run port steps)) (after run port steps).entries
recent_after run port limit steps in_order legal =
    let s = after run port steps in
    All_from-Among (IsRecent s) s.entries (ordered_after run port limit in_order steps legal).recent

pub entries_of_run : (run : Run) (port limit : ℕ) (steps : List Step) → AreInOrder run.syncs (last_version run) → IsLegal run port limit steps
    → All (λ (e : Entry). e.version ≤ last_version run) (after run port steps).entries
entries_of_run run port limit steps in_order legal =
    let s = after run port steps in
    let k = ordered_after run port limit in_order steps legal in
    All_from-Among (λ (e : Entry). e.version ≤ last_version run) s.entries
    (λ e m. omega (arith, (k.recent e m).not_newer, k.versions.within_block, (in_order s.block).1))

-- ---- sweeps

pairs_rising : (ns : List ℕ) → Rising ns → AllPairs (λ (m n : ℕ). m < n) ns
pairs_rising ns r = pairs_from (λ (m n : ℕ). m < n) ns (ordered ns r)
  where
    ordered : (ns : List ℕ) → Rising ns → Ordered (λ (m n : ℕ). m < n) ns
    ordered [] r = tt
    ordered (n ∷ ns) r = (r.0, ordered ns r.1)

pub list_rises : (run : Run) (port limit : ℕ) (steps : List Step) → IsLegal run port limit steps
    → AllPairs (λ (m n : ℕ). m < n) (after run port steps).listed
list_rises run port limit steps legal = pairs_rising (after run port steps).listed (kept_after run port limit steps legal).listed.rising

pub list_is_live : (run : Run) (port limit : ℕ) (steps : List Step) → IsLegal run port limit steps
    → All (λ n. IsSome (entry_of n (after run port steps).entries)) (after run port steps).listed
list_is_live run port limit steps legal = All_from-Among (λ n. IsSome (entry_of n (after run port steps).entries)) (after run port steps).listed live
  where
    live : (n : ℕ) → Among n (after run port steps).listed → IsSome (entry_of n (after run port steps).entries)
    live n a =
        let k = kept_after run port limit steps legal in
        let r = among_number n (after run port steps).entries (k.listed.live n a) in
        let found : entry_of n (after run port steps).entries ≡ Some r.0 =
        ap (λ (m : ℕ). entry_of m (after run port steps).entries) r.2 ∙ entry_of-among r.0 (after run port steps).entries k.apart.rising r.1 in
        subst (λ (x : Option Entry). IsSome x) (sym found) refl

-- ---- decided frames

all_decided : (ps : List Place) (i : ℕ) → list_all is_decided ps ≡ true → i < length ps → is_decided (get_or ps i Waiting) ≡ true
all_decided [] i h l = absurd (omega (arith, l))
all_decided (p ∷ ps) zero h l = (and_parts (is_decided p) (list_all is_decided ps) h).0
all_decided (p ∷ ps) (suc i) h l = all_decided ps i (and_parts (is_decided p) (list_all is_decided ps) h).1 (omega (arith, l))

pub decided_after : (run : Run) (port limit : ℕ) (steps : List Step) → AreInOrder run.syncs (last_version run)
    → HasKeys run port (after run port steps).next → IsLegal run port limit steps
    → (place : ℕ) → is_decided (place_at place (after run port steps)) ≡ true → IsDecided run port steps place
decided_after run port limit steps in_order keys legal place h = (decided_in run port place limit in_order steps legal keys h).0

pub complete_after : (run : Run) (port limit : ℕ) (steps : List Step) → AreInOrder run.syncs (last_version run)
    → HasKeys run port (after run port steps).next → IsLegal run port limit steps → IsComplete run port steps
    → (place : ℕ) → 1 ≤ place → place ≤ length (frames_of run port) → IsDecided run port steps place
complete_after run port limit steps in_order keys legal complete place first last =
    let places = (after run port steps).places in
    let count = all_places run port steps in
    decided_after run port limit steps in_order keys legal place
    (ap is_decided (at_there places place first) ∙ all_decided places (place - 1) complete.all_decided (omega (arith, count, first, last)))

-- ---- what is counted

pub used_entries : (run : Run) (port limit most : ℕ) (steps : List Step) → All (λ (f : Frame). length f.bytes ≤ most) (frames_of run port)
    → IsLegal run port limit steps → All (IsUsed (after run port steps).next most) (after run port steps).entries
used_entries run port limit most steps short legal =
    let s = after run port steps in
    All_from-Among (IsUsed s.next most) s.entries
    (used_after run port limit most (λ place. frame_le (frames_of run port) (place - 1) most short) steps legal)

pub bounded_after : (run : Run) (port limit most : ℕ) (steps : List Step) → AreInOrder run.syncs (last_version run)
    → HasKeys run port (after run port steps).next → All (λ (f : Frame). length f.bytes ≤ most) (frames_of run port) → IsLegal run port limit steps
    → (rule : ℕ) → HasBoundedCounts run port most (after run port steps) rule
bounded_after run port limit most steps in_order keys short legal rule = record {
  packets = rw (packets_balance run port limit rule in_order steps keys legal) (due_packets_most run port limit rule steps in_order keys legal);
  bytes = rw (bytes_balance run port limit rule in_order steps keys legal) (due_bytes_most run port limit rule most steps in_order keys short legal);
}

pub bounded_next : (run : Run) (port limit most : ℕ) (steps : List Step) (step : Step) → AreInOrder run.syncs (last_version run)
    → HasKeys run port (after run port (steps ++ step ∷ [])).next → All (λ (f : Frame). length f.bytes ≤ most) (frames_of run port)
    → IsLegal run port limit steps → Legal run port limit (after run port steps) step
    → (rule : ℕ) → HasBoundedCounts run port most (after run port (steps ++ step ∷ [])) rule
bounded_next run port limit most steps step in_order keys short legal last =
    bounded_after run port limit most (steps ++ step ∷ []) in_order keys short (legal_step run port limit steps step legal last)

-- as a body has it that is about to make the step
pub bounded_step : (run : Run) (port limit most : ℕ) (steps : List Step) (step : Step) → AreInOrder run.syncs (last_version run)
    → HasKeys run port (effect run port (after run port steps) step).next → All (λ (f : Frame). length f.bytes ≤ most) (frames_of run port)
    → IsLegal run port limit steps → Legal run port limit (after run port steps) step
    → (rule : ℕ) → HasBoundedCounts run port most (effect run port (after run port steps) step) rule
bounded_step run port limit most steps step in_order keys short legal last rule =
    let made = after_step run port steps step in
    let keys_after = subst (λ (s : State). HasKeys run port s.next) (sym made) keys in
    subst (λ (s : State). HasBoundedCounts run port most s rule) made
    (bounded_next run port limit most steps step in_order keys_after short legal last rule)
