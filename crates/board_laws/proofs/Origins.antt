-- Where an entry comes from: what a step makes of the entries.
use Rattle.std.proofs.Common.{◌≡◌, ℕ, ◌+◌, ◌<◌, ◌≤◌, Bool, true, false, not, ◌==◌, nat_lt, nat_le, if◌then◌else◌, List, [], ◌∷◌, length, map, filter, Option, Some, None, ◌⊎◌, inl, inr, refl, sym, ap, ap₂, ◌∙◌, subst, arith}
use Rattle.std.specs.Option.{option_map}
use Rattle.std.proofs.lemmas.Bool.{ltb-true, not-true, eqb-true, eqb-false, false_from_ne_true, false≢true, or_parts, ne_eqb}
use Rattle.spec_keys.specs.Keys.{covers, overlap}
use Rattle.spec_pcap.specs.Pcap.{Frame}
use Rattle.spec_xlate.specs.Translation.{Translation}
use Rattle.spec_case.specs.Run.{Run, frame_at}
use Rattle.spec_board.specs.declared.looked.Looked.TheVariants.{Exact, Mega, Miss}
use Rattle.spec_board.specs.declared.put_done.PutDone.{PutDone}
use Rattle.spec_board.specs.declared.put_done.PutDone.TheVariants.{Idle, Removed, Kept, Replaced}
use Rattle.spec_board.specs.Steps.{Step, Open, Look, Settle, Begin, Put, End, Present, Full, Installed}
use Rattle.spec_board.specs.State.{Entry, State, place_at, is_pending}
use Rattle.spec_board.specs.Results.{key_at, translated, mask_for, entry_of, numbers_of, covering, overlaps, put_done, idle_time, is_same_translation, settled_beside}
use Rattle.spec_board.specs.Effects.{effect, is_among, revalidated, new_entry, key_of_entry}
use Rattle.spec_board.specs.Journals.{Legal}
use Rattle.table_laws.proofs.MemberLaws.{Among, Among-append, Among_in-filter}
use Rattle.table_laws.proofs.UnionLaws.{Within, joined_self, covers_from-Within}
use Rattle.board_laws.proofs.ListLaws.{Among-map}
use Rattle.board_laws.proofs.NumberLaws.{Rising, number_among, entry_of-some, one_of_number, is_among-Among, Among-is_among}
use Rattle.board_laws.proofs.Refusals.{may_settle, may_put}
use Rattle.board_laws.proofs.Changes.{SameHead, same_head, Had, pay, hit, hit_from, paid_from, others, outside, left_by, left_from, renew, renewed_by}

-- ---- three origins

-- The entry e was d before the step: the step changed no more than how often it was used.
pub record Stays (s t : State) (e d : Entry) : Type 0 where
  pub before : Among d s.entries
  pub same : SameHead e d
  pub listed : is_among t.listed e.number ≡ false → is_among s.listed e.number ≡ false

-- A translation of the entry's key was made under its version, and consults no bit outside of its mask.
pub record IsTranslated (run : Run) (s t : State) (e : Entry) : Type 0 where
  pub not_stale : s.floor ≤ e.version
  pub carried : e.version ≤ t.newest
  pub covered : covers e.mask (mask_for run e.version e.key) ≡ true
  pub actions : e.actions ≡ (translated run e.version e.key).actions
  pub visits : e.visits ≡ (translated run e.version e.key).visits

-- It was d and has a new translation.
pub record Renewed (run : Run) (s t : State) (e d : Entry) : Type 0 where
  pub before : Among d s.entries
  pub number : e.number ≡ d.number
  pub key : e.key ≡ d.key
  pub mask : e.mask ≡ d.mask
  pub new : IsTranslated run s t e

-- It is new.
pub record IsNew (run : Run) (port : ℕ) (s t : State) (e : Entry) : Type 0 where
  pub number : e.number ≡ s.made + 1
  pub made : t.made ≡ s.made + 1
  pub place : ℕ
  pub pending : is_pending (place_at place s) ≡ true
  pub key : e.key ≡ key_at run port place
  pub new : IsTranslated run s t e
  pub apart : (d : Entry) → Among d t.entries → (e.number ≡ d.number → ⊥) → overlap e.key e.mask d.key d.mask ≡ false

abbrev pub Origin : Run → ℕ → State → State → Entry → Type 0
Origin run port s t e = ((d : Entry) × Stays s t e d) ⊎ (((d : Entry) × Renewed run s t e d) ⊎ IsNew run port s t e)

-- an entry that was there before, as it was
pub record Was (s : State) (e d : Entry) : Type 0 where
  pub before : Among d s.entries
  pub number : e.number ≡ d.number
  pub key : e.key ≡ d.key
  pub mask : e.mask ≡ d.mask

-- an entry that was there before, or a new one
pub was : (run : Run) (port : ℕ) (s t : State) (e : Entry) → Origin run port s t e → ((d : Entry) × Was s e d) ⊎ IsNew run port s t e
was run port s t e (inl (d, h)) = inl (d, record { before = h.before; number = h.same.number; key = h.same.key; mask = h.same.mask })
was run port s t e (inr (inl (d, h))) = inl (d, record { before = h.before; number = h.number; key = h.key; mask = h.mask })
was run port s t e (inr (inr h)) = inr h

-- what is no more listed wasn't, unless a filter took it
unlisted : (p : ℕ → Bool) (ns : List ℕ) (n : ℕ) → p n ≡ true → is_among (filter p ns) n ≡ false → is_among ns n ≡ false
unlisted p ns n h e =
    false_from_ne_true (is_among ns n)
    (λ q. false≢true (sym e ∙ Among-is_among (filter p ns) n (Among_in-filter p n ns (is_among-Among ns n q) h)))

other_number : (n k : ℕ) → not (is_among (n ∷ []) k) ≡ true → not (k == n) ≡ true
other_number n k h =
    let o = or_parts (n == k) false (not-true (is_among (n ∷ []) k) h) in
    ap not (ne_eqb k n (λ q. eqb-false n k o.0 (sym q)))

covers_self : (m : List ℕ) → covers m m ≡ true
unfolding Within
covers_self m = covers_from-Within m m (joined_self m)

-- an entry that only counts anew stays
stays_as : (s t : State) (e : Entry) → (h : Had s.entries e) → (is_among t.listed e.number ≡ false → is_among s.listed e.number ≡ false) → Stays s t e h.was
stays_as s t e h listed = record { before = h.before; same = h.same; listed = listed }

-- where a sweep lists the same as before
as_listed : (s t : State) (n : ℕ) → t.listed ≡ s.listed → is_among t.listed n ≡ false → is_among s.listed n ≡ false
as_listed s t n same out = ap (λ (ns : List ℕ). is_among ns n) (sym same) ∙ out

-- ---- installs

-- What an install was: the new entry has the next number, there was room for it beside those that it doesn't overlap,
-- and those that it does are dropped.
pub record Installs (limit : ℕ) (key mask : List ℕ) (s : State) (n : ℕ) (numbers : List ℕ) : Type 0 where
  pub number : n ≡ s.made + 1
  pub room : length (filter (λ e. not (overlaps key mask e)) s.entries) < limit
  pub dropped : numbers ≡ numbers_of (filter (overlaps key mask) s.entries)

installs_by : (limit : ℕ) (key mask : List ℕ) (s : State) (n : ℕ) (numbers : List ℕ) (o : Option Entry)
    → Installed n numbers ≡ settled_beside limit key mask s o → Installs limit key mask s n numbers
installs_by limit key mask s n numbers (Some e) h = absurd (cc h)
installs_by limit key mask s n numbers None h = at (nat_lt (length (filter (λ e. not (overlaps key mask e)) s.entries)) limit) refl h
  where
    at : (room : Bool) → nat_lt (length (filter (λ e. not (overlaps key mask e)) s.entries)) limit ≡ room
        → Installed n numbers ≡ (if room then Installed (s.made + 1) (numbers_of (filter (overlaps key mask) s.entries)) else Full)
        → Installs limit key mask s n numbers
    at true room h = record { number = cc h; room = ltb-true _ limit room; dropped = cc h }
    at false room h = absurd (cc h)

pub installs : (run : Run) (port limit : ℕ) (s : State) (place v n : ℕ) (numbers : List ℕ) → Legal run port limit s (Settle place v (Installed n numbers))
    → Installs limit (key_at run port place) (mask_for run v (key_at run port place)) s n numbers
installs run port limit s place v n numbers legal =
    let key = key_at run port place in
    installs_by limit key (mask_for run v key) s n numbers (covering key s.entries) legal.1

-- ---- each kind of step

module _ (run : Run) (port limit : ℕ) (s : State) (rising : Rising (numbers_of s.entries)) where
  -- the entries stay, or are mapped by what only counts
  stays_same : (t : State) → t.entries ≡ s.entries → t.listed ≡ s.listed → (e : Entry) → Among e t.entries → Origin run port s t e
  stays_same t es ls e m =
      let h : Had s.entries e = record { was = e; before = subst (λ (xs : List Entry). Among e xs) es m; same = same_head e } in
      inl (e, stays_as s t e h (as_listed s t e.number ls))

  stays_hit : (t : State) (n : ℕ) (frame : Frame) → t.entries ≡ map (hit n frame) s.entries → t.listed ≡ s.listed
      → (e : Entry) → Among e t.entries → Origin run port s t e
  stays_hit t n frame es ls e m =
      let h = hit_from n frame s.entries e (subst (λ (xs : List Entry). Among e xs) es m) in
      inl (h.was, stays_as s t e h (as_listed s t e.number ls))

  stays_begun : (v : ℕ) (e : Entry) → Among e s.entries → Origin run port s (effect run port s (Begin v)) e
  stays_begun v e m =
      let h : Had s.entries e = record { was = e; before = m; same = same_head e } in
      inl (
        e,
        stays_as s (effect run port s (Begin v)) e h
            (λ out. absurd (false≢true (sym out ∙ Among-is_among (numbers_of s.entries) e.number (number_among e s.entries m)))),
      )

  -- ---- installs

  abbrev key : ℕ → List ℕ
  key place = key_at run port place

  module _ (place v n : ℕ) (numbers : List ℕ) (legal : Legal run port limit s (Settle place v (Installed n numbers))) where
    abbrev t : State
    t = effect run port s (Settle place v (Installed n numbers))

    abbrev mask : List ℕ
    mask = mask_for run v (key place)

    abbrev new : Entry
    new = new_entry n (key place) mask v (translated run v (key place)) (frame_at run port place)

    -- an entry of before that wasn't dropped
    kept_entry : (e : Entry) → Among e (left_by numbers s.entries) → ((d : Entry) × Stays s t e d) × (overlap (key place) mask e.key e.mask ≡ false)
    kept_entry e m =
        let r = left_from numbers s.entries e m in
        let h = r.0 in
        let out = not-true (is_among numbers e.number) r.1 in (
          (h.was, stays_as s t e h (unlisted (λ (k : ℕ). not (is_among numbers k)) s.listed e.number r.1)),
          false_from_ne_true (overlap (key place) mask e.key e.mask) (λ o. false≢true (sym out ∙ dropped_too h o)),
        )
      where
        dropped_too : (h : Had s.entries e) → overlap (key place) mask e.key e.mask ≡ true → is_among numbers e.number ≡ true
        dropped_too h o =
            let over : overlaps (key place) mask h.was ≡ true = (let a = h.same.key in let b = h.same.mask in rw (sym a, sym b) o) in
            let overlapped = filter (overlaps (key place) mask) s.entries in
            let among : Among h.was.number (numbers_of overlapped) =
            number_among h.was overlapped (Among_in-filter (overlaps (key place) mask) h.was s.entries h.before over) in
            let listed : Among h.was.number numbers =
            subst (λ (ns : List ℕ). Among h.was.number ns) (sym (installs run port limit s place v n numbers legal).dropped) among in
            Among-is_among numbers e.number (subst (λ (x : ℕ). Among x numbers) (sym h.same.number) listed)

    installed : (e : Entry) → Among e t.entries → Origin run port s t e
    installed e m = at (Among-append e (left_by numbers s.entries) (new ∷ []) m)
      where
        others : (d : Entry) → (new.number ≡ d.number → ⊥) → Among d (left_by numbers s.entries) ⊎ Among d (new ∷ [])
            → overlap (key place) mask d.key d.mask ≡ false
        others d differ (inl h) = (kept_entry d h).1
        others d differ (inr (inl q)) = absurd (differ (ap (λ (x : Entry). x.number) (sym q)))
        others d differ (inr (inr z)) = absurd z

        as_new : e ≡ new → IsNew run port s t e
        as_new q =
            let may = may_settle run s place v legal.0 in
            let number = (installs run port limit s place v n numbers legal).number in
            subst (λ (y : Entry). IsNew run port s t y) (sym q) (record {
              number = number;
              made = number;
              place = place;
              pending = may.pending;
              key = refl;
              new = record { not_stale = may.not_stale; carried = omega arith; covered = covers_self mask; actions = refl; visits = refl };
              apart = λ d a differ. others d differ (Among-append d (left_by numbers s.entries) (new ∷ []) a);
            })

        at : Among e (left_by numbers s.entries) ⊎ Among e (new ∷ []) → Origin run port s t e
        at (inl h) = inl (kept_entry e h).0
        at (inr (inl q)) = inr (inr (as_new q))
        at (inr (inr z)) = absurd z

  -- ---- puts

  module _ (n v : ℕ) (r : PutDone) (legal : Legal run port limit s (Put n v r)) where
    -- the entry that is put
    pub record IsPut : Type 0 where
      pub entry : Entry
      pub is : entry_of n s.entries ≡ Some entry
      pub result : put_done run entry v s ≡ r

    put_entry : (o : Option Entry) → entry_of n s.entries ≡ o → option_map (λ e. put_done run e v s) o ≡ Some r → IsPut
    put_entry None q h = absurd (cc h)
    put_entry (Some e) q h = record { entry = e; is = q; result = cc h }

    pub the_put : IsPut
    the_put = put_entry (entry_of n s.entries) refl legal.1

    -- one is dropped
    put_dropped : (t : State) → t.entries ≡ left_by (n ∷ []) s.entries
        → t.listed ≡ outside (n ∷ []) (others n s.listed)
        → (e : Entry) → Among e t.entries → Origin run port s t e
    put_dropped t es ls e m =
        let f = left_from (n ∷ []) s.entries e (subst (λ (xs : List Entry). Among e xs) es m) in
        let h = f.0 in
        inl (
          h.was,
          stays_as s t e h (λ out.
              unlisted (λ (k : ℕ). not (k == n)) s.listed e.number (other_number n e.number f.1)
              (unlisted (λ (k : ℕ). not (is_among (n ∷ []) k)) (others n s.listed) e.number f.1
              (ap (λ (ns : List ℕ). is_among ns e.number) (sym ls) ∙ out))),
        )

    -- one is revalidated
    abbrev trans : Translation
    trans = translated run v (key_of_entry (entry_of n s.entries))

    put_renewed : (t : State) → t.entries ≡ renewed_by n v trans s.entries → t.listed ≡ others n s.listed → v ≤ t.newest
        → covers the_put.entry.mask (mask_for run v the_put.entry.key) ≡ true → (e : Entry) → Among e t.entries → Origin run port s t e
    put_renewed t es ls newer covered e m =
        let paid = map (pay (n ∷ [])) s.entries in
        let f = Among-map (renew n v trans) e paid (subst (λ (xs : List Entry). Among e xs) es m) in
        at f.0 (paid_from (n ∷ []) s.entries f.0 f.1) (f.0.number == n) refl f.2
      where
        the_one : (x : Entry) (h : Had s.entries x) → (x.number == n) ≡ true → the_put.entry ≡ h.was
        the_one x h p =
            let found = entry_of-some n s.entries the_put.entry the_put.is in
            one_of_number the_put.entry h.was s.entries rising found.0 h.before (found.1 ∙ sym (eqb-true x.number n p) ∙ h.same.number)

        renewed : (x : Entry) (h : Had s.entries x) → (x.number == n) ≡ true → Renewed run s t (revalidated v trans x) h.was
        renewed x h p =
            let same = the_one x h p in
            let key_is : the_put.entry.key ≡ x.key = ap (λ (y : Entry). y.key) same ∙ sym h.same.key in
            let mask_is : the_put.entry.mask ≡ x.mask = ap (λ (y : Entry). y.mask) same ∙ sym h.same.mask in
            let put_key : key_of_entry (entry_of n s.entries) ≡ x.key = ap key_of_entry the_put.is ∙ key_is in
            record {
              before = h.before;
              number = h.same.number;
              key = h.same.key;
              mask = h.same.mask;
              new = record {
                not_stale = (may_put run s n v legal.0).not_stale;
                carried = newer;
                covered = ap₂ (λ (a b : List ℕ). covers a (mask_for run v b)) (sym mask_is) (sym key_is) ∙ covered;
                actions = ap (λ (a : List ℕ). (translated run v a).actions) put_key;
                visits = ap (λ (a : List ℕ). (translated run v a).visits) put_key;
              };
            }

        at : (x : Entry) → Had s.entries x → (b : Bool) → (x.number == n) ≡ b → e ≡ (if b then revalidated v trans x else x) → Origin run port s t e
        at x h true p is = inr (inl (h.was, subst (λ (y : Entry). Renewed run s t y h.was) (sym is) (renewed x h p)))
        at x h false p is =
            inl (
              h.was,
              subst (λ (y : Entry). Stays s t y h.was) (sym is) (stays_as s t x h (λ out.
                  unlisted (λ (k : ℕ). not (k == n)) s.listed x.number (ap not p) (ap (λ (ns : List ℕ). is_among ns x.number) (sym ls) ∙ out))),
            )

  covers_kept : (idle cov same : Bool) (x : PutDone) → (x ≡ Kept) ⊎ (x ≡ Replaced)
      → (if idle then Idle else (if not cov then Removed else (if same then Kept else Replaced))) ≡ x → cov ≡ true
  covers_kept true cov same x (inl q) h = absurd (cc (h, q))
  covers_kept true cov same x (inr q) h = absurd (cc (h, q))
  covers_kept false true same x q h = refl
  covers_kept false false same x (inl q) h = absurd (cc (h, q))
  covers_kept false false same x (inr q) h = absurd (cc (h, q))

  -- the mask of an entry that is kept or replaced covers what the new translation consults
  put_covers : (n v : ℕ) (r : PutDone) (legal : Legal run port limit s (Put n v r)) → (r ≡ Kept) ⊎ (r ≡ Replaced)
      → covers (the_put n v r legal).entry.mask (mask_for run v (the_put n v r legal).entry.key) ≡ true
  put_covers n v r legal q =
      let p = the_put n v r legal in
      covers_kept (nat_le (p.entry.used + idle_time) s.clock) (covers p.entry.mask (mask_for run v p.entry.key))
      (is_same_translation p.entry (translated run v p.entry.key)) r q p.result

  -- ---- all steps

  pub origin : (step : Step) → Legal run port limit s step → (e : Entry) → Among e (effect run port s step).entries → Origin run port s (effect run port s step) e
  origin (Open block) legal = stays_same _ refl refl
  origin (Look place (Exact n)) legal = stays_hit _ n (frame_at run port place) refl refl
  origin (Look place (Mega n)) legal = stays_hit _ n (frame_at run port place) refl refl
  origin (Look place Miss) legal = stays_same _ refl refl
  origin (Settle place v (Present n)) legal = stays_same _ refl refl
  origin (Settle place v Full) legal = stays_same _ refl refl
  origin (Settle place v (Installed n numbers)) legal = installed place v n numbers legal
  origin (Begin v) legal = stays_begun v
  origin (Put n v Idle) legal = put_dropped n v Idle legal _ refl refl
  origin (Put n v Removed) legal = put_dropped n v Removed legal _ refl refl
  origin (Put n v Kept) legal = put_renewed n v Kept legal _ refl refl (omega arith) (put_covers n v Kept legal (inl refl))
  origin (Put n v Replaced) legal = put_renewed n v Replaced legal _ refl refl (omega arith) (put_covers n v Replaced legal (inr refl))
  origin End legal = stays_same _ refl refl
