-- A frame that is settled by its translation.
use Rattle.std.proofs.Common.{◌≡◌, ℕ, ◌+◌, Bool, true, false, cond, List, [], ◌∷◌, ◌++◌, map, length, Some, None, refl, sym, ap, ap₂, subst, ◌∙◌}
use Rattle.std.specs.Prelude.{filter, not, nat_lt, replicate}
use Rattle.std.proofs.lemmas.Bool.{cond-true, cond-false}
use Rattle.std.proofs.lemmas.List.{length-replicate}
use Rattle.spec_xlate.specs.Translation.{Translation}
use Rattle.spec_pcap.specs.Pcap.{Frame}
use Rattle.spec_board.specs.State as states
use Rattle.spec_board.specs.Steps as steps
use Rattle.spec_board.specs.Cache.{slot_at}
use Rattle.spec_board.specs.Results.{covering, numbers_of, overlaps, settled_anew, settled_beside}
use Rattle.spec_board.specs.Effects.{credited, credited_by, is_among, new_entry, settled_by}
use Rattle.port_caches.specs.Sums.{IsCountable, total_of}
use Rattle.port_caches.proofs.stats.SameTotals.{same_totals-credited, same_totals-credited_by}
use Rattle.port_caches.specs.Views.{AreCachesOf, Caches}
use Rattle.port_caches.specs.Steps.{HasFewTotals, IsCredited, IsFrameOf, IsSame, IsSameCache, IsSettled, settle_effect, settle_result, settle_state}

-- ---- caches that are the same but for their room

pub same_caches : (before after : Caches) (s : states.State) → IsSame before after → AreCachesOf before s → AreCachesOf after s
same_caches before after s same of = subst (λ (v : Caches). AreCachesOf v s) (sym same.0) (record { entries = of.entries; made = of.made; slots = of.slots; totals = of.totals })

pub caches_same : (before after : Caches) (s : states.State) → IsSame before after → AreCachesOf after s → AreCachesOf before s
caches_same before after s same of =
    let moved : AreCachesOf (record before { room = after.room }) s = subst (λ (v : Caches). AreCachesOf v s) same.0 of in
    record { entries = moved.entries; made = moved.made; slots = moved.slots; totals = moved.totals }

pub settled_from : (key mask : List ℕ) (v : ℕ) (t : Translation) (length_ time : ℕ) (before between after : Caches) (r : steps.Settled)
    → IsSame before between → IsSettled key mask v t length_ time between r after → IsSettled key mask v t length_ time before r after
settled_from key mask v t length_ time before between after r same settled =
    let moved : IsSettled key mask v t length_ time (record before { room = between.room }) r after = subst (λ (x : Caches). IsSettled key mask v t length_ time x r after) same.0 settled in
    let as_between : (s : states.State) → AreCachesOf before s → AreCachesOf (record before { room = between.room }) s = λ s of. record { entries = of.entries; made = of.made; slots = of.slots; totals = of.totals } in
    record {
      same = record { limit = moved.same.limit; rules = moved.same.rules; held = moved.same.held };
      result = λ s of. moved.result s (as_between s of);
      effect = λ s place frame is of. moved.effect s place frame is (as_between s of);
    }

-- ---- what a settle gives where no entry covers the key

module _ (c : Caches) (key mask : List ℕ) (s : states.State) (of : AreCachesOf c s) (uncovered : covering key c.entries ≡ None) where
  abbrev left_count : List states.Entry → ℕ
  left_count es = length (filter (λ (e : states.Entry). not (overlaps key mask e)) es)

  abbrev anew : List states.Entry → ℕ → steps.Settled
  anew es made = steps.Installed (made + 1) (numbers_of (filter (overlaps key mask) es))

  scanned : settle_result c.limit key mask s ≡ settled_anew c.limit key mask s
  scanned = ap (settled_beside c.limit key mask s) (ap (covering key) of.entries ∙ uncovered)

  pub full_result : nat_lt (left_count c.entries) c.limit ≡ false → settle_result c.limit key mask s ≡ steps.Full
  full_result many =
      scanned ∙ cond-false (nat_lt (left_count s.entries) c.limit) (anew s.entries s.made) steps.Full (ap (λ (es : List states.Entry). nat_lt (left_count es) c.limit) of.entries ∙ many)

  pub installed_result : nat_lt (left_count c.entries) c.limit ≡ true → settle_result c.limit key mask s ≡ anew c.entries c.made
  installed_result few =
      scanned ∙ cond-true (nat_lt (left_count s.entries) c.limit) (anew s.entries s.made) steps.Full (ap (λ (es : List states.Entry). nat_lt (left_count es) c.limit) of.entries ∙ few)
      ∙ ap₂ (λ (es : List states.Entry) (made : ℕ). anew es made) of.entries of.made

-- entries that are paid before they are dropped
module _ (numbers : List ℕ) where
  abbrev owing_none : states.Entry → states.Entry
  owing_none e = record e { owed_packets = 0; owed_bytes = 0 }

  abbrev pub stays : states.Entry → Bool
  stays e = not (is_among numbers e.number)

  pub dropped_paid : (es : List states.Entry) → filter stays (map (λ (e : states.Entry). cond (is_among numbers e.number) (owing_none e) e) es) ≡ filter stays es
  dropped_paid [] = refl
  dropped_paid (e ∷ es) = at (is_among numbers e.number) refl (dropped_paid es)
    where
      at : (b : Bool) → is_among numbers e.number ≡ b
          → filter stays (map (λ (d : states.Entry). cond (is_among numbers d.number) (owing_none d) d) es) ≡ filter stays es
          → cond (stays (cond b (owing_none e) e))
          (cond b (owing_none e) e ∷ filter stays (map (λ (d : states.Entry). cond (is_among numbers d.number) (owing_none d) d) es))
          (filter stays (map (λ (d : states.Entry). cond (is_among numbers d.number) (owing_none d) d) es))
          ≡ cond (not b) (e ∷ filter stays es) (filter stays es)
      at true is ih = cond-false (not (is_among numbers e.number)) _ _ (ap not is) ∙ ih
      at false is ih = cond-true (not (is_among numbers e.number)) _ _ (ap not is) ∙ ap (λ (xs : List states.Entry). e ∷ xs) ih

-- ---- a state and a frame, where all that is asked holds of any

abbrev pub state_with : Caches → states.State
state_with c = record (states.opening 0) { entries = c.entries; made = c.made; slots = c.slots; totals = total_of c.totals }

pub state_of : (c : Caches) → AreCachesOf c (state_with c)
state_of c = record { entries = refl; made = refl; slots = λ number. refl; totals = λ rule. refl }

abbrev frame_with : ℕ → ℕ → Frame
frame_with length_ time = record { time = time; bytes = replicate length_ 0 }

frame_is : (length_ time : ℕ) → IsFrameOf length_ time (frame_with length_ time)
frame_is length_ time = record { length_is = sym (length-replicate length_ 0); time_is = refl }

module _ (key mask : List ℕ) (v : ℕ) (t : Translation) (length_ time : ℕ) (before : Caches) where
  abbrev pub Fits : Type 0
  Fits = (s : states.State) (frame : Frame) → AreCachesOf before s → IsFrameOf length_ time frame → HasFewTotals (settle_state before.limit key mask 1 v t frame s)

  -- the totals once the frame is credited
  abbrev pub once : ℕ → states.Total
  once = credited t.visits 1 length_ (total_of before.totals)

  -- ---- where nothing is installed

  module _ (after : Caches) (list : ℕ) (credit : IsCredited t length_ before list after) where
    credited_effect : (s : states.State) (place : ℕ) (frame : Frame) → IsFrameOf length_ time frame → AreCachesOf before s → AreCachesOf after (settled_by place v t frame s)
    credited_effect s place frame is of = record {
      entries = of.entries ∙ sym (ap (λ (c : Caches). c.entries) credit.rest);
      made = of.made ∙ sym (ap (λ (c : Caches). c.made) credit.rest);
      slots = λ number. ap (λ (c : Caches). slot_at c.slots number) credit.rest ∙ of.slots number;
      totals = λ rule.
          same_totals-credited t.visits 1 (length frame.bytes) s.totals (total_of before.totals) of.totals rule
          ∙ ap (λ (n : ℕ). credited t.visits 1 n (total_of before.totals) rule) (sym is.length_is) ∙ sym (credit.totals rule);
    }

    pub present : (e : states.Entry) → covering key before.entries ≡ Some e → IsSettled key mask v t length_ time before (steps.Present e.number) after
    present e is =
        let result : (s : states.State) → AreCachesOf before s → steps.Present e.number ≡ settle_result before.limit key mask s =
        λ s of. sym (ap (settled_beside before.limit key mask s) (ap (covering key) of.entries ∙ is)) in
        record {
          same = credit.same;
          result = result;
          effect = λ s place frame frame_is of.
              subst (λ (r : steps.Settled). AreCachesOf after (settle_effect key mask place v t frame r s)) (result s of) (credited_effect s place frame frame_is of);
        }

    pub full : covering key before.entries ≡ None → nat_lt (length (filter (λ e. not (overlaps key mask e)) before.entries)) before.limit ≡ false
        → IsSettled key mask v t length_ time before steps.Full after
    full is many =
        let result : (s : states.State) → AreCachesOf before s → steps.Full ≡ settle_result before.limit key mask s =
        λ s of. sym (full_result before key mask s of is many) in
        record {
          same = credit.same;
          result = result;
          effect = λ s place frame frame_is of.
              subst (λ (r : steps.Settled). AreCachesOf after (settle_effect key mask place v t frame r s)) (result s of) (credited_effect s place frame frame_is of);
        }

  -- ---- where an entry is installed

  abbrev pub fresh : states.Entry
  fresh = new_entry (before.made + 1) key mask v t (frame_with 0 time)

  pub installed : (after : Caches) (numbers : List ℕ) → covering key before.entries ≡ None → nat_lt (length (filter (λ e. not (overlaps key mask e)) before.entries)) before.limit ≡ true
      → numbers ≡ numbers_of (filter (overlaps key mask) before.entries) → IsSameCache before after
      → after.entries ≡ filter (stays numbers) before.entries ++ fresh ∷ [] → after.made ≡ before.made + 1 → after.slots ≡ before.slots
      → ((rule : ℕ) → total_of after.totals rule ≡ credited_by (filter (λ e. is_among numbers e.number) before.entries) once rule)
      → IsSettled key mask v t length_ time before (steps.Installed (before.made + 1) numbers) after
  installed after numbers is few numbers_is same entries made slots totals =
      let result : (s : states.State) → AreCachesOf before s → steps.Installed (before.made + 1) numbers ≡ settle_result before.limit key mask s =
      λ s of. ap (λ (ns : List ℕ). steps.Installed (before.made + 1) ns) numbers_is ∙ sym (installed_result before key mask s of is few) in
      record {
        same = same;
        result = result;
        effect = λ s place frame frame_is of.
            subst (λ (r : steps.Settled). AreCachesOf after (settle_effect key mask place v t frame r s)) (result s of) (record {
              entries =
                  ap (λ (xs : List states.Entry). xs ++ new_entry (before.made + 1) key mask v t frame ∷ []) (dropped_paid numbers s.entries ∙ ap (filter (stays numbers)) of.entries)
                  ∙ ap (λ (u : ℕ). filter (stays numbers) before.entries ++ record fresh { used = u } ∷ []) (sym frame_is.time_is)
                  ∙ sym entries;
              made = sym made;
              slots = λ number. ap (λ (slots : List states.Slot). slot_at slots number) slots ∙ of.slots number;
              totals = λ rule.
                  ap (λ (es : List states.Entry). credited_by (filter (λ e. is_among numbers e.number) es) (credited t.visits 1 (length frame.bytes) s.totals) rule) of.entries
                  ∙ same_totals-credited_by (filter (λ e. is_among numbers e.number) before.entries) (credited t.visits 1 (length frame.bytes) s.totals) once
                  (λ r.
                  same_totals-credited t.visits 1 (length frame.bytes) s.totals (total_of before.totals) of.totals r
                  ∙ ap (λ (n : ℕ). credited t.visits 1 n (total_of before.totals) r) (sym frame_is.length_is)) rule
                  ∙ sym (totals rule);
            });
      }

  -- ---- what fits

  module _ (fits : Fits) where
    few_at : (r : steps.Settled) → settle_result before.limit key mask (state_with before) ≡ r → HasFewTotals (settle_effect key mask 1 v t (frame_with length_ time) r (state_with before))
    few_at r is =
        subst (λ (x : steps.Settled). HasFewTotals (settle_effect key mask 1 v t (frame_with length_ time) x (state_with before))) is
        (fits (state_with before) (frame_with length_ time) (state_of before) (frame_is length_ time))

    credited_fits : HasFewTotals (settled_by 1 v t (frame_with length_ time) (state_with before)) → (rule : ℕ) → IsCountable (once rule)
    credited_fits few rule =
        subst (λ (n : ℕ). IsCountable (credited t.visits 1 n (total_of before.totals) rule)) (length-replicate length_ 0) (record { packets = (few rule).0; bytes = (few rule).1 })

    pub present_fits : (e : states.Entry) → covering key before.entries ≡ Some e → (rule : ℕ) → IsCountable (once rule)
    present_fits e is = credited_fits (few_at (steps.Present e.number) (ap (settled_beside before.limit key mask (state_with before)) is))

    pub full_fits : covering key before.entries ≡ None → nat_lt (length (filter (λ e. not (overlaps key mask e)) before.entries)) before.limit ≡ false → (rule : ℕ) → IsCountable (once rule)
    full_fits is many = credited_fits (few_at steps.Full (full_result before key mask (state_with before) (state_of before) is many))

    pub installed_fits : (numbers : List ℕ) → covering key before.entries ≡ None → nat_lt (length (filter (λ e. not (overlaps key mask e)) before.entries)) before.limit ≡ true
        → numbers ≡ numbers_of (filter (overlaps key mask) before.entries) → (rule : ℕ) → IsCountable (credited_by (filter (λ e. is_among numbers e.number) before.entries) once rule)
    installed_fits numbers is some numbers_is rule =
        let few = few_at (steps.Installed (before.made + 1) numbers)
        (installed_result before key mask (state_with before) (state_of before) is some ∙ ap (λ (ns : List ℕ). steps.Installed (before.made + 1) ns) (sym numbers_is)) rule in
        subst (λ (n : ℕ). IsCountable (credited_by (filter (λ (e : states.Entry). is_among numbers e.number) before.entries) (credited t.visits 1 n (total_of before.totals)) rule)) (length-replicate length_ 0)
        (record { packets = few.0; bytes = few.1 })
