-- What a settle and a put need of a port's caches, and what they make of them.
use Rattle.std.proofs.Common.{◌≡◌, ℕ, ◌+◌, ◌^◌, ◌<◌, ◌≤◌, Bool, true, false, List, length, filter, nat_lt, if◌then◌else◌, All, Option, Some, None, refl, sym, ap, ap₂, ◌∙◌, subst, arith}
use Rattle.std.specs.Option.{option_map}
use Rattle.std.specs.Prelude.{not}
use Rattle.spec_pcap.specs.Pcap.{Frame}
use Rattle.spec_xlate.specs.Translation.{Translation}
use Rattle.spec_tables.specs.Bundles.{AreBundles, edits_through}
use Rattle.spec_case.specs.Run.{Run, edit_count, last_version, frame_at, frames_of}
use Rattle.spec_case.specs.Blocks.{AreInOrder, hi}
use Rattle.spec_board.specs.declared.put_done.PutDone.{PutDone}
use Rattle.spec_board.specs.Steps.{Step, Settle, Put, Settled, Present, Full, Installed}
use Rattle.spec_board.specs.State.{Entry, State}
use Rattle.spec_board.specs.Results.{covering, entry_of, key_at, mask_for, numbers_of, overlaps, put_done, settled, settled_beside, translated}
use Rattle.spec_board.specs.Effects.{effect, key_of_entry, put_by, with_put}
use Rattle.spec_board.specs.Refusals.{put_fault, settle_fault}
use Rattle.spec_board.specs.Journals.{IsLegal, after}
use Rattle.table_laws.proofs.Bundles.{within}
use Rattle.board_laws.specs.Entries.{HasKeys}
use Rattle.board_laws.proofs.Kept.{kept_after}
use Rattle.board_laws.proofs.NumberLaws.{among_number, entry_of-among, entry_of-some, is_among-Among}
use Rattle.board_laws.proofs.Refusals.{may_put}
use Rattle.pcap_files.specs.Records.{IsShort}
use Rattle.port_caches.specs.Views.{AreCachesOf, Caches}
use Rattle.port_caches.specs.Steps.{AreRules, HasFewTotals, IsFrameOf, IsPut, IsSettled, put_state, settle_effect, settle_state}
use Rattle.pmd_board.specs.declared.board.Board.TheInside.{Inside}
use Rattle.pmd_board.specs.BoardView.{BoardView, state_of}
use Rattle.pmd_board.specs.Fields.{view_of}
use Rattle.pmd_board.proofs.Caches.{are_rules, put_fits, settle_fits, settle_is}
use Rattle.pmd_board.proofs.Sweeps.{put_of_state, settled_of}

-- what is made of a key under a version
pub record IsMadeOf (run : Run) (own : List ℕ) (v : ℕ) (key mask : List ℕ) (t : Translation) : Type 0 where
  pub key_is : key ≡ own
  pub mask_is : mask ≡ mask_for run v own
  pub translation_is : t ≡ translated run v own

pub visits_rules : (run : Run) (own : List ℕ) (v rules : ℕ) (key mask : List ℕ) (t : Translation) → IsMadeOf run own v key mask t
    → rules ≡ edit_count run → AreBundles run.bundles (edit_count run) → AreInOrder run.syncs (last_version run)
    → (block : ℕ) → v ≤ hi run block → AreRules rules t.visits
visits_rules run own v rules key mask t made all bundled in_order block le =
    let h = (in_order block).1 in
    let through : edits_through run.bundles v ≤ edit_count run = within run.bundles (edit_count run) bundled v (omega (arith, h, le)) in
    subst (λ (x : Translation). AreRules rules x.visits) (sym made.translation_is)
    (are_rules run v rules own (omega (arith, through, all)))

-- ---- settles

-- The frame of a place may be settled under a version, and this was made of its key.
pub record CanSettle {X : Type 0} (run : Run) (b : Inside X) (place v length_ time : ℕ) (key mask : List ℕ) (t : Translation) : Type 0 where
  pub may : settle_fault run (state_of run (view_of b)) place v ≡ None
  pub made : IsMadeOf run (key_at run b.port place) v key mask t
  pub frame : IsFrameOf length_ time (frame_at run b.port place)

-- so it is where that was said of the board's view, and under what is the same version
pub can_settle : {X : Type 0} (run : Run) (b : Inside X) (before : BoardView) (port place v said length_ time : ℕ) (key mask own : List ℕ) (t : Translation)
    → view_of b ≡ before → port ≡ before.port → v ≡ said → settle_fault run (state_of run before) place said ≡ None
    → key ≡ key_at run port place → own ≡ key → mask ≡ mask_for run said own → t ≡ translated run said own
    → IsFrameOf length_ time (frame_at run port place) → CanSettle run b place v length_ time key mask t
can_settle run b before port place v said length_ time key mask own t view port_is version may key_is own_is mask_is t_is frame =
    let here : port ≡ b.port = port_is ∙ ap (λ (x : BoardView). x.port) (sym view) in
    let its : key ≡ key_at run b.port place = key_is ∙ ap (λ q. key_at run q place) here in
    record {
      may = rw version (subst (λ (x : BoardView). settle_fault run (state_of run x) place said ≡ None) (sym view) may);
      made = record {
        key_is = its;
        mask_is = mask_is ∙ ap₂ (mask_for run) (sym version) (own_is ∙ its);
        translation_is = t_is ∙ ap₂ (translated run) (sym version) (own_is ∙ its);
      };
      frame = subst (λ q. IsFrameOf length_ time (frame_at run q place)) here frame;
    }

pub totals_fit : (run : Run) (port limit : ℕ) (steps : List Step) (c : Caches) (place v length_ time : ℕ) (key mask : List ℕ) (t : Translation)
    → IsMadeOf run (key_at run port place) v key mask t
    → AreInOrder run.syncs (last_version run) → IsLegal run port limit steps → HasKeys run port (after run port steps).next
    → All IsShort (frames_of run port) → length (frames_of run port) + 1 < 2 ^ 32 → AreCachesOf c (after run port steps)
    → IsFrameOf length_ time (frame_at run port place) → settle_fault run (after run port steps) place v ≡ None
    → (s : State) (frame : Frame) → AreCachesOf c s → IsFrameOf length_ time frame → HasFewTotals (settle_state limit key mask 1 v t frame s)
totals_fit run port limit steps c place v length_ time key mask t made in_order legal keys short few are is_frame may s frame these this =
    let here = after run port steps in
    let r = settled run limit (key_at run port place) v here in
    let next : (effect run port here (Settle place v r)).next ≡ here.next = (settled_of run port place v r here).next in
    rw (made.key_is, made.mask_is, made.translation_is)
    (settle_fits run port limit steps c place v length_ time in_order legal short few are is_frame (may, refl)
    (subst (HasKeys run port) (sym next) keys) s frame these this)

-- what the caches did is what the definitions have
pub settled_caches : (run : Run) (port place v length_ time : ℕ) (before behind : Caches) (r : Settled) (s : State) (key mask : List ℕ) (t : Translation)
    → IsMadeOf run (key_at run port place) v key mask t → IsSettled key mask v t length_ time before r behind
    → IsFrameOf length_ time (frame_at run port place) → AreCachesOf before s
    → (r ≡ settled run before.limit (key_at run port place) v s) × AreCachesOf behind (effect run port s (Settle place v r))
settled_caches run port place v length_ time before behind r s key mask t made did is_frame are =
    let own = key_at run port place in
    let frame = frame_at run port place in
    let here : IsSettled own (mask_for run v own) v (translated run v own) length_ time before r behind =
    rw (← made.mask_is, ← made.translation_is, ← made.key_is) did in
    let result = here.result s are in
    let caches = here.effect s place frame is_frame are in (
      result,
      subst (AreCachesOf behind) (sym (settle_is run port s place v r))
          (subst (λ q. AreCachesOf behind (settle_effect own (mask_for run v own) place v (translated run v own) frame q s)) (sym result) caches),
    )

installed_next : (limit : ℕ) (key mask : List ℕ) (s : State) (n : ℕ) (numbers : List ℕ) (o : Option Entry)
    → Installed n numbers ≡ settled_beside limit key mask s o → n ≡ s.made + 1
installed_next limit key mask s n numbers (Some e) is = absurd (cc is)
installed_next limit key mask s n numbers None is = at (nat_lt (length (filter (λ e. not (overlaps key mask e)) s.entries)) limit) is
  where
    at : (t : Bool) → Installed n numbers ≡ (if t then Installed (s.made + 1) (numbers_of (filter (overlaps key mask) s.entries)) else Full) → n ≡ s.made + 1
    at true is = cc is
    at false is = absurd (cc is)

-- at most one entry is made
pub made_one : (run : Run) (port limit place v : ℕ) (r : Settled) (s : State) → r ≡ settled run limit (key_at run port place) v s
    → (effect run port s (Settle place v r)).made ≤ s.made + 1
made_one run port limit place v (Present n) s is = omega arith
made_one run port limit place v Full s is = omega arith
made_one run port limit place v (Installed n numbers) s is =
    let key = key_at run port place in
    let e = installed_next limit key (mask_for run v key) s n numbers (covering key s.entries) is in
    omega (arith, e)

-- ---- puts

-- an entry that is listed is live
pub listed_live : (run : Run) (port limit : ℕ) (steps : List Step) → IsLegal run port limit steps → (number v : ℕ)
    → put_fault run (after run port steps) number v ≡ None → (e : Entry) × (entry_of number (after run port steps).entries ≡ Some e)
listed_live run port limit steps legal number v may =
    let s = after run port steps in
    let k = kept_after run port limit steps legal in
    let there = among_number number s.entries (k.listed.live number (is_among-Among s.listed number (may_put run s number v may).listed)) in
    (there.0, ap (λ n. entry_of n s.entries) there.2 ∙ entry_of-among there.0 s.entries k.apart.rising there.1)

pub put_totals_fit : (run : Run) (port limit : ℕ) (steps : List Step) (c : Caches) (number v : ℕ) (mask : List ℕ) (t : Translation) (e : Entry)
    → AreInOrder run.syncs (last_version run) → IsLegal run port limit steps → HasKeys run port (after run port steps).next
    → All IsShort (frames_of run port) → length (frames_of run port) + 1 < 2 ^ 32 → AreCachesOf c (after run port steps)
    → entry_of number (after run port steps).entries ≡ Some e → put_fault run (after run port steps) number v ≡ None
    → (s : State) (f : Entry) → AreCachesOf c s → entry_of number s.entries ≡ Some f → HasFewTotals (put_state f mask v t s)
put_totals_fit run port limit steps c number v mask t e in_order legal keys short few are found may s f these found_there =
    let here = after run port steps in
    let r = put_done run e v here in
    let next : (effect run port here (Put number v r)).next ≡ here.next = (put_of_state run port number v r here).next in
    put_fits run port limit steps c number v e in_order legal short few are found (may, ap (option_map (λ x. put_done run x v here)) found)
    (subst (HasKeys run port) (sym next) keys) mask t s f these found_there

pub put_caches : (run : Run) (port number v clock : ℕ) (before behind : Caches) (r : PutDone) (s : State) (e : Entry) (key mask : List ℕ) (t : Translation)
    → IsMadeOf run e.key v key mask t → IsPut number mask v t clock before r behind → s.clock ≡ clock → entry_of number s.entries ≡ Some e → AreCachesOf before s
    → (r ≡ put_done run e v s) × AreCachesOf behind (effect run port s (Put number v r))
put_caches run port number v clock before behind r s e key mask t made did time found are =
    let here : IsPut number (mask_for run v e.key) v (translated run v e.key) clock before r behind = rw (← made.mask_is, ← made.translation_is) did in
    let result = here.result s e are time found in
    let caches = here.effect s e are time found in
    let own : key_of_entry (entry_of number s.entries) ≡ e.key = ap key_of_entry found in
    let is : e.number ≡ number = (entry_of-some number s.entries e found).1 in
    let same : put_state e (mask_for run v e.key) v (translated run v e.key) s ≡ effect run port s (Put number v r) =
    ap (λ n. with_put (put_done run e v s) n v (translated run v e.key) (put_by n v s)) is
    ∙ ap (λ q. with_put q number v (translated run v e.key) (put_by number v s)) (sym result)
    ∙ ap (λ k. with_put r number v (translated run v k) (put_by number v s)) (sym own) in
    (result, subst (AreCachesOf behind) same caches)
