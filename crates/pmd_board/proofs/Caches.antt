-- What the calls of a port's caches need, and which states have the same caches.
use Rattle.std.proofs.Common.{◌≡◌, ℕ, ◌+◌, ◌*◌, ◌-◌, ◌^◌, ◌<◌, ◌≤◌, List, [], ◌∷◌, length, filter, All, Option, Some, None, inl, inr, refl, sym, ap, ◌∙◌, subst, arith}
use Rattle.std.specs.Option.{option_and_then}
use Rattle.spec_pcap.specs.Pcap.{Frame, snap_length}
use Rattle.spec_keys.specs.Keys.{agree}
use Rattle.spec_xlate.specs.Translation.{Translation}
use Rattle.spec_tables.specs.Bundles.{edits_through}
use Rattle.spec_case.specs.Run.{Run, last_version, frame_at, frames_of}
use Rattle.spec_case.specs.Blocks.{AreInOrder}
use Rattle.spec_tables.specs.Bundles.{edits_through}
use Rattle.spec_board.specs.declared.looked.Looked.{Looked}
use Rattle.spec_board.specs.declared.looked.Looked.TheVariants.{Exact, Mega, Miss}
use Rattle.spec_board.specs.declared.put_done.PutDone.{PutDone}
use Rattle.spec_board.specs.declared.put_done.PutDone.TheVariants.{Idle, Removed, Kept, Replaced}
use Rattle.spec_board.specs.Steps.{Step, Look, Settle, Put, Settled, Present, Full, Installed}
use Rattle.spec_board.specs.State.{Entry, Slot, State, Total}
use Rattle.spec_board.specs.Cache.{cached, with_cached}
use Rattle.spec_board.specs.Results.{covering, entry_of, exact_entry, found_by, key_at, looked, mask_for, put_done, put_of, settled, translated}
use Rattle.spec_board.specs.Effects.{advanced, credited, credited_by, decided_by, effect, is_among, key_of_entry, put_by, with_put}
use Rattle.spec_board.specs.Journals.{IsLegal, Legal, after}
use Rattle.board_laws.specs.Entries.{HasKeys, IsFound}
use Rattle.board_laws.specs.Counts.{HasBoundedCounts}
use Rattle.board_laws.proofs.Added.{visits_added}
use Rattle.board_laws.proofs.Kept.{kept_after}
use Rattle.board_laws.proofs.ListLaws.{find-some}
use Rattle.board_laws.proofs.Looked.{frame_le}
use Rattle.board_laws.proofs.NumberLaws.{entry_of-among, entry_of-some}
use Rattle.board_laws.proofs.Stated.{bounded_step}
use Rattle.board_laws.proofs.Used.{used_after}
use Rattle.pcap_files.specs.Records.{IsShort}
use Rattle.exact_cache.specs.SameSlots.{AreSameSlots}
use Rattle.exact_cache.proofs.SameSlots.{same_slots-with_cached, same_slots-transitive}
use Rattle.port_caches.specs.Sums.{total_of}
use Rattle.port_caches.specs.Views.{AreCachesOf, Caches}
use Rattle.port_caches.specs.Steps.{AreRules, CanHit, HasFewTotals, IsFrameOf, IsSame, put_state, settle_effect, settle_result, settle_state}
use Rattle.pmd_board.specs.Remembered.{slots_after}

-- ---- states with the same caches

pub recast : (c : Caches) (s t : State) → t.entries ≡ s.entries → t.made ≡ s.made → t.slots ≡ s.slots
    → ((rule : ℕ) → t.totals rule ≡ s.totals rule) → AreCachesOf c s → AreCachesOf c t
recast c s t entries made slots totals are = record {
  entries = entries ∙ are.entries;
  made = made ∙ are.made;
  slots = rw slots are.slots;
  totals = λ rule. totals rule ∙ are.totals rule;
}

-- caches of which only the room changed
pub roomier : (c d : Caches) (s : State) → IsSame c d → AreCachesOf c s → AreCachesOf d s
roomier c d s same are = subst (λ (x : Caches). AreCachesOf x s) (sym same.0)
    (record { entries = are.entries; made = are.made; slots = are.slots; totals = are.totals })

-- ---- hits

-- an entry of this number is live
abbrev pub IsLive : ℕ → State → Type 0
IsLive number s = (e : Entry) × (entry_of number s.entries ≡ Some e)

exact_by : (o p : Option Entry) (number : ℕ) → found_by o p ≡ Exact number → (e : Entry) × (o ≡ Some e) × (e.number ≡ number)
exact_by (Some e) p number h = (e, refl, cc h)
exact_by None (Some e) number h = absurd (cc h)
exact_by None None number h = absurd (cc h)

mega_by : (o p : Option Entry) (number : ℕ) → found_by o p ≡ Mega number → (e : Entry) × (p ≡ Some e) × (e.number ≡ number)
mega_by (Some e) p number h = absurd (cc h)
mega_by None (Some e) number h = (e, refl, cc h)
mega_by None None number h = absurd (cc h)

named_live : (o : Option ℕ) (entries : List Entry) (e : Entry) → option_and_then (λ n. entry_of n entries) o ≡ Some e
    → entry_of e.number entries ≡ Some e
named_live None entries e h = absurd (cc h)
named_live (Some n) entries e h = subst (λ m. entry_of m entries ≡ Some e) (sym (entry_of-some n entries e h).1) h

exact_live : (key : List ℕ) (number : ℕ) (s : State) → looked key s ≡ Exact number → IsLive number s
exact_live key number s h =
    let f = exact_by (exact_entry key s) (covering key s.entries) number h in
    (f.0, subst (λ m. entry_of m s.entries ≡ Some f.0) f.2 (named_live (cached s.slots key) s.entries f.0 f.1))

mega_live : (run : Run) (port limit : ℕ) (steps : List Step) → IsLegal run port limit steps → (key : List ℕ) (number : ℕ)
    → looked key (after run port steps) ≡ Mega number → IsLive number (after run port steps)
mega_live run port limit steps legal key number h =
    let s = after run port steps in
    let f = mega_by (exact_entry key s) (covering key s.entries) number h in
    let among = (find-some (λ (e : Entry). agree key e.key e.mask) s.entries f.0 f.1).0 in
    (f.0, subst (λ m. entry_of m s.entries ≡ Some f.0) f.2 (entry_of-among f.0 s.entries (kept_after run port limit steps legal).apart.rising among))

pub found_live : (run : Run) (port limit : ℕ) (steps : List Step) → IsLegal run port limit steps → (key : List ℕ) (r : Looked) (number : ℕ)
    → IsFound r number → looked key (after run port steps) ≡ r → IsLive number (after run port steps)
found_live run port limit steps legal key r number (inl exact) h = exact_live key number (after run port steps) (h ∙ exact)
found_live run port limit steps legal key r number (inr mega) h = mega_live run port limit steps legal key number (h ∙ mega)

-- what a look leads to that found the entry of this number
abbrev pub hit_state : Run → ℕ → ℕ → ℕ → Looked → State → State
hit_state run port place number r s =
    let frame = frame_at run port place in
    record (decided_by number place frame (advanced frame s)) { slots = slots_after r (key_at run port place) s.slots }

pub hit_is : (run : Run) (port place number : ℕ) (r : Looked) (s : State) → IsFound r number → effect run port s (Look place r) ≡ hit_state run port place number r s
hit_is run port place number r s (inl exact) = rw exact refl
hit_is run port place number r s (inr mega) = rw mega refl

-- counts have room for a frame more
pub can_hit : (run : Run) (port limit : ℕ) (steps : List Step) (c : Caches) (number length_ place : ℕ) → IsLegal run port limit steps
    → All IsShort (frames_of run port) → AreCachesOf c (after run port steps) → (after run port steps).next < 2 ^ 32
    → length_ ≡ length (frame_at run port place).bytes → IsLive number (after run port steps) → CanHit number length_ c
can_hit run port limit steps c number length_ place legal short are few size live =
    let s = after run port steps in
    let e : Entry = live.0 in
    let short_at : (place : ℕ) → length (frame_at run port place).bytes ≤ snap_length = λ place. frame_le (frames_of run port) (place - 1) snap_length short in
    let le : length_ ≤ 262144 = subst (λ l. l ≤ snap_length) (sym size) (short_at place) in
    let u = used_after run port limit snap_length short_at steps legal e (entry_of-some number s.entries e live.1).0 in
    let packets = u.packets in
    let bytes : e.bytes ≤ e.packets * 262144 = u.bytes in
    (e, ap (entry_of number) (sym are.entries) ∙ live.1, omega (arith, packets, few), omega (arith, packets, bytes, few, le), u.owed_packets, u.owed_bytes)

-- ---- rules

pub are_rules : (run : Run) (v rules : ℕ) (key : List ℕ) → edits_through run.bundles v ≤ rules → AreRules rules (translated run v key).visits
are_rules run v rules key le = λ k d within. (let a = visits_added run v key k d within in (a.0, let b = a.1 in omega (arith, b, le)))

-- ---- slots

slots_remembered : (a b c : List Slot) (key : List ℕ) (r : Looked) → AreSameSlots a b → AreSameSlots c (slots_after r key a)
    → AreSameSlots c (slots_after r key b)
slots_remembered a b c key (Exact number) alike put = same_slots-transitive c a b put alike
slots_remembered a b c key (Mega number) alike put =
    same_slots-transitive c (with_cached key number a) (with_cached key number b) put (same_slots-with_cached a b key number alike)
slots_remembered a b c key Miss alike put = same_slots-transitive c a b put alike

-- the exact-match cache keeps what a look of a key found
pub remembered : (c d : Caches) (t : State) (key : List ℕ) (r : Looked) → AreCachesOf c t → d ≡ record c { slots = d.slots }
    → AreSameSlots d.slots (slots_after r key c.slots) → AreCachesOf d (record t { slots = slots_after r key t.slots })
remembered c d t key r are rest put = record {
  entries = are.entries ∙ sym (ap (λ (x : Caches). x.entries) rest);
  made = are.made ∙ sym (ap (λ (x : Caches). x.made) rest);
  slots = slots_remembered c.slots t.slots d.slots key r are.slots put;
  totals = λ rule. are.totals rule ∙ sym (ap (λ (x : Caches). total_of x.totals rule) rest);
}

-- ---- totals

credited_alike : (visits : List ℕ) (packets bytes : ℕ) (t u : ℕ → Total) (rule : ℕ) → t rule ≡ u rule
    → credited visits packets bytes t rule ≡ credited visits packets bytes u rule
credited_alike visits packets bytes t u rule same = rw same refl

credited_by_alike : (entries : List Entry) (t u : ℕ → Total) → ((rule : ℕ) → t rule ≡ u rule) → (rule : ℕ) → credited_by entries t rule ≡ credited_by entries u rule
unfolding credited_by
credited_by_alike [] t u same rule = same rule
credited_by_alike (e ∷ entries) t u same rule =
    credited_by_alike entries (credited e.visits e.owed_packets e.owed_bytes t) (credited e.visits e.owed_packets e.owed_bytes u)
    (λ r. credited_alike e.visits e.owed_packets e.owed_bytes t u r (same r)) rule

few_totals : (run : Run) (port : ℕ) (s : State) → length (frames_of run port) + 1 < 2 ^ 32
    → ((rule : ℕ) → HasBoundedCounts run port snap_length s rule) → HasFewTotals s
few_totals run port s few bounded rule = (let p = (bounded rule).packets in omega (arith, p, few), let b = (bounded rule).bytes in omega (arith, b, few))

-- what a settle leads to, in the words of the caches
pub settle_is : (run : Run) (port : ℕ) (s : State) (place v : ℕ) (r : Settled)
    → effect run port s (Settle place v r)
    ≡ settle_effect (key_at run port place) (mask_for run v (key_at run port place)) place v (translated run v (key_at run port place)) (frame_at run port place) r s
settle_is run port s place v (Present n) = refl
settle_is run port s place v Full = refl
settle_is run port s place v (Installed n numbers) = refl

settle_totals : (key mask : List ℕ) (p q v : ℕ) (t : Translation) (f g : Frame) (r : Settled) (a b : State) → a.entries ≡ b.entries
    → ((rule : ℕ) → a.totals rule ≡ b.totals rule) → length f.bytes ≡ length g.bytes → (rule : ℕ)
    → (settle_effect key mask p v t f r a).totals rule ≡ (settle_effect key mask q v t g r b).totals rule
settle_totals key mask p q v t f g (Present n) a b entries totals size rule =
    credited_alike t.visits 1 (length f.bytes) a.totals b.totals rule (totals rule) ∙ ap (λ l. credited t.visits 1 l b.totals rule) size
settle_totals key mask p q v t f g Full a b entries totals size rule =
    credited_alike t.visits 1 (length f.bytes) a.totals b.totals rule (totals rule) ∙ ap (λ l. credited t.visits 1 l b.totals rule) size
settle_totals key mask p q v t f g (Installed n numbers) a b entries totals size rule =
    let dropped = λ (es : List Entry). filter (λ (e : Entry). is_among numbers e.number) es in
    ap (λ es. credited_by (dropped es) (credited t.visits 1 (length f.bytes) a.totals) rule) entries
    ∙ credited_by_alike (dropped b.entries) (credited t.visits 1 (length f.bytes) a.totals) (credited t.visits 1 (length g.bytes) b.totals)
    (λ x. credited_alike t.visits 1 (length f.bytes) a.totals b.totals x (totals x) ∙ ap (λ l. credited t.visits 1 l b.totals x) size) rule

settled_alike : (limit : ℕ) (key mask : List ℕ) (a b : State) → a.entries ≡ b.entries → a.made ≡ b.made → settle_result limit key mask a ≡ settle_result limit key mask b
settled_alike limit key mask a b entries made = rw (entries, made) refl

-- the totals after a legal settle are numbers of 64 bits, whatever state with these caches it is thought to start from
pub settle_fits : (run : Run) (port limit : ℕ) (steps : List Step) (c : Caches) (place v length_ time : ℕ)
    → AreInOrder run.syncs (last_version run) → IsLegal run port limit steps → All IsShort (frames_of run port)
    → length (frames_of run port) + 1 < 2 ^ 32 → AreCachesOf c (after run port steps) → IsFrameOf length_ time (frame_at run port place)
    → Legal run port limit (after run port steps) (Settle place v (settled run limit (key_at run port place) v (after run port steps)))
    → HasKeys run port (effect run port (after run port steps) (Settle place v (settled run limit (key_at run port place) v (after run port steps)))).next
    → (s : State) (frame : Frame) → AreCachesOf c s → IsFrameOf length_ time frame
    → HasFewTotals (settle_state limit (key_at run port place) (mask_for run v (key_at run port place)) 1 v (translated run v (key_at run port place)) frame s)
settle_fits run port limit steps c place v length_ time in_order legal short few are is_frame last keys s frame these this rule =
    let here = after run port steps in
    let key = key_at run port place in
    let mask = mask_for run v key in
    let t = translated run v key in
    let r = settled run limit key v here in
    let few_here = few_totals run port (effect run port here (Settle place v r)) few
    (bounded_step run port limit snap_length steps (Settle place v r) in_order keys short legal last) in
    let few_there = subst (λ (x : State). HasFewTotals x) (settle_is run port here place v r) few_here in
    let entries = these.entries ∙ sym are.entries in
    let same : settle_result limit key mask s ≡ r = settled_alike limit key mask s here entries (these.made ∙ sym are.made) in
    let total : (settle_state limit key mask 1 v t frame s).totals rule ≡ (settle_effect key mask place v t (frame_at run port place) r here).totals rule =
    ap (λ x. (settle_effect key mask 1 v t frame x s).totals rule) same
    ∙ settle_totals key mask 1 place v t frame (frame_at run port place) r s here entries (λ x. these.totals x ∙ sym (are.totals x))
    (sym this.length_is ∙ is_frame.length_is) rule in
    subst (λ (x : Total). (x.packets < 2 ^ 64) × (x.bytes < 2 ^ 64)) (sym total) (few_there rule)

-- what a put leads to
put_totals : (r : PutDone) (number v : ℕ) (t : Translation) (s : State) (rule : ℕ) → (with_put r number v t s).totals rule ≡ s.totals rule
put_totals Idle number v t s rule = refl
put_totals Removed number v t s rule = refl
put_totals Kept number v t s rule = refl
put_totals Replaced number v t s rule = refl

-- the same of a put
pub put_fits : (run : Run) (port limit : ℕ) (steps : List Step) (c : Caches) (number v : ℕ) (e : Entry)
    → AreInOrder run.syncs (last_version run) → IsLegal run port limit steps → All IsShort (frames_of run port)
    → length (frames_of run port) + 1 < 2 ^ 32 → AreCachesOf c (after run port steps) → entry_of number (after run port steps).entries ≡ Some e
    → Legal run port limit (after run port steps) (Put number v (put_done run e v (after run port steps)))
    → HasKeys run port (effect run port (after run port steps) (Put number v (put_done run e v (after run port steps)))).next
    → (mask : List ℕ) (t : Translation) (s : State) (f : Entry) → AreCachesOf c s → entry_of number s.entries ≡ Some f
    → HasFewTotals (put_state f mask v t s)
put_fits run port limit steps c number v e in_order legal short few are found last keys mask t s f these found_there rule =
    let here = after run port steps in
    let r = put_done run e v here in
    let few_here = few_totals run port (effect run port here (Put number v r)) few
    (bounded_step run port limit snap_length steps (Put number v r) in_order keys short legal last) in
    let paid_of = λ (es : List Entry). filter (λ (x : Entry). is_among (number ∷ []) x.number) es in
    let is : f.number ≡ number = (entry_of-some number s.entries f found_there).1 in
    let total : (put_state f mask v t s).totals rule ≡ (effect run port here (Put number v r)).totals rule =
    put_totals (put_of f t mask s) f.number v t (put_by f.number v s) rule
    ∙ ap (λ n. (put_by n v s).totals rule) is
    ∙ ap (λ es. credited_by (paid_of es) s.totals rule) (these.entries ∙ sym are.entries)
    ∙ credited_by_alike (paid_of here.entries) s.totals here.totals (λ x. these.totals x ∙ sym (are.totals x)) rule
    ∙ sym (put_totals r number v (translated run v (key_of_entry (entry_of number here.entries))) (put_by number v here) rule) in
    subst (λ (x : Total). (x.packets < 2 ^ 64) × (x.bytes < 2 ^ 64)) (sym total) (few_here rule)
