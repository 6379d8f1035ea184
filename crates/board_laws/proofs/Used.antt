-- What an entry counts: it owes no more than it counted, and it decided no more frames than were looked up.
use Rattle.std.proofs.Common.{◌≡◌, ℕ, ◌+◌, ◌≤◌, ◌==◌, Bool, true, false, if◌then◌else◌, List, [], ◌∷◌, ◌++◌, length, map, ◌⊎◌, inl, inr, sym, subst, arith}
use Rattle.spec_pcap.specs.Pcap.{Frame}
use Rattle.spec_xlate.specs.Translation.{Translation}
use Rattle.spec_case.specs.Run.{Run, frame_at}
use Rattle.spec_board.specs.declared.looked.Looked.TheVariants.{Exact, Mega, Miss}
use Rattle.spec_board.specs.declared.put_done.PutDone.TheVariants.{Idle, Removed, Kept, Replaced}
use Rattle.spec_board.specs.Steps.{Step, Open, Look, Settle, Begin, Put, End, Present, Full, Installed}
use Rattle.spec_board.specs.State.{Entry, State}
use Rattle.spec_board.specs.Effects.{effect, is_among, hit_by, revalidated}
use Rattle.spec_board.specs.Journals.{Legal, IsLegal, opened, after}
use Rattle.table_laws.proofs.MemberLaws.{Among, Among-append, Among-filter}
use Rattle.board_laws.specs.Counts.{IsUsed}
use Rattle.board_laws.proofs.ListLaws.{Among-map}
use Rattle.board_laws.proofs.Changes.{pay, hit, renew, is_without, left_by, renewed_by}
use Rattle.board_laws.proofs.Journals.{kept_along, next_le}

module _ (next most : ℕ) where
  pay_used : (numbers : List ℕ) (e : Entry) → IsUsed next most e → IsUsed next most (pay numbers e)
  pay_used numbers e u = at (is_among numbers e.number)
    where
      at : (t : Bool) → IsUsed next most (if t then record e { owed_packets = 0; owed_bytes = 0 } else e)
      at true = record { owed_packets = omega arith; owed_bytes = omega arith; packets = u.packets; bytes = u.bytes }
      at false = u

  hit_used : (n : ℕ) (frame : Frame) (e : Entry) → length frame.bytes ≤ most → IsUsed next most e → IsUsed (next + 1) most (hit n frame e)
  hit_used n frame e l u = at (e.number == n)
    where
      at : (t : Bool) → IsUsed (next + 1) most (if t then hit_by frame e else e)
      at true = record { owed_packets = omega (arith, u.owed_packets); owed_bytes = omega (arith, u.owed_bytes); packets = omega (arith, u.packets); bytes = omega (arith, u.bytes, l) }
      at false = record { owed_packets = u.owed_packets; owed_bytes = u.owed_bytes; packets = omega (arith, u.packets); bytes = u.bytes }

  renew_used : (n v : ℕ) (t : Translation) (e : Entry) → IsUsed next most e → IsUsed next most (if e.number == n then revalidated v t e else e)
  renew_used n v t e u = at (e.number == n)
    where
      at : (b : Bool) → IsUsed next most (if b then revalidated v t e else e)
      at true = record { owed_packets = u.owed_packets; owed_bytes = u.owed_bytes; packets = u.packets; bytes = u.bytes }
      at false = u

  as_used : (e d : Entry) → e ≡ d → IsUsed next most d → IsUsed next most e
  as_used e d q u = subst (λ (x : Entry). IsUsed next most x) (sym q) u

  more_used : (e : Entry) → IsUsed next most e → IsUsed (next + 1) most e
  more_used e u = record { owed_packets = u.owed_packets; owed_bytes = u.owed_bytes; packets = omega (arith, u.packets); bytes = u.bytes }

module _ (run : Run) (port limit most : ℕ) (short : (place : ℕ) → length (frame_at run port place).bytes ≤ most)
    (s : State) (first : 1 ≤ s.next) (used : (e : Entry) → Among e s.entries → IsUsed s.next most e) where
  looked : (n place : ℕ) (e : Entry) → Among e (map (hit n (frame_at run port place)) s.entries) → IsUsed (s.next + 1) most e
  looked n place e m =
      let r = Among-map (hit n (frame_at run port place)) e s.entries m in
      as_used (s.next + 1) most e _ r.2 (hit_used s.next most n (frame_at run port place) r.0 (short place) (used r.0 r.1))

  paid : (numbers : List ℕ) (e : Entry) → Among e (map (pay numbers) s.entries) → IsUsed s.next most e
  paid numbers e m =
      let r = Among-map (pay numbers) e s.entries m in
      as_used s.next most e _ r.2 (pay_used s.next most numbers r.0 (used r.0 r.1))

  left : (numbers : List ℕ) (e : Entry) → Among e (left_by numbers s.entries) → IsUsed s.next most e
  left numbers e m = paid numbers e (Among-filter (is_without numbers) e (map (pay numbers) s.entries) m).0

  pushed : (numbers : List ℕ) (e new : Entry) → IsUsed s.next most new → Among e (left_by numbers s.entries) ⊎ Among e (new ∷ []) → IsUsed s.next most e
  pushed numbers e new u (inl m) = left numbers e m
  pushed numbers e new u (inr (inl q)) = as_used s.next most e new q u
  pushed numbers e new u (inr (inr z)) = absurd z

  installed : (numbers : List ℕ) (new : Entry) → IsUsed s.next most new → (e : Entry) → Among e (left_by numbers s.entries ++ new ∷ []) → IsUsed s.next most e
  installed numbers new u e m = pushed numbers e new u (Among-append e (left_by numbers s.entries) (new ∷ []) m)

  renewed : (n v : ℕ) (t : Translation) (e : Entry) → Among e (renewed_by n v t s.entries) → IsUsed s.next most e
  renewed n v t e m =
      let r = Among-map (renew n v t) e (map (pay (n ∷ [])) s.entries) m in
      as_used s.next most e _ r.2 (renew_used s.next most n v t r.0 (paid (n ∷ []) r.0 r.1))

  used_keep : (step : Step) → Legal run port limit s step → (e : Entry) → Among e (effect run port s step).entries → IsUsed (effect run port s step).next most e
  used_keep (Open block) legal = used
  used_keep (Look place (Exact n)) legal = looked n place
  used_keep (Look place (Mega n)) legal = looked n place
  used_keep (Look place Miss) legal = λ e m. more_used s.next most e (used e m)
  used_keep (Settle place v (Present n)) legal = used
  used_keep (Settle place v Full) legal = used
  used_keep (Settle place v (Installed n numbers)) legal =
      installed numbers _ (record { owed_packets = omega arith; owed_bytes = omega arith; packets = omega (arith, first); bytes = omega arith })
  used_keep (Begin v) legal = used
  used_keep (Put n v Idle) legal = left (n ∷ [])
  used_keep (Put n v Removed) legal = left (n ∷ [])
  used_keep (Put n v Kept) legal = renewed n v _
  used_keep (Put n v Replaced) legal = renewed n v _
  used_keep End legal = used

-- What an entry counts, on a board whose next place is at least the first.
record AreUsed (most : ℕ) (s : State) : Type 0 where
  first : 1 ≤ s.next
  used : (e : Entry) → Among e s.entries → IsUsed s.next most e

pub used_after : (run : Run) (port limit most : ℕ) → ((place : ℕ) → length (frame_at run port place).bytes ≤ most)
    → (steps : List Step) → IsLegal run port limit steps → (e : Entry) → Among e (after run port steps).entries → IsUsed (after run port steps).next most e
used_after run port limit most short steps legal =
    (kept_along run port limit (AreUsed most) keeps (opened run port) (record { first = omega arith; used = λ e m. absurd m }) steps legal).used
  where
    keeps : (s : State) → AreUsed most s → (step : Step) → Legal run port limit s step → AreUsed most (effect run port s step)
    keeps s k step legal = record {
      first = (let l = next_le run port s step in omega (arith, l, k.first));
      used = used_keep run port limit most short s k.first k.used step legal;
    }
