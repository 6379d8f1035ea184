-- The list of a sweep: numbers of live entries, in rising order.
use Rattle.std.proofs.Common.{◌≡◌, ℕ, ◌==◌, Bool, true, false, not, if◌then◌else◌, List, [], ◌∷◌, filter, refl, sym, ap, subst}
use Rattle.spec_xlate.specs.Translation.{Translation}
use Rattle.spec_case.specs.Run.{Run, frame_at}
use Rattle.spec_board.specs.declared.looked.Looked.TheVariants.{Exact, Mega, Miss}
use Rattle.spec_board.specs.declared.put_done.PutDone.TheVariants.{Idle, Removed, Kept, Replaced}
use Rattle.spec_board.specs.Steps.{Step, Open, Look, Settle, Begin, Put, End, Present, Full, Installed}
use Rattle.spec_board.specs.State.{State}
use Rattle.spec_board.specs.Results.{numbers_of}
use Rattle.spec_board.specs.Effects.{effect, is_among}
use Rattle.spec_board.specs.Journals.{Legal}
use Rattle.table_laws.proofs.MemberLaws.{Among, Among-filter, Among-append_left}
use Rattle.board_laws.proofs.NumberLaws.{Rising, numbers_of-append}
use Rattle.board_laws.proofs.Changes.{others, outside, left_by, renewed_by, numbers-hit, numbers-renewed, number_left}

pub record AreListed (s : State) : Type 0 where
  pub rising : Rising s.listed
  pub live : (n : ℕ) → Among n s.listed → Among n (numbers_of s.entries)

rising_numbers : (p : ℕ → Bool) (ns : List ℕ) → Rising ns → Rising (filter p ns)
rising_numbers p [] r = tt
rising_numbers p (n ∷ ns) r = at (p n) (rising_numbers p ns r.1)
  where
    at : (t : Bool) → Rising (filter p ns) → Rising (if t then n ∷ filter p ns else filter p ns)
    at true ih = (λ m a. r.0 m (Among-filter p m ns a).0, ih)
    at false ih = ih

module _ (run : Run) (port limit : ℕ) (s : State) (rising : Rising (numbers_of s.entries)) (l : AreListed s) where
  -- the entries have the same numbers as before
  same_numbers : (t : State) → numbers_of t.entries ≡ numbers_of s.entries → t.listed ≡ s.listed → AreListed t
  same_numbers t es ls = record {
    rising = subst Rising (sym ls) l.rising;
    live = λ n a. subst (λ (ns : List ℕ). Among n ns) (sym es) (l.live n (subst (λ (ns : List ℕ). Among n ns) ls a));
  }

  installed : (numbers : List ℕ) (n : ℕ) → Among n (outside numbers s.listed) → Among n (numbers_of (left_by numbers s.entries))
  installed numbers n a =
      let f = Among-filter (λ (m : ℕ). not (is_among numbers m)) n s.listed a in
      number_left numbers s.entries n (l.live n f.0) f.1

  put_away : (n m : ℕ) → Among m (outside (n ∷ []) (others n s.listed)) → Among m (numbers_of (left_by (n ∷ []) s.entries))
  put_away n m a =
      let f = Among-filter (λ (k : ℕ). not (is_among (n ∷ []) k)) m (others n s.listed) a in
      number_left (n ∷ []) s.entries m (l.live m (Among-filter (λ (k : ℕ). not (k == n)) m s.listed f.0).0) f.1

  dropped : (t : State) (n : ℕ) → t.entries ≡ left_by (n ∷ []) s.entries → t.listed ≡ outside (n ∷ []) (others n s.listed) → AreListed t
  dropped t n es ls = record {
    rising = subst Rising (sym ls) (rising_numbers _ (others n s.listed) (rising_numbers _ s.listed l.rising));
    live = λ m a. subst (λ (ns : List ℕ). Among m ns) (sym (ap numbers_of es)) (put_away n m (subst (λ (ns : List ℕ). Among m ns) ls a));
  }

  renewed : (n v : ℕ) (t : Translation) (m : ℕ) → Among m (others n s.listed) → Among m (numbers_of (renewed_by n v t s.entries))
  renewed n v t m a =
      subst (λ (ns : List ℕ). Among m ns) (sym (numbers-renewed n v t s.entries))
      (l.live m (Among-filter (λ (k : ℕ). not (k == n)) m s.listed a).0)

  pub listed_keeps : (step : Step) → Legal run port limit s step → AreListed (effect run port s step)
  listed_keeps (Open block) legal = same_numbers _ refl refl
  listed_keeps (Look place (Exact n)) legal = same_numbers _ (numbers-hit n (frame_at run port place) s.entries) refl
  listed_keeps (Look place (Mega n)) legal = same_numbers _ (numbers-hit n (frame_at run port place) s.entries) refl
  listed_keeps (Look place Miss) legal = same_numbers _ refl refl
  listed_keeps (Settle place v (Present n)) legal = same_numbers _ refl refl
  listed_keeps (Settle place v Full) legal = same_numbers _ refl refl
  listed_keeps (Settle place v (Installed n numbers)) legal = record {
    rising = rising_numbers _ s.listed l.rising;
    live = λ m a. subst (λ (ns : List ℕ). Among m ns) (sym (numbers_of-append _ _)) (Among-append_left m _ _ (installed numbers m a));
  }
  listed_keeps (Begin v) legal = record { rising = rising; live = λ n a. a }
  listed_keeps (Put n v Idle) legal = dropped _ n refl refl
  listed_keeps (Put n v Removed) legal = dropped _ n refl refl
  listed_keeps (Put n v Kept) legal = record { rising = rising_numbers _ s.listed l.rising; live = renewed n v _ }
  listed_keeps (Put n v Replaced) legal = record { rising = rising_numbers _ s.listed l.rising; live = renewed n v _ }
  listed_keeps End legal = same_numbers _ refl refl
