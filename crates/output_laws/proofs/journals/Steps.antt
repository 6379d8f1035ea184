-- The numbers of a legal step, each no greater than one of the run.
use Rattle.std.proofs.Common.{◌≡◌, ℕ, ◌+◌, ◌≤◌, Bool, true, false, not, nat_lt, if◌then◌else◌, List, [], length, filter, All, Option, Some, None, refl, sym, subst, arith}
use Rattle.spec_case.specs.Run.{Run, last_version, frames_of}
use Rattle.spec_case.specs.Blocks.{hi}
use Rattle.spec_board.specs.declared.looked.Looked.TheVariants.{Exact, Mega, Miss}
use Rattle.spec_board.specs.Steps.{Step, Open, Look, Settle, Begin, Put, End, Present, Full, Installed}
use Rattle.spec_keys.specs.Keys.{agree}
use Rattle.spec_board.specs.State.{Entry, State, place_at, is_pending}
use Rattle.spec_board.specs.Results.{key_at, mask_for, numbers_of, covering, overlaps, settled_beside, settled_anew}
use Rattle.spec_board.specs.Journals.{Legal}
use Rattle.table_laws.proofs.MemberLaws.{Among, Among-filter, All_from-Among}
use Rattle.board_laws.proofs.ListLaws.{find-some}
use Rattle.board_laws.proofs.NumberLaws.{among_number, is_among-Among}
use Rattle.board_laws.proofs.PlaceLaws.{pending_upto}
use Rattle.board_laws.proofs.Refusals.{may_open, may_look, may_settle, may_begin, may_put}
use Rattle.board_laws.proofs.Origins.{installs}
use Rattle.board_laws.proofs.Told.{exact_hit, mega_hit}
use Rattle.board_steps.specs.Printable.{IsPrintable, IsPrintableStep}
use Rattle.output_laws.specs.Few.{HasFewNumbers}
use Rattle.output_laws.proofs.journals.Made.{IsCounted, place_within, settled}

no_greater : (m n : ℕ) → m ≤ n → IsPrintable n → IsPrintable m
no_greater m n le fits = omega (arith, le, fits)

module _ (run : Run) (port limit : ℕ) (few : HasFewNumbers run) (s : State) (c : IsCounted run port limit s) where
  -- an entry has the number of one that was made, and no more are made than frames come in
  entry_fits : (e : Entry) → Among e s.entries → IsPrintable e.number
  entry_fits e there =
      let made = c.kept.kept.apart.made e there in
      no_greater e.number (length (frames_of run port)) (omega (arith, made, c.made, c.looked)) (few.frames port)

  number_fits : (n : ℕ) → Among n (numbers_of s.entries) → IsPrintable n
  number_fits n there =
      let r = among_number n s.entries there in subst IsPrintable (sym r.2) (entry_fits r.0 r.1)

  named_fits : (n : ℕ) (e : Entry) → Among e s.entries → e.number ≡ n → IsPrintable n
  named_fits n e there is = subst IsPrintable is (entry_fits e there)

  version_fits : (v : ℕ) → v ≤ hi run s.block → IsPrintable v
  version_fits v within =
      let most = (few.in_order s.block).1 in no_greater v (last_version run) (omega (arith, within, most)) few.versions

  place_fits : (place : ℕ) → place ≤ length (frames_of run port) → IsPrintable place
  place_fits place within = no_greater place (length (frames_of run port)) within (few.frames port)

  pending_within : (place : ℕ) → is_pending (place_at place s) ≡ true → place ≤ length (frames_of run port)
  pending_within place pending = let there = pending_upto s.places place pending in omega (arith, there, c.kept.kept.places.all_places)

  -- the entry that covers the key of a frame already
  not_anew : (key mask : List ℕ) (n : ℕ) → Present n ≡ settled_anew limit key mask s → ⊥
  not_anew key mask n h = at (nat_lt (length (filter (λ e. not (overlaps key mask e)) s.entries)) limit) h
    where
      at : (room : Bool) → Present n ≡ (if room then Installed (s.made + 1) (numbers_of (filter (overlaps key mask) s.entries)) else Full) → ⊥
      at true h = cc h
      at false h = cc h

  present : (key mask : List ℕ) (n : ℕ) (o : Option Entry) → covering key s.entries ≡ o → Present n ≡ settled_beside limit key mask s o → IsPrintable n
  present key mask n None is h = absurd (not_anew key mask n h)
  present key mask n (Some e) is h =
      let same : n ≡ e.number = cc h in
      named_fits n e (find-some (λ (x : Entry). agree key x.key x.mask) s.entries e is).0 (sym same)

  -- the number of a new one: a place was pending for it
  new_fits : (place v n : ℕ) → is_pending (place_at place s) ≡ true → n ≡ s.made + 1 → IsPrintable n
  new_fits place v n pending number =
      let w = settled run port limit s c place v [] pending in
      no_greater n (length (frames_of run port)) (omega (arith, w, number, c.made, c.looked)) (few.frames port)

  -- those that it takes the place of
  dropped_fit : (key mask numbers : List ℕ) → numbers ≡ numbers_of (filter (overlaps key mask) s.entries) → All IsPrintable numbers
  dropped_fit key mask numbers are =
      subst (λ (ns : List ℕ). All IsPrintable ns) (sym are)
      (All_from-Among IsPrintable (numbers_of (filter (overlaps key mask) s.entries)) fits)
    where
      fits : (n : ℕ) → Among n (numbers_of (filter (overlaps key mask) s.entries)) → IsPrintable n
      fits n there =
          let r = among_number n (filter (overlaps key mask) s.entries) there in
          named_fits n r.0 (Among-filter (overlaps key mask) r.0 s.entries r.1).0 (sym r.2)

  pub step_fits : (step : Step) → Legal run port limit s step → IsPrintableStep step
  step_fits (Open block) legal = no_greater block _ (may_open run port s block legal).there few.blocks
  step_fits (Look place (Exact n)) legal =
      let h = exact_hit run port limit s c.kept place n legal in
      (place_fits place (place_within run port limit s c place (may_look run port s place legal.0)), named_fits n h.entry h.live h.number)
  step_fits (Look place (Mega n)) legal =
      let h = mega_hit run port limit s c.kept place n legal in
      (place_fits place (place_within run port limit s c place (may_look run port s place legal.0)), named_fits n h.entry h.live h.number)
  step_fits (Look place Miss) legal =
      (place_fits place (place_within run port limit s c place (may_look run port s place legal.0)), tt)
  step_fits (Settle place v (Present n)) legal =
      let may = may_settle run s place v legal.0 in
      (place_fits place (pending_within place may.pending), version_fits v may.not_ahead, present (key_at run port place) (mask_for run v (key_at run port place)) n (covering (key_at run port place) s.entries) refl legal.1)
  step_fits (Settle place v Full) legal =
      let may = may_settle run s place v legal.0 in
      (place_fits place (pending_within place may.pending), version_fits v may.not_ahead, tt)
  step_fits (Settle place v (Installed n numbers)) legal =
      let may = may_settle run s place v legal.0 in
      let in_ = installs run port limit s place v n numbers legal in
      (place_fits place (pending_within place may.pending), version_fits v may.not_ahead, (new_fits place v n may.pending in_.number, dropped_fit (key_at run port place) (mask_for run v (key_at run port place)) numbers in_.dropped))
  step_fits (Begin v) legal = version_fits v (may_begin run s v legal).1
  step_fits (Put n v r) legal =
      let may = may_put run s n v legal.0 in
      (number_fits n (c.kept.kept.listed.live n (is_among-Among s.listed n may.listed)), version_fits v may.not_ahead)
  step_fits End legal = tt
