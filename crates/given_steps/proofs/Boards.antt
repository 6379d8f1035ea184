-- What an attempt at a step does to a board.
use Rattle.std.proofs.Common.{◌≡◌, ℕ, true, false, Option, Some, None, Result, Ok, Err, sym, ap, subst}
use Rattle.std.specs.Prelude.{IfOk, IfErr, OnOk, is_ok}
use Rattle.std.specs.Option.{is_none}
use Rattle.spec_case.specs.Run.{Run}
use Rattle.spec_board.specs.declared.put_done.PutDone.{PutDone}
use Rattle.spec_board.specs.Steps.{Step, Put}
use Rattle.spec_board.specs.Refusals.{put_fault}
use Rattle.spec_board.specs.Schedules as schedules
use Rattle.spec_board.specs.Journals.{IsLegal}
use Rattle.board_laws.proofs.Kept.{kept_after}
use Rattle.pmd_board.specs.BoardView.{BoardView, Appends, state_of}
use Rattle.run_boards.specs.Scheduled.{under_way}
use Rattle.run_boards.proofs.Scheduled.{state_after, put_step}
use Rattle.given_steps.specs.Keys.{IsKeyOfEntry}
use Rattle.given_steps.specs.Taken.{GoesOn, TookIf}
use Rattle.given_steps.proofs.Entries.{keys_stay}

-- ---- it goes on

pub stays : (run : Run) (a b : BoardView) → b ≡ a → GoesOn run a b
stays run a b is = record {
  port = ap (λ (x : BoardView). x.port) is;
  limit = ap (λ (x : BoardView). x.flow_limit) is;
  keys = λ number key of. subst (λ (x : BoardView). IsKeyOfEntry (state_of run x) number key) (sym is) of;
}

pub goes_on : (run : Run) (a b : BoardView) (step : Step) → IsLegal run a.port a.flow_limit a.journal → Appends run a step b → GoesOn run a b
goes_on run a b step legal appends = record {
  port = ap (λ (x : BoardView). x.port) appends.appended;
  limit = ap (λ (x : BoardView). x.flow_limit) appends.appended;
  keys = λ number key of.
      let k = kept_after run a.port a.flow_limit a.journal legal in
      subst (λ s. IsKeyOfEntry s number key) (sym (state_after run a b step appends)) (keys_stay run a.port a.flow_limit (state_of run a) k.apart step appends.legal number key of);
}

-- ---- whether it was taken

-- a step that nothing refuses, and one that something refuses
pub took : (run : Run) {F : Type 0} (fault : Option F) (x : schedules.Board) (a b : BoardView) → fault ≡ None → under_way run b ≡ x → TookIf run (is_none fault) x a true b
took run fault x a b none is = record { met = sym (ap is_none none); taken = is }

pub refused : (run : Run) {F : Type 0} (fault : Option F) (f : F) (x : schedules.Board) (a b : BoardView) → fault ≡ Some f → b ≡ a → TookIf run (is_none fault) x a false b
refused run fault f x a b some is = record { met = sym (ap is_none some); taken = ap (under_way run) is }

-- as a call of a board answers it
pub answered : (run : Run) {A F : Type 0} (fault : Option F) (x : schedules.Board) (a b : BoardView) (r : Result A F)
    → IfOk r (λ y. (fault ≡ None) × (under_way run b ≡ x)) → IfErr r (λ f. (fault ≡ Some f) × (b ≡ a)) → TookIf run (is_none fault) x a (is_ok r) b
answered run fault x a b (Ok y) done not = took run fault x a b done.0 done.1
answered run fault x a b (Err f) done not = refused run fault f x a b not.0 not.1

pub goes_on_by : (run : Run) {A F : Type 0} (a b : BoardView) (r : Result A F) (step : A → Step) (fault : Option F) → IsLegal run a.port a.flow_limit a.journal
    → IfOk r (λ x. Appends run a (step x) b) → IfErr r (λ f. (fault ≡ Some f) × (b ≡ a)) → GoesOn run a b
goes_on_by run a b (Ok x) step fault legal done not = goes_on run a b (step x) legal done
goes_on_by run a b (Err f) step fault legal done not = stays run a b not.1

pub if_ok_then : {A E : Type 0} {P Q : A → Type 0} (r : Result A E) → ((x : A) → P x → Q x) → IfOk r P → IfOk r Q
if_ok_then (Ok x) more is = more x is
if_ok_then (Err e) more is = is

pub on_ok_then : {A E : Type 0} {P : A → Type 0} {Q : Type 0} (r : Result A E) → ((x : A) → P x → Q) → IfOk r P → OnOk r Q
on_ok_then (Ok x) more is = more x is
on_ok_then (Err e) more is = is

-- ---- each step

pub put_legal : (run : Run) (a b : BoardView) (number v : ℕ) (done : PutDone) → Appends run a (Put number v done) b
    → (put_fault run (state_of run a) number v ≡ None) × (under_way run b ≡ schedules.put_at run v number (under_way run a))
put_legal run a b number v done appends = (appends.legal.0, put_step run a b number v (record { result = done; appends = appends }))
