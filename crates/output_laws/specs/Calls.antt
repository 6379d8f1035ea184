-- What holds of each call of the switch that ends with success and tells what it printed.
use Rattle.std.specs.Prelude.{◌≡◌, ℕ, List, Ok, IsTrue}
use Rattle.spec_input.specs.Words.{Command, Made}
use Rattle.spec_run.specs.Verdict.{Accepted, command_in, verdict}
use Rattle.spec_run.specs.Statuses.{done_status}
use Rattle.edge_io.specs.declared.outside.Shelf as shelf
use Rattle.edge_io.specs.declared.outside.Sink as sink
use Rattle.switch_app.specs.Ends.{Ends, Knows}

module _ {S K : Type 0} (g : shelf.Ghosts S) (h : sink.Ghosts K) where
  -- Where what it reads is known too, it holds of what was accepted, and of what was printed before the call and after it.
  abbrev pub OfDoneRuns : (Accepted → List ℕ → List ℕ → Type 0) → Type 0
  OfDoneRuns claim =
      (words : List (List ℕ)) (old new : S) (said saying : K) (a : Accepted)
      → Ends g h words old new said saying done_status → Knows g h words old new said saying → IsTrue h.tells
      → verdict words (g.told old).holds ≡ Ok a → claim a (h.written said) (h.written saying)

  -- Where it makes what a number gives, it holds of the number, of the limit of entries, and of what was printed.
  abbrev pub OfMadeRuns : (ℕ → ℕ → List ℕ → List ℕ → Type 0) → Type 0
  OfMadeRuns claim =
      (words : List (List ℕ)) (old new : S) (said saying : K) (c : Command) (number : ℕ)
      → Ends g h words old new said saying done_status → IsTrue h.tells
      → command_in words ≡ Ok c → c.input ≡ Made number
      → claim number c.flow_limit (h.written said) (h.written saying)
