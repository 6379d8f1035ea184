-- What is printed of a trace that was made, and what stands where there is none.
use Rattle.std.proofs.Common.{◌≡◌, ℕ, List, ap, ◌∙◌, sym}
use Rattle.spec_actions.specs.declared.action.DpAction.{DpAction}
use Rattle.spec_tables.specs.Rules.{Rule}
use Rattle.spec_xlate.specs.Translation.{switch_of, pipe}
use Rattle.spec_xlate.specs.Consulted.{consulted}
use Rattle.edge_io.specs.declared.outside.Shelf as shelf
use Rattle.edge_io.specs.declared.outside.Sink as sink
use Rattle.spec_tools.specs.declared.lookup.Lookup.{Lookup}
use Rattle.spec_tools.specs.Paths.{path_of, last_of}
use Rattle.spec_tools.specs.TraceTexts.{told_text, traced_text}
use Rattle.trace_app.specs.declared.refusal.Refusal.{Refusal}
use Rattle.trace_app.specs.declared.refusal.Refusal.TheVariants.{Usage, Reading, NoPort, Printing}
use Rattle.trace_app.specs.Refused.{IsUntold}
use Rattle.trace_app.specs.Leaving.{LeavesUnread, Leaves}

-- what is told of a trace is its text
pub told-traced : (live rules : List Rule) (ports key : List ℕ) (lookups : List Lookup) (end mask : List ℕ) (actions : List DpAction)
    → rules ≡ live → lookups ≡ path_of (switch_of rules ports) key → end ≡ last_of (switch_of rules ports) key → mask ≡ consulted (switch_of rules ports) key
    → actions ≡ (pipe (switch_of rules ports) key).actions → told_text live key lookups end mask actions ≡ traced_text rules ports key
unfolding traced_text
told-traced live rules ports key lookups end mask actions same p l m a =
    let sw = switch_of rules ports in
    ap (λ (z : List Rule). told_text z key lookups end mask actions) (sym same)
    ∙ ap (λ (z : List Lookup). told_text rules key z end mask actions) p
    ∙ ap (λ (z : List ℕ). told_text rules key (path_of sw key) z mask actions) l
    ∙ ap (λ (z : List ℕ). told_text rules key (path_of sw key) (last_of sw key) z actions) m
    ∙ ap (λ (z : List DpAction). told_text rules key (path_of sw key) (last_of sw key) (consulted sw key) z) a

pub unread_leaves : {S K : Type 0} (g : shelf.Ghosts S) (h : sink.Ghosts K) (words : List (List ℕ)) (old new : S) (said saying : K) (r : Refusal)
    → IsUntold r → LeavesUnread g h words old new said saying r → Leaves g h words old new said saying r
unread_leaves g h words old new said saying Usage untold left = left
unread_leaves g h words old new said saying (Reading r) untold left = left
unread_leaves g h words old new said saying (NoPort port) untold left = left
unread_leaves g h words old new said saying (Printing f) untold left = absurd untold
