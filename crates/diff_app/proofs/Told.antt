-- What stands where no difference is told, by the refusal.
use Rattle.std.proofs.Common.{◌≡◌, ℕ, List, [], ◌∷◌, ◌⊎◌, inl, inr, refl}
use Rattle.spec_run.specs.Statuses.{done_status}
use Rattle.spec_tools.specs.Lines.{Line}
use Rattle.spec_tools.specs.DiffStatuses.{differ_status, found_status}
use Rattle.edge_io.specs.declared.outside.Shelf as shelf
use Rattle.edge_io.specs.declared.outside.Sink as sink
use Rattle.diff_app.specs.declared.refusal.Refusal.{Refusal}
use Rattle.diff_app.specs.declared.refusal.Refusal.TheVariants.{Usage, Reading, TooManyCubes, Printing}
use Rattle.diff_app.specs.Refused.{IsUntold, refusal_of}
use Rattle.switch_input.specs.declared.refusals.refusal.InputRefusal.TheVariants as input
use Rattle.table_diff.specs.declared.error.CompareError.{CompareError}
use Rattle.table_diff.specs.declared.error.CompareError.TheVariants as compared
use Rattle.diff_app.specs.Leaving.{LeavesUnread, LeavesUnfound, Leaves}

pub unread_leaves : {S K : Type 0} (g : shelf.Ghosts S) (h : sink.Ghosts K) (words : List (List ℕ)) (old new : S) (said saying : K) (r : Refusal)
    → IsUntold r → LeavesUnread g h words old new said saying r → Leaves g h words old new said saying r
unread_leaves g h words old new said saying Usage untold left = left
unread_leaves g h words old new said saying (Reading r) untold left = left
unread_leaves g h words old new said saying TooManyCubes untold left = absurd untold
unread_leaves g h words old new said saying (Printing f) untold left = absurd untold

-- the status of a comparison is one of two
pub found : (lines : List Line) (status : ℕ) → status ≡ found_status lines → (status ≡ done_status) ⊎ (status ≡ differ_status)
found [] status is = inl is
found (l ∷ lines) status is = inr is

-- a comparison that is given up, or memory that runs out in it
pub unfound_leaves : {S K : Type 0} (g : shelf.Ghosts S) (h : sink.Ghosts K) (words : List (List ℕ)) (old new : S) (said saying : K) (e : CompareError)
    → LeavesUnread g h words old new said saying (Reading input.OutOfMemory) → (e ≡ compared.TooMany → LeavesUnfound g h words old new said saying)
    → Leaves g h words old new said saying (refusal_of e)
unfound_leaves g h words old new said saying compared.TooMany out many = many refl
unfound_leaves g h words old new said saying compared.OutOfMemory out many = out
