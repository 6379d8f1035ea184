use Rattle.std.proofs.Common.{◌≡◌, ◌≤◌, All, Bool, true, false, List, [], ◌∷◌, ◌++◌, if◌then◌else◌, arith}
use Rattle.std.proofs.lemmas.List.Elements.{All-push, All-weaker}
use Rattle.upcall_handler.specs.declared.translated.Translated.{Translated}
use Rattle.upcall_handler.proofs.handling.translate_each.Goals as goal

-- what a push leaves, whether there was memory or not
pushed : {X : Type 0} (P : X → Type 0) (ok : Bool) (xs : List X) (x : X) → All P xs → P x → All P (if ok then xs ++ x ∷ [] else xs)
pushed P true xs x before one = All-push P xs x before one
pushed P false xs x before one = before

pub upcalls-preserved : goal.upcalls-preserved
upcalls-preserved g c =
    let IsOld : Translated g.row.C.Denot g.C.Case → Type 0 = λ t. t.made.version ≤ c.upcalls.seer.version in
    let IsSeen : Translated g.row.C.Denot g.C.Case → Type 0 = λ t. t.made.version ≤ c.translate_frame-back.result.0.version in
    let newer : c.upcalls.seer.version ≤ c.translate_frame-back.result.0.version = c.translate_frame-back.ensures.newer in
    let before : c.args.seer.version ≤ c.upcalls.seer.version = c.upcalls.invariant.newer in
    let kept : All IsSeen c.upcalls.batch.items = All-weaker IsOld IsSeen (λ t old. omega (arith, old, newer)) c.upcalls.batch.items c.upcalls.invariant.seen in
    let same : c.in-Ok.made.version ≡ c.translate_frame-back.result.0.version = rw c.in-Ok.is at c.translate_frame-back.ensures.version in
    record {
      publication = search;
      newer = omega (arith, newer, before);
      count = omega (arith, c.push.ensures.upper_bound, c.upcalls.invariant.count);
      seen = rw c.push.ensures.items (pushed IsSeen _ c.upcalls.batch.items _ kept (omega (arith, same)));
    }
