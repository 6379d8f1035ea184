-- The traces of the ports, one after the other.
use Rattle.std.proofs.Common.{◌≡◌, ℕ, ◌+◌, List, [], ◌∷◌, ◌++◌, ap, ◌∙◌, sym, arith}
use Rattle.std.specs.Prelude.{map}
use Rattle.std.specs.List.{range_with_len}
use Rattle.std.proofs.lemmas.List.{map-append}
use Rattle.std.proofs.lemmas.List.FromFn.{map-range_with_len_more}
use Rattle.spec_input.specs.Made.{trace_made}
use Rattle.trace_gen.specs.declared.made.MadeTrace.{MadeTrace}
use Rattle.trace_gen.specs.Made.{trace_view}

abbrev with_trace : ℕ → ℕ → ℕ × List ℕ
with_trace x port = (port, trace_made x port)

pub ports-more : (x n : ℕ) (old new : List MadeTrace) (trace : MadeTrace)
    → map trace_view old ≡ map (with_trace x) (range_with_len 1 n) → new ≡ old ++ trace ∷ [] → trace_view trace ≡ with_trace x (n + 1)
    → map trace_view new ≡ map (with_trace x) (range_with_len 1 (n + 1))
ports-more x n old new trace was added is =
    let e : 1 + n ≡ n + 1 = omega arith in
    ap (map trace_view) added ∙ (map-append trace_view old (trace ∷ []) ∙ (ap (λ seen. seen ++ trace_view trace ∷ []) was
    ∙ (ap (λ last. map (with_trace x) (range_with_len 1 n) ++ last ∷ []) is ∙ sym (map-range_with_len_more (with_trace x) 1 n (n + 1) e))))
