-- More edits change no fewer rules.
use Rattle.std.proofs.Common.{◌≡◌, ◌≤◌, List, [], ◌∷◌, ◌++◌, ap, arith, append-nil, append_assoc}
use Rattle.spec_tables.specs.Edits.{Edit}
use Rattle.rule_tables.specs.History.{EditHistory, edit_history}
use Rattle.rule_tables.proofs.Histories.{edit_history-push}

pub changes_grow : (edits more : List Edit) → (edit_history edits).changes ≤ (edit_history (edits ++ more)).changes
changes_grow edits [] =
    let same : (edit_history (edits ++ [])).changes ≡ (edit_history edits).changes = ap (λ (es : List Edit). (edit_history es).changes) (append-nil edits) in
    omega arith
changes_grow edits (e ∷ more) =
    let one : (edit_history (edits ++ e ∷ [])).changes ≡ _ = ap (λ (h : EditHistory). h.changes) (edit_history-push edits e) in
    let rest : (edit_history (edits ++ e ∷ [])).changes ≤ (edit_history ((edits ++ e ∷ []) ++ more)).changes = changes_grow (edits ++ e ∷ []) more in
    let same : (edit_history ((edits ++ e ∷ []) ++ more)).changes ≡ (edit_history (edits ++ e ∷ more)).changes =
    ap (λ (es : List Edit). (edit_history es).changes) (append_assoc edits (e ∷ []) more) in
    omega arith
