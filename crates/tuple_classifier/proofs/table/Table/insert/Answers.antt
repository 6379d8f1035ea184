use Rattle.std.proofs.Common.{◌∷◌, ◌++◌, [], inl, refl}
use Rattle.table_laws.proofs.MemberLaws.{Among-append_right}
use Rattle.staged_lookup.proofs.Removed.{count-one_more}
use Rattle.staged_lookup.proofs.Results.{on_err_always}
use Rattle.tuple_classifier.proofs.TableLaws.{rule_with}
use Rattle.tuple_classifier.proofs.table.Table.insert.Goals as goal

pub returns-in_err-insert-clause-err : goal.returns-in_err-insert-clause-err
returns-in_err-insert-clause-err c = on_err_always c.from_residual.result _ (λ rs are. record { kept = are.kept; prefixed = c.in_err-insert.ensures.err rs are.prefixed })

pub returns-in-Ok-clause-ok : goal.returns-in-Ok-clause-ok
returns-in-Ok-clause-ok c rs r are is of_rank = record {
  kept = c.in-Ok.ensures.ok rs r are.kept is of_rank;
  prefixed = c.in_ok-insert.ensures.ok rs (rs ++ r ∷ []) r are.prefixed is (λ p. count-one_more p rs r);
}

pub remove-requires : goal.remove-requires
remove-requires c =
    let rs = c.requires.few.0 in
    let r = rule_with c.args.matching.now in
    (rs ++ r ∷ [], r, c.in_ok-insert.ensures.ok rs (rs ++ r ∷ []) r c.requires.few.1 refl (λ p. count-one_more p rs r), Among-append_right r rs (r ∷ []) (inl refl), refl)

pub returns-in-Err-clause-err : goal.returns-in-Err-clause-err
returns-in-Err-clause-err c rs are =
    let r = rule_with c.args.matching.now in
    record {
      kept = c.in-Err.ensures.err rs are.kept;
      prefixed = c.remove.ensures (rs ++ r ∷ []) rs r (c.in_ok-insert.ensures.ok rs (rs ++ r ∷ []) r are.prefixed refl (λ p. count-one_more p rs r)) refl (λ p. count-one_more p rs r);
    }
