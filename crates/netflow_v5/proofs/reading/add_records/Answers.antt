use Rattle.std.proofs.Common.{ℕ, ◌+◌, ◌*◌, List, ◌∷◌, [], ◌++◌, map, sym, ap, ◌∙◌, append_assoc, arith}
use Rattle.std.specs.List.{range_with_len}
use Rattle.std.proofs.lemmas.List.FromFn.{map-range_with_len_more}
use Rattle.spec_netflow.specs.declared.flow_record.FlowRecord.{FlowRecord}
use Rattle.spec_netflow.specs.Datagrams.{header_size, record_size, record_at}
use Rattle.netflow_v5.proofs.reading.add_records.Goals as goal

pub records-preserved : goal.records-preserved
records-preserved c =
    let record_of : ℕ → FlowRecord = λ index. record_at c.args.bytes.now (c.args.at + header_size + index * record_size) in
    let before = c.args.flows.now.items in
    let index = c.records.index in
    c.in_ok-push.ensures.items ∙ ap (λ (fs : List FlowRecord). fs ++ c.record_at.result ∷ []) c.records.invariant
    ∙ ap (λ (r : FlowRecord). (before ++ map record_of (range_with_len 0 index)) ++ r ∷ []) c.record_at.ensures
    ∙ append_assoc before (map record_of (range_with_len 0 index)) (record_of index ∷ [])
    ∙ ap (λ (fs : List FlowRecord). before ++ fs) (sym (map-range_with_len_more record_of 0 index index (omega arith)))
