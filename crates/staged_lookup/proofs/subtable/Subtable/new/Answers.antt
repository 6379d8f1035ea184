use Rattle.std.proofs.Common.{ℕ, List, [], refl, ap, arith}
use Rattle.std.specs.Option.{option_map_or}
use Rattle.std.specs.Map.{lookup}
use Rattle.spec_keys.specs.Keys.{same}
use Rattle.staged_lookup.specs.Counts.{ranks_in}
use Rattle.staged_lookup.specs.declared.bucket.Bucket.{Bucket}
use Rattle.staged_lookup.proofs.StageLaws.{stage_at}
use Rattle.staged_lookup.proofs.subtable.Subtable.new.Goals as goal

pub returns-clause-rules : goal.returns-clause-rules
returns-clause-rules c = record {
  of_mask = λ r m. absurd m;
  masks = c.new.ensures.mask;
  distinct = λ n. omega arith;
  narrow = λ r m. absurd m;
  ranked = λ key. ap (λ (es : List (List ℕ × Bucket)). option_map_or ranks_in (lookup (same key) es) []) c.new.ensures.empty;
  metadata = stage_at c.new-2.result _ _ _ _ _ [] c.new-2.ensures c.none.ensures c.metadata_part-metadata.ensures;
  ethernet = stage_at c.new-3.result _ _ _ _ _ [] c.new-3.ensures c.metadata_part-metadata.ensures c.ethernet_part-ethernet.ensures;
  network = stage_at c.new-4.result _ _ _ _ _ [] c.new-4.ensures c.ethernet_part-ethernet.ensures c.network_part-network.ensures;
  count = refl;
}
