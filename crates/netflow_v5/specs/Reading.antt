-- How far datagrams were read.
use Rattle.std.specs.Prelude.{◌≡◌, ℕ, ◌+◌, ◌≤◌, List, length, None}
use Rattle.spec_netflow.specs.declared.flow_record.FlowRecord.{FlowRecord}
use Rattle.spec_netflow.specs.Datagrams.{preceded, flows_from, flows_in}

-- These flows were read up to an offset; what is read from there on, of as many datagrams as may follow, comes after them.
pub record IsReadTo (bytes : List ℕ) (flows : List FlowRecord) (at : ℕ) : Type 0 where
  pub within : at ≤ length bytes
  pub most : ℕ
  pub enough : length bytes ≤ at + most
  pub so_far : preceded flows None (flows_from most bytes at (length flows)) ≡ flows_in bytes
