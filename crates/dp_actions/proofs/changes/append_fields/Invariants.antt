use Rattle.std.proofs.Common.{◌≡◌, ◌++◌, drop}
use Rattle.ovs_fields.specs.Packed.{numbers}
use Rattle.spec_xlate.specs.Commit.{commit_fields}
use Rattle.dp_actions.specs.Growth.{Extends}
use Rattle.dp_actions.proofs.changes.append_fields.Given as goal

abbrev pub invariant-fields : goal.invariant-fields
invariant-fields l = record {
  appended : l.out ++ commit_fields (drop l.field-index l.fields) (numbers l.base) (numbers l.current) ≡ l.fn.out ++ commit_fields l.fields (numbers l.base) (numbers l.current);
  grown : Extends l.fn.out l.out;
}
