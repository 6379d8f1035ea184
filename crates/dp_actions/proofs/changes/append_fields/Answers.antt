use Rattle.ovs_fields.specs.Packed.{numbers}
use Rattle.spec_xlate.specs.Commit.{commit_fields}
use Rattle.dp_actions.proofs.CommitSteps.{fields_step, fields_done}
use Rattle.dp_actions.proofs.Growing.{extends_more}
use Rattle.dp_actions.proofs.changes.append_fields.Goals as goal

pub fields-preserved : goal.fields-preserved
fields-preserved c =
    let base = numbers c.args.base.now in
    let current = numbers c.args.current.now in record {
      appended = fields_step c.args.fields.now c.fields.field-index _ base current c.args.out.now c.fields.out c.append_field.new.out (commit_fields c.args.fields.now base current)
          c.fields-test.true c.fields.invariant.appended c.in_ok-append_field.ensures.ok;
      grown = extends_more c.args.out.now c.fields.out c.append_field.new.out _ c.fields.invariant.grown c.in_ok-append_field.ensures.ok;
    }

pub returns-clause-ok : goal.returns-clause-ok
returns-clause-ok c =
    let base = numbers c.args.base.now in
    let current = numbers c.args.current.now in
    fields_done c.args.fields.now c.fields.field-index base current c.args.out.now c.fields.out (commit_fields c.args.fields.now base current) c.fields-test.false c.fields.invariant.appended
