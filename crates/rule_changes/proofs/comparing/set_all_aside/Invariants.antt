use Rattle.std.proofs.Common.{map}
use Rattle.spec_tables.specs.Rules as tables
use Rattle.table_laws.specs.Members.{Among}
use Rattle.rule_tables.specs.Views.{match_view}
use Rattle.dump_lines.specs.Live.{live_in}
use Rattle.rule_changes.specs.Pairs.{IsCovered}
use Rattle.rule_changes.proofs.NumberLaws.{UpTo}
use Rattle.rule_changes.proofs.comparing.set_all_aside.Given as goal

-- all matches of before are there, and the rules so far are covered
abbrev pub invariant-numbers : goal.invariant-numbers
invariant-numbers l = record {
  kept : (m : tables.Match) → Among m (map match_view l.fn.aside.items) → Among m (map match_view l.aside.items);
  covered : UpTo (IsCovered l.side l.pairs (map match_view l.aside.items)) (live_in l.rules) l.before;
}
