use Rattle.std.proofs.Common.{◌≡◌, ◌≤◌, take}
use Rattle.std.specs.Prelude.{count_by, vec_capacity}
use Rattle.rule_tables.specs.Ends.{AreEnds}
use Rattle.rule_tables.specs.RulePlaces.{room_in, ArePlaced}
use Rattle.rule_tables.specs.Stored.{acts_on, ended_by, signatures_in}
use Rattle.rule_tables.proofs.FilterMaps.{mapped_to}
use Rattle.rule_tables.proofs.stored.end_rules.Given as goal

abbrev pub invariant-rules : goal.invariant-rules
invariant-rules l = record {
  place : l.place ≡ l.stored-index;
  signed : l.signatures ≡ signatures_in l.rules;
  rules : l.rules ≡ mapped_to l.stored-index (ended_by l.edit l.gone) l.fn.rules;
  placed : ArePlaced l.places l.rules;
  ended : AreEnds l.ends.items l.rules l.gone;
  capacity : vec_capacity l.ends ≡ vec_capacity l.fn.ends;
  spare : room_in l.fn.places ≤ room_in l.places;
  count : l.count ≡ count_by (acts_on l.edit) (take l.stored-index l.fn.rules);
}
