use Rattle.std.proofs.Common.{◌≡◌, take}
use Rattle.std.specs.List.{fold}
use Rattle.std.specs.Option.{option_map}
use Rattle.rule_tables.specs.Stored.{later_given}
use Rattle.rule_tables.proofs.givings.later_given.Given as goal

abbrev pub invariant-modifications : goal.invariant-modifications
invariant-modifications l =
    option_map (λ m. m.now) l.last ≡ fold (later_given l.after l.stored) (option_map (λ m. m.now) l.fn.before) (take l.modification-index l.modifications)
