-- When the signature of a rule includes that of an edit.
use Rattle.std.specs.Prelude.{◌≡◌, true}
use Rattle.spec_keys.specs.Keys.{masked}
use Rattle.spec_tables.specs.Rules.{Match, Rule}
use Rattle.spec_tables.specs.Edits.{Edit}
use Rattle.rule_tables.specs.Signatures.{signature_of, includes}

-- the key of a match has no bits outside its mask
abbrev pub IsNormalised : Match → Type 0
IsNormalised m = masked m.key m.mask ≡ m.key

-- the signature of a rule includes that of an edit
abbrev pub IsIncludedIn : Edit → Rule → Type 0
IsIncludedIn e r = includes (signature_of r.matching.key r.matching.mask) (signature_of e.matching.key e.matching.mask) ≡ true
