-- Rules without what modifies give, and how two lists of them differ.
use Rattle.std.specs.Prelude.{◌≡◌, ◌<◌, List, [], ◌++◌, map, Option}
use Rattle.std.specs.List.{filter_map, AllPairs}
use Rattle.spec_tables.specs.Rules as tables
use Rattle.spec_tables.specs.Edits.{without}
use Rattle.spec_tables.specs.Live.{is_live}
use Rattle.rule_tables.specs.declared.rule.Rule.{Rule}
use Rattle.rule_tables.specs.Views.{rule_view}

-- a rule without what modifies give: its cookie and its actions
abbrev pub bare : tables.Rule → tables.Rule
bare r = record r { cookie = 0; actions = [] }

abbrev pub bare_view : Rule → tables.Rule
bare_view r = bare (rule_view r [])

-- those of some rules that are not among others, bare
abbrev pub apart_from : List tables.Rule → List tables.Rule → List tables.Rule
apart_from others rules = map bare (without (λ r. is_live r.number others) rules)

-- the rules of which places tell, where some tell of none
abbrev pub told : List (Option tables.Rule) → List tables.Rule
told places = filter_map (λ (o : Option tables.Rule). o) places

-- But for what modifies give, rules become others: some go, and those that come stand behind the rest.
abbrev pub IsChangedTo : List tables.Rule → List tables.Rule → Type 0
IsChangedTo old new = map bare new ≡ without (λ r. is_live r.number (apart_from new old)) (map bare old) ++ apart_from old new

-- Their numbers rise, so that no two are the same.
abbrev pub AreRising : List tables.Rule → Type 0
AreRising rules = AllPairs (λ r s. r.number < s.number) rules
