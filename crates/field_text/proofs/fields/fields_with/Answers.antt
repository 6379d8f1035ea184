use Rattle.std.proofs.Common.{inl, inr, refl}
use Rattle.spec_flow_text.specs.Names.{field_named}
use Rattle.field_text.proofs.FirstLetters.{among}
use Rattle.field_text.proofs.fields.fields_with.Goals as goal

pub returns-in-97 : goal.returns-in-97
returns-in-97 c = among 97 c.args.first c.in-97.is

pub returns-in-100 : goal.returns-in-100
returns-in-100 c = among 100 c.args.first c.in-100.is

pub returns-in-101 : goal.returns-in-101
returns-in-101 c = among 101 c.args.first c.in-101.is

pub returns-in-105 : goal.returns-in-105
returns-in-105 c = among 105 c.args.first c.in-105.is

pub returns-in-109 : goal.returns-in-109
returns-in-109 c = among 109 c.args.first c.in-109.is

pub returns-in-110 : goal.returns-in-110
returns-in-110 c = among 110 c.args.first c.in-110.is

pub returns-in-116 : goal.returns-in-116
returns-in-116 c = among 116 c.args.first c.in-116.is

pub returns-in-117 : goal.returns-in-117
returns-in-117 c = among 117 c.args.first c.in-117.is

pub returns-in-118 : goal.returns-in-118
returns-in-118 c = among 118 c.args.first c.in-118.is

pub returns-in-99 : goal.returns-in-99
returns-in-99 c = elim c.in-99.is [
  | inl is ↦ among 99 c.args.first is
  | inr (inl is) ↦ among 104 c.args.first is
  | inr (inr is) ↦ among 112 c.args.first is
]

pub returns-in_default : goal.returns-in_default
unfolding field_named
returns-in_default c = λ rest. refl
