use Rattle.std.proofs.Common.{ℕ, Bool, not, ◌||◌, List, sym, ap, ap₂, ◌∙◌}
use Rattle.spec_keys.specs.Keys.{agree}
use Rattle.ovs_fields.specs.Packed.{numbers}
use Rattle.class_list.proofs.saying.tells.Goals as goal

pub returns-else-covers : goal.returns-else-covers
returns-else-covers c =
    ap₂ (λ (s t : Bool). s || not t) (sym c.if-covers.false ∙ c.covers.ensures)
    (c.agree.ensures ∙ ap (λ (m : List ℕ). agree (numbers c.args.cube.now.key) (numbers c.args.other.now.key) m) c.and.ensures)
