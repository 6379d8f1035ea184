use Rattle.std.proofs.Common.{◌≡◌, List, ℕ, map, true, false, subst, sym}
use Rattle.spec_keys.specs.Keys.{masked, agree, overlap}
use Rattle.spec_tables.specs.Rules.{Match}
use Rattle.table_laws.specs.Members.{Among}
use Rattle.ovs_fields.specs.Packed.{numbers, bits}
use Rattle.rule_tables.specs.declared.matching.Match as declared
use Rattle.rule_tables.specs.Views.{match_view}
use Rattle.table_diff.proofs.ApartLaws.{stays_apart}
use Rattle.table_diff.proofs.apart.apart.Goals as goal

pub returns-clause-apart : goal.returns-clause-apart
returns-clause-apart c key frame h now stays =
    let cube = c.args.cube.now in
    let own = numbers cube.key in
    let mask = bits c.in_ok-mask.mask in
    let kept = bits c.args.changes.now.kept in
    let aside = c.args.changes.now.aside.items in
    let each : (m : Match) → Among m (map match_view aside) → overlap own (masked mask kept) m.key m.mask ≡ false =
    λ m among. subst (λ (told : List ℕ). overlap own told m.key m.mask ≡ false) c.and.ensures
    (c.tells_apart.ensures c.if-not-tells_apart.false m (subst (λ (ms : List declared.Match). Among m (map match_view ms)) (sym c.deref.ensures.value) among)) in
    stays_apart own key mask kept now (map match_view aside) each cube.key.is_key frame.is_key cube.clean frame.clean
    (subst (λ (z : List ℕ). agree key own z ≡ true) c.without_registers.ensures h) stays
