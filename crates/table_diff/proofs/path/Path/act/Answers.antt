use Rattle.std.proofs.Common.{◌≡◌, ℕ, ◌+◌, Bool, not, ◌&&◌, nat_le, nat_lt, if◌then◌else◌, List, [], ◌∷◌, ◌++◌, length, ap, ap₂, ◌∙◌, arith}
use Rattle.spec_actions.specs.declared.action.OfAction.{OfAction}
use Rattle.spec_xlate.specs.Translation.{action_limit}
use Rattle.ovs_fields.specs.Packed.{numbers}
use Rattle.table_diff.specs.Following.{path_limit, cost, sends, used_after, has_room, is_left_out}
use Rattle.table_diff.specs.Paths.{path_view}
use Rattle.table_diff.proofs.path.Path.act.Goals as goal

pub returns : goal.returns
returns c =
    let p = path_view c.args.self.now in
    let x = c.args.action in
    let key = numbers c.args.key.now in
    let used : p.used + c.cost.result ≡ used_after p x key = ap (λ (n : ℕ). p.used + n) (c.cost.ensures ∙ ap (cost p.dirty) c.sends.ensures) in
    let count : c.len.result ≡ length p.actions = let same = c.args.self.now.actions.ok.0 in let len = c.len.ensures in omega arith in
    let room : (nat_le (p.used + c.cost.result) action_limit && nat_lt c.len.result path_limit) ≡ has_room p x key =
    ap₂ (λ (n k : ℕ). nat_le n action_limit && nat_lt k path_limit) used count in
    let kept = ap₂ (λ (s t : Bool). if s && not t then p.actions ++ x ∷ [] else p.actions) room c.is_left_out.ensures in
    λ i. record {
      ports = p.ports;
      mask = p.mask;
      known = c.known_after-known.ensures i;
      touched = c.add_written.ensures i;
      actions = (c.keep.ensures.items ∙ kept) i;
      used = (c.chosen-self.ensures ∙ ap₂ (λ (t : Bool) (n : ℕ). if t then n else p.used) room used) i;
      dirty = c.dirty_after-dirty.ensures i;
      fine = p.fine && (c.is_decided-decided.ensures i && room i);
    }
