use Rattle.std.proofs.Common.{◌≡◌, ℕ, ◌<◌, List, [], ◌∷◌, map, length, Option, Some, inl, inr, refl, sym, ap, subst, ◌∙◌, arith}
use Rattle.std.specs.Prelude.{IsSome, is_some, ◌⊎◌}
use Rattle.std.specs.Option.{option_map_or}
use Rattle.spec_board.specs.State as states
use Rattle.spec_board.specs.Results.{entry_of, put_of}
use Rattle.spec_board.specs.Effects as effects
use Rattle.spec_board.specs.declared.put_done.PutDone.{PutDone}
use Rattle.ovs_fields.specs.Packed.{bits}
use Rattle.pipe_model.specs.Plains.{translation_in}
use Rattle.megaflow_table.specs.Entries as flow
use Rattle.port_caches.specs.declared.lists.HeldList.{HeldList}
use Rattle.port_caches.specs.Lists.{actions_at}
use Rattle.port_caches.specs.Views.{AreCachesOf, Caches, entry_view}
use Rattle.port_caches.specs.Kept.{AreKept, caches_in}
use Rattle.port_caches.specs.Steps.{AreRules, HasFewTotals, IsPut, put_state}
use Rattle.port_caches.proofs.Kept.{kept_found}
use Rattle.port_caches.proofs.Views.{viewed_some}
use Rattle.port_caches.proofs.Puts.{Judged, put_is, payable_one, owed_fits, paid_there, without_kept, changed_kept, dropped_effect, changed_effect, kept_own}
use Rattle.port_caches.proofs.caches.PortCaches.put.Goals as goal

pub pay-requires-clause-live : goal.pay-requires-clause-live
pay-requires-clause-live c =
    let b = c.self.inside in
    let there = viewed_some b.lists.items c.args.number b.flows.entries (subst (λ (v : Caches). IsSome (entry_of c.args.number v.entries)) (sym c.self.view_is) c.requires.live) in
    payable_one b c.self.invariant c.args.number there.0 there.1

pub pay-requires-clause-countable : goal.pay-requires-clause-countable
pay-requires-clause-countable c =
    let b = c.self.inside in
    let there = viewed_some b.lists.items c.args.number b.flows.entries (subst (λ (v : Caches). IsSome (entry_of c.args.number v.entries)) (sym c.self.view_is) c.requires.live) in
    let t = translation_in c.args.made in
    let mask = bits c.args.mask.now in
    owed_fits b c.self.invariant c.args.number there.0 there.1 mask c.args.version t c.args.clock
    (subst
    (λ (v : Caches). (s : states.State) (e : states.Entry) → AreCachesOf v s → s.clock ≡ c.args.clock → entry_of c.args.number s.entries ≡ Some e → HasFewTotals (put_state e mask c.args.version t s))
    (sym c.self.view_is) c.requires.fits)

pub remove-requires : goal.remove-requires
remove-requires c =
    let b = c.self.inside in
    let there = viewed_some b.lists.items c.args.number b.flows.entries (subst (λ (v : Caches). IsSome (entry_of c.args.number v.entries)) (sym c.self.view_is) c.requires.live) in
    ap is_some (paid_there b c.self.invariant c.args.number there.0 there.1 c.pay.new.flows.entries c.pay.ensures.entries)

pub named_by-own-requires : goal.named_by-own-requires
named_by-own-requires c =
    let b = c.self.inside in
    let there = viewed_some b.lists.items c.args.number b.flows.entries (subst (λ (v : Caches). IsSome (entry_of c.args.number v.entries)) (sym c.self.view_is) c.requires.live) in
    ap is_some (paid_there b c.self.invariant c.args.number there.0 there.1 c.pay.new.flows.entries c.pay.ensures.entries)

pub change-before-requires : goal.change-before-requires
change-before-requires c =
    let b = c.self.inside in
    let there = viewed_some b.lists.items c.args.number b.flows.entries (subst (λ (v : Caches). IsSome (entry_of c.args.number v.entries)) (sym c.self.view_is) c.requires.live) in
    ap is_some (paid_there b c.self.invariant c.args.number there.0 there.1 c.pay.new.flows.entries c.pay.ensures.entries)

pub change-before-requires-in-Replaced : goal.change-before-requires-in-Replaced
change-before-requires-in-Replaced c =
    let b = c.self.inside in
    let there = viewed_some b.lists.items c.args.number b.flows.entries (subst (λ (v : Caches). IsSome (entry_of c.args.number v.entries)) (sym c.self.view_is) c.requires.live) in
    ap is_some (paid_there b c.self.invariant c.args.number there.0 there.1 c.pay.new.flows.entries c.pay.ensures.entries)

pub list_for-place-requires-clause-own : goal.list_for-place-requires-clause-own
list_for-place-requires-clause-own c =
    let b = c.self.inside in
    let there = viewed_some b.lists.items c.args.number b.flows.entries (subst (λ (v : Caches). IsSome (entry_of c.args.number v.entries)) (sym c.self.view_is) c.requires.live) in
    let paid = paid_there b c.self.invariant c.args.number there.0 there.1 c.pay.new.flows.entries c.pay.ensures.entries in
    subst (λ (n : ℕ). n < length b.lists.items) (sym (c.named_by-own.ensures (flow.paid there.0) paid).1)
    (kept_found (length b.lists.items) b.made (length b.totals) b.flows.entries c.args.number there.0 c.self.invariant.entries there.1).list

pub invariant_of-self : goal.invariant_of-self
invariant_of-self c =
    let b = c.self.inside in
    let there = viewed_some b.lists.items c.args.number b.flows.entries (subst (λ (v : Caches). IsSome (entry_of c.args.number v.entries)) (sym c.self.view_is) c.requires.live) in
    record {
      entries = subst (AreKept (length b.lists.items) b.made (length c.pay.new.totals)) (sym c.remove.ensures.entries)
          (without_kept b c.self.invariant c.args.number there.0 there.1 c.pay.new.flows.entries c.pay.ensures.entries (length c.pay.new.totals) c.pay.ensures.rules);
      few = c.self.invariant.few;
    }

pub returns-in-Idle : goal.returns-in-Idle
returns-in-Idle c =
    let b = c.self.inside in
    let there = viewed_some b.lists.items c.args.number b.flows.entries (subst (λ (v : Caches). IsSome (entry_of c.args.number v.entries)) (sym c.self.view_is) c.requires.live) in
    let after = caches_in (record b { flows = c.remove.new.self; totals = c.pay.new.totals }) in
    let t = translation_in c.args.made in
    let mask = bits c.args.mask.now in
    let judged : Judged c.args.number mask c.args.version t c.args.clock (caches_in b) c.judge-done.result after =
    subst (λ (v : Caches). (s : states.State) (e : states.Entry) → s.clock ≡ c.args.clock → entry_of c.args.number v.entries ≡ Some e → c.judge-done.result ≡ put_of e t mask s) (sym c.self.view_is) c.judge-done.ensures in
    let drops : (s : states.State) → AreCachesOf (caches_in b) s → AreCachesOf after (effects.dropped (c.args.number ∷ []) (effects.put_by c.args.number c.args.version s)) =
    λ s of.
    dropped_effect b c.self.invariant c.args.number there.0 there.1 c.pay.new.flows.entries c.pay.ensures.entries after refl refl c.pay.ensures.totals
    (ap (map (entry_view b.lists.items)) c.remove.ensures.entries) s of c.args.version in
    let effect : (s : states.State) → AreCachesOf (caches_in b) s → AreCachesOf after (effects.with_put c.judge-done.result c.args.number c.args.version t (effects.put_by c.args.number c.args.version s)) =
    λ s of.
    elim c.in-Idle.is [
      | inl idle ↦ subst (λ (r : PutDone). AreCachesOf after (effects.with_put r c.args.number c.args.version t (effects.put_by c.args.number c.args.version s))) (sym idle) (drops s of)
      | inr removed ↦ subst (λ (r : PutDone). AreCachesOf after (effects.with_put r c.args.number c.args.version t (effects.put_by c.args.number c.args.version s))) (sym removed) (drops s of)
    ] in
    subst (λ (v : Caches). IsPut c.args.number mask c.args.version t c.args.clock v c.judge-done.result after) c.self.view_is
    (put_is c.args.number mask c.args.version t c.args.clock (caches_in b) c.judge-done.result after
    (record { limit = c.remove.ensures.limit ∙ c.pay.ensures.limit; rules = c.pay.ensures.rules; held = λ n actions is. is }) (omega arith) judged (λ s e of there is. effect s of))

pub invariant_of-self-in-Kept : goal.invariant_of-self-in-Kept
invariant_of-self-in-Kept c =
    let b = c.self.inside in
    let there = viewed_some b.lists.items c.args.number b.flows.entries (subst (λ (v : Caches). IsSome (entry_of c.args.number v.entries)) (sym c.self.view_is) c.requires.live) in
    let paid = paid_there b c.self.invariant c.args.number there.0 there.1 c.pay.new.flows.entries c.pay.ensures.entries in
    let own = (c.named_by-own.ensures (flow.paid there.0) paid).1 in
    let visits : AreRules (length c.pay.new.totals) c.args.made.visits =
    subst (λ (n : ℕ). AreRules n c.args.made.visits) (ap (λ (v : Caches). v.rules) (sym c.self.view_is) ∙ sym c.pay.ensures.rules) c.requires.rules in
    record {
      entries = subst (AreKept (length b.lists.items) b.made (length c.pay.new.totals)) (sym c.change-before.ensures.entries)
          (changed_kept b c.self.invariant c.args.number there.0 there.1 c.pay.new.flows.entries c.pay.ensures.entries (length b.lists.items) c.named_by-own.result.1 c.args.version c.args.made.visits
          (length c.pay.new.totals) c.pay.ensures.rules (omega arith)
          (subst (λ (n : ℕ). n < length b.lists.items) (sym own) (kept_found (length b.lists.items) b.made (length b.totals) b.flows.entries c.args.number there.0 c.self.invariant.entries there.1).list)
          (inl own) visits);
      few = c.self.invariant.few;
    }

pub returns-in-Kept : goal.returns-in-Kept
returns-in-Kept c =
    let b = c.self.inside in
    let there = viewed_some b.lists.items c.args.number b.flows.entries (subst (λ (v : Caches). IsSome (entry_of c.args.number v.entries)) (sym c.self.view_is) c.requires.live) in
    let paid = paid_there b c.self.invariant c.args.number there.0 there.1 c.pay.new.flows.entries c.pay.ensures.entries in
    let own = (c.named_by-own.ensures (flow.paid there.0) paid).1 in
    let after = caches_in (record b { flows = c.change-before.new.self; totals = c.pay.new.totals }) in
    let t = translation_in c.args.made in
    let mask = bits c.args.mask.now in
    let judged : Judged c.args.number mask c.args.version t c.args.clock (caches_in b) c.judge-done.result after =
    subst (λ (v : Caches). (s : states.State) (e : states.Entry) → s.clock ≡ c.args.clock → entry_of c.args.number v.entries ≡ Some e → c.judge-done.result ≡ put_of e t mask s) (sym c.self.view_is) c.judge-done.ensures in
    let effect : (s : states.State) (e : states.Entry) → AreCachesOf (caches_in b) s → entry_of c.args.number (caches_in b).entries ≡ Some e → put_of e t mask s ≡ c.judge-done.result
    → AreCachesOf after (effects.with_put c.judge-done.result c.args.number c.args.version t (effects.put_by c.args.number c.args.version s)) =
    λ s e of is result.
    subst (λ (r : PutDone). AreCachesOf after (effects.with_put r c.args.number c.args.version t (effects.put_by c.args.number c.args.version s))) (sym c.in-Kept.is)
    (changed_effect b c.self.invariant c.args.number there.0 there.1 c.pay.new.flows.entries c.pay.ensures.entries after refl refl c.pay.ensures.totals
    b.lists.items c.named_by-own.result.1 c.args.version c.args.made.visits t (length c.pay.new.totals) c.pay.ensures.rules (ap (map (entry_view b.lists.items)) c.change-before.ensures.entries)
    (ap (actions_at b.lists.items) own ∙ kept_own b c.self.invariant c.args.number there.0 there.1 e is t mask s (result ∙ c.in-Kept.is))
    refl (λ n within other. refl) s of) in
    subst (λ (v : Caches). IsPut c.args.number mask c.args.version t c.args.clock v c.judge-done.result after) c.self.view_is
    (put_is c.args.number mask c.args.version t c.args.clock (caches_in b) c.judge-done.result after
    (record { limit = c.change-before.ensures.limit ∙ c.pay.ensures.limit; rules = c.pay.ensures.rules; held = λ n actions is. is }) (omega arith) judged effect)

pub invariant_of-self-in-Replaced : goal.invariant_of-self-in-Replaced
invariant_of-self-in-Replaced c =
    let b = c.self.inside in
    let there = viewed_some b.lists.items c.args.number b.flows.entries (subst (λ (v : Caches). IsSome (entry_of c.args.number v.entries)) (sym c.self.view_is) c.requires.live) in
    let paid = paid_there b c.self.invariant c.args.number there.0 there.1 c.pay.new.flows.entries c.pay.ensures.entries in
    let own = (c.named_by-own.ensures (flow.paid there.0) paid).1 in
    let list = c.list_for-place.ensures.list in
    let visits : AreRules (length c.pay.new.totals) c.args.made.visits =
    subst (λ (n : ℕ). AreRules n c.args.made.visits) (ap (λ (v : Caches). v.rules) (sym c.self.view_is) ∙ sym c.pay.ensures.rules) c.requires.rules in
    record {
      entries = subst (AreKept (length c.list_for-place.new.lists.items) b.made (length c.pay.new.totals)) (sym c.change-before-in-Replaced.ensures.entries)
          (changed_kept b c.self.invariant c.args.number there.0 there.1 c.pay.new.flows.entries c.pay.ensures.entries (length c.list_for-place.new.lists.items) c.list_for-place.result.place c.args.version
          c.args.made.visits (length c.pay.new.totals) c.pay.ensures.rules list.longer list.within
          (subst (λ (n : ℕ). (c.list_for-place.result.place ≡ n) ⊎ (c.list_for-place.result.place ≡ length b.lists.items)) own list.own_or_new) visits);
      few = c.list_for-place.ensures.few c.self.invariant.few;
    }

pub returns-in-Replaced : goal.returns-in-Replaced
returns-in-Replaced c =
    let b = c.self.inside in
    let there = viewed_some b.lists.items c.args.number b.flows.entries (subst (λ (v : Caches). IsSome (entry_of c.args.number v.entries)) (sym c.self.view_is) c.requires.live) in
    let paid = paid_there b c.self.invariant c.args.number there.0 there.1 c.pay.new.flows.entries c.pay.ensures.entries in
    let own = (c.named_by-own.ensures (flow.paid there.0) paid).1 in
    let list = c.list_for-place.ensures.list in
    let lists = c.list_for-place.new.lists.items in
    let after = caches_in (record b { flows = c.change-before-in-Replaced.new.self; totals = c.pay.new.totals; lists = c.list_for-place.new.lists }) in
    let t = translation_in c.args.made in
    let mask = bits c.args.mask.now in
    let judged : Judged c.args.number mask c.args.version t c.args.clock (caches_in b) c.judge-done.result after =
    subst (λ (v : Caches). (s : states.State) (e : states.Entry) → s.clock ≡ c.args.clock → entry_of c.args.number v.entries ≡ Some e → c.judge-done.result ≡ put_of e t mask s) (sym c.self.view_is) c.judge-done.ensures in
    let effect : (s : states.State) → AreCachesOf (caches_in b) s → AreCachesOf after (effects.with_put c.judge-done.result c.args.number c.args.version t (effects.put_by c.args.number c.args.version s)) =
    λ s of.
    subst (λ (r : PutDone). AreCachesOf after (effects.with_put r c.args.number c.args.version t (effects.put_by c.args.number c.args.version s))) (sym c.in-Replaced.is)
    (changed_effect b c.self.invariant c.args.number there.0 there.1 c.pay.new.flows.entries c.pay.ensures.entries after refl refl c.pay.ensures.totals
    lists c.list_for-place.result.place c.args.version c.args.made.visits t (length c.pay.new.totals) c.pay.ensures.rules (ap (map (entry_view lists)) c.change-before-in-Replaced.ensures.entries)
    (ap (λ (o : Option HeldList). option_map_or (λ (l : HeldList). l.actions) o []) list.there)
    refl
    (λ n within other. list.others n within (λ same. other (same ∙ own))) s of) in
    subst (λ (v : Caches). IsPut c.args.number mask c.args.version t c.args.clock v c.judge-done.result after) c.self.view_is
    (put_is c.args.number mask c.args.version t c.args.clock (caches_in b) c.judge-done.result after
    (record { limit = c.change-before-in-Replaced.ensures.limit ∙ c.pay.ensures.limit; rules = c.pay.ensures.rules; held = list.held }) c.list_for-place.ensures.room judged (λ s e of there is. effect s of))
