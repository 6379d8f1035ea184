use Rattle.std.proofs.Common.{◌≡◌, ℕ, ◌∷◌, [], List, length, length-append, refl, ap, ap₂, sym, subst, ◌∙◌, arith, ◌+◌, ◌≤◌}
use Rattle.std.specs.Prelude.{slice_get}
use Rattle.spec_board.specs.Effects.{credited}
use Rattle.port_caches.specs.Sums.{total_of}
use Rattle.pipe_model.specs.Plains.{translation_in}
use Rattle.port_caches.specs.declared.lists.HeldList.{HeldList}
use Rattle.port_caches.specs.Lists.{KeepsHeld, room_in}
use Rattle.port_caches.specs.Views.{Caches}
use Rattle.port_caches.specs.Kept.{caches_in}
use Rattle.port_caches.specs.Steps.{IsCredited}
use Rattle.port_caches.proofs.HeldLists.{held_list, pushed_there, pushed_stay}
use Rattle.port_caches.proofs.Kept.{kept_more}
use Rattle.port_caches.proofs.Views.{pushed_views}
use Rattle.port_caches.proofs.caches.PortCaches.credit_frame.Goals as goal

pub invariant_of-self : goal.invariant_of-self
invariant_of-self c =
    let b = c.self.inside in
    let push = c.push_list-list.ensures in
    let room : 1 ≤ room_in b.lists = subst (λ (v : Caches). 1 ≤ v.room) (sym c.self.view_is) c.requires.room in
    let longer : length c.push_list-list.new.lists.items ≡ length b.lists.items + 1 = ap length push.items ∙ length-append b.lists.items (held_list c.args.made.actions ∷ []) in
    record {
      entries = kept_more (length b.lists.items) (length c.push_list-list.new.lists.items) b.made b.made (length b.totals) (length c.credit.new.self) b.flows.entries
          (omega (arith, longer)) (omega arith) c.credit.ensures.rules c.self.invariant.entries;
      few = omega (arith, push.len, room);
    }

pub returns : goal.returns
returns c =
    let b = c.self.inside in
    let push = c.push_list-list.ensures in
    let after = caches_in (record b { totals = c.credit.new.self; lists = c.push_list-list.new.lists }) in
    let t = translation_in c.args.made in
    let views : after.entries ≡ (caches_in b).entries =
    pushed_views b.lists.items c.push_list-list.new.lists.items (held_list c.args.made.actions) b.made (length b.totals) b.flows.entries push.items c.self.invariant.entries in
    subst (λ (v : Caches). IsCredited t c.args.length v c.push_list-list.result after) c.self.view_is (record {
      same = record { limit = refl; rules = c.credit.ensures.rules; held = subst (KeepsHeld b.lists.items) (sym push.items) (pushed_stay b.lists.items (held_list c.args.made.actions)) };
      rest = λ i. record {
        limit = b.flows.limit;
        entries = views i;
        made = b.made;
        slots = b.exact;
        rules = c.credit.ensures.rules i;
        totals = c.credit.new.self;
        lists = c.push_list-list.new.lists.items;
        room = room_in c.push_list-list.new.lists;
      };
      totals = λ rule.
          c.credit.ensures.credited rule
          ∙ ap₂ (λ (visits : List ℕ) (n : ℕ). credited visits 1 n (total_of b.totals) rule) c.as_slice.ensures c.from.ensures;
      named = ap₂ (λ (ls : List HeldList) (n : ℕ). slice_get ls n) push.items push.place ∙ pushed_there b.lists.items (held_list c.args.made.actions);
      room = omega (arith, push.len, push.capacity);
    })
