use Rattle.std.proofs.Common.{◌≡◌, ℕ, ◌+◌, ◌<◌, ◌≤◌, true, false, List, [], ◌∷◌, ◌++◌, length, Some, refl, sym, ap, ap₂, subst, ◌∙◌, None, arith}
use Rattle.std.specs.Prelude.{All, nat_lt, filter, not, slice_get}
use Rattle.std.proofs.lemmas.Bool.{lt-ltb, le-ltb}
use Rattle.spec_board.specs.State as states
use Rattle.spec_board.specs.Steps as board
use Rattle.spec_board.specs.Results.{covering, overlaps}
use Rattle.spec_board.specs.Effects.{credited}
use Rattle.port_caches.specs.Sums.{IsCountable, total_of}
use Rattle.ovs_fields.specs.Packed.{numbers, bits}
use Rattle.pipe_model.specs.Plains.{translation_in}
use Rattle.megaflow_table.specs.declared.entry.Entry.{Entry}
use Rattle.megaflow_table.specs.Entries as flow
use Rattle.megaflow_table.specs.Entries.{Flows}
use Rattle.port_caches.specs.declared.lists.HeldList.{HeldList}
use Rattle.port_caches.specs.Lists.{KeepsHeld, room_in}
use Rattle.port_caches.specs.Views.{Caches, entry_view}
use Rattle.port_caches.specs.Drops.{entries_after}
use Rattle.port_caches.specs.Kept.{caches_in}
use Rattle.port_caches.specs.Steps.{AreRules, IsSettled}
use Rattle.port_caches.proofs.HeldLists.{held_list, pushed_there, pushed_stay}
use Rattle.port_caches.proofs.Settles.{Fits, once, fresh, full, full_fits, installed, installed_fits}
use Rattle.port_caches.proofs.Anew as anew
use Rattle.port_caches.proofs.caches.PortCaches.settle_anew.Goals as goal

pub overflow_sub-len : goal.overflow_sub-len
overflow_sub-len c =
    let b = c.self.inside in
    let key = numbers c.args.key.now in
    let mask = bits c.args.mask.now in
    let counted = anew.counted b c.self.invariant.entries key mask in
    let items = ap length c.in_ok-overlapped.ensures in
    omega (arith, counted, items, c.len.ensures.length, c.len-2.ensures, c.in_ok-overlapped.overlapped.ok.0)

pub credit_frame-list-requires-clause-countable : goal.credit_frame-list-requires-clause-countable
credit_frame-list-requires-clause-countable c rule =
    let b = c.self.inside in
    let key = numbers c.args.key.now in
    let mask = bits c.args.mask.now in
    let t = translation_in c.args.made in
    let counted = anew.counted b c.self.invariant.entries key mask in
    let seen = anew.left_seen b c.self.invariant.entries key mask in
    let items = ap length c.in_ok-overlapped.ensures in
    let many : nat_lt (length (filter (λ (e : states.Entry). not (overlaps key mask e)) (caches_in b).entries)) (caches_in b).limit ≡ false =
    le-ltb _ _ (omega (arith, counted, seen, items, c.if-len-limit.true, c.limit.ensures, c.len.ensures.length, c.len-2.ensures, c.in_ok-overlapped.overlapped.ok.0)) in
    let uncovered : covering key (caches_in b).entries ≡ None = subst (λ (v : Caches). covering key v.entries ≡ None) (sym c.self.view_is) c.requires.uncovered in
    let fits : Fits key mask c.args.version t c.args.length c.args.time (caches_in b) = subst (Fits key mask c.args.version t c.args.length c.args.time) (sym c.self.view_is) c.requires.fits in
    subst (λ (v : Caches). IsCountable (credited c.args.made.visits 1 c.args.length (total_of v.totals) rule)) c.self.view_is
    (full_fits key mask c.args.version t c.args.length c.args.time (caches_in b) fits uncovered many rule)

pub returns-then-len-limit-clause-settled : goal.returns-then-len-limit-clause-settled
returns-then-len-limit-clause-settled c =
    let b = c.self.inside in
    let key = numbers c.args.key.now in
    let mask = bits c.args.mask.now in
    let t = translation_in c.args.made in
    let counted = anew.counted b c.self.invariant.entries key mask in
    let seen = anew.left_seen b c.self.invariant.entries key mask in
    let items = ap length c.in_ok-overlapped.ensures in
    let many : nat_lt (length (filter (λ (e : states.Entry). not (overlaps key mask e)) (caches_in b).entries)) (caches_in b).limit ≡ false =
    le-ltb _ _ (omega (arith, counted, seen, items, c.if-len-limit.true, c.limit.ensures, c.len.ensures.length, c.len-2.ensures, c.in_ok-overlapped.overlapped.ok.0)) in
    full key mask c.args.version t c.args.length c.args.time c.args.self.now c.credit_frame-list.new.self c.credit_frame-list.result c.credit_frame-list.ensures c.requires.uncovered
    (subst (λ (v : Caches). nat_lt (length (filter (λ (e : states.Entry). not (overlaps key mask e)) v.entries)) v.limit ≡ false) c.self.view_is many)

pub credit-requires-clause-countable : goal.credit-requires-clause-countable
credit-requires-clause-countable c rule =
    let b = c.self.inside in
    let key = numbers c.args.key.now in
    let mask = bits c.args.mask.now in
    let t = translation_in c.args.made in
    let kept = c.self.invariant.entries in
    let counted = anew.counted b kept key mask in
    let seen = anew.left_seen b kept key mask in
    let items = ap length c.in_ok-overlapped.ensures in
    let few : nat_lt (length (filter (λ (e : states.Entry). not (overlaps key mask e)) (caches_in b).entries)) (caches_in b).limit ≡ true =
    lt-ltb _ _ (omega (arith, counted, seen, items, c.if-len-limit.false, c.limit.ensures, c.len.ensures.length, c.len-2.ensures, c.in_ok-overlapped.overlapped.ok.0)) in
    let uncovered : covering key (caches_in b).entries ≡ None = subst (λ (v : Caches). covering key v.entries ≡ None) (sym c.self.view_is) c.requires.uncovered in
    let fits : Fits key mask c.args.version t c.args.length c.args.time (caches_in b) = subst (Fits key mask c.args.version t c.args.length c.args.time) (sym c.self.view_is) c.requires.fits in
    let all_fits = installed_fits key mask c.args.version t c.args.length c.args.time (caches_in b) fits (anew.numbers b kept key mask) uncovered few (anew.numbers_seen b kept key mask) in
    subst (λ (x : states.Total). IsCountable x) (sym (ap₂ (λ (visits : List ℕ) (n : ℕ). credited visits 1 n (total_of b.totals) rule) c.as_slice.ensures c.from.ensures))
    (anew.first_fits b kept key mask (once key mask c.args.version t c.args.length c.args.time (caches_in b)) all_fits rule)

pub displace-requires-clause-live : goal.displace-requires-clause-live
displace-requires-clause-live c =
    anew.payable c.self.inside c.self.invariant.entries (numbers c.args.key.now) (bits c.args.mask.now) c.as_slice-2.result.now (c.as_slice-2.ensures ∙ c.in_ok-dropped.ensures ∙ c.in_ok-overlapped.ensures)
    c.reserve.new.self.entries (ap (λ (f : Flows). f.entries) c.in_ok-reserve.ensures.ok) (length c.credit.new.self) c.credit.ensures.rules

pub displace-requires-clause-countable : goal.displace-requires-clause-countable
displace-requires-clause-countable c rule =
    let b = c.self.inside in
    let key = numbers c.args.key.now in
    let mask = bits c.args.mask.now in
    let t = translation_in c.args.made in
    let kept = c.self.invariant.entries in
    let counted = anew.counted b kept key mask in
    let seen = anew.left_seen b kept key mask in
    let items = ap length c.in_ok-overlapped.ensures in
    let few : nat_lt (length (filter (λ (e : states.Entry). not (overlaps key mask e)) (caches_in b).entries)) (caches_in b).limit ≡ true =
    lt-ltb _ _ (omega (arith, counted, seen, items, c.if-len-limit.false, c.limit.ensures, c.len.ensures.length, c.len-2.ensures, c.in_ok-overlapped.overlapped.ok.0)) in
    let uncovered : covering key (caches_in b).entries ≡ None = subst (λ (v : Caches). covering key v.entries ≡ None) (sym c.self.view_is) c.requires.uncovered in
    let fits : Fits key mask c.args.version t c.args.length c.args.time (caches_in b) = subst (Fits key mask c.args.version t c.args.length c.args.time) (sym c.self.view_is) c.requires.fits in
    let all_fits = installed_fits key mask c.args.version t c.args.length c.args.time (caches_in b) fits (anew.numbers b kept key mask) uncovered few (anew.numbers_seen b kept key mask) in
    let ns_is = c.as_slice-2.ensures ∙ c.in_ok-dropped.ensures ∙ c.in_ok-overlapped.ensures in
    let es_is = ap (λ (f : Flows). f.entries) c.in_ok-reserve.ensures.ok in
    let first = once key mask c.args.version t c.args.length c.args.time (caches_in b) in
    let alike : (r : ℕ) → total_of c.credit.new.self r ≡ first r =
    λ r. c.credit.ensures.credited r ∙ ap₂ (λ (visits : List ℕ) (n : ℕ). credited visits 1 n (total_of b.totals) r) c.as_slice.ensures c.from.ensures in
    subst (λ (x : states.Total). IsCountable x)
    (sym (anew.totals_seen b kept key mask c.as_slice-2.result.now ns_is c.reserve.new.self.entries es_is (total_of c.credit.new.self) first alike rule)) (all_fits rule)

pub displace-requires-clause-room : goal.displace-requires-clause-room
displace-requires-clause-room c = ap (λ (f : Flows). f.room) c.in_ok-reserve.ensures.ok ∙ ap (λ (e : Entry). Some (bits e.mask)) (sym c.new_entry-entry.ensures)

pub displace-requires-clause-new : goal.displace-requires-clause-new
displace-requires-clause-new c =
    subst (λ (e : Entry). All (λ (x : Entry). x.number < e.number) (entries_after c.as_slice-2.result.now c.reserve.new.self.entries)) (sym c.new_entry-entry.ensures)
    (anew.below c.self.inside c.self.invariant.entries (numbers c.args.key.now) (bits c.args.mask.now) c.as_slice-2.result.now (c.as_slice-2.ensures ∙ c.in_ok-dropped.ensures ∙ c.in_ok-overlapped.ensures)
    c.reserve.new.self.entries (ap (λ (f : Flows). f.entries) c.in_ok-reserve.ensures.ok))

pub displace-requires-clause-free : goal.displace-requires-clause-free
displace-requires-clause-free c =
    subst (λ (e : Entry). All (λ (x : Entry). flow.overlaps (numbers e.key) (bits e.mask) x ≡ false) (entries_after c.as_slice-2.result.now c.reserve.new.self.entries)) (sym c.new_entry-entry.ensures)
    (anew.free c.self.inside c.self.invariant.entries (numbers c.args.key.now) (bits c.args.mask.now) c.as_slice-2.result.now (c.as_slice-2.ensures ∙ c.in_ok-dropped.ensures ∙ c.in_ok-overlapped.ensures)
    c.reserve.new.self.entries (ap (λ (f : Flows). f.entries) c.in_ok-reserve.ensures.ok))

pub invariant_of-self-2 : goal.invariant_of-self-2
invariant_of-self-2 c =
    let b = c.self.inside in
    let key = numbers c.args.key.now in
    let mask = bits c.args.mask.now in
    let t = translation_in c.args.made in
    let kept = c.self.invariant.entries in
    let ns_is = c.as_slice-2.ensures ∙ c.in_ok-dropped.ensures ∙ c.in_ok-overlapped.ensures in
    let es_is = ap (λ (f : Flows). f.entries) c.in_ok-reserve.ensures.ok in
    let entry : Entry = record {
      number = b.made + 1;
      key = c.args.key.now;
      mask = c.args.mask.now;
      version = c.args.version;
      actions = c.push_list-list.result;
      visits = c.args.made.visits;
      packets = 0;
      bytes = 0;
      owed_packets = 0;
      owed_bytes = 0;
      used = c.args.time;
    } in
    let flows_are : c.displace.new.flows.entries ≡ anew.left b kept key mask ++ entry ∷ [] =
    c.displace.ensures.entries ∙ ap (λ (x : Entry). entries_after c.as_slice-2.result.now c.reserve.new.self.entries ++ x ∷ []) c.new_entry-entry.ensures
    ∙ ap (λ (es : List Entry). es ++ entry ∷ []) (anew.entries_left b kept key mask c.as_slice-2.result.now ns_is c.reserve.new.self.entries es_is) in
    let rules_is = c.displace.ensures.rules ∙ c.credit.ensures.rules in
    let visits : AreRules (length c.displace.new.totals) entry.visits =
    subst (λ (n : ℕ). AreRules n c.args.made.visits) (ap (λ (v : Caches). v.rules) (sym c.self.view_is) ∙ sym rules_is) c.requires.rules in
    let room : 1 ≤ room_in b.lists = subst (λ (v : Caches). 1 ≤ v.room) (sym c.self.view_is) c.requires.room in
    record {
      entries = anew.anew_kept b kept key mask entry c.displace.new.flows.entries flows_are c.push_list-list.new.lists.items c.args.made.actions c.push_list-list.ensures.items
          c.push_list-list.ensures.place refl (length c.displace.new.totals) rules_is visits;
      few = omega (arith, c.push_list-list.ensures.len, room);
    }

pub returns-clause-settled : goal.returns-clause-settled
returns-clause-settled c =
    let b = c.self.inside in
    let key = numbers c.args.key.now in
    let mask = bits c.args.mask.now in
    let t = translation_in c.args.made in
    let kept = c.self.invariant.entries in
    let counted = anew.counted b kept key mask in
    let seen = anew.left_seen b kept key mask in
    let items = ap length c.in_ok-overlapped.ensures in
    let few : nat_lt (length (filter (λ (e : states.Entry). not (overlaps key mask e)) (caches_in b).entries)) (caches_in b).limit ≡ true =
    lt-ltb _ _ (omega (arith, counted, seen, items, c.if-len-limit.false, c.limit.ensures, c.len.ensures.length, c.len-2.ensures, c.in_ok-overlapped.overlapped.ok.0)) in
    let uncovered : covering key (caches_in b).entries ≡ None = subst (λ (v : Caches). covering key v.entries ≡ None) (sym c.self.view_is) c.requires.uncovered in
    let ns_is = c.as_slice-2.ensures ∙ c.in_ok-dropped.ensures ∙ c.in_ok-overlapped.ensures in
    let es_is = ap (λ (f : Flows). f.entries) c.in_ok-reserve.ensures.ok in
    let entry : Entry = record {
      number = b.made + 1;
      key = c.args.key.now;
      mask = c.args.mask.now;
      version = c.args.version;
      actions = c.push_list-list.result;
      visits = c.args.made.visits;
      packets = 0;
      bytes = 0;
      owed_packets = 0;
      owed_bytes = 0;
      used = c.args.time;
    } in
    let flows_are : c.displace.new.flows.entries ≡ anew.left b kept key mask ++ entry ∷ [] =
    c.displace.ensures.entries ∙ ap (λ (x : Entry). entries_after c.as_slice-2.result.now c.reserve.new.self.entries ++ x ∷ []) c.new_entry-entry.ensures
    ∙ ap (λ (es : List Entry). es ++ entry ∷ []) (anew.entries_left b kept key mask c.as_slice-2.result.now ns_is c.reserve.new.self.entries es_is) in
    let rules_is = c.displace.ensures.rules ∙ c.credit.ensures.rules in
    let visits : AreRules (length c.displace.new.totals) entry.visits =
    subst (λ (n : ℕ). AreRules n c.args.made.visits) (ap (λ (v : Caches). v.rules) (sym c.self.view_is) ∙ sym rules_is) c.requires.rules in
    let first = once key mask c.args.version t c.args.length c.args.time (caches_in b) in
    let alike : (r : ℕ) → total_of c.credit.new.self r ≡ first r =
    λ r. c.credit.ensures.credited r ∙ ap₂ (λ (visits : List ℕ) (n : ℕ). credited visits 1 n (total_of b.totals) r) c.as_slice.ensures c.from.ensures in
    let push = c.push_list-list.ensures in
    let lists = c.push_list-list.new.lists.items in
    let after = caches_in (record b { flows = c.displace.new.flows; made = b.made + 1; totals = c.displace.new.totals; lists = c.push_list-list.new.lists }) in
    let new = fresh key mask c.args.version t c.args.length c.args.time (caches_in b) in
    let actions_are = anew.new_actions b kept key mask entry c.displace.new.flows.entries flows_are lists c.args.made.actions push.items push.place refl (length c.displace.new.totals) rules_is visits in
    let entry_is : entry_view lists entry ≡ new = λ i. record {
      number = b.made + 1;
      key = key;
      mask = mask;
      version = c.args.version;
      actions = actions_are i;
      visits = c.args.made.visits;
      packets = 0;
      bytes = 0;
      owed_packets = 0;
      owed_bytes = 0;
      used = c.args.time;
    } in
    subst (λ (v : Caches). IsSettled key mask c.args.version t c.args.length c.args.time v (board.Installed (b.made + 1) c.in_ok-dropped.dropped) after) c.self.view_is
    (subst (λ (ns : List ℕ). IsSettled key mask c.args.version t c.args.length c.args.time (caches_in b) (board.Installed (b.made + 1) ns) after)
    (sym (c.in_ok-dropped.ensures ∙ c.in_ok-overlapped.ensures))
    (installed key mask c.args.version t c.args.length c.args.time (caches_in b) after (anew.numbers b kept key mask) uncovered few (anew.numbers_seen b kept key mask)
    (record {
      limit = c.displace.ensures.limit ∙ ap (λ (f : Flows). f.limit) c.in_ok-reserve.ensures.ok;
      rules = rules_is;
      held = subst (KeepsHeld b.lists.items) (sym push.items) (pushed_stay b.lists.items (held_list c.args.made.actions));
    })
    (anew.anew_view b kept key mask entry c.displace.new.flows.entries flows_are lists c.args.made.actions push.items push.place refl (length c.displace.new.totals) rules_is visits new entry_is)
    refl refl
    (λ rule. c.displace.ensures.totals rule ∙ anew.totals_seen b kept key mask c.as_slice-2.result.now ns_is c.reserve.new.self.entries es_is (total_of c.credit.new.self) first alike rule)))

pub returns-clause-list : goal.returns-clause-list
returns-clause-list c = ap₂ (λ (ls : List HeldList) (n : ℕ). slice_get ls n) c.push_list-list.ensures.items c.push_list-list.ensures.place ∙ pushed_there c.self.inside.lists.items (held_list c.args.made.actions)
