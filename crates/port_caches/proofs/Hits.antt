-- A frame that an entry decides.
use Rattle.std.proofs.Common.{◌≡◌, ℕ, ◌+◌, ◌-◌, ◌<◌, ◌^◌, ◌==◌, min, List, map, length, Some, refl, sym, ap, ap₂, subst, ◌∙◌, arith}
use Rattle.std.specs.Prelude.{slice_set, vec_len, vec_capacity}
use Rattle.std.specs.Global.{Vec}
use Rattle.std.proofs.Math.ListN.{length-set}
use Rattle.std.proofs.lemmas.Option.{same_Some}
use Rattle.std.proofs.lemmas.Bool.{eqb-true}
use Rattle.std.proofs.Math.Nat.{min-eq_left}
use Rattle.table_laws.proofs.MemberLaws.{Among}
use Rattle.spec_board.specs.State as states
use Rattle.spec_board.specs.Effects as effects
use Rattle.spec_pcap.specs.Pcap.{Frame}
use Rattle.ovs_fields.specs.Packed.{numbers, bits}
use Rattle.megaflow_table.specs.declared.entry.Entry.{Entry}
use Rattle.megaflow_table.specs.Entries as flow
use Rattle.port_caches.specs.declared.lists.HeldList.{HeldList}
use Rattle.port_caches.specs.declared.caches.PortCaches.TheInside.{Inside}
use Rattle.port_caches.specs.Lists.{actions_at, most_lists, KeepsHeld, IsHeld}
use Rattle.port_caches.specs.Views.{entry_view}
use Rattle.port_caches.specs.Kept.{AreKept, IsKept, caches_in}
use Rattle.port_caches.specs.Steps.{CanHit, IsFrameOf, IsHit}
use Rattle.port_caches.proofs.HeldLists.{held_list, held_actions, held_there, held_stay}
use Rattle.port_caches.proofs.Kept.{kept-changed, kept_found, same_entry}
use Rattle.port_caches.proofs.ListLaws.{found}
use Rattle.port_caches.proofs.Views.{viewed, changed-view}

-- All counts of an entry take one more packet of so many bytes.
pub record HasRoom (length : ℕ) (e : Entry) : Type 0 where
  pub packets : flow.counted_on e.packets 1 ≡ e.packets + 1
  pub bytes : flow.counted_on e.bytes length ≡ e.bytes + length
  pub owed_packets : flow.counted_on e.owed_packets 1 ≡ e.owed_packets + 1
  pub owed_bytes : flow.counted_on e.owed_bytes length ≡ e.owed_bytes + length

counted : (count more : ℕ) → count + more < 2 ^ 64 → flow.counted_on count more ≡ count + more
counted count more below = min-eq_left (omega (arith, below))

pub can_hit : (a : Inside) (number length_ : ℕ) → CanHit number length_ (caches_in a)
    → (e : Entry) × (flow.entry_of number a.flows.entries ≡ Some e) × HasRoom length_ e
can_hit a number length_ can =
    let there = viewed a.lists.items number a.flows.entries can.0 can.1 in
    let packets : there.0.packets ≡ can.0.packets = ap (λ (e : states.Entry). e.packets) there.2 in
    let bytes : there.0.bytes ≡ can.0.bytes = ap (λ (e : states.Entry). e.bytes) there.2 in
    let owed_packets : there.0.owed_packets ≡ can.0.owed_packets = ap (λ (e : states.Entry). e.owed_packets) there.2 in
    let owed_bytes : there.0.owed_bytes ≡ can.0.owed_bytes = ap (λ (e : states.Entry). e.owed_bytes) there.2 in (
      there.0,
      there.1,
      record {
        packets = counted _ _ (omega (arith, packets, can.2));
        bytes = counted _ _ (omega (arith, bytes, can.3));
        owed_packets = counted _ _ (omega (arith, packets, owed_packets, can.2, can.4));
        owed_bytes = counted _ _ (omega (arith, bytes, owed_bytes, can.3, can.5));
      },
    )

module _ (a : Inside) (kept : IsKept a) (number length_ time : ℕ) (d : Entry) (is : flow.entry_of number a.flows.entries ≡ Some d) (room : HasRoom length_ d)
    (flows : flow.Flows) (lists : Vec HeldList)
    (entries : flows.entries ≡ flow.changed number (flow.hit_at length_ time) a.flows.entries) (limit : flows.limit ≡ a.flows.limit)
    (items : lists.items ≡ slice_set a.lists.items d.actions (held_list (actions_at a.lists.items d.actions)))
    (len : vec_len lists ≡ vec_len a.lists) (capacity : vec_capacity lists ≡ vec_capacity a.lists) where
  abbrev hit_caches : Inside
  hit_caches = record a { flows = flows; lists = lists }

  within : d.actions < length a.lists.items
  within = (kept_found (length a.lists.items) a.made (length a.totals) a.flows.entries number d kept.entries is).list

  same_actions : (n : ℕ) → actions_at lists.items n ≡ actions_at a.lists.items n
  same_actions n = ap (λ (ls : List HeldList). actions_at ls n) items ∙ held_actions a.lists.items d.actions n within

  pub hit_kept : IsKept hit_caches
  hit_kept =
      let longer : length lists.items ≡ length a.lists.items = ap length items ∙ length-set a.lists.items d.actions (held_list (actions_at a.lists.items d.actions)) in
      record {
        entries = subst (λ (n : ℕ). AreKept n a.made (length a.totals) flows.entries) (sym longer)
            (subst (AreKept (length a.lists.items) a.made (length a.totals)) (sym entries)
            (kept-changed (length a.lists.items) a.made (length a.totals) number (flow.hit_at length_ time) a.flows.entries (record { number = λ e. refl; actions = λ e. refl; visits = λ e. refl }) kept.entries));
        few = omega (arith, len, kept.few);
      }

  pub hit_is : IsHit number length_ time d.version d.actions (caches_in a) (caches_in hit_caches)
  hit_is = record {
    same = record { limit = limit; rules = refl; held = subst (KeepsHeld a.lists.items) (sym items) (held_stay a.lists.items d.actions) };
    slots = refl;
    room = ap₂ (λ (cap n : ℕ). min cap most_lists - n) capacity len;
    decided = λ e at.
        let there = viewed a.lists.items number a.flows.entries e at in
        let same : entry_view a.lists.items d ≡ e = ap (entry_view a.lists.items) (same_Some d there.0 (sym is ∙ there.1)) ∙ there.2 in (
          ap (λ (x : states.Entry). x.version) same,
          subst (λ (ls : List HeldList). IsHeld ls d.actions e.actions) (sym items)
              (held_there a.lists.items d.actions (held_list (actions_at a.lists.items d.actions)) within ∙ ap (λ (x : states.Entry). Some (held_list x.actions)) same),
        );
    effect = λ s place frame frame_is of. record {
      entries =
          ap (effects.changed number (effects.hit_by frame)) of.entries
          ∙ sym (changed-view a.lists.items lists.items number (flow.hit_at length_ time) (effects.hit_by frame) a.flows.entries (λ e m n. subst (λ (x : Entry). entry_view lists.items (flow.hit_at length_ time x) ≡ effects.hit_by frame (entry_view a.lists.items x)) (this_one e m n) (hit_view frame frame_is)) (λ e m n. same_actions e.actions))
          ∙ sym (ap (map (entry_view lists.items)) entries);
      made = of.made;
      slots = of.slots;
      totals = of.totals;
    };
  }
    where
      -- the entry of the number is this one
      this_one : (e : Entry) → Among e a.flows.entries → e.number ≡ number → d ≡ e
      this_one e m n =
          let there = found (λ (x : Entry). x.number == number) a.flows.entries d is in
          same_entry (length a.lists.items) a.made (length a.totals) a.flows.entries d e kept.entries there.0 m (eqb-true d.number number there.1 ∙ sym n)

      hit_view : (frame : Frame) → IsFrameOf length_ time frame → entry_view lists.items (flow.hit_at length_ time d) ≡ effects.hit_by frame (entry_view a.lists.items d)
      hit_view frame frame_is = λ i. record {
        number = d.number;
        key = numbers d.key;
        mask = bits d.mask;
        version = d.version;
        actions = same_actions d.actions i;
        visits = d.visits;
        packets = room.packets i;
        bytes = (room.bytes ∙ ap (λ (n : ℕ). d.bytes + n) frame_is.length_is) i;
        owed_packets = room.owed_packets i;
        owed_bytes = (room.owed_bytes ∙ ap (λ (n : ℕ). d.owed_bytes + n) frame_is.length_is) i;
        used = frame_is.time_is i;
      }
