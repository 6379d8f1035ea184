use Rattle.std.proofs.Common.{◌≡◌, ℕ, ◌+◌, ◌<◌, ◌≤◌, true, false, length, get_or, Some, refl, sym, ap, ◌∙◌, subst, arith}
use Rattle.std.specs.Prelude.{slice_get, vec_capacity}
use Rattle.std.proofs.lemmas.List.{set-get_or}
use Rattle.std.proofs.lemmas.Option.{slice_get-get_or}
use Rattle.rule_tables.specs.declared.stored.StoredRule.{StoredRule}
use Rattle.rule_tables.specs.RulePlaces.{room_in, ArePlaced}
use Rattle.rule_tables.specs.Stored.{acts_on, ended, ended_by, signatures_in}
use Rattle.rule_tables.proofs.EndLaws.{ends_moved, ends_room, ends_set, acts_live}
use Rattle.rule_tables.proofs.EndingSteps.{life_ends, life_stays, counts_more, counts_same}
use Rattle.rule_tables.proofs.FilterMaps.{mapped_to_all}
use Rattle.rule_tables.proofs.Ends.{set-ended}
use Rattle.rule_tables.proofs.Placed.{placed_moved}
use Rattle.rule_tables.proofs.SignedLaws.{signature_at, signatures_set}
use Rattle.rule_tables.proofs.stored.end_rules.Goals as goal
use Rattle.rule_tables.proofs.stored.end_rules.Goals.{then-is_found, else-is_found}

pub push_reserved-requires : goal.push_reserved-requires
push_reserved-requires c =
    let within : c.rules.stored-index < length c.rules.rules = omega arith in
    let it : StoredRule = get_or c.rules.rules c.rules.stored-index c.stored-item.result in
    let at : slice_get c.rules.rules c.rules.stored-index ≡ Some it = slice_get-get_or c.rules.rules c.rules.stored-index c.stored-item.result within in
    let acts : acts_on c.args.edit.now it ≡ true = sym (c.is_found.ensures (signature_at c.args.signatures.now c.rules.rules c.rules.stored-index c.rules.place it _ c.rules.invariant.signed c.rules.invariant.place at) c.wanted-wanted.ensures) ∙ c.if-is_found.true in
    let free : length c.rules.ends.items < length c.rules.rules =
    ends_room c.rules.ends.items c.rules.rules c.args.gone c.rules.stored-index it c.rules.invariant.ended at (acts_live c.args.edit.now it acts) in
    omega (arith, c.rules.invariant.capacity, c.requires.room)

pub rules-preserved : goal.rules-preserved
rules-preserved c =
    let within : c.rules.stored-index < length c.rules.rules = omega arith in
    let it : StoredRule = get_or c.rules.rules c.rules.stored-index c.stored-item.result in
    let at : slice_get c.rules.rules c.rules.stored-index ≡ Some it = slice_get-get_or c.rules.rules c.rules.stored-index c.stored-item.result within in
    elim c.if-is_found.branch [
      | then-is_found w ↦
          let acts : acts_on c.args.edit.now it ≡ true = sym (c.is_found.ensures (signature_at c.args.signatures.now c.rules.rules c.rules.stored-index c.rules.place it _ c.rules.invariant.signed c.rules.invariant.place at) c.wanted-wanted.ensures) ∙ w.if-is_found.true in
          record {
            place = ap (λ (k : ℕ). k + 1) c.rules.invariant.place;
            signed = c.rules.invariant.signed ∙ sym (ap signatures_in w.rules-is ∙ signatures_set c.rules.rules c.rules.stored-index it (record it { gone = Some c.args.gone }) at refl);
            rules = w.rules-is ∙ life_ends c.args.rules.now c.rules.rules c.args.edit.now c.args.gone c.rules.stored-index it c.rules.invariant.rules at acts;
            placed =
                placed_moved w.remove.new.self c.if-is_found.places (ended c.rules.stored-index c.args.gone c.rules.rules) c.if-is_found.rules w.places-is
                (w.rules-is ∙ set-ended c.rules.rules c.rules.stored-index c.args.gone it at)
                (subst (λ (place : ℕ). ArePlaced w.remove.new.self (ended place c.args.gone c.rules.rules)) c.rules.invariant.place
                (w.remove.ensures.placed c.rules.rules it c.args.gone c.rules.invariant.placed (ap (slice_get c.rules.rules) c.rules.invariant.place ∙ at) refl));
            ended =
                ends_moved _ c.if-is_found.ends.items _ c.if-is_found.rules c.args.gone (ap (λ ends. ends.items) w.ends-is) w.rules-is
                (ends_set c.rules.ends.items c.rules.rules c.args.gone c.rules.stored-index it c.rules.invariant.ended at (acts_live c.args.edit.now it acts)
                w.push_reserved.new.self.items c.rules.place c.rules.invariant.place w.push_reserved.ensures.items);
            capacity = ap (λ ends. vec_capacity ends) w.ends-is ∙ w.push_reserved.ensures.capacity ∙ c.rules.invariant.capacity;
            spare =
                let more : room_in c.rules.places ≤ room_in w.remove.new.self = w.remove.ensures.room in
                let so_far : room_in c.args.places.now ≤ room_in c.rules.places = c.rules.invariant.spare in
                let now : room_in c.if-is_found.places ≡ room_in w.remove.new.self = ap (λ places. room_in places) w.places-is in
                omega arith;
            count = w.count-is ∙ counts_more c.args.rules.now c.rules.rules c.args.edit.now c.args.gone c.rules.stored-index it c.rules.invariant.rules at c.rules.count c.rules.invariant.count acts;
          }
      | else-is_found w ↦
          let idle : acts_on c.args.edit.now it ≡ false = sym (c.is_found.ensures (signature_at c.args.signatures.now c.rules.rules c.rules.stored-index c.rules.place it _ c.rules.invariant.signed c.rules.invariant.place at) c.wanted-wanted.ensures) ∙ w.if-is_found.false in
          let same : c.if-is_found.rules ≡ c.rules.rules = w.rules-is ∙ set-get_or c.rules.rules c.rules.stored-index c.stored-item.result in
          record {
            place = ap (λ (k : ℕ). k + 1) c.rules.invariant.place;
            signed = c.rules.invariant.signed ∙ sym (ap signatures_in same);
            rules = same ∙ life_stays c.args.rules.now c.rules.rules c.args.edit.now c.args.gone c.rules.stored-index it c.rules.invariant.rules at idle;
            placed = placed_moved c.rules.places c.if-is_found.places c.rules.rules c.if-is_found.rules w.places-is same c.rules.invariant.placed;
            ended = ends_moved _ c.if-is_found.ends.items c.rules.rules c.if-is_found.rules c.args.gone (ap (λ ends. ends.items) w.ends-is) same c.rules.invariant.ended;
            capacity = ap (λ ends. vec_capacity ends) w.ends-is ∙ c.rules.invariant.capacity;
            spare =
                let so_far : room_in c.args.places.now ≤ room_in c.rules.places = c.rules.invariant.spare in
                let now : room_in c.if-is_found.places ≡ room_in c.rules.places = ap (λ places. room_in places) w.places-is in
                omega arith;
            count = w.count-is ∙ counts_same c.args.rules.now c.rules.rules c.args.edit.now c.args.gone c.rules.stored-index it c.rules.invariant.rules at c.rules.count c.rules.invariant.count idle;
          }
    ]

pub returns-clause-rules : goal.returns-clause-rules
returns-clause-rules c =
    let all : c.rules.stored-index ≡ length c.args.rules.now = omega arith in
    c.rules.invariant.rules ∙ mapped_to_all (ended_by c.args.edit.now c.args.gone) c.rules.stored-index c.args.rules.now all
