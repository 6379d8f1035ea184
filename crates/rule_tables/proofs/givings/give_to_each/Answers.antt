use Rattle.std.proofs.Common.{◌≡◌, ℕ, ◌+◌, ◌≤◌, ◌<◌, true, false, [], ◌∷◌, ◌++◌, length, take, get_or, Some, sym, ap, ◌∙◌, arith, vec_len, vec_capacity, length-append}
use Rattle.std.specs.Prelude.{slice_get, slice_set, count_by}
use Rattle.std.proofs.lemmas.List.{set-get_or, take_all}
use Rattle.std.proofs.lemmas.Option.{slice_get-get_or}
use Rattle.rule_tables.specs.declared.givings.Giving.{Giving}
use Rattle.rule_tables.specs.declared.stored.StoredRule.{StoredRule}
use Rattle.rule_tables.specs.Stored.{acts_on, signatures_in}
use Rattle.rule_tables.proofs.GivingSteps.{done_all, done_kept, done_given, counted_next, counted_same, done_moved}
use Rattle.rule_tables.proofs.SignedLaws.{signature_at, signatures_set}
use Rattle.rule_tables.proofs.givings.give_to_each.Goals as goal
use Rattle.rule_tables.proofs.givings.give_to_each.Goals.{then-is_found, else-is_found}

pub give-requires : goal.give-requires
give-requires c =
    let within : c.rules.stored-index < length c.rules.rules = omega arith in
    let it : StoredRule = get_or c.rules.rules c.rules.stored-index c.stored-item.result in
    let at : slice_get c.rules.rules c.rules.stored-index ≡ Some it = slice_get-get_or c.rules.rules c.rules.stored-index c.stored-item.result within in
    let acts : acts_on c.args.edit.now it ≡ true = sym (c.is_found.ensures (signature_at c.args.signatures.now c.rules.rules c.rules.stored-index c.rules.place it _ c.rules.invariant.signed c.rules.invariant.place at) c.wanted-wanted.ensures) ∙ c.if-is_found.true in
    let next = counted_next c.args.edit.now c.args.modification c.args.givings.now.items c.args.rules.now c.rules.stored-index _ _ c.rules.invariant.done it at acts in
    let more : count_by (acts_on c.args.edit.now) (take (c.rules.stored-index + 1) c.args.rules.now) ≡ count_by (acts_on c.args.edit.now) (take c.rules.stored-index c.args.rules.now) + 1 = next.0 in
    let few : count_by (acts_on c.args.edit.now) (take (c.rules.stored-index + 1) c.args.rules.now) ≤ count_by (acts_on c.args.edit.now) c.args.rules.now = next.1 in
    let so_far : length c.rules.givings.items ≡ length c.args.givings.now.items + count_by (acts_on c.args.edit.now) (take c.rules.stored-index c.args.rules.now) = c.rules.invariant.length in
    let same : vec_capacity c.rules.givings ≡ vec_capacity c.args.givings.now = c.rules.invariant.capacity in
    let room : vec_len c.args.givings.now + count_by (acts_on c.args.edit.now) c.args.rules.now ≤ vec_capacity c.args.givings.now = c.requires.room in
    omega (arith, c.rules.givings.ok.0, c.args.givings.now.ok.0)

pub rules-preserved : goal.rules-preserved
rules-preserved c =
    let within : c.rules.stored-index < length c.rules.rules = omega arith in
    let it : StoredRule = get_or c.rules.rules c.rules.stored-index c.stored-item.result in
    let at : slice_get c.rules.rules c.rules.stored-index ≡ Some it = slice_get-get_or c.rules.rules c.rules.stored-index c.stored-item.result within in
    let so_far : length c.rules.givings.items ≡ length c.args.givings.now.items + count_by (acts_on c.args.edit.now) (take c.rules.stored-index c.args.rules.now) = c.rules.invariant.length in
    elim c.if-is_found.branch [
      | then-is_found w ↦
          let acts : acts_on c.args.edit.now it ≡ true = sym (c.is_found.ensures (signature_at c.args.signatures.now c.rules.rules c.rules.stored-index c.rules.place it _ c.rules.invariant.signed c.rules.invariant.place at) c.wanted-wanted.ensures) ∙ w.if-is_found.true in
          let items : c.if-is_found.givings.items ≡ c.rules.givings.items ++ (let g : Giving = record { modification = c.args.modification; before = it.given } in g) ∷ [] = ap (λ v. v.items) w.givings-is ∙ w.give.ensures.items in
          let next = counted_next c.args.edit.now c.args.modification c.args.givings.now.items c.args.rules.now c.rules.stored-index _ _ c.rules.invariant.done it at acts in
          record {
            place = ap (λ (k : ℕ). k + 1) c.rules.invariant.place;
            signed =
                c.rules.invariant.signed
                ∙ sym (ap signatures_in w.rules-is ∙ signatures_set c.rules.rules c.rules.stored-index it w.give.new.stored at (ap (λ (s : StoredRule). s.rule) w.give.ensures.rule));
            done =
                done_moved (λ i. acts_on c.args.edit.now) c.args.modification c.args.givings.now.items c.args.rules.now (c.rules.stored-index + 1) _ c.if-is_found.givings.items _ c.if-is_found.rules items (w.rules-is ∙ ap (λ (s : StoredRule). slice_set c.rules.rules c.rules.stored-index s) w.give.ensures.rule)
                (done_given (λ i. acts_on c.args.edit.now) c.args.modification c.args.givings.now.items c.args.rules.now c.rules.stored-index c.rules.givings.items c.rules.rules c.rules.invariant.done it at acts (omega arith));
            length =
                let more : count_by (acts_on c.args.edit.now) (take (c.rules.stored-index + 1) c.args.rules.now) ≡ count_by (acts_on c.args.edit.now) (take c.rules.stored-index c.args.rules.now) + 1 = next.0 in
                let pushed : length c.if-is_found.givings.items ≡ length c.rules.givings.items + 1 = ap length items ∙ length-append c.rules.givings.items _ in
                omega arith;
            capacity = ap (λ v. vec_capacity v) w.givings-is ∙ w.give.ensures.capacity ∙ c.rules.invariant.capacity;
          }
      | else-is_found w ↦
          let idle : acts_on c.args.edit.now it ≡ false = sym (c.is_found.ensures (signature_at c.args.signatures.now c.rules.rules c.rules.stored-index c.rules.place it _ c.rules.invariant.signed c.rules.invariant.place at) c.wanted-wanted.ensures) ∙ w.if-is_found.false in
          let same : c.if-is_found.rules ≡ c.rules.rules = w.rules-is ∙ set-get_or c.rules.rules c.rules.stored-index c.stored-item.result in
          record {
            place = ap (λ (k : ℕ). k + 1) c.rules.invariant.place;
            signed = c.rules.invariant.signed ∙ sym (ap signatures_in same);
            done =
                done_moved (λ i. acts_on c.args.edit.now) c.args.modification c.args.givings.now.items c.args.rules.now (c.rules.stored-index + 1) c.rules.givings.items c.if-is_found.givings.items c.rules.rules c.if-is_found.rules (ap (λ v. v.items) w.givings-is) same
                (done_kept (λ i. acts_on c.args.edit.now) c.args.modification c.args.givings.now.items c.args.rules.now c.rules.stored-index c.rules.givings.items c.rules.rules c.rules.invariant.done it at idle);
            length = ap (λ v. length v.items) w.givings-is ∙ so_far ∙ sym (ap (λ (n : ℕ). length c.args.givings.now.items + n) (counted_same c.args.edit.now c.args.modification c.args.givings.now.items c.args.rules.now c.rules.stored-index _ _ c.rules.invariant.done it at idle));
            capacity = ap (λ v. vec_capacity v) w.givings-is ∙ c.rules.invariant.capacity;
          }
    ]

pub returns-clause-given : goal.returns-clause-given
returns-clause-given c = done_all (λ i. acts_on c.args.edit.now) c.args.modification c.args.givings.now.items c.args.rules.now c.rules.stored-index c.rules.givings.items c.rules.rules (omega arith) c.rules.invariant.done

pub returns-clause-count : goal.returns-clause-count
returns-clause-count c =
    let all : take c.rules.stored-index c.args.rules.now ≡ c.args.rules.now = take_all c.rules.stored-index c.args.rules.now (omega arith) in
    let counted : count_by (acts_on c.args.edit.now) (take c.rules.stored-index c.args.rules.now) ≡ count_by (acts_on c.args.edit.now) c.args.rules.now = ap (count_by (acts_on c.args.edit.now)) all in
    let so_far : length c.rules.givings.items ≡ length c.args.givings.now.items + count_by (acts_on c.args.edit.now) (take c.rules.stored-index c.args.rules.now) = c.rules.invariant.length in
    omega (arith, c.rules.givings.ok.0, c.args.givings.now.ok.0)
