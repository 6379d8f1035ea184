-- What a stage counts, as rules come and go.
use Rattle.std.proofs.Common.{◌≡◌, ℕ, ◌+◌, ◌^◌, ◌<◌, length, true, if◌then◌else◌, nat_lt, List, [], ◌∷◌, ◌++◌, sym, ap, ap₂, ◌∙◌, subst, arith}
use Rattle.std.specs.Prelude.{unwrap_or}
use Rattle.std.specs.List.{list_any}
use Rattle.std.specs.Map.{lookup}
use Rattle.std.proofs.lemmas.Bool.{ltb-true, lt-ltb}
use Rattle.std.proofs.lemmas.Bool.Decides.{same_from_decides}
use Rattle.std.proofs.lemmas.List.Sums.{count_by-le-length}
use Rattle.spec_keys.specs.Keys.{agree, masked, same}
use Rattle.spec_tables.specs.Rules.{Rule}
use Rattle.masked_map.specs.Maps.{mask_of, entries_of}
use Rattle.ovs_fields.specs.Equality.{same_from_equal}
use Rattle.table_laws.proofs.MemberLaws.{Among, list_any_from-Among}
use Rattle.staged_lookup.specs.declared.stage.Stage.{Stage}
use Rattle.staged_lookup.specs.declared.stage.StageKind.TheVariants.{LikeTheOneBefore, WholeMask, Tested}
use Rattle.staged_lookup.specs.Counts.{count_at}
use Rattle.staged_lookup.specs.Numbered.{AreDistinct, without}
use Rattle.staged_lookup.specs.Stages.{with_part, IsStage, CountsFewer, IsCounted}
use Rattle.staged_lookup.proofs.Members.{any_among, counted_among, counted_from}
use Rattle.staged_lookup.proofs.Removed.{count-one_more, count-without}

counts_same : (old new : Stage) → entries_of new.counts ≡ entries_of old.counts → (key : List ℕ) → count_at new.counts key ≡ count_at old.counts key
counts_same old new same_entries key = ap (λ (es : List (List ℕ × ℕ)). unwrap_or (lookup (same key) es) 0) same_entries

pub stage_empty : (s : Stage) (before part mask : List ℕ) → mask_of s.counts ≡ part → (s.kind ≡ LikeTheOneBefore → part ≡ before) → (s.kind ≡ WholeMask → part ≡ mask) → entries_of s.counts ≡ [] → IsStage s before part mask []
stage_empty s before part mask masks like whole empty = record {
  masks = masks;
  like = like;
  whole = whole;
  counted = λ tested key. ap (λ (es : List (List ℕ × ℕ)). unwrap_or (lookup (same key) es) 0) empty;
}

-- a stage that has the same counts under the same mask
pub stage_same : (old new : Stage) (before part mask : List ℕ) (rs : List Rule) → new.kind ≡ old.kind → mask_of new.counts ≡ mask_of old.counts → entries_of new.counts ≡ entries_of old.counts
    → IsStage old before part mask rs → IsStage new before part mask rs
stage_same old new before part mask rs same_kind same_mask same_entries is = record {
  masks = same_mask ∙ is.masks;
  like = λ k. is.like (sym same_kind ∙ k);
  whole = λ k. is.whole (sym same_kind ∙ k);
  counted = λ t key. counts_same old new same_entries key ∙ is.counted (sym same_kind ∙ t) key;
}

pub few_same : (old new : Stage) → new.kind ≡ old.kind → entries_of new.counts ≡ entries_of old.counts → CountsFewer old → CountsFewer new
few_same old new same_kind same_entries few tested key = subst (λ (n : ℕ). n < 2 ^ 63) (sym (counts_same old new same_entries key)) (few (sym same_kind ∙ tested) key)

pub stage_more : (old new : Stage) (before part mask key : List ℕ) (rs : List Rule) (r : Rule) → IsStage old before part mask rs → r.matching.key ≡ key → new.kind ≡ old.kind → old.kind ≡ Tested
    → mask_of new.counts ≡ mask_of old.counts → ((q : List ℕ) → count_at new.counts q ≡ count_at old.counts q + (if same q (masked key (mask_of old.counts)) then 1 else 0)) → IsStage new before part mask (rs ++ r ∷ [])
stage_more old new before part mask key rs r is of_key same_kind tested same_mask more = record {
  masks = same_mask ∙ is.masks;
  like = λ k. is.like (sym same_kind ∙ k);
  whole = λ k. is.whole (sym same_kind ∙ k);
  counted = λ t q. more q ∙ ap₂ (λ (m : ℕ) (l : List ℕ). m + (if same q l then 1 else 0)) (is.counted tested q) (ap₂ masked (sym of_key) is.masks)
      ∙ sym (count-one_more (λ (x : Rule). same q (masked x.matching.key part)) rs r);
}

pub stage_less : (old new : Stage) (before part mask key : List ℕ) (rs : List Rule) (r : Rule) → IsStage old before part mask rs → AreDistinct rs → Among r rs → r.matching.key ≡ key → new.kind ≡ old.kind → old.kind ≡ Tested
    → mask_of new.counts ≡ mask_of old.counts → ((q : List ℕ) → count_at new.counts q + (if same q (masked key (mask_of old.counts)) then 1 else 0) ≡ count_at old.counts q) → IsStage new before part mask (without r.number rs)
stage_less old new before part mask key rs r is distinct m of_key same_kind tested same_mask less = record {
  masks = same_mask ∙ is.masks;
  like = λ k. is.like (sym same_kind ∙ k);
  whole = λ k. is.whole (sym same_kind ∙ k);
  counted = λ t q.
      let a = less q in
      let b = is.counted tested q in
      let c = ap {B = ℕ} (λ (l : List ℕ). if same q l then 1 else 0) (ap₂ masked (sym of_key) is.masks) in
      let d = count-without (λ (x : Rule). same q (masked x.matching.key part)) r rs m distinct in
      omega (arith, a, b, c, d);
}

-- each rule is counted
pub stage_has : (s : Stage) (before part mask key : List ℕ) (rs : List Rule) (r : Rule) → IsStage s before part mask rs → Among r rs → r.matching.key ≡ key → IsCounted s key
stage_has s before part mask key rs r is m of_key tested =
    subst (λ (n : ℕ). 0 < n) (sym (is.counted tested (masked key (mask_of s.counts))))
    (counted_from (λ (x : Rule). same (masked key (mask_of s.counts)) (masked x.matching.key part)) r rs m
    (same_from_equal (masked key (mask_of s.counts)) (masked r.matching.key part) (ap₂ masked (sym of_key) is.masks)))

pub stage_agrees : (s : Stage) (before part mask key : List ℕ) (rs : List Rule) (n : ℕ) → IsStage s before part mask rs → s.kind ≡ Tested → n ≡ count_at s.counts (masked key (mask_of s.counts))
    → nat_lt 0 n ≡ list_any (λ r. agree key r.matching.key part) rs
stage_agrees s before part mask key rs n is tested found = same_from_decides (nat_lt 0 n) (list_any (λ r. agree key r.matching.key part) rs) (to, back) (λ e. e, λ e. e)
  where
    count : n ≡ with_part part (masked key part) rs
    count = found ∙ ap (count_at s.counts) (ap (masked key) is.masks) ∙ is.counted tested (masked key part)

    to : nat_lt 0 n ≡ true → list_any (λ r. agree key r.matching.key part) rs ≡ true
    to h =
        let some : 0 < with_part part (masked key part) rs = subst (λ (m : ℕ). 0 < m) count (ltb-true 0 n h) in
        let m = counted_among (λ (x : Rule). same (masked key part) (masked x.matching.key part)) rs some in
        list_any_from-Among (λ (x : Rule). agree key x.matching.key part) m.0 rs m.1 m.2

    back : list_any (λ r. agree key r.matching.key part) rs ≡ true → nat_lt 0 n ≡ true
    back h =
        let m = any_among (λ (x : Rule). agree key x.matching.key part) rs h in
        lt-ltb 0 n (subst (λ (k : ℕ). 0 < k) (sym count) (counted_from (λ (x : Rule). same (masked key part) (masked x.matching.key part)) m.0 rs m.1 m.2))

-- a stage whose parts are these
pub stage_at : (s : Stage) (b before p part mask : List ℕ) (rs : List Rule) → IsStage s b p mask rs → b ≡ before → p ≡ part → IsStage s before part mask rs
stage_at s b before p part mask rs is e f = subst (λ (x : List ℕ). IsStage s x part mask rs) e (subst (λ (y : List ℕ). IsStage s b y mask rs) f is)

-- no count is above how many rules there are
pub stage_few : (s : Stage) (before part mask : List ℕ) (rs : List Rule) → IsStage s before part mask rs → length rs < 2 ^ 63 → CountsFewer s
stage_few s before part mask rs is few tested key =
    let e = is.counted tested key in
    let l = count_by-le-length (λ (r : Rule). same key (masked r.matching.key part)) rs in
    omega (arith, e, l, few)
