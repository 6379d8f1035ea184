-- A subtable that has some rules has others too that differ from them in tables, cookies and actions alone.
use Rattle.std.proofs.Common.{◌≡◌, ℕ, ◌+◌, ◌<◌, ◌^◌, Bool, true, false, ◌==◌, if◌then◌else◌, List, [], ◌∷◌, map, length, refl, sym, ap, ap₂, ◌∙◌, subst, arith}
use Rattle.std.specs.List.{count_by}
use Rattle.std.proofs.lemmas.List.{length-map}
use Rattle.spec_keys.specs.Keys.{masked, same}
use Rattle.spec_tables.specs.Rules.{Rule}
use Rattle.table_laws.proofs.MemberLaws.{Among, Among_in-map}
use Rattle.ovs_fields.specs.Packed.{bits}
use Rattle.staged_lookup.specs.declared.rank.Rank.{Rank}
use Rattle.staged_lookup.specs.declared.stage.Stage.{Stage}
use Rattle.staged_lookup.specs.declared.subtable.Subtable.{Subtable}
use Rattle.staged_lookup.specs.Ranks.{rank_of}
use Rattle.staged_lookup.specs.Stages.{IsStage}
use Rattle.staged_lookup.specs.Subtables.{ranks_with, IsOfMask, IsSubtableOf}
use Rattle.staged_lookup.proofs.Members.{among_map, count-cons}
use Rattle.staged_lookup.proofs.RankLaws.{ranks-cons}

module _ {X : Type 0} (f g : X → Rule) (number : (x : X) → (f x).number ≡ (g x).number) (priority : (x : X) → (f x).priority ≡ (g x).priority) (matching : (x : X) → (f x).matching ≡ (g x).matching) where
  count_alike : (p : Rule → Bool) → ((x : X) → p (f x) ≡ p (g x)) → (xs : List X) → count_by p (map f xs) ≡ count_by p (map g xs)
  count_alike p alike [] = refl
  count_alike p alike (x ∷ xs) =
      count-cons p (f x) (map f xs) ∙ ap₂ (λ (t : Bool) (n : ℕ). (if t then 1 else 0) + n) (alike x) (count_alike p alike xs) ∙ sym (count-cons p (g x) (map g xs))

  rank_alike : (x : X) → rank_of (f x) ≡ rank_of (g x)
  rank_alike x = ap₂ made (priority x) (number x)
    where
      made : ℕ → ℕ → Rank
      made a b = record { priority = a; number = b }

  ranks_alike : (key : List ℕ) (xs : List X) → ranks_with key (map f xs) ≡ ranks_with key (map g xs)
  ranks_alike key [] = refl
  ranks_alike key (x ∷ xs) = at (same key (g x).matching.key) refl (ranks_alike key xs)
    where
      at : (t : Bool) → same key (g x).matching.key ≡ t → ranks_with key (map f xs) ≡ ranks_with key (map g xs) → ranks_with key (f x ∷ map f xs) ≡ ranks_with key (g x ∷ map g xs)
      at true e ih =
          ranks-cons key (f x) (map f xs) true (ap (λ m. same key m.key) (matching x) ∙ e)
          ∙ ap₂ (λ (r : Rank) (rs : List Rank). r ∷ rs) (rank_alike x) ih ∙ sym (ranks-cons key (g x) (map g xs) true e)
      at false e ih = ranks-cons key (f x) (map f xs) false (ap (λ m. same key m.key) (matching x) ∙ e) ∙ ih ∙ sym (ranks-cons key (g x) (map g xs) false e)

  stage_alike : (s : Stage) (before part mask : List ℕ) (xs : List X) → IsStage s before part mask (map f xs) → IsStage s before part mask (map g xs)
  stage_alike s before part mask xs is = record {
    masks = is.masks;
    like = is.like;
    whole = is.whole;
    counted = λ tested key. is.counted tested key ∙ count_alike (λ (r : Rule). same key (masked r.matching.key part)) (λ x. ap (λ m. same key (masked m.key part)) (matching x)) xs;
  }

  pub subtable_alike : (s : Subtable) (xs : List X) → IsSubtableOf s (map f xs) → IsSubtableOf s (map g xs)
  subtable_alike s xs is = record {
    of_mask = λ r m. of r (among_map g r xs m);
    masks = is.masks;
    distinct = λ n. let c = count_alike (λ (r : Rule). r.number == n) (λ x. ap (λ k. k == n) (number x)) xs in let d = is.distinct n in omega (arith, c, d);
    narrow = λ r m.
        let a = among_map g r xs m in
        let n = is.narrow (f a.0) (Among_in-map f a.0 xs a.1) in
        subst (λ (k : ℕ). k < 2 ^ 32) (number a.0 ∙ sym (ap (λ (y : Rule). y.number) a.2)) n;
    ranked = λ key. is.ranked key ∙ ranks_alike key xs;
    metadata = stage_alike s.metadata _ _ _ xs is.metadata;
    ethernet = stage_alike s.ethernet _ _ _ xs is.ethernet;
    network = stage_alike s.network _ _ _ xs is.network;
    count = is.count ∙ length-map xs f ∙ sym (length-map xs g);
  }
    where
      of : (r : Rule) → (x : X) × Among x xs × (r ≡ g x) → IsOfMask (bits s.mask) r
      of r a =
          let o = is.of_mask (f a.0) (Among_in-map f a.0 xs a.1) in
          let e = matching a.0 in
          let v : IsOfMask (bits s.mask) (g a.0) = record {
            mask_is = ap (λ m. m.mask) (sym e) ∙ o.mask_is;
            normalised = ap (λ m. masked m.key (bits s.mask)) (sym e) ∙ o.normalised ∙ ap (λ m. m.key) e;
            fields = ap (λ m. length m.key) (sym e) ∙ o.fields;
          } in
          subst (IsOfMask (bits s.mask)) (sym a.2) v
