-- The tags outside of those that two lists share, the innermost of both first.
use Rattle.std.proofs.Common.{◌≡◌, ℕ, zero, suc, ◌+◌, ◌-◌, ◌<◌, ◌≤◌, Bool, true, false, ◌&&◌, ◌==◌, if◌then◌else◌, List, [], ◌∷◌, ◌++◌, length, map, drop, replicate, refl, sym, ap, ap₂, ◌∙◌, subst, eqb-true, arith}
use Rattle.std.proofs.lemmas.Bool.Decides.{nat_tests}
use Rattle.std.proofs.lemmas.List.{length-drop}
use Rattle.spec_actions.specs.declared.action.DpAction.{DpAction}
use Rattle.spec_actions.specs.declared.action.DpAction.TheVariants.{PopVlan, PushVlan}
use Rattle.spec_xlate.specs.Tags as tags
use Rattle.spec_xlate.specs.Tags.{is_same_tag, outer_tags, commit_tags}
use Rattle.named_fields.specs.declared.tags.VlanTag.{VlanTag}
use Rattle.named_fields.specs.TagViews.{tag_view}
use Rattle.dp_actions.specs.TagLists.{tag_list, pushing}

-- where one list has no tag, none is shared
pub none_shared : (bs cs : List VlanTag) → length bs ≡ 0 → (tag_list bs ≡ outer_tags (tag_list bs) (tag_list cs)) × (tag_list cs ≡ outer_tags (tag_list cs) (tag_list bs))
unfolding outer_tags
none_shared [] [] e = (refl, refl)
none_shared [] (c ∷ cs) e = (refl, refl)
none_shared (b ∷ bs) cs e = absurd (omega arith)

-- the first tags, and those behind them
pub first_shared : (bs cs bs' cs' : List VlanTag) (b c : VlanTag) (n : ℕ) → bs ≡ b ∷ bs' → cs ≡ c ∷ cs'
    → is_same_tag (tag_view b) (tag_view c) ≡ true → tag_list (drop n bs') ≡ outer_tags (tag_list bs') (tag_list cs')
    → tag_list (drop (1 + n) bs) ≡ outer_tags (tag_list bs) (tag_list cs)
unfolding outer_tags
first_shared bs cs bs' cs' b c n l m e h =
    let one_more : 1 + n ≡ suc n = omega arith in
    ap₂ (λ (k : ℕ) (xs : List VlanTag). tag_list (drop k xs)) one_more l ∙ h
    ∙ sym (ap (λ (t : Bool). if t then outer_tags (tag_list bs') (tag_list cs') else tag_view b ∷ tag_list bs') e)
    ∙ sym (ap₂ (λ (xs ys : List VlanTag). outer_tags (tag_list xs) (tag_list ys)) l m)

pub first_other : (bs cs bs' cs' : List VlanTag) (b c : VlanTag) → bs ≡ b ∷ bs' → cs ≡ c ∷ cs'
    → is_same_tag (tag_view b) (tag_view c) ≡ false → tag_list bs ≡ outer_tags (tag_list bs) (tag_list cs)
unfolding outer_tags
first_other bs cs bs' cs' b c l m e =
    ap tag_list l ∙ sym (ap (λ (t : Bool). if t then outer_tags (tag_list bs') (tag_list cs') else tag_view b ∷ tag_list bs') e)
    ∙ sym (ap₂ (λ (xs ys : List VlanTag). outer_tags (tag_list xs) (tag_list ys)) l m)

eqb-comm : (x y : ℕ) → (y == x) ≡ (x == y)
eqb-comm x y = at (x == y) refl
  where
    at : (t : Bool) → (x == y) ≡ t → (y == x) ≡ t
    at true e = ap₂ (λ (u v : ℕ). u == v) (sym (eqb-true x y e)) (eqb-true x y e) ∙ e
    at false e = grind (arith, nat_tests)

pub same_tag-comm : (t o : tags.VlanTag) → is_same_tag o t ≡ is_same_tag t o
same_tag-comm t o = ap₂ (λ (u v : Bool). u && v) (eqb-comm t.tci o.tci) (eqb-comm t.tpid o.tpid)

-- the actions for those tags
pops : (xs : List VlanTag) → map (λ (t : tags.VlanTag). PopVlan) (tag_list xs) ≡ replicate (length xs) PopVlan
pops [] = refl
pops (x ∷ xs) = ap (λ ys. PopVlan ∷ ys) (pops xs)

pushes : (xs : List VlanTag) → map (λ (t : tags.VlanTag). PushVlan t.tpid t.tci) (tag_list xs) ≡ pushing xs
pushes [] = refl
pushes (x ∷ xs) = ap (λ ys. PushVlan x.tpid x.tci ∷ ys) (pushes xs)

pub turned : (bs cs : List VlanTag) (n : ℕ) → tag_list (drop n bs) ≡ outer_tags (tag_list bs) (tag_list cs) → tag_list (drop n cs) ≡ outer_tags (tag_list cs) (tag_list bs)
    → (count : ℕ) → count ≡ length bs - n → replicate count PopVlan ++ pushing (drop n cs) ≡ commit_tags (tag_list bs) (tag_list cs)
unfolding commit_tags
turned bs cs n gone new count is =
    ap₂ (λ xs ys. xs ++ ys)
    (ap (λ k. replicate k PopVlan) (is ∙ sym (length-drop n bs)) ∙ (sym (pops (drop n bs)) ∙ ap (λ ts. map (λ (t : tags.VlanTag). PopVlan) ts) gone))
    (sym (pushes (drop n cs)) ∙ ap (λ ts. map (λ (t : tags.VlanTag). PushVlan t.tpid t.tci) ts) new)
