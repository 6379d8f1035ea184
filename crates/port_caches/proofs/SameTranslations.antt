-- Whether two translations are the same, tested element by element.
use Rattle.std.proofs.Common.{◌≡◌, ℕ, ◌==◌, true, ◌&&◌, List, [], ◌∷◌, refl, sym, ap, ap₂, ◌∙◌}
use Rattle.std.specs.Prelude.{nat_eq}
use Rattle.std.specs.Cmp.Lexicographic.{pointwise}
use denote.Enum.Declared.{tag_of}
use denote.Enum.Bare.{tag_one}
use Rattle.std.proofs.lemmas.Bool.{and_parts, eqb-true}
use Rattle.spec_keys.specs.Keys.{same}
use Rattle.spec_keys.specs.Fields.{place_of}
use Rattle.spec_keys.specs.declared.field_id.FieldId.{FieldId}
use Rattle.spec_keys.specs.declared.field_id.FieldId.TheVariants.{InPort, Metadata, Reg0, Reg1, Reg2, Reg3, Reg4, Reg5, Reg6, Reg7, Reg8, Reg9, Reg10, Reg11, Reg12, Reg13, Reg14, Reg15, DlSrc, DlDst, DlType, VlanTci, NwSrc, NwDst, Ipv6Src, Ipv6Dst, NwProto, NwTos, NwTtl, IpFrag, ArpSha, ArpTha, TpSrc, TpDst, VlanTpid, VlanTci2, VlanTpid2}
use Rattle.spec_keys.specs.contracts.field_id.FieldId.{the_type}
use Rattle.spec_actions.specs.declared.action.DpAction.{DpAction}
use Rattle.spec_actions.specs.declared.action.DpAction.TheVariants.{Output, PopVlan, PushVlan, Set}
use Rattle.spec_actions.specs.contracts.action.DpActionPartialEq.TheImpl as derived
use Rattle.spec_board.specs.Results.{is_same_action, are_same_actions}

pub visits_same : (xs ys : List ℕ) → pointwise nat_eq xs ys ≡ same xs ys
unfolding same
visits_same [] [] = refl
visits_same [] (y ∷ ys) = refl
visits_same (x ∷ xs) [] = refl
visits_same (x ∷ xs) (y ∷ ys) = ap (λ t. (x == y) && t) (visits_same xs ys)

-- the place of a field is the number of its variant
tag_is : (f : FieldId) → tag_of the_type f ≡ place_of f
tag_is InPort = refl
tag_is Metadata = refl
tag_is Reg0 = refl
tag_is Reg1 = refl
tag_is Reg2 = refl
tag_is Reg3 = refl
tag_is Reg4 = refl
tag_is Reg5 = refl
tag_is Reg6 = refl
tag_is Reg7 = refl
tag_is Reg8 = refl
tag_is Reg9 = refl
tag_is Reg10 = refl
tag_is Reg11 = refl
tag_is Reg12 = refl
tag_is Reg13 = refl
tag_is Reg14 = refl
tag_is Reg15 = refl
tag_is DlSrc = refl
tag_is DlDst = refl
tag_is DlType = refl
tag_is VlanTci = refl
tag_is NwSrc = refl
tag_is NwDst = refl
tag_is Ipv6Src = refl
tag_is Ipv6Dst = refl
tag_is NwProto = refl
tag_is NwTos = refl
tag_is NwTtl = refl
tag_is IpFrag = refl
tag_is ArpSha = refl
tag_is ArpTha = refl
tag_is TpSrc = refl
tag_is TpDst = refl
tag_is VlanTpid = refl
tag_is VlanTci2 = refl
tag_is VlanTpid2 = refl

same_field : (f g : FieldId) → place_of f ≡ place_of g → f ≡ g
same_field f g same = tag_one the_type tt f g (tag_is f ∙ same ∙ sym (tag_is g))

action_same : (x y : DpAction) → derived.eq-value.it x y ≡ is_same_action x y
action_same (Output m) (Output n) = refl
action_same (Output m) PopVlan = refl
action_same (Output m) (PushVlan u d) = refl
action_same (Output m) (Set g w n) = refl
action_same PopVlan (Output n) = refl
action_same PopVlan PopVlan = refl
action_same PopVlan (PushVlan u d) = refl
action_same PopVlan (Set g w n) = refl
action_same (PushVlan t c) (Output n) = refl
action_same (PushVlan t c) PopVlan = refl
action_same (PushVlan t c) (PushVlan u d) = refl
action_same (PushVlan t c) (Set g w n) = refl
action_same (Set f v m) (Output n) = refl
action_same (Set f v m) PopVlan = refl
action_same (Set f v m) (PushVlan u d) = refl
action_same (Set f v m) (Set g w n) = ap₂ (λ (a b : ℕ). (a == b) && ((v == w) && (m == n))) (tag_is f) (tag_is g)

pub actions_same : (xs ys : List DpAction) → pointwise derived.eq-value.it xs ys ≡ are_same_actions xs ys
unfolding are_same_actions
actions_same [] [] = refl
actions_same [] (y ∷ ys) = refl
actions_same (x ∷ xs) [] = refl
actions_same (x ∷ xs) (y ∷ ys) = ap₂ (λ s t. s && t) (action_same x y) (actions_same xs ys)

-- actions that are the same are equal
same_action : (x y : DpAction) → is_same_action x y ≡ true → x ≡ y
same_action (Output m) (Output n) is = ap Output (eqb-true m n is)
same_action (Output m) PopVlan is = absurd (cc is)
same_action (Output m) (PushVlan u d) is = absurd (cc is)
same_action (Output m) (Set g w n) is = absurd (cc is)
same_action PopVlan (Output n) is = absurd (cc is)
same_action PopVlan PopVlan is = refl
same_action PopVlan (PushVlan u d) is = absurd (cc is)
same_action PopVlan (Set g w n) is = absurd (cc is)
same_action (PushVlan t c) (Output n) is = absurd (cc is)
same_action (PushVlan t c) PopVlan is = absurd (cc is)
same_action (PushVlan t c) (PushVlan u d) is =
    let parts = and_parts (t == u) (c == d) is in
    ap₂ PushVlan (eqb-true t u parts.0) (eqb-true c d parts.1)
same_action (PushVlan t c) (Set g w n) is = absurd (cc is)
same_action (Set f v m) (Output n) is = absurd (cc is)
same_action (Set f v m) PopVlan is = absurd (cc is)
same_action (Set f v m) (PushVlan u d) is = absurd (cc is)
same_action (Set f v m) (Set g w n) is =
    let parts = and_parts (place_of f == place_of g) ((v == w) && (m == n)) is in
    let numbers = and_parts (v == w) (m == n) parts.1 in
    let field = same_field f g (eqb-true (place_of f) (place_of g) parts.0) in
    let value = eqb-true v w numbers.0 in
    let mask = eqb-true m n numbers.1 in
    λ i. Set (field i) (value i) (mask i)

pub same_actions : (xs ys : List DpAction) → are_same_actions xs ys ≡ true → xs ≡ ys
unfolding are_same_actions
same_actions [] [] is = refl
same_actions [] (y ∷ ys) is = absurd (cc is)
same_actions (x ∷ xs) [] is = absurd (cc is)
same_actions (x ∷ xs) (y ∷ ys) is =
    let parts = and_parts (is_same_action x y) (are_same_actions xs ys) is in
    ap₂ (λ (a : DpAction) (as_ : List DpAction). a ∷ as_) (same_action x y parts.0) (same_actions xs ys parts.1)
