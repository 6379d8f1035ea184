-- Groups are read one after the other.
use Rattle.std.proofs.Common.{◌≡◌, ℕ, zero, suc, ◌-◌, ◌<◌, Bool, List, ◌∷◌, Option, Some, None, option_map, refl, sym, ap, arith}
use Rattle.spec_flow_text.specs.Characters.{colon}
use Rattle.spec_flow_text.specs.Numbers.{◌>>=◌, split_once}
use Rattle.spec_flow_text.specs.Addresses.{group, last_groups, groups}
use Rattle.text_numbers.specs.declared.addresses.Groups.{Groups}
use Rattle.text_numbers.specs.Groups.{counted}

pub no_room : (with_ipv4 : Bool) (room : ℕ) (text : List ℕ) → room ≡ 0 → groups with_ipv4 room text ≡ None
unfolding groups
no_room with_ipv4 zero text e = refl
no_room with_ipv4 (suc room) text e = absurd (omega arith)

pub last_of_all : (with_ipv4 : Bool) (room : ℕ) (text : List ℕ) → 0 < room → split_once colon text ≡ None → groups with_ipv4 room text ≡ last_groups with_ipv4 room text
unfolding groups
last_of_all with_ipv4 zero text lt e = absurd (omega arith)
last_of_all with_ipv4 (suc room) text lt e = rw e refl

pub first_of_all : (with_ipv4 : Bool) (room : ℕ) (text front rest : List ℕ) → 0 < room → split_once colon text ≡ Some (front, rest)
    → groups with_ipv4 room text ≡ (group front >>= λ g. option_map (λ others. g ∷ others) (groups with_ipv4 (room - 1) rest))
unfolding groups
first_of_all with_ipv4 zero text front rest lt e = absurd (omega arith)
first_of_all with_ipv4 (suc room) text front rest lt e = let one : suc room - 1 ≡ room = omega arith in rw (e, one) refl

pub others_refused : (g : ℕ) (others : Option (List ℕ)) → None ≡ option_map counted others → option_map counted (option_map (λ all. g ∷ all) others) ≡ None
others_refused g None e = refl
others_refused g (Some all) e = cc

pub others_read : (g : ℕ) (o r : Groups) (others : Option (List ℕ)) → Some o ≡ option_map counted others → ((all : List ℕ) → o ≡ counted all → r ≡ counted (g ∷ all))
    → option_map counted (option_map (λ all. g ∷ all) others) ≡ Some r
others_read g o r None e next = cc
others_read g o r (Some all) e next = let same : o ≡ counted all = cc in ap Some (sym (next all same))
