-- Pieces that are numbered, one after the other.
use Rattle.std.proofs.Common.{◌≡◌, ℕ, ◌+◌, ◌*◌, ◌%◌, List, [], ◌∷◌, ◌++◌, refl, ap, ◌∙◌, sym, arith}
use Rattle.std.specs.Prelude.{map, codes}
use Rattle.std.specs.List.{flat_map, range_with_len}
use Rattle.std.specs.Fmt.{decimal}
use Rattle.std.proofs.lemmas.List.{append-nil, append_assoc, flat_map_more}
use Rattle.std.proofs.lemmas.List.FromFn.{map-range_with_len_more}
use Rattle.spec_input.specs.Made.{state, draw, ports, subnet_draws, subnet_rule, subnet_line, subnet_lines, register_line, register_lines}
use Rattle.trace_gen.proofs.States.{draw-at}

-- one piece after another
pub after-piece : (old mid new p q : List ℕ) → mid ≡ old ++ p → new ≡ mid ++ q → new ≡ old ++ (p ++ q)
after-piece old mid new p q was added = added ∙ (ap (λ mid. mid ++ q) was ∙ append_assoc old p q)

-- the parts of a rule, one after another
pub rule-joined : (old a b c d new : List ℕ) (i second third value : ℕ)
    → a ≡ old ++ (codes "table=0,priority=" ++ decimal (100 + i)) → b ≡ a ++ (codes ",ip,nw_dst=10." ++ decimal second)
    → c ≡ b ++ (codes "." ++ decimal third) → d ≡ c ++ (codes ".0/24,actions=load:" ++ decimal value)
    → new ≡ d ++ codes "->reg0[],resubmit(,1)\n" → new ≡ old ++ subnet_rule i second third value
rule-joined old a b c d new i second third value is_a is_b is_c is_d is_new =
    after-piece old a new (codes "table=0,priority=" ++ decimal (100 + i)) _ is_a
    (after-piece a b new (codes ",ip,nw_dst=10." ++ decimal second) _ is_b
    (after-piece b c new (codes "." ++ decimal third) _ is_c
    (after-piece c d new (codes ".0/24,actions=load:" ++ decimal value) (codes "->reg0[],resubmit(,1)\n") is_d is_new)))

pub register-joined : (old a b new : List ℕ) (value port : ℕ)
    → a ≡ old ++ (codes "table=1,priority=10,udp,reg0=" ++ decimal value) → b ≡ a ++ (codes ",actions=output:" ++ decimal port)
    → new ≡ b ++ codes "\n" → port ≡ value % ports + 1 → new ≡ old ++ register_line value
register-joined old a b new value port is_a is_b is_new is_port =
    after-piece old a new (codes "table=1,priority=10,udp,reg0=" ++ decimal value) _ is_a
    (after-piece a b new (codes ",actions=output:" ++ decimal port) (codes "\n") is_b is_new)
    ∙ ap (λ port. old ++ (codes "table=1,priority=10,udp,reg0=" ++ (decimal value ++ (codes ",actions=output:" ++ (decimal port ++ codes "\n"))))) is_port

map-same : (xs : List ℕ) → map (λ x. x) xs ≡ xs
map-same [] = refl
map-same (x ∷ xs) = ap (λ rest. x ∷ rest) (map-same xs)

range-more : (n : ℕ) → range_with_len 0 (n + 1) ≡ range_with_len 0 n ++ n ∷ []
range-more n =
    let e : 0 + n ≡ n = omega arith in
    sym (map-same (range_with_len 0 (n + 1)))
    ∙ (map-range_with_len_more (λ x. x) 0 n n e ∙ ap (λ all. all ++ n ∷ []) (map-same (range_with_len 0 n)))

pub pieces-more : (f : ℕ → List ℕ) (bytes old new : List ℕ) (n : ℕ) (piece : List ℕ)
    → old ≡ bytes ++ flat_map f (range_with_len 0 n) → new ≡ old ++ piece → piece ≡ f n
    → new ≡ bytes ++ flat_map f (range_with_len 0 (n + 1))
pieces-more f bytes old new n piece was added is =
    added ∙ (ap (λ old. old ++ piece) was ∙ (ap (λ piece. (bytes ++ flat_map f (range_with_len 0 n)) ++ piece) is
    ∙ (flat_map_more f bytes (range_with_len 0 n) n ∙ ap (λ all. bytes ++ flat_map f all) (sym (range-more n)))))

pub register-none : (bytes : List ℕ) → bytes ≡ bytes ++ register_lines 0
unfolding register_lines
register-none bytes = sym (append-nil bytes)

pub subnet-none : (x : ℕ) (bytes : List ℕ) → bytes ≡ bytes ++ subnet_lines x 0
unfolding subnet_lines
subnet-none x bytes = sym (append-nil bytes)

pub register-more : (bytes old new : List ℕ) (n : ℕ) → old ≡ bytes ++ register_lines n → new ≡ old ++ register_line n
    → new ≡ bytes ++ register_lines (n + 1)
unfolding register_lines
register-more bytes old new n was added = pieces-more register_line bytes old new n (register_line n) was added refl

module _ (x i s a b k : ℕ) (at : s ≡ state x (subnet_draws * i)) (is_a : a ≡ draw s 1 % 4) (is_b : b ≡ draw s 2 % 16)
    (is_k : k ≡ draw s 3 % 16) where
  abbrev m : ℕ
  m = subnet_draws * i

  rule-is : subnet_rule i a b k ≡ subnet_line x i
  rule-is =
      let a-is = is_a ∙ ap (λ d. d % 4) (draw-at x m 1 s at) in
      let b-is = is_b ∙ ap (λ d. d % 16) (draw-at x m 2 s at) in
      let k-is = is_k ∙ ap (λ d. d % 16) (draw-at x m 3 s at) in
      ap (λ a. subnet_rule i a b k) a-is ∙ (ap (λ b. subnet_rule i (draw x (m + 1) % 4) b k) b-is
      ∙ ap (λ k. subnet_rule i (draw x (m + 1) % 4) (draw x (m + 2) % 16) k) k-is)

  pub subnet-more : (bytes old new : List ℕ) → old ≡ bytes ++ subnet_lines x i → new ≡ old ++ subnet_rule i a b k
      → new ≡ bytes ++ subnet_lines x (i + 1)
  unfolding subnet_lines
  subnet-more bytes old new was added = pieces-more (subnet_line x) bytes old new i (subnet_rule i a b k) was added rule-is
