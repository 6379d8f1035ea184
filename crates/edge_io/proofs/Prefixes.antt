-- Writing a prefix of the bytes, and then a prefix of what is left.
use Rattle.std.proofs.Common.{◌≡◌, ℕ, ◌+◌, ◌-◌, List, ◌++◌, length, take, drop, sym, ap, ◌∙◌, append_assoc}
use Rattle.std.proofs.Math.Seq.{take-add}
use Rattle.std.proofs.lemmas.List.{take_rest}
use Rattle.edge_io.specs.Shelf.{Told, wrote}

joined : (prefix bytes : List ℕ) (i n : ℕ) →
    (prefix ++ take i bytes) ++ take n (drop i bytes) ≡ prefix ++ take (i + n) bytes
joined prefix bytes i n =
    append_assoc prefix (take i bytes) (take n (drop i bytes)) ∙
    ap (λ (y : List ℕ). prefix ++ y) (sym (take-add i n bytes))

pub said_twice : (t u v bytes : List ℕ) (i n : ℕ) →
    u ≡ t ++ take i bytes → v ≡ u ++ take n (take (length bytes - i) (drop i bytes)) →
    v ≡ t ++ take (i + n) bytes
said_twice t u v bytes i n first second =
    let s = rw (take_rest, first) at second in
    s ∙ joined t bytes i n

pub wrote_twice : (t u v : Told) (bytes : List ℕ) (i n : ℕ) →
    u ≡ wrote t (take i bytes) → v ≡ wrote u (take n (take (length bytes - i) (drop i bytes))) →
    v ≡ wrote t (take (i + n) bytes)
wrote_twice t u v bytes i n first second =
    let s = rw (take_rest, first) at second in
    s ∙ ap (λ (x : List ℕ). let w : Told = record t { current = x } in w) (joined t.current bytes i n)
