use Rattle.std.proofs.Common.{◌≡◌, length, not, refl, arith}
use Rattle.std.specs.Char.{is_ascii}
use Rattle.std.specs.List.{position_or_len}
use Rattle.std.proofs.lemmas.Bool.{lt-ltb}
use Rattle.std.proofs.lemmas.List.Sums.{position_or_len_is}
use Rattle.field_text.proofs.lines.place_beyond_ascii.Goals as goal

pub returns-then-is_ascii : goal.returns-then-is_ascii
returns-then-is_ascii c =
    let text = c.args.text.now in
    let end : position_or_len (λ byte. not (is_ascii byte)) text ≡ length text =
    position_or_len_is (λ byte. not (is_ascii byte)) text (length text) 0 (omega arith) (λ k l. rw (lt-ltb _ _ (c.if-is_ascii.ensures.cases k)) refl) (λ l. absurd (omega arith)) in
    rw end (grind arith)
