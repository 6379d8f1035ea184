-- What a printer does to a text.
use Rattle.std.specs.Prelude.{◌≡◌, ℕ, List, ◌++◌, Result, OnOk, OnErr, String, string_bytes}

-- A text begins with this start.
pub record IsPrefix (start text : List ℕ) : Type 0 where
  pub rest : List ℕ
  pub whole : text ≡ start ++ rest

-- These characters were added to a text. After a refusal the text begins with what it was.
pub record Adds {Z A E : Type 0} (old new : String Z) (added : List ℕ) (result : Result A E) : Type 0 where
  pub text : OnOk result (string_bytes new ≡ string_bytes old ++ added)
  pub kept : OnErr result (IsPrefix (string_bytes old) (string_bytes new))
