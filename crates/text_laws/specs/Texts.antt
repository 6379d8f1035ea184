-- What stands in words, wherever they stand; texts that stand on one line.
use Rattle.std.specs.Prelude.{ℕ, Bool, not, ◌&&◌, ◌==◌, List, map}
use Rattle.std.specs.List.{list_all}
use Rattle.std.specs.Char.{is_ascii_graphic}
use Rattle.spec_flow_text.specs.Characters.{number_sign}
use Rattle.spec_flow_text.specs.Items.{Word}

-- the texts of words
abbrev pub texts_of : List Word → List (List ℕ)
texts_of ws = map (λ (w : Word). w.text) ws

-- A character that can be seen (RFC 20) and begins no comment: no line feed, no white space, and no number sign.
abbrev pub is_plain_character : ℕ → Bool
is_plain_character c = is_ascii_graphic c && not (c == number_sign)

-- whether a text has such characters alone
abbrev pub is_plain : List ℕ → Bool
is_plain text = list_all is_plain_character text
