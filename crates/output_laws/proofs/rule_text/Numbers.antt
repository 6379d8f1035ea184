-- The items with numbers in front of a printed match: cookie, table, counts and priority.
use Rattle.std.proofs.Common.{◌≡◌, ℕ, ◌<◌, ◌≤◌, ◌^◌, true, false, List, [], ◌∷◌, ◌++◌, length, refl, arith, Option, Some, None, Ok}
use Rattle.std.specs.Prelude.{not, ◌==◌, codes}
use Rattle.std.specs.List.{list_all, list_any}
use Rattle.std.specs.Fmt.{decimal}
use Rattle.std.proofs.lemmas.Bool.{and_parts, and_from}
use Rattle.std.proofs.lemmas.Bool.Decides.{nat_tests}
use Rattle.std.proofs.lemmas.List.Folds.{list_all-append}
use Rattle.spec_actions.specs.Sound.{last_table}
use Rattle.spec_tables.specs.declared.edit_word.EditWord.TheVariants.{Add}
use Rattle.spec_flow_text.specs.Characters.{equals_sign, slash, is_value_character}
use Rattle.spec_flow_text.specs.NumbersPrinted.{hexadecimal, hexadecimal_digits}
use Rattle.spec_flow_text.specs.declared.names.ItemName.TheVariants as item
use Rattle.spec_flow_text.specs.declared.part.Part.{Part}
use Rattle.spec_flow_text.specs.Names.{item_named, field_named, shorthand_named, keyword_named}
use Rattle.spec_flow_text.specs.Items.{Sofar, is_separator, greatest_cookie, last_priority, number_once, with_valued, with_item, list_start}
use Rattle.text_laws.proofs.Cuts.{split_once-front}
use Rattle.text_laws.proofs.PlainValues.{HasValueCharacters}
use Rattle.text_laws.proofs.ItemTexts.{item_at, decimal_there}
use Rattle.text_laws.proofs.ValuesBack.{ReadValues}
use Rattle.text_laws.proofs.matches.WordsBack.{IsWhole}

-- what is stated
abbrev pub full : Option ℕ → Option ℕ → Option ℕ → List Part → Sofar
full table priority cookie ps = record { parts = ps; table = table; priority = priority; cookie = cookie }

-- ---- characters

value_apart : (c : ℕ) → is_value_character c ≡ true → not (is_separator c) ≡ true
value_apart c h = grind (arith, nat_tests)

pub value_whole : (text : List ℕ) → HasValueCharacters text → IsWhole text
value_whole [] h = refl
value_whole (c ∷ cs) h =
    let p = and_parts (is_value_character c) (list_all is_value_character cs) h in
    and_from (not (is_separator c)) (list_all (λ x. not (is_separator x)) cs) (value_apart c p.0) (value_whole cs p.1)

pub whole_append : (xs ys : List ℕ) → IsWhole xs → IsWhole ys → IsWhole (xs ++ ys)
whole_append xs ys h k =
    rw (list_all-append (λ c. not (is_separator c)) xs ys) (and_from (list_all (λ c. not (is_separator c)) xs) (list_all (λ c. not (is_separator c)) ys) h k)

no_slash_here : (c : ℕ) → is_value_character c ≡ true → (c == slash) ≡ false
no_slash_here c h = grind (arith, nat_tests)

no_slash : (text : List ℕ) → HasValueCharacters text → list_any (λ c. c == slash) text ≡ false
no_slash [] h = refl
no_slash (c ∷ cs) h =
    let p = and_parts (is_value_character c) (list_all is_value_character cs) h in
    rw (no_slash_here c p.0) (no_slash cs p.1)

-- ---- items

abbrev pub cookie_item : ℕ → List ℕ
cookie_item n = codes "cookie" ++ equals_sign ∷ hexadecimal n

abbrev pub table_item : ℕ → List ℕ
table_item n = codes "table" ++ equals_sign ∷ decimal n

abbrev pub packets_item : ℕ → List ℕ
packets_item n = codes "n_packets" ++ equals_sign ∷ decimal n

abbrev pub bytes_item : ℕ → List ℕ
bytes_item n = codes "n_bytes" ++ equals_sign ∷ decimal n

abbrev pub priority_item : ℕ → List ℕ
priority_item n = codes "priority" ++ equals_sign ∷ decimal n

cookie_named : item_named (codes "cookie") ≡ Some item.Cookie
unfolding item_named field_named shorthand_named keyword_named
cookie_named = refl

table_named : item_named (codes "table") ≡ Some item.Table
unfolding item_named field_named shorthand_named keyword_named
table_named = refl

priority_named : item_named (codes "priority") ≡ Some item.Priority
unfolding item_named field_named shorthand_named keyword_named
priority_named = refl

packets_named : item_named (codes "n_packets") ≡ Some item.Statistic
unfolding item_named field_named shorthand_named keyword_named
packets_named = refl

bytes_named : item_named (codes "n_bytes") ≡ Some item.Statistic
unfolding item_named field_named shorthand_named keyword_named
bytes_named = refl

first_there : (c : ℕ) (cs : List ℕ) → (length (c ∷ cs) == 0) ≡ false
first_there c cs = grind (arith, nat_tests)

hexadecimal_there : (n : ℕ) → (length (hexadecimal n) == 0) ≡ false
unfolding hexadecimal
hexadecimal_there n = first_there 48 (120 ∷ hexadecimal_digits n)

module _ (v : ReadValues) (at : ℕ) (ps : List Part) where
  pub cookie_states : (n : ℕ) → n ≤ greatest_cookie → with_item Add (item_at at (cookie_item n)) (full None None None ps) ≡ Ok (full None None (Some n) ps)
  unfolding with_item with_valued number_once
  cookie_states n most =
      let wide : n < 2 ^ 128 = omega (arith, most) in
      rw (
        split_once-front equals_sign (codes "cookie") (hexadecimal n) refl,
        cookie_named,
        no_slash (hexadecimal n) (v.hexadecimal_characters n wide),
        hexadecimal_there n,
        v.hexadecimals greatest_cookie n most wide,
      ) refl

  pub table_states : (n : ℕ) (cookie : Option ℕ) → n ≤ last_table → with_item Add (item_at at (table_item n)) (full None None cookie ps) ≡ Ok (full (Some n) None cookie ps)
  unfolding with_item with_valued number_once
  table_states n cookie most =
      let wide : n < 2 ^ 128 = omega (arith, most) in
      rw (split_once-front equals_sign (codes "table") (decimal n) refl, table_named, decimal_there n, v.decimals last_table n most wide) refl

  pub priority_states : (n : ℕ) (table cookie : Option ℕ) → n ≤ last_priority → with_item Add (item_at at (priority_item n)) (full table None cookie ps) ≡ Ok (full table (Some n) cookie ps)
  unfolding with_item with_valued number_once
  priority_states n table cookie most =
      let wide : n < 2 ^ 128 = omega (arith, most) in
      rw (split_once-front equals_sign (codes "priority") (decimal n) refl, priority_named, decimal_there n, v.decimals last_priority n most wide) refl

  pub packets_state : (n : ℕ) (s : Sofar) → with_item Add (item_at at (packets_item n)) s ≡ Ok s
  unfolding with_item with_valued
  packets_state n s = rw (split_once-front equals_sign (codes "n_packets") (decimal n) refl, packets_named, decimal_there n) refl

  pub bytes_state : (n : ℕ) (s : Sofar) → with_item Add (item_at at (bytes_item n)) s ≡ Ok s
  unfolding with_item with_valued
  bytes_state n s = rw (split_once-front equals_sign (codes "n_bytes") (decimal n) refl, bytes_named, decimal_there n) refl

-- none begins a list of actions
pub cookie_no_list : (at n : ℕ) → list_start (item_at at (cookie_item n)) ≡ None
cookie_no_list at n = refl

pub table_no_list : (at n : ℕ) → list_start (item_at at (table_item n)) ≡ None
table_no_list at n = refl

pub packets_no_list : (at n : ℕ) → list_start (item_at at (packets_item n)) ≡ None
packets_no_list at n = refl

pub bytes_no_list : (at n : ℕ) → list_start (item_at at (bytes_item n)) ≡ None
bytes_no_list at n = refl

pub priority_no_list : (at n : ℕ) → list_start (item_at at (priority_item n)) ≡ None
priority_no_list at n = refl

-- each has a letter
pub priority_there : (n : ℕ) → (length (priority_item n) == 0) ≡ false
priority_there n = first_there 112 (codes "riority=" ++ decimal n)

pub cookie_there : (n : ℕ) → (length (cookie_item n) == 0) ≡ false
cookie_there n = first_there 99 (codes "ookie=" ++ hexadecimal n)

pub table_there : (n : ℕ) → (length (table_item n) == 0) ≡ false
table_there n = first_there 116 (codes "able=" ++ decimal n)

pub packets_there : (n : ℕ) → (length (packets_item n) == 0) ≡ false
packets_there n = first_there 110 (codes "_packets=" ++ decimal n)

pub bytes_there : (n : ℕ) → (length (bytes_item n) == 0) ≡ false
bytes_there n = first_there 110 (codes "_bytes=" ++ decimal n)

-- and is one word
module _ (v : ReadValues) (n : ℕ) (wide : n < 2 ^ 128) where
  decimal_whole : IsWhole (decimal n)
  decimal_whole = value_whole (decimal n) (v.decimal_characters n wide)

  pub cookie_whole : IsWhole (cookie_item n)
  cookie_whole = whole_append (codes "cookie=") (hexadecimal n) refl (value_whole (hexadecimal n) (v.hexadecimal_characters n wide))

  pub table_whole : IsWhole (table_item n)
  table_whole = whole_append (codes "table=") (decimal n) refl decimal_whole

  pub packets_whole : IsWhole (packets_item n)
  packets_whole = whole_append (codes "n_packets=") (decimal n) refl decimal_whole

  pub bytes_whole : IsWhole (bytes_item n)
  bytes_whole = whole_append (codes "n_bytes=") (decimal n) refl decimal_whole

  pub priority_whole : IsWhole (priority_item n)
  priority_whole = whole_append (codes "priority=") (decimal n) refl decimal_whole
