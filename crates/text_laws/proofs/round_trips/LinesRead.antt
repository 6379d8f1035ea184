-- A match that is read is made of parts that the fields can have, none of which states a bit again.
use Rattle.std.proofs.Common.{◌≡◌, ℕ, ◌+◌, Bool, true, false, cond, List, [], ◌∷◌, ◌++◌, length, refl, sym, subst, ap, Option, Some, None, Result, Ok, Err}
use Rattle.std.specs.List.{list_any}
use Rattle.spec_tables.specs.declared.edit_word.EditWord.{EditWord}
use Rattle.spec_flow_text.specs.Characters.{equals_sign}
use Rattle.spec_flow_text.specs.Numbers.{split_once}
use Rattle.spec_flow_text.specs.declared.names.ItemName.{ItemName}
use Rattle.spec_flow_text.specs.declared.names.ItemName.TheVariants as item
use Rattle.spec_flow_text.specs.declared.part.Part.{Part}
use Rattle.spec_flow_text.specs.declared.shorthand.Shorthand.{Shorthand}
use Rattle.spec_flow_text.specs.declared.fault.TextFault.{TextFault}
use Rattle.spec_flow_text.specs.declared.fault.TextFault.TheVariants as fault
use Rattle.spec_flow_text.specs.Names.{type_stated, protocol_stated, item_named}
use Rattle.spec_flow_text.specs.Values.{field_stated, vlan_stated, type_part, protocol_part}
use Rattle.spec_flow_text.specs.Items.{◌>>=◌, Word, column, is_separator, words, unless, Sofar, nothing_stated, repeats, with_part, with_protocol, with_shorthand, last_priority, greatest_cookie, given, number_once, deletes, is_plain_cookie, with_value, with_valued, with_bare, with_cut, with_item, list_start, Stated, at_word, read_items}
use Rattle.spec_flow_text.specs.Matches.{kept, match_of, MatchText, match_text, with_list, uncommented, ascii_from, read_match}
use Rattle.spec_actions.specs.Sound.{last_table}
use Rattle.text_laws.proofs.matches.ItemsBack.{FollowEachOther}
use Rattle.text_laws.proofs.matches.Together.{follow_join}
use Rattle.text_laws.proofs.round_trips.PartsRead.{ReadRanges, IsStatable}
use Rattle.text_laws.proofs.round_trips.TextNames.{NamesText, item_in_text}
use Rattle.text_laws.proofs.round_trips.StatableParts.{field_statable, vlan_statable, type_statable, protocol_statable}

-- a chain of results that ends in a value
pub ok_chained : {A B : Type 0} (r : Result A TextFault) (f : A → Result B TextFault) (b : B) → r >>= f ≡ Ok b → (a : A) × (r ≡ Ok a) × (f a ≡ Ok b)
ok_chained (Ok a) f b h = (a, refl, h)
ok_chained (Err e) f b h = cc

abbrev pub AreStatable : List Part → Type 0
AreStatable [] = Unit {0}
AreStatable (p ∷ ps) = IsStatable p × AreStatable ps

statable_more : (ps qs : List Part) → AreStatable ps → AreStatable qs → AreStatable (ps ++ qs)
statable_more [] qs h k = k
statable_more (p ∷ ps) qs h k = (h.0, statable_more ps qs h.1 k)

-- what was stated by items that were read
pub record IsRead (s : Sofar) : Type 0 where
  pub each : AreStatable s.parts
  pub apart : FollowEachOther [] s.parts

part_read : (col : ℕ) (p : Part) (s t : Sofar) → IsStatable p → IsRead s → with_part col p s ≡ Ok t → IsRead t
unfolding with_part
part_read col p s t statable r h = by_test (list_any (repeats p) s.parts) refl h
  where
    by_test : (b : Bool) → list_any (repeats p) s.parts ≡ b → cond b (Err (fault.Repeated col)) (Ok (record s { parts = s.parts ++ p ∷ [] })) ≡ Ok t → IsRead t
    by_test true e h = cc
    by_test false e h =
        let same : record s { parts = s.parts ++ p ∷ [] } ≡ t = cc in
        subst IsRead same (record { each = statable_more s.parts (p ∷ []) r.each (statable, tt); apart = follow_join [] s.parts (p ∷ []) r.apart (e, tt) })

protocol_read : (col : ℕ) (o : Option ℕ) (s t : Sofar) → IsRead s → with_protocol col o s ≡ Ok t → IsRead t
protocol_read col None s t r h = let same : s ≡ t = cc in subst IsRead same r
protocol_read col (Some n) s t r h = part_read col (protocol_part n) s t (protocol_statable n) r h

shorthand_read : (col : ℕ) (h : Shorthand) (s t : Sofar) → IsRead s → with_shorthand col h s ≡ Ok t → IsRead t
unfolding with_shorthand
shorthand_read col h s t r e =
    let typed = ok_chained (with_part col (type_part (type_stated h)) s) (with_protocol col (protocol_stated h)) t e in
    protocol_read col (protocol_stated h) typed.0 t (part_read col (type_part (type_stated h)) s typed.0 (type_statable h) r typed.1) typed.2

value_read : (col value_col : ℕ) (o : Option Part) (s t : Sofar) → ((p : Part) → o ≡ Some p → IsStatable p) → IsRead s → with_value col value_col o s ≡ Ok t → IsRead t
value_read col value_col None s t statable r h = cc
value_read col value_col (Some p) s t statable r h = part_read col p s t (statable p refl) r h

-- what states no bits
same_parts : (s t : Sofar) → s.parts ≡ t.parts → IsRead s → IsRead t
same_parts s t e r = record { each = subst AreStatable e r.each; apart = subst (FollowEachOther []) e r.apart }

valued_read : ReadRanges → (word : EditWord) (col value_col : ℕ) (name : Option ItemName) (value : List ℕ) (s t : Sofar) → NamesText name → IsRead s → with_valued word col value_col name value s ≡ Ok t → IsRead t
unfolding with_valued
valued_read k word col value_col None value s t names r h = cc
valued_read k word col value_col (Some item.Unsupported) value s t names r h = cc
valued_read k word col value_col (Some (item.Shorthand x)) value s t names r h = cc
valued_read k word col value_col (Some item.Actions) value s t names r h = cc
valued_read k word col value_col (Some (item.Field f)) value s t names r h =
    let there = ok_chained (given col value) (λ x. with_value col value_col (field_stated f value) s) t h in
    value_read col value_col (field_stated f value) s t (λ p. field_statable k f value p names) r there.2
valued_read k word col value_col (Some item.DlVlan) value s t names r h =
    let there = ok_chained (given col value) (λ x. with_value col value_col (vlan_stated value) s) t h in
    value_read col value_col (vlan_stated value) s t (vlan_statable value) r there.2
valued_read k word col value_col (Some item.Statistic) value s t names r h =
    let there = ok_chained (given col value) (λ x. Ok s) t h in
    let same : s ≡ t = cc in
    subst IsRead same r
valued_read k word col value_col (Some item.Table) value s t names r h =
    let n = ok_chained (number_once col value_col s.table last_table value) (λ n. Ok (record s { table = Some n })) t h in
    let same : record s { table = Some n.0 } ≡ t = cc in
    same_parts s t (ap (λ (x : Sofar). x.parts) same) r
valued_read k word col value_col (Some item.Priority) value s t names r h =
    let n = ok_chained (number_once col value_col s.priority last_priority value) (λ n. Ok (record s { priority = Some n })) t h in
    let same : record s { priority = Some n.0 } ≡ t = cc in
    same_parts s t (ap (λ (x : Sofar). x.parts) same) r
valued_read k word col value_col (Some item.Cookie) value s t names r h =
    let plain = ok_chained (unless (is_plain_cookie word value) (fault.Unsupported col)) (λ x. number_once col value_col s.cookie greatest_cookie value >>= (λ n. Ok (record s { cookie = Some n }))) t h in
    let n = ok_chained (number_once col value_col s.cookie greatest_cookie value) (λ n. Ok (record s { cookie = Some n })) t plain.2 in
    let same : record s { cookie = Some n.0 } ≡ t = cc in
    same_parts s t (ap (λ (x : Sofar). x.parts) same) r

bare_read : ReadRanges → (word : EditWord) (col : ℕ) (name : Option ItemName) (s t : Sofar) → NamesText name → IsRead s → with_bare word col name s ≡ Ok t → IsRead t
unfolding with_bare
bare_read k word col (Some (item.Shorthand x)) s t names r h = shorthand_read col x s t r h
bare_read k word col name s t names r h = valued_read k word col col name [] s t names r h

item_read : ReadRanges → (word : EditWord) (w : Word) (s t : Sofar) → IsRead s → with_item word w s ≡ Ok t → IsRead t
unfolding with_item
item_read k word w s t r h = by_cut (split_once equals_sign w.text) h
  where
    by_cut : (o : Option (List ℕ × List ℕ)) → with_cut word (column w) w.text o s ≡ Ok t → IsRead t
    by_cut None h = bare_read k word (column w) (item_named w.text) s t (item_in_text w.text) r h
    by_cut (Some parts) h = valued_read k word (column w) (column w + length parts.0 + 1) (item_named parts.0) parts.1 s t (item_in_text parts.0) r h

pub items_read : ReadRanges → (word : EditWord) (ws : List Word) (s : Sofar) (t : Stated) → IsRead s → read_items word ws s ≡ Ok t → IsRead t.sofar
unfolding read_items
items_read k word [] s t r h = let same : record { sofar = s; list = None } ≡ t = cc in subst (λ (x : Stated). IsRead x.sofar) same r
items_read k word (w ∷ ws) s t r h = by_list (list_start w) (items_read k word ws) h
  where
    by_list : (o : Option ℕ) → ((s : Sofar) (t : Stated) → IsRead s → read_items word ws s ≡ Ok t → IsRead t.sofar) → at_word w o s (with_item word w s >>= read_items word ws) ≡ Ok t → IsRead t.sofar
    by_list (Some rest) ih h = let same : record { sofar = s; list = Some (column w, rest) } ≡ t = cc in subst (λ (x : Stated). IsRead x.sofar) same r
    by_list None ih h =
        let u = ok_chained (with_item word w s) (read_items word ws) t h in
        ih u.0 t (item_read k word w s u.0 r u.1) u.2

-- ---- lines

listed : (word : EditWord) (end : ℕ) (s : Sofar) (list : Option (ℕ × ℕ)) (t : MatchText) → with_list word end s list ≡ Ok t → t.matching ≡ match_of (kept s.parts)
listed word end s None t h = by_word (deletes word) h
  where
    by_word : (b : Bool) → cond b (Ok (match_text s None)) (Err (fault.Syntax (end + 1))) ≡ Ok t → t.matching ≡ match_of (kept s.parts)
    by_word true h = let same : match_text s None ≡ t = cc in ap (λ (x : MatchText). x.matching) (sym same)
    by_word false h = cc
listed word end s (Some list) t h = by_word (deletes word) h
  where
    by_word : (b : Bool) → cond b (Err (fault.Syntax list.0)) (Ok (match_text s (Some list.1))) ≡ Ok t → t.matching ≡ match_of (kept s.parts)
    by_word true h = cc
    by_word false h = let same : match_text s (Some list.1) ≡ t = cc in ap (λ (x : MatchText). x.matching) (sym same)

-- the match of a line is that of the parts that its items state
pub match_read : ReadRanges → (word : EditWord) (at : ℕ) (line : List ℕ) (t : MatchText) → read_match word at line ≡ Ok t → (s : Sofar) × IsRead s × (t.matching ≡ match_of (kept s.parts))
unfolding read_match
match_read k word at line t h =
    let text = ok_chained (ascii_from at (uncommented line)) _ t h in
    let stated = ok_chained (read_items word (words is_separator true at text.0) nothing_stated) _ t text.2 in (
      stated.0.sofar,
      items_read k word (words is_separator true at text.0) nothing_stated stated.0 (record { each = tt; apart = tt }) stated.1,
      listed word (length (uncommented line)) stated.0.sofar stated.0.list t stated.2,
    )
