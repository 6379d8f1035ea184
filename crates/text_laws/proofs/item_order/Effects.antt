-- What an item does to what was stated depends on its text alone: it adds parts, or a number that is given once.
use Rattle.std.proofs.Common.{◌≡◌, ℕ, ◌+◌, Bool, true, false, cond, List, [], ◌∷◌, ◌++◌, length, refl, sym, subst, ap, ◌∙◌, append_assoc, append-nil, is_some, Option, Some, None, Result, Ok, Err}
use Rattle.std.specs.Prelude.{not, ◌&&◌, ◌||◌, ◌==◌}
use Rattle.std.specs.List.{list_any, list_all}
use Rattle.std.specs.Option.{option_or}
use Rattle.std.proofs.lemmas.Bool.{and_parts, and_from, not-true}
use Rattle.std.proofs.lemmas.List.Folds.{list_any-append}
use Rattle.spec_tables.specs.declared.edit_word.EditWord.{EditWord}
use Rattle.spec_actions.specs.Sound.{last_table}
use Rattle.spec_flow_text.specs.Characters.{equals_sign}
use Rattle.spec_flow_text.specs.Numbers.{split_once, number_upto}
use Rattle.spec_flow_text.specs.declared.names.ItemName.{ItemName}
use Rattle.spec_flow_text.specs.declared.names.ItemName.TheVariants as item
use Rattle.spec_flow_text.specs.declared.part.Part.{Part}
use Rattle.spec_flow_text.specs.declared.shorthand.Shorthand.{Shorthand}
use Rattle.spec_flow_text.specs.declared.fault.TextFault.{TextFault}
use Rattle.spec_flow_text.specs.declared.fault.TextFault.TheVariants as fault
use Rattle.spec_flow_text.specs.Names.{type_stated, protocol_stated, item_named}
use Rattle.spec_flow_text.specs.Values.{field_stated, vlan_stated, type_part, protocol_part}
use Rattle.spec_flow_text.specs.Items.{◌>>=◌, Word, column, unless, Sofar, repeats, with_part, with_protocol, with_shorthand, last_priority, greatest_cookie, given, number_once, is_plain_cookie, with_value, with_valued, with_bare, with_cut, with_item}
use Rattle.text_laws.proofs.ItemTexts.{item_at}
use Rattle.text_laws.proofs.matches.ItemsBack.{FollowEachOther}
use Rattle.text_laws.proofs.round_trips.LinesRead.{ok_chained}
use Rattle.text_laws.proofs.round_trips.ActionsRead.{some_ok, passes}

-- ---- parts that are new

abbrev pub AreNew : List Part → List Part → Type 0
AreNew before ps = list_all (λ q. not (list_any (repeats q) before)) ps ≡ true

either_new : (a b : Bool) → not (a || b) ≡ true → (not a ≡ true) × (not b ≡ true)
either_new false b h = (refl, h)
either_new true b h = cc

both_new : (a b : Bool) → not a ≡ true → not b ≡ true → not (a || b) ≡ true
both_new false b h k = k
both_new true b h k = cc

pub new_split : (b c ps : List Part) → AreNew (b ++ c) ps → AreNew b ps × AreNew c ps
new_split b c [] h = (refl, refl)
new_split b c (p ∷ ps) h =
    let k = and_parts (not (list_any (repeats p) (b ++ c))) (list_all (λ q. not (list_any (repeats q) (b ++ c))) ps) h in
    let n = either_new (list_any (repeats p) b) (list_any (repeats p) c) (ap not (sym (list_any-append (repeats p) b c)) ∙ k.0) in
    let rest = new_split b c ps k.1 in
    (and_from (not (list_any (repeats p) b)) (list_all (λ q. not (list_any (repeats q) b)) ps) n.0 rest.0, and_from (not (list_any (repeats p) c)) (list_all (λ q. not (list_any (repeats q) c)) ps) n.1 rest.1)

pub new_join : (b c ps : List Part) → AreNew b ps → AreNew c ps → AreNew (b ++ c) ps
new_join b c [] h k = refl
new_join b c (p ∷ ps) h k =
    let x = and_parts (not (list_any (repeats p) b)) (list_all (λ q. not (list_any (repeats q) b)) ps) h in
    let y = and_parts (not (list_any (repeats p) c)) (list_all (λ q. not (list_any (repeats q) c)) ps) k in
    and_from (not (list_any (repeats p) (b ++ c))) (list_all (λ q. not (list_any (repeats q) (b ++ c))) ps) (ap not (list_any-append (repeats p) b c) ∙ both_new (list_any (repeats p) b) (list_any (repeats p) c) x.0 y.0) (new_join b c ps x.1 y.1)

pub follow_from_new : (b c ps : List Part) → AreNew b ps → FollowEachOther c ps → FollowEachOther (b ++ c) ps
follow_from_new b c [] h f = tt
follow_from_new b c (p ∷ ps) h f =
    let x = and_parts (not (list_any (repeats p) b)) (list_all (λ q. not (list_any (repeats q) b)) ps) h in
    let new : list_any (repeats p) (b ++ c) ≡ false = list_any-append (repeats p) b c ∙ (rw (not-true (list_any (repeats p) b) x.0) f.0) in
    (new, rw (append_assoc b c (p ∷ [])) (follow_from_new b (c ++ p ∷ []) ps x.1 f.1))

left_none : (a b : Bool) → (a || b) ≡ false → (a ≡ false) × (b ≡ false)
left_none false b h = (refl, h)
left_none true b h = cc

pub new_from_follow : (b c ps : List Part) → FollowEachOther (b ++ c) ps → AreNew b ps × FollowEachOther c ps
new_from_follow b c [] f = (refl, tt)
new_from_follow b c (p ∷ ps) f =
    let none = left_none (list_any (repeats p) b) (list_any (repeats p) c) (sym (list_any-append (repeats p) b c) ∙ f.0) in
    let rest = new_from_follow b (c ++ p ∷ []) ps (rw (← append_assoc b c (p ∷ [])) f.1) in
    (and_from (not (list_any (repeats p) b)) (list_all (λ q. not (list_any (repeats q) b)) ps) (ap not none.0) rest.0, (none.1, rest.1))

-- ---- effects

pub record Effect : Type 0 where
  pub parts : List Part
  pub table : Option ℕ
  pub priority : Option ℕ
  pub cookie : Option ℕ

abbrev pub after : Effect → Sofar → Sofar
after e s = record {
  parts = s.parts ++ e.parts;
  table = option_or e.table s.table;
  priority = option_or e.priority s.priority;
  cookie = option_or e.cookie s.cookie;
}

-- a number is given once
abbrev pub is_free : Option ℕ → Option ℕ → Bool
is_free before more = not (is_some more && is_some before)

pub record Fits (e : Effect) (s : Sofar) : Type 0 where
  pub new : AreNew s.parts e.parts
  pub own : FollowEachOther [] e.parts
  pub table : is_free s.table e.table ≡ true
  pub priority : is_free s.priority e.priority ≡ true
  pub cookie : is_free s.cookie e.cookie ≡ true

-- a reader that has such an effect wherever it fits
abbrev pub Does : (Sofar → Result Sofar TextFault) → Effect → Type 0
Does read e = (s : Sofar) → Fits e s → read s ≡ Ok (after e s)

-- readers that do the same, at whatever columns
abbrev HasDone : (ℕ → ℕ → Sofar → Result Sofar TextFault) → Sofar → Sofar → Type 0
HasDone read s u = (e : Effect) × ((col value_col : ℕ) → Does (read col value_col) e) × Fits e s × (u ≡ after e s)

-- ---- parts

abbrev adding : List Part → Effect
adding ps = record { parts = ps; table = None; priority = None; cookie = None }

adds : (ps : List Part) (s : Sofar) → FollowEachOther s.parts ps → Fits (adding ps) s
adds ps s f =
    let k = new_from_follow s.parts [] ps (rw (append-nil s.parts) f) in
    record { new = k.0; own = k.1; table = refl; priority = refl; cookie = refl }

fitting : (ps : List Part) (s : Sofar) → Fits (adding ps) s → FollowEachOther s.parts ps
fitting ps s h = rw (append-nil s.parts) at (follow_from_new s.parts [] ps h.new h.own)

new_part : (col : ℕ) (p : Part) (s : Sofar) → list_any (repeats p) s.parts ≡ false → with_part col p s ≡ Ok (record s { parts = s.parts ++ p ∷ [] })
unfolding with_part
new_part col p s h = rw h refl

part_new : (col : ℕ) (p : Part) (s u : Sofar) → with_part col p s ≡ Ok u → (list_any (repeats p) s.parts ≡ false) × (u ≡ record s { parts = s.parts ++ p ∷ [] })
unfolding with_part
part_new col p s u h = by_test (list_any (repeats p) s.parts) refl h
  where
    by_test : (t : Bool) → list_any (repeats p) s.parts ≡ t → cond t (Err (fault.Repeated col)) (Ok (record s { parts = s.parts ++ p ∷ [] })) ≡ Ok u
        → (list_any (repeats p) s.parts ≡ false) × (u ≡ record s { parts = s.parts ++ p ∷ [] })
    by_test true e h = cc
    by_test false e h = (e, cc)

value_done : (o : Option Part) (s u : Sofar) (col value_col : ℕ) → with_value col value_col o s ≡ Ok u → HasDone (λ c v. with_value c v o) s u
value_done None s u col value_col h = cc
value_done (Some p) s u col value_col h =
    let k = part_new col p s u h in
    (adding (p ∷ []), (λ c v x f. new_part c p x (fitting (p ∷ []) x f).0), adds (p ∷ []) s (k.0, tt), k.1)

-- the same parts, from the left or from the right
two_parts : (s : Sofar) (p q : Part) → record s { parts = (s.parts ++ p ∷ []) ++ q ∷ [] } ≡ after (adding (p ∷ q ∷ [])) s
two_parts s p q = ap (λ ps. record s { parts = ps }) (append_assoc s.parts (p ∷ []) (q ∷ []))

short_done : (x : Shorthand) (o : Option ℕ) (s u : Sofar) (col : ℕ) → protocol_stated x ≡ o → with_shorthand col x s ≡ Ok u → HasDone (λ c v. with_shorthand c x) s u
unfolding with_shorthand
short_done x None s u col e h =
    let t = type_part (type_stated x) in
    let typed = ok_chained (with_part col t s) (with_protocol col None) u (subst (λ o. with_part col t s >>= with_protocol col o ≡ Ok u) e h) in
    let k = part_new col t s typed.0 typed.1 in
    let same : typed.0 ≡ u = cc in
    (adding (t ∷ []), (λ c v y f. rw (new_part c t y (fitting (t ∷ []) y f).0, e) refl), adds (t ∷ []) s (k.0, tt), sym same ∙ k.1)
short_done x (Some n) s u col e h =
    let t = type_part (type_stated x) in
    let p = protocol_part n in
    let typed = ok_chained (with_part col t s) (with_protocol col (Some n)) u (subst (λ o. with_part col t s >>= with_protocol col o ≡ Ok u) e h) in
    let k = part_new col t s typed.0 typed.1 in
    let j = part_new col p typed.0 u typed.2 in
    let new : list_any (repeats p) (s.parts ++ t ∷ []) ≡ false = subst (λ (y : Sofar). list_any (repeats p) y.parts ≡ false) k.1 j.0 in
    let made : u ≡ after (adding (t ∷ p ∷ [])) s = j.1 ∙ ap (λ (y : Sofar). record y { parts = y.parts ++ p ∷ [] }) k.1 ∙ two_parts s t p in (
      adding (t ∷ p ∷ []),
      (λ c v y f. let g = fitting (t ∷ p ∷ []) y f in rw (new_part c t y g.0, e) (new_part c p (record y { parts = y.parts ++ t ∷ [] }) g.1.0 ∙ ap Ok (two_parts y t p))),
      adds (t ∷ p ∷ []) s (k.0, (new, tt)),
      made,
    )

-- ---- numbers

-- a number that is given once
abbrev IsGiven : Option ℕ → ℕ → List ℕ → ℕ → Type 0
IsGiven before most value n = (not (is_some before) ≡ true) × (not (length value == 0) ≡ true) × (number_upto most value ≡ Some n)

once_given : (col value_col : ℕ) (before : Option ℕ) (most : ℕ) (value : List ℕ) (n : ℕ) → number_once col value_col before most value ≡ Ok n → IsGiven before most value n
unfolding number_once
once_given col value_col before most value n h =
    let fresh = ok_chained (unless (not (is_some before)) (fault.Repeated col)) _ n h in
    let there = ok_chained (given col value) _ n fresh.2 in (
      passes (not (is_some before)) (fault.Repeated col) fresh.0 fresh.1,
      passes (not (length value == 0)) (fault.Syntax col) there.0 there.1,
      some_ok (number_upto most value) (fault.BadValue value_col) n there.2,
    )

given_once : (col value_col : ℕ) (before : Option ℕ) (most : ℕ) (value : List ℕ) (n : ℕ) → IsGiven before most value n → number_once col value_col before most value ≡ Ok n
unfolding number_once
given_once col value_col before most value n h = rw (h.0, h.1, h.2) refl

same_parts : (s : Sofar) → s.parts ++ [] ≡ s.parts
same_parts s = append-nil s.parts

table_done : (value : List ℕ) (s u : Sofar) (col value_col : ℕ) (word : EditWord) → with_valued word col value_col (Some item.Table) value s ≡ Ok u → HasDone (λ c v. with_valued word c v (Some item.Table) value) s u
unfolding with_valued
table_done value s u col value_col word h =
    let n = ok_chained (number_once col value_col s.table last_table value) (λ n. Ok (record s { table = Some n })) u h in
    let g = once_given col value_col s.table last_table value n.0 n.1 in
    let made : record s { table = Some n.0 } ≡ u = cc in (
      record { parts = []; table = Some n.0; priority = None; cookie = None },
      (λ c v y f. rw (given_once c v y.table last_table value n.0 (f.table, g.1, g.2)) (ap (λ ps. Ok (record y { parts = ps; table = Some n.0 })) (sym (same_parts y)))),
      record { new = refl; own = tt; table = g.0; priority = refl; cookie = refl },
      sym made ∙ ap (λ ps. record s { parts = ps; table = Some n.0 }) (sym (same_parts s)),
    )

priority_done : (value : List ℕ) (s u : Sofar) (col value_col : ℕ) (word : EditWord) → with_valued word col value_col (Some item.Priority) value s ≡ Ok u → HasDone (λ c v. with_valued word c v (Some item.Priority) value) s u
unfolding with_valued
priority_done value s u col value_col word h =
    let n = ok_chained (number_once col value_col s.priority last_priority value) (λ n. Ok (record s { priority = Some n })) u h in
    let g = once_given col value_col s.priority last_priority value n.0 n.1 in
    let made : record s { priority = Some n.0 } ≡ u = cc in (
      record { parts = []; table = None; priority = Some n.0; cookie = None },
      (λ c v y f. rw (given_once c v y.priority last_priority value n.0 (f.priority, g.1, g.2)) (ap (λ ps. Ok (record y { parts = ps; priority = Some n.0 })) (sym (same_parts y)))),
      record { new = refl; own = tt; table = refl; priority = g.0; cookie = refl },
      sym made ∙ ap (λ ps. record s { parts = ps; priority = Some n.0 }) (sym (same_parts s)),
    )

cookie_reads : (word : EditWord) (value : List ℕ) (n col value_col : ℕ) (y : Sofar) → is_plain_cookie word value ≡ true → IsGiven y.cookie greatest_cookie value n
    → with_valued word col value_col (Some item.Cookie) value y ≡ Ok (record y { parts = y.parts ++ []; cookie = Some n })
unfolding with_valued
cookie_reads word value n col value_col y plain g = rw (plain, given_once col value_col y.cookie greatest_cookie value n g) (ap (λ ps. Ok (record y { parts = ps; cookie = Some n })) (sym (same_parts y)))

cookie_done : (value : List ℕ) (s u : Sofar) (col value_col : ℕ) (word : EditWord) → with_valued word col value_col (Some item.Cookie) value s ≡ Ok u → HasDone (λ c v. with_valued word c v (Some item.Cookie) value) s u
unfolding with_valued
cookie_done value s u col value_col word h =
    let plain = ok_chained (unless (is_plain_cookie word value) (fault.Unsupported col)) (λ x. number_once col value_col s.cookie greatest_cookie value >>= (λ n. Ok (record s { cookie = Some n }))) u h in
    let n = ok_chained (number_once col value_col s.cookie greatest_cookie value) (λ n. Ok (record s { cookie = Some n })) u plain.2 in
    let g = once_given col value_col s.cookie greatest_cookie value n.0 n.1 in
    let made : record s { cookie = Some n.0 } ≡ u = cc in (
      record { parts = []; table = None; priority = None; cookie = Some n.0 },
      (λ c v y f. cookie_reads word value n.0 c v y (passes (is_plain_cookie word value) (fault.Unsupported col) plain.0 plain.1) (f.cookie, g.1, g.2)),
      record { new = refl; own = tt; table = refl; priority = refl; cookie = g.0 },
      sym made ∙ ap (λ ps. record s { parts = ps; cookie = Some n.0 }) (sym (same_parts s)),
    )

-- ---- items

there_first : (read : ℕ → ℕ → Sofar → Result Sofar TextFault) (value : List ℕ) (s u : Sofar) → (length value == 0) ≡ false → HasDone read s u → HasDone (λ c v y. given c value >>= (λ t. read c v y)) s u
there_first read value s u some h = (h.0, (λ c v y f. rw some (h.1 c v y f)), h.2, h.3)

valued_done : (word : EditWord) (name : Option ItemName) (value : List ℕ) (s u : Sofar) (col value_col : ℕ) → with_valued word col value_col name value s ≡ Ok u → HasDone (λ c v. with_valued word c v name value) s u
unfolding with_valued
valued_done word None value s u col value_col h = cc
valued_done word (Some item.Unsupported) value s u col value_col h = cc
valued_done word (Some (item.Shorthand x)) value s u col value_col h = cc
valued_done word (Some item.Actions) value s u col value_col h = cc
valued_done word (Some (item.Field f)) value s u col value_col h =
    let there = ok_chained (given col value) (λ x. with_value col value_col (field_stated f value) s) u h in
    let some = not-true (length value == 0) (passes (not (length value == 0)) (fault.Syntax col) there.0 there.1) in
    there_first (λ c v. with_value c v (field_stated f value)) value s u some (value_done (field_stated f value) s u col value_col there.2)
valued_done word (Some item.DlVlan) value s u col value_col h =
    let there = ok_chained (given col value) (λ x. with_value col value_col (vlan_stated value) s) u h in
    let some = not-true (length value == 0) (passes (not (length value == 0)) (fault.Syntax col) there.0 there.1) in
    there_first (λ c v. with_value c v (vlan_stated value)) value s u some (value_done (vlan_stated value) s u col value_col there.2)
valued_done word (Some item.Statistic) value s u col value_col h =
    let there = ok_chained (given col value) (λ x. Ok s) u h in
    let some = not-true (length value == 0) (passes (not (length value == 0)) (fault.Syntax col) there.0 there.1) in
    let same : s ≡ u = cc in
    (adding [], (λ c v y f. rw some (ap (λ ps. Ok (record y { parts = ps })) (sym (same_parts y)))), adds [] s tt, sym same ∙ ap (λ ps. record s { parts = ps }) (sym (same_parts s)))
valued_done word (Some item.Table) value s u col value_col h = table_done value s u col value_col word h
valued_done word (Some item.Priority) value s u col value_col h = priority_done value s u col value_col word h
valued_done word (Some item.Cookie) value s u col value_col h = cookie_done value s u col value_col word h

one_column : (read : ℕ → ℕ → Sofar → Result Sofar TextFault) (s u : Sofar) → HasDone read s u → HasDone (λ c v. read c c) s u
one_column read s u h = (h.0, (λ c v. h.1 c c), h.2, h.3)

bare_done : (word : EditWord) (name : Option ItemName) (s u : Sofar) (col : ℕ) → with_bare word col name s ≡ Ok u → HasDone (λ c v. with_bare word c name) s u
unfolding with_bare
bare_done word (Some (item.Shorthand x)) s u col h = short_done x (protocol_stated x) s u col refl h
bare_done word name s u col h = one_column (λ c v. with_valued word c v name []) s u (valued_done word name [] s u col col h)

cut_done : (word : EditWord) (text : List ℕ) (o : Option (List ℕ × List ℕ)) (s u : Sofar) (col : ℕ) → with_cut word col text o s ≡ Ok u → HasDone (λ c v. with_cut word c text o) s u
cut_done word text None s u col h = bare_done word (item_named text) s u col h
cut_done word text (Some parts) s u col h =
    let d = valued_done word (item_named parts.0) parts.1 s u col (col + length parts.0 + 1) h in
    (d.0, (λ c v. d.1 c (c + length parts.0 + 1)), d.2, d.3)

-- what an item does, wherever it stands
abbrev pub IsEffectOf : EditWord → List ℕ → Effect → Type 0
IsEffectOf word text e = (at : ℕ) → Does (with_item word (item_at at text)) e

pub item_done : (word : EditWord) (w : Word) (s u : Sofar) → with_item word w s ≡ Ok u → (e : Effect) × IsEffectOf word w.text e × Fits e s × (u ≡ after e s)
unfolding with_item
item_done word w s u h =
    let d = cut_done word w.text (split_once equals_sign w.text) s u (column w) h in
    (d.0, (λ at. d.1 (at + 1) 0), d.2, d.3)
