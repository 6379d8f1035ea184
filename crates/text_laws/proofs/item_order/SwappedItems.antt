-- Two items that stand side by side change places, and the same is stated.
use Rattle.std.proofs.Common.{◌≡◌, ℕ, Bool, true, false, List, [], ◌∷◌, ◌++◌, refl, sym, subst, ap, ◌∙◌, append_assoc, append-nil, bit_and, Option, Some, None, Result, Ok, eqb-true, eq-eqb}
use Rattle.std.specs.Prelude.{not, ◌&&◌, ◌||◌, ◌==◌}
use Rattle.std.specs.List.{list_any, list_all}
use Rattle.std.specs.Option.{option_or}
use Rattle.std.proofs.lemmas.Bool.{and_parts, and_from, both_ways}
use Rattle.std.proofs.lemmas.Nat.{and_comm}
use Rattle.spec_keys.specs.Fields.{place_of}
use Rattle.spec_keys.specs.Protocols.{tag_bit}
use Rattle.spec_tables.specs.declared.edit_word.EditWord.{EditWord}
use Rattle.spec_flow_text.specs.declared.part.Part.{Part}
use Rattle.spec_flow_text.specs.declared.part.TagPart.{TagPart}
use Rattle.spec_flow_text.specs.declared.part.TagPart.TheVariants as tag
use Rattle.spec_flow_text.specs.declared.fault.TextFault.{TextFault}
use Rattle.spec_flow_text.specs.Items.{◌>>=◌, Word, column, Sofar, are_of_one_tag, share_tag_bit, repeats, with_item, list_start, Stated, at_word, read_items}
use Rattle.text_laws.proofs.ItemTexts.{item_at}
use Rattle.text_laws.proofs.round_trips.LinesRead.{ok_chained}
use Rattle.text_laws.proofs.item_order.Effects.{AreNew, new_split, new_join, Effect, after, is_free, Fits, item_done}
use Rattle.text_laws.proofs.item_order.SwappedParts.{IsSwapped, unswapped, swapped_more, any_swapped}

-- ---- to repeat a bit goes both ways

either_order : (x y : ℕ) → (x == y) ≡ (y == x)
either_order x y = by_tests (x == y) (y == x) refl refl
  where
    by_tests : (t u : Bool) → (x == y) ≡ t → (y == x) ≡ u → t ≡ u
    by_tests true true e f = refl
    by_tests false false e f = refl
    by_tests true false e f = absurd (both_ways (y == x) f (eq-eqb y x (sym (eqb-true x y e))))
    by_tests false true e f = absurd (both_ways (x == y) e (eq-eqb x y (sym (eqb-true y x f))))

either_tag : (a b : TagPart) → are_of_one_tag a b ≡ are_of_one_tag b a
either_tag tag.Neither tag.Neither = refl
either_tag tag.Neither tag.Identifier = refl
either_tag tag.Neither tag.Priority = refl
either_tag tag.Identifier tag.Neither = refl
either_tag tag.Identifier tag.Identifier = refl
either_tag tag.Identifier tag.Priority = refl
either_tag tag.Priority tag.Neither = refl
either_tag tag.Priority tag.Identifier = refl
either_tag tag.Priority tag.Priority = refl

repeats_both : (p q : Part) → repeats p q ≡ repeats q p
repeats_both p q =
    ap (λ t. t && (not (bit_and p.mask q.mask == 0) && not (share_tag_bit p q))) (either_order (place_of p.field) (place_of q.field))
    ∙ ap (λ t. (place_of q.field == place_of p.field) && t) (rw (either_tag p.tag q.tag, and_comm p.mask q.mask, either_order (bit_and p.value tag_bit) (bit_and q.value tag_bit)) refl)

one_new : (p : Part) (qs : List Part) → AreNew (p ∷ []) qs → not (list_any (repeats p) qs) ≡ true
one_new p [] h = refl
one_new p (q ∷ qs) h =
    let k = and_parts (not (repeats q p || false)) (list_all (λ x. not (repeats x p || false)) qs) h in
    neither (repeats q p) (repeats p q) (list_any (repeats p) qs) (repeats_both q p) k.0 (one_new p qs k.1)
  where
    neither : (a b c : Bool) → a ≡ b → not (a || false) ≡ true → not c ≡ true → not (b || c) ≡ true
    neither false false c e h k = k
    neither false true c e h k = cc
    neither true b c e h k = cc

new_both : (ps qs : List Part) → AreNew ps qs → AreNew qs ps
new_both [] qs h = refl
new_both (p ∷ ps) qs h =
    let k = new_split (p ∷ []) ps qs h in
    and_from (not (list_any (repeats p) qs)) (list_all (λ x. not (list_any (repeats x) qs)) ps) (one_new p qs k.0) (new_both ps qs k.1)

-- ---- what is stated alike

pub record AreAlike (s t : Sofar) : Type 0 where
  pub parts : IsSwapped s.parts t.parts
  pub table : s.table ≡ t.table
  pub priority : s.priority ≡ t.priority
  pub cookie : s.cookie ≡ t.cookie

alike : (s : Sofar) → AreAlike s s
alike s = record { parts = unswapped s.parts; table = refl; priority = refl; cookie = refl }

new_swapped : (ps qs rs : List Part) → IsSwapped ps qs → AreNew ps rs → AreNew qs rs
new_swapped ps qs [] s h = refl
new_swapped ps qs (r ∷ rs) s h =
    let k = and_parts (not (list_any (repeats r) ps)) (list_all (λ x. not (list_any (repeats x) ps)) rs) h in
    and_from (not (list_any (repeats r) qs)) (list_all (λ x. not (list_any (repeats x) qs)) rs) (ap not (sym (any_swapped (repeats r) ps qs s)) ∙ k.0) (new_swapped ps qs rs s k.1)

fits_alike : (e : Effect) (s t : Sofar) → AreAlike s t → Fits e s → Fits e t
fits_alike e s t a f = record {
  new = new_swapped s.parts t.parts e.parts a.parts f.new;
  own = f.own;
  table = subst (λ o. is_free o e.table ≡ true) a.table f.table;
  priority = subst (λ o. is_free o e.priority ≡ true) a.priority f.priority;
  cookie = subst (λ o. is_free o e.cookie ≡ true) a.cookie f.cookie;
}

after_alike : (e : Effect) (s t : Sofar) → AreAlike s t → AreAlike (after e s) (after e t)
after_alike e s t a = record {
  parts = swapped_more s.parts t.parts e.parts a.parts;
  table = ap (option_or e.table) a.table;
  priority = ap (option_or e.priority) a.priority;
  cookie = ap (option_or e.cookie) a.cookie;
}

-- an item reads alike after what is stated alike
abbrev ReadsAlike : Result Sofar TextFault → Sofar → Type 0
ReadsAlike r u = (v : Sofar) × (r ≡ Ok v) × AreAlike u v

item_alike : (word : EditWord) (w : Word) (at : ℕ) (s t u : Sofar) → AreAlike s t → with_item word w s ≡ Ok u → ReadsAlike (with_item word (item_at at w.text) t) u
item_alike word w at s t u a h =
    let d = item_done word w s u h in
    (after d.0 t, d.1 at t (fits_alike d.0 s t a d.2), subst (λ x. AreAlike x (after d.0 t)) (sym d.3) (after_alike d.0 s t a))

-- ---- two items

free_before : (a b s : Option ℕ) → is_free (option_or a s) b ≡ true → is_free s b ≡ true
free_before a None s h = refl
free_before None (Some n) s h = h
free_before (Some m) (Some n) s h = absurd (both_ways false refl h)

free_after : (a b s : Option ℕ) → is_free s a ≡ true → is_free (option_or a s) b ≡ true → is_free (option_or b s) a ≡ true
free_after None b s f h = refl
free_after (Some m) None s f h = f
free_after (Some m) (Some n) s f h = absurd (both_ways false refl h)

either_first : (a b s : Option ℕ) → is_free (option_or a s) b ≡ true → option_or b (option_or a s) ≡ option_or a (option_or b s)
either_first a None s h = refl
either_first None (Some n) s h = refl
either_first (Some m) (Some n) s h = absurd (both_ways false refl h)

abbrev AreSwapped : EditWord → List ℕ → List ℕ → ℕ → ℕ → Sofar → Sofar → Type 0
AreSwapped word one other at place s u = (v : Sofar) × (with_item word (item_at at other) s ≡ Ok v) × ReadsAlike (with_item word (item_at place one) v) u

two_swapped : (word : EditWord) (a b : Word) (at place : ℕ) (s t u : Sofar) → with_item word a s ≡ Ok t → with_item word b t ≡ Ok u → AreSwapped word a.text b.text at place s u
two_swapped word a b at place s t u h k =
    let d = item_done word a s t h in
    let e = item_done word b t u k in
    let f : Fits e.0 (after d.0 s) = subst (Fits e.0) d.3 e.2 in
    let news = new_split s.parts d.0.parts e.0.parts f.new in
    let first : Fits e.0 s = record { new = news.0; own = f.own; table = free_before d.0.table e.0.table s.table f.table; priority = free_before d.0.priority e.0.priority s.priority f.priority; cookie = free_before d.0.cookie e.0.cookie s.cookie f.cookie } in
    let second : Fits d.0 (after e.0 s) = record {
      new = new_join s.parts e.0.parts d.0.parts d.2.new (new_both d.0.parts e.0.parts news.1);
      own = d.2.own;
      table = free_after d.0.table e.0.table s.table d.2.table f.table;
      priority = free_after d.0.priority e.0.priority s.priority d.2.priority f.priority;
      cookie = free_after d.0.cookie e.0.cookie s.cookie d.2.cookie f.cookie;
    } in
    let both : u ≡ after e.0 (after d.0 s) = e.3 ∙ ap (after e.0) d.3 in
    let same : AreAlike (after e.0 (after d.0 s)) (after d.0 (after e.0 s)) = record {
      parts = record {
        front = s.parts;
        one = d.0.parts;
        other = e.0.parts;
        back = [];
        first = end s.parts d.0.parts e.0.parts;
        second = end s.parts e.0.parts d.0.parts;
      };
      table = either_first d.0.table e.0.table s.table f.table;
      priority = either_first d.0.priority e.0.priority s.priority f.priority;
      cookie = either_first d.0.cookie e.0.cookie s.cookie f.cookie;
    } in
    (after e.0 s, e.1 at s first, (after d.0 (after e.0 s), d.1 place (after e.0 s) second, subst (λ x. AreAlike x (after d.0 (after e.0 s))) (sym both) same))
  where
    end : (x y z : List Part) → (x ++ y) ++ z ≡ x ++ (y ++ (z ++ []))
    end x y z = append_assoc x y z ∙ ap (λ t. x ++ (y ++ t)) (sym (append-nil z))

-- ---- all items

pub record AreReadAlike (x y : Stated) : Type 0 where
  pub sofar : AreAlike x.sofar y.sofar
  pub list : x.list ≡ y.list

abbrev pub ItemsAlike : Result Stated TextFault → Stated → Type 0
ItemsAlike r x = (y : Stated) × (r ≡ Ok y) × AreReadAlike x y

items_none : (word : EditWord) (s : Sofar) → read_items word [] s ≡ Ok (record { sofar = s; list = None })
unfolding read_items
items_none word s = refl

items_one : (word : EditWord) (w : Word) (ws : List Word) (s : Sofar) → read_items word (w ∷ ws) s ≡ at_word w (list_start w) s (with_item word w s >>= read_items word ws)
unfolding read_items
items_one word w ws s = refl

rest_alike : (word : EditWord) (ws : List Word) (s t : Sofar) (x : Stated) → AreAlike s t → read_items word ws s ≡ Ok x → ItemsAlike (read_items word ws t) x
rest_alike word [] s t x a h =
    let made = sym (items_none word s) ∙ h in
    let same : record { sofar = s; list = None } ≡ x = cc in
    (record { sofar = t; list = None }, items_none word t, subst (λ y. AreReadAlike y (record { sofar = t; list = None })) same (record { sofar = a; list = refl }))
rest_alike word (w ∷ ws) s t x a h =
    subst (λ r. ItemsAlike r x) (sym (items_one word w ws t)) (by_list (list_start w) (rest_alike word ws) (sym (items_one word w ws s) ∙ h))
  where
    by_list : (o : Option ℕ) → ((s t : Sofar) (x : Stated) → AreAlike s t → read_items word ws s ≡ Ok x → ItemsAlike (read_items word ws t) x)
        → at_word w o s (with_item word w s >>= read_items word ws) ≡ Ok x → ItemsAlike (at_word w o t (with_item word w t >>= read_items word ws)) x
    by_list (Some rest) ih h =
        let same : record { sofar = s; list = Some (column w, rest) } ≡ x = cc in
        (record { sofar = t; list = Some (column w, rest) }, refl, subst (λ y. AreReadAlike y (record { sofar = t; list = Some (column w, rest) })) same (record { sofar = a; list = refl }))
    by_list None ih h =
        let u = ok_chained (with_item word w s) (read_items word ws) x h in
        let v = item_alike word w w.at s t u.0 a u.1 in
        rw v.1 (ih u.0 v.0 x v.2 u.2)

two_read : (word : EditWord) (a b : Word) (ws : List Word) (s : Sofar) (x : Stated) → list_start a ≡ None → list_start b ≡ None → read_items word (a ∷ b ∷ ws) s ≡ Ok x
    → (t u : Sofar) × (with_item word a s ≡ Ok t) × (with_item word b t ≡ Ok u) × (read_items word ws u ≡ Ok x)
two_read word a b ws s x none other h =
    let first : with_item word a s >>= read_items word (b ∷ ws) ≡ Ok x = sym (items_one word a (b ∷ ws) s ∙ ap (λ o. at_word a o s (with_item word a s >>= read_items word (b ∷ ws))) none) ∙ h in
    let t = ok_chained (with_item word a s) (read_items word (b ∷ ws)) x first in
    let second : with_item word b t.0 >>= read_items word ws ≡ Ok x = sym (items_one word b ws t.0 ∙ ap (λ o. at_word b o t.0 (with_item word b t.0 >>= read_items word ws)) other) ∙ t.2 in
    let u = ok_chained (with_item word b t.0) (read_items word ws) x second in
    (t.0, u.0, t.1, u.1, u.2)

pub pair_alike : (word : EditWord) (one other : List ℕ) (at1 at2 at3 at4 : ℕ) (ws : List Word) (s : Sofar) (x : Stated)
    → ((at : ℕ) → list_start (item_at at one) ≡ None) → ((at : ℕ) → list_start (item_at at other) ≡ None)
    → read_items word (item_at at1 one ∷ item_at at2 other ∷ ws) s ≡ Ok x → ItemsAlike (read_items word (item_at at3 other ∷ item_at at4 one ∷ ws) s) x
pair_alike word one other at1 at2 at3 at4 ws s x none too h =
    let r = two_read word (item_at at1 one) (item_at at2 other) ws s x (none at1) (too at2) h in
    let w = two_swapped word (item_at at1 one) (item_at at2 other) at3 at4 s r.0 r.1 r.2 r.3 in
    let rest = rest_alike word ws r.1 w.2.0 x w.2.2 r.4 in
    let first = items_one word (item_at at3 other) (item_at at4 one ∷ ws) s ∙ (rw (too at3, w.1) (items_one word (item_at at4 one) ws w.0 ∙ (rw (none at4, w.2.1) rest.1))) in
    (rest.0, first, rest.2)

-- and so after other items
pub front_alike : (word : EditWord) (ws vs us : List Word) (s : Sofar) (x : Stated) → ((t : Sofar) (y : Stated) → read_items word vs t ≡ Ok y → ItemsAlike (read_items word us t) y)
    → read_items word (ws ++ vs) s ≡ Ok x → ItemsAlike (read_items word (ws ++ us) s) x
front_alike word [] vs us s x same h = same s x h
front_alike word (w ∷ ws) vs us s x same h =
    subst (λ r. ItemsAlike r x) (sym (items_one word w (ws ++ us) s)) (by_list (list_start w) (λ t y. front_alike word ws vs us t y same) (sym (items_one word w (ws ++ vs) s) ∙ h))
  where
    by_list : (o : Option ℕ) → ((t : Sofar) (y : Stated) → read_items word (ws ++ vs) t ≡ Ok y → ItemsAlike (read_items word (ws ++ us) t) y)
        → at_word w o s (with_item word w s >>= read_items word (ws ++ vs)) ≡ Ok x → ItemsAlike (at_word w o s (with_item word w s >>= read_items word (ws ++ us))) x
    by_list (Some rest) ih h =
        let made : record { sofar = s; list = Some (column w, rest) } ≡ x = cc in
        (x, ap Ok made, record { sofar = alike x.sofar; list = refl })
    by_list None ih h =
        let t = ok_chained (with_item word w s) (read_items word (ws ++ vs)) x h in
        rw t.1 (ih t.0 x t.2)
