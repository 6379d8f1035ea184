-- Lists of lines, line by line.
use Rattle.std.proofs.Common.{◌≡◌, ◌≢◌, ◌⊎◌, inl, inr, ℕ, zero, suc, ◌+◌, ◌<◌, ◌≤◌, Bool, true, false, if◌then◌else◌, List, [], ◌∷◌, ◌++◌, length, get_or, take, drop, map, refl, sym, ap, ◌∙◌, subst, append_assoc, arith}
use Rattle.std.specs.Prelude.{IsTrue}
use Rattle.std.proofs.lemmas.Bool.{cases_eq}
use Rattle.std.proofs.lemmas.List.{append-nil, drop_more, get_or_read, get_or-map, take-map, length-map}
use Rattle.spec_tables.specs.Rules.{Match, is_matched}
use Rattle.spec_xlate.specs.Translation.{Switch}
use Rattle.spec_tools.specs.Classes.{one_if, holding, from_port}
use Rattle.spec_tools.specs.Lines as spec
use Rattle.spec_tools.specs.Lines.{differs, differing, matches_in, IsAsSaid, IsFirst, IsListed}
use Rattle.ovs_fields.specs.Packed.{numbers}
use Rattle.table_diff.specs.declared.class.Class.{Class}
use Rattle.table_diff.specs.Cubes.{cube_view, class_view, classes_view}
use Rattle.class_list.specs.declared.line.Line.{Line}
use Rattle.class_list.specs.LineViews.{said_view, line_view, lines_view, class_line, class_lines}
use Rattle.class_list.specs.Agreeing.{SayTheSame}
use Rattle.class_list.specs.Listing.{AreFirst, AreOfPorts}
use Rattle.class_list.proofs.SaidLaws.{left_from, none_left, own}
use Rattle.class_list.proofs.HoldLaws.{holding-append, differing-cons}

-- what a line adds to others, with those that are left
pub differing_step : (lines : List Line) (i : ℕ) (x : Line) (all before after : List Match) → i < length lines → x ≡ get_or lines i x
    → after ≡ before ++ differing (line_view x ∷ []) → before ++ differing (lines_view (drop i lines)) ≡ all
    → after ++ differing (lines_view (drop (i + 1) lines)) ≡ all
differing_step lines i x all before after within is more so_far =
    ap (λ (ms : List Match). ms ++ differing (lines_view (drop (i + 1) lines))) more
    ∙ append_assoc before (differing (line_view x ∷ [])) (differing (lines_view (drop (i + 1) lines)))
    ∙ ap (λ (ms : List Match). before ++ ms) (sym (ap differing (left_from lines i x within is) ∙ differing-cons (line_view x) (lines_view (drop (i + 1) lines))))
    ∙ so_far

pub differing_end : (lines : List Line) (i : ℕ) (all before : List Match) → length lines ≤ i → before ++ differing (lines_view (drop i lines)) ≡ all → before ≡ all
differing_end lines i all before past so_far =
    sym (append-nil before) ∙ ap (λ (ls : List spec.Line). before ++ differing ls) (sym (none_left lines i past)) ∙ so_far

-- ---- keys that lines have

one_match : (l : spec.Line) (lines : List spec.Line) (key : List ℕ) → is_matched key l.matching ≡ false
    → holding key (matches_in (l ∷ lines)) ≡ holding key (matches_in lines)
one_match l lines key unmatched = let none : one_if (is_matched key l.matching) ≡ 0 = ap one_if unmatched in omega (arith, none)

-- one line more hasn't the key
pub holding_step : (lines : List Line) (i : ℕ) (x : Line) (key : List ℕ) (all : ℕ) → i < length lines → x ≡ get_or lines i x
    → is_matched key (cube_view x.cube) ≡ false → all ≡ holding key (matches_in (lines_view (drop i lines)))
    → all ≡ holding key (matches_in (lines_view (drop (i + 1) lines)))
holding_step lines i x key all within is unmatched so_far =
    so_far ∙ ap (λ (ls : List spec.Line). holding key (matches_in ls)) (left_from lines i x within is)
    ∙ one_match (line_view x) (lines_view (drop (i + 1) lines)) key unmatched

pub holding_end : (lines : List Line) (i : ℕ) (key : List ℕ) (all : ℕ) → length lines ≤ i → all ≡ holding key (matches_in (lines_view (drop i lines))) → all ≡ 0
holding_end lines i key all past so_far = so_far ∙ ap (λ (ls : List spec.Line). holding key (matches_in ls)) (none_left lines i past)

-- ---- first lines

-- one line more
pub first_step : (lines : List Line) (i : ℕ) (x : Line) → i < length lines → x ≡ get_or lines i x → AreFirst lines i
    → (IsTrue (differs (said_view x.class)) → holding (numbers x.cube.key) (matches_in (lines_view (take i lines))) ≡ 0) → AreFirst lines (i + 1)
first_step lines i x within is before here k less d = at (cases_eq k i)
  where
    at : (k ≡ i) ⊎ (k ≢ i) → IsTrue (differs (said_view (get_or lines k d).class))
        → holding (numbers (get_or lines k d).cube.key) (matches_in (lines_view (take k lines))) ≡ 0
    at (inl same) =
        let own = get_or_read lines i x within is d in
        subst (λ (j : ℕ). IsTrue (differs (said_view (get_or lines j d).class)) → holding (numbers (get_or lines j d).cube.key) (matches_in (lines_view (take j lines))) ≡ 0) (sym same)
        (subst (λ (y : Line). IsTrue (differs (said_view y.class)) → holding (numbers y.cube.key) (matches_in (lines_view (take i lines))) ≡ 0) own here)
    at (inr other) = before k (omega arith) d

-- ---- packets of ports

-- a key of one of the ports
pub of_port : (ports : List ℕ) (i d : ℕ) (key : List ℕ) → i < length ports → is_matched key (from_port (get_or ports i d)) ≡ true → 0 < holding key (map from_port ports)
of_port [] i d key within h = absurd (omega arith)
of_port (p ∷ ports) zero d key within h = let one : one_if (is_matched key (from_port p)) ≡ 1 = ap one_if h in omega (arith, one)
of_port (p ∷ ports) (suc i) d key within h = let ih = of_port ports i d key (omega arith) h in omega (arith, ih)

-- all that a cube has, where another one has it that is of a port
pub of_ports : (ports : List ℕ) (i d : ℕ) (m : Match) → i < length ports
    → ((key : List ℕ) → IsTrue (is_matched key m) → IsTrue (is_matched key (from_port (get_or ports i d)))) → AreOfPorts ports (m ∷ [])
of_ports ports i d m within inside key some = at (is_matched key m) refl some
  where
    at : (t : Bool) → is_matched key m ≡ t → 0 < one_if t + 0 → 0 < holding key (map from_port ports)
    at true e some = of_port ports i d key within (inside key e)
    at false e some = absurd (omega arith)

-- one line more: what is asked of those that are left is enough
pub ports_step : (ports : List ℕ) (lines : List Line) (i : ℕ) (x : Line) → i < length lines → x ≡ get_or lines i x → AreOfPorts ports (differing (line_view x ∷ []))
    → AreOfPorts ports (differing (lines_view (drop (i + 1) lines))) → AreOfPorts ports (differing (lines_view (drop i lines)))
ports_step ports lines i x within is here later key some =
    at (holding key (differing (line_view x ∷ []))) refl
  where
    parts : holding key (differing (lines_view (drop i lines))) ≡ holding key (differing (line_view x ∷ [])) + holding key (differing (lines_view (drop (i + 1) lines)))
    parts =
        ap (λ (ls : List spec.Line). holding key (differing ls)) (left_from lines i x within is)
        ∙ ap (holding key) (differing-cons (line_view x) (lines_view (drop (i + 1) lines)))
        ∙ holding-append key (differing (line_view x ∷ [])) (differing (lines_view (drop (i + 1) lines)))

    at : (n : ℕ) → holding key (differing (line_view x ∷ [])) ≡ n → 0 < holding key (map from_port ports)
    at zero e = later key (omega (arith, parts, some, e))
    at (suc n) e = here key (omega (arith, e))

pub ports_end : (ports : List ℕ) (lines : List Line) (i : ℕ) → length lines ≤ i → AreOfPorts ports (differing (lines_view (drop i lines)))
ports_end ports lines i past key some =
    absurd (let none : holding key (differing (lines_view (drop i lines))) ≡ 0 = ap (λ (ls : List spec.Line). holding key (differing ls)) (none_left lines i past) in omega (arith, some, none))

-- ---- a line that tells a difference

pub some_differ : (lines : List Line) (i : ℕ) (x : Line) → i < length lines → x ≡ get_or lines i x → differs (said_view x.class) ≡ true
    → differing (lines_view lines) ≡ [] → ⊥
some_differ [] i x within is h none = omega arith
some_differ (y ∷ lines) zero x within is h none = own (differs (said_view y.class)) (ap (λ (z : Line). differs (said_view z.class)) (sym is) ∙ h) none
  where
    own : (t : Bool) → t ≡ true → (if t then cube_view y.cube ∷ differing (lines_view lines) else differing (lines_view lines)) ≡ [] → ⊥
    own true e none = cc none
    own false e none = cc e
some_differ (y ∷ lines) (suc i) x within is h none = at (differs (said_view y.class)) none (some_differ lines i x (omega arith) is h)
  where
    at : (t : Bool) → (if t then cube_view y.cube ∷ differing (lines_view lines) else differing (lines_view lines)) ≡ [] → (differing (lines_view lines) ≡ [] → ⊥) → ⊥
    at true none later = cc none
    at false none later = later none

-- ---- all

-- what is asked of each line, as the definition has it
first_lines : (ports : List ℕ) (lines : List Line) → AreFirst lines (length lines) → (k : ℕ) (d : spec.Line) → k < length (lines_view lines)
    → IsTrue (differs (get_or (lines_view lines) k d).said) → IsFirst ports (take k (lines_view lines)) (get_or (lines_view lines) k d)
first_lines ports [] first k d within differ = absurd (omega arith)
first_lines ports (x ∷ xs) first k d within differ =
    let lines = x ∷ xs in
    let inside : k < length lines = (let l = length-map lines line_view in omega (arith, within, l)) in
    let here : get_or (lines_view lines) k d ≡ line_view (get_or lines k x) = get_or-map line_view lines k x d inside in
    let line = get_or lines k x in
    let differs_here : IsTrue (differs (said_view line.class)) = subst (λ (l : spec.Line). IsTrue (differs l.said)) here differ in
    subst (IsFirst ports (take k (lines_view lines))) (sym here) (record {
      key = numbers line.cube.key;
      is_of = record { frame = record { is_key = line.cube.key.is_key; clean = line.cube.clean }; matched = own line.cube };
      first = λ once. ap (λ (ls : List spec.Line). holding (numbers line.cube.key) (matches_in ls)) (take-map line_view k lines) ∙ first k inside x differs_here;
    })

module _ (o n : Switch) (ports : List ℕ) (lines told : List Line) (listed : IsListed o n ports (lines_view told)) where
  pub listed_too : SayTheSame (lines_view lines) (lines_view told) → AreFirst lines (length lines) → AreOfPorts ports (differing (lines_view lines))
      → (differing (lines_view lines) ≡ [] → ⊥) → IsListed o n ports (lines_view lines)
  listed_too same first of_ports some = record {
    told = λ key frame once. subst (IsAsSaid o n key) (sym (same key frame.is_key)) (listed.told key frame once);
    others = λ key frame none. outside key none (holding key (differing (lines_view lines))) refl;
    first = first_lines ports lines first;
    some = λ none. absurd (some none);
  }
    where
      outside : (key : List ℕ) → holding key (map from_port ports) ≡ 0 → (c : ℕ) → holding key (differing (lines_view lines)) ≡ c → c ≡ 0
      outside key none zero e = refl
      outside key none (suc c) e = absurd (let some = of_ports key (omega (arith, e)) in omega (arith, some, none))

-- ---- classes as lines

lines-push : (lines : List Line) (x : Line) → lines_view (lines ++ x ∷ []) ≡ lines_view lines ++ line_view x ∷ []
lines-push [] x = refl
lines-push (y ∷ lines) x = ap (λ (z : List spec.Line). line_view y ∷ z) (lines-push lines x)

-- one class more
pub class_step : (lines lines' : List Line) (x : Line) (classes : List Class) (i : ℕ) (c : Class) (all : List spec.Line) → i < length classes → c ≡ get_or classes i c
    → lines' ≡ lines ++ x ∷ [] → line_view x ≡ class_line (class_view c) → lines_view lines ++ class_lines (classes_view (drop i classes)) ≡ all
    → lines_view lines' ++ class_lines (classes_view (drop (i + 1) classes)) ≡ all
class_step lines lines' x classes i c all within is more same so_far =
    let rest = class_lines (classes_view (drop (i + 1) classes)) in
    ap (λ (z : List Line). lines_view z ++ rest) more
    ∙ ap (λ (z : List spec.Line). z ++ rest) (lines-push lines x)
    ∙ append_assoc (lines_view lines) (line_view x ∷ []) rest
    ∙ ap (λ (l : spec.Line). lines_view lines ++ l ∷ rest) same
    ∙ ap (λ (d : Class). lines_view lines ++ class_line (class_view d) ∷ rest) is
    ∙ sym (ap (λ (cs : List Class). lines_view lines ++ class_lines (classes_view cs)) (drop_more classes i c within))
    ∙ so_far

class-drop-past : (classes : List Class) (i : ℕ) → length classes ≤ i → drop i classes ≡ []
class-drop-past [] zero past = refl
class-drop-past [] (suc i) past = refl
class-drop-past (x ∷ classes) zero past = absurd (omega arith)
class-drop-past (x ∷ classes) (suc i) past = class-drop-past classes i (omega arith)

pub class_end : (lines : List Line) (classes : List Class) (i : ℕ) (all : List spec.Line) → length classes ≤ i
    → lines_view lines ++ class_lines (classes_view (drop i classes)) ≡ all → lines_view lines ≡ all
class_end lines classes i all past so_far =
    sym (append-nil (lines_view lines)) ∙ ap (λ (cs : List Class). lines_view lines ++ class_lines (classes_view cs)) (sym (class-drop-past classes i past)) ∙ so_far
