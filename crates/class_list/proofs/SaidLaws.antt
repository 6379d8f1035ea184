-- What lines say of the packets of a cube, line by line.
use Rattle.std.proofs.Common.{◌≡◌, ℕ, zero, suc, ◌+◌, ◌<◌, ◌≤◌, Bool, true, false, if◌then◌else◌, List, [], ◌∷◌, length, get_or, drop, refl, sym, ap, ◌∙◌, arith}
use Rattle.std.proofs.lemmas.List.{drop_more}
use Rattle.spec_keys.specs.Keys.{masked}
use Rattle.spec_tables.specs.Rules.{Match, is_matched}
use Rattle.table_laws.proofs.KeyLaws.{same_refl, agree-masked}
use Rattle.spec_tools.specs.Lines as spec
use Rattle.spec_tools.specs.Lines.{Said, said_of}
use Rattle.spec_tools.specs.Lines.Said.{Alike}
use Rattle.ovs_fields.specs.Packed.{numbers, bits}
use Rattle.table_diff.specs.declared.cube.Cube.{Cube}
use Rattle.table_diff.specs.Cubes.{cube_view}
use Rattle.table_diff.specs.Deciding.{is_told}
use Rattle.table_diff.proofs.TellLaws.{told-matched}
use Rattle.class_list.specs.declared.line.Line.{Line}
use Rattle.class_list.specs.LineViews.{said_view, line_view, lines_view}
use Rattle.class_list.specs.Agreeing.{IsEven}

-- ---- from a place on

pub left_from : (lines : List Line) (i : ℕ) (x : Line) → i < length lines → x ≡ get_or lines i x
    → lines_view (drop i lines) ≡ line_view x ∷ lines_view (drop (i + 1) lines)
left_from lines i x within is =
    ap lines_view (drop_more lines i x within) ∙ ap (λ (l : Line). line_view l ∷ lines_view (drop (i + 1) lines)) (sym is)

drop-past : (lines : List Line) (i : ℕ) → length lines ≤ i → drop i lines ≡ []
drop-past [] zero past = refl
drop-past [] (suc i) past = refl
drop-past (x ∷ lines) zero past = absurd (omega arith)
drop-past (x ∷ lines) (suc i) past = drop-past lines i (omega arith)

pub none_left : (lines : List Line) (i : ℕ) → length lines ≤ i → lines_view (drop i lines) ≡ []
none_left lines i past = ap lines_view (drop-past lines i past)

-- ---- of one key

-- by the first of two parts
chosen : (t : Bool) (s : Said) (lines : List spec.Line) (key : List ℕ) (m : Match) → is_matched key m ≡ t
    → said_of (record { matching = m; said = s } ∷ lines) key ≡ (if t then s else said_of lines key)
chosen t s lines key m e = ap (λ (z : Bool). if z then s else said_of lines key) e

module _ (lines : List Line) (i : ℕ) (x : Line) (within : i < length lines) (is : x ≡ get_or lines i x) (key : List ℕ) where
  pub said_here : is_matched key (cube_view x.cube) ≡ true → said_of (lines_view (drop i lines)) key ≡ said_view x.class
  said_here h =
      ap (λ (ls : List spec.Line). said_of ls key) (left_from lines i x within is)
      ∙ chosen true (said_view x.class) (lines_view (drop (i + 1) lines)) key (cube_view x.cube) h

  pub said_later : is_matched key (cube_view x.cube) ≡ false → said_of (lines_view (drop i lines)) key ≡ said_of (lines_view (drop (i + 1) lines)) key
  said_later h =
      ap (λ (ls : List spec.Line). said_of ls key) (left_from lines i x within is)
      ∙ chosen false (said_view x.class) (lines_view (drop (i + 1) lines)) key (cube_view x.cube) h

pub said_nowhere : (lines : List Line) (i : ℕ) (key : List ℕ) → length lines ≤ i → said_of (lines_view (drop i lines)) key ≡ Alike
said_nowhere lines i key past = ap (λ (ls : List spec.Line). said_of ls key) (none_left lines i past)

-- ---- of the packets of a cube

-- the key of a cube is one of its own
pub own : (cube : Cube) → is_matched (numbers cube.key) (cube_view cube) ≡ true
own cube = same_refl (masked (numbers cube.key) (bits cube.mask))

-- what is told of a cube's key holds of all
pub told_alike : (cube other : Cube) → is_told (bits cube.mask) (numbers cube.key) (cube_view other) ≡ true
    → (key : List ℕ) → is_matched key (cube_view cube) ≡ true → is_matched key (cube_view other) ≡ is_matched (numbers cube.key) (cube_view other)
told_alike cube other told key h =
    told-matched (numbers cube.key) key (bits cube.mask) (cube_view other) told (sym (agree-masked key (numbers cube.key) (bits cube.mask) h))

-- So many lines have none of the packets.
abbrev pub ArePassed : List Line → Cube → ℕ → Type 0
ArePassed lines cube i =
    (key : List ℕ) → is_matched key (cube_view cube) ≡ true → said_of (lines_view lines) key ≡ said_of (lines_view (drop i lines)) key

module _ (lines : List Line) (cube : Cube) (i : ℕ) (passed : ArePassed lines cube i) where
  -- what the lines that are left say of all alike, all lines do
  even : IsEven (lines_view (drop i lines)) (cube_view cube) → IsEven (lines_view lines) (cube_view cube)
  even left key h = passed key h ∙ left key h ∙ sym (passed (numbers cube.key) (own cube))

  module _ (x : Line) (within : i < length lines) (is : x ≡ get_or lines i x)
      (told : is_told (bits cube.mask) (numbers cube.key) (cube_view x.cube) ≡ true) where
    -- one line more has none of them
    pub pass_line : is_matched (numbers cube.key) (cube_view x.cube) ≡ false → ArePassed lines cube (i + 1)
    pass_line none key h = passed key h ∙ said_later lines i x within is key (told_alike cube x.cube told key h ∙ none)

    -- it has them all
    pub stop_at_line : is_matched (numbers cube.key) (cube_view x.cube) ≡ true → IsEven (lines_view lines) (cube_view cube)
    stop_at_line all =
        even (λ key h. said_here lines i x within is key (told_alike cube x.cube told key h ∙ all)
        ∙ sym (said_here lines i x within is (numbers cube.key) all))

  -- no line is left
  pub pass_all : length lines ≤ i → IsEven (lines_view lines) (cube_view cube)
  pass_all past = even (λ key h. said_nowhere lines i key past ∙ sym (said_nowhere lines i (numbers cube.key) past))
