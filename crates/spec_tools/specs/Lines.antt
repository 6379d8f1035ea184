-- The difference of two switches as a list of lines, of which the first that has a packet counts, as in flow tables.
use Rattle.std.specs.Prelude.{◌≡◌, ◌≢◌, ℕ, ◌<◌, Bool, true, false, ◌&&◌, if◌then◌else◌, List, [], ◌∷◌, length, take, map, IsTrue, slice_index_or}
use Rattle.spec_tables.specs.Rules.{Match, is_matched}
use Rattle.spec_xlate.specs.Translation.{Switch}
use Rattle.spec_tools.specs.Classes.{IsFrameKey, IsOf, Deed, done, done_as, is_plain, from_port, holding}

-- ---- what is said

-- of packets: both switches do the same to their frames; or what the one does, and what the other
pub data Said : Type 0 where
  Alike : Said
  Differ : Deed → Deed → Said

abbrev pub differs : Said → Bool
differs Alike = false
differs (Differ old new) = true

-- The switches do to a frame of this key what is said of them, without a lookup, and that isn't the same.
pub record AreDone (o n : Switch) (key : List ℕ) (by_old by_new : Deed) : Type 0 where
  pub plain : IsTrue (is_plain by_old && is_plain by_new)
  pub old : done o key ≡ done_as o.ports by_old key
  pub new : done n key ≡ done_as n.ports by_new key
  pub differ : done o key ≢ done n key

-- The switches do to a frame of this key what is said.
abbrev pub IsAsSaid : Switch → Switch → List ℕ → Said → Type 0
IsAsSaid o n key Alike = done o key ≡ done n key
IsAsSaid o n key (Differ old new) = AreDone o n key old new

-- ---- lines

-- the packets of a match, with what is said of those that no line before has
pub record Line : Type 0 where
  pub matching : Match
  pub said : Said

-- what is said of a packet of this key: by the first line that has it, and where none has, both do the same
abbrev pub said_of : List Line → List ℕ → Said
said_of [] key = Alike
said_of (l ∷ lines) key = if is_matched key l.matching then l.said else said_of lines key

abbrev pub matches_in : List Line → List Match
matches_in lines = map (λ (l : Line). l.matching) lines

-- the matches of the lines that tell a difference
abbrev pub differing : List Line → List Match
differing [] = []
differing (l ∷ lines) = if differs l.said then l.matching ∷ differing lines else differing lines

-- The line has a frame, and is the first of all that has it, if the port where that comes in is listed once.
pub record IsFirst (ports : List ℕ) (before : List Line) (l : Line) : Type 0 where
  pub key : List ℕ
  pub is_of : IsOf l.matching key
  pub first : holding key (map from_port ports) ≡ 1 → holding key (matches_in before) ≡ 0

-- The lines tell how two switches differ. To each frame that comes in by one of the ports both do what is said of it.
-- A frame of another port is in no line that tells a difference. Each line that tells one is the first for some frame,
-- and where none does there is no line. Of a port that stands twice among the ports nothing is told.
pub record IsListed (o n : Switch) (ports : List ℕ) (lines : List Line) : Type 0 where
  pub told : (key : List ℕ) → IsFrameKey key → holding key (map from_port ports) ≡ 1 → IsAsSaid o n key (said_of lines key)
  pub others : (key : List ℕ) → IsFrameKey key → holding key (map from_port ports) ≡ 0 → holding key (differing lines) ≡ 0
  pub first : (k : ℕ) (d : Line) → k < length lines → IsTrue (differs (slice_index_or lines k d).said) → IsFirst ports (take k lines) (slice_index_or lines k d)
  pub some : differing lines ≡ [] → lines ≡ []
