-- How far a comparison is that takes packets in cubes, one cube after the other.
use Rattle.std.specs.Prelude.{◌≡◌, ℕ, ◌+◌, ◌^◌, ◌<◌, List, length, map, IsTrue, All}
use Rattle.spec_tables.specs.Rules.{Match, is_matched}
use Rattle.spec_xlate.specs.Translation.{Switch}
use Rattle.spec_tools.specs.Classes.{Class, IsFrameKey, IsRight, done, from_port, holding, matches_of}

-- Both switches do the same to each frame of a match.
abbrev pub AreAlike : Switch → Switch → Match → Type 0
AreAlike o n m = (key : List ℕ) → IsFrameKey key → IsTrue (is_matched key m) → done o key ≡ done n key

-- After so many steps there are classes, each of which is right, and matches of packets that are treated alike, one
-- for each step. Each frame is in as many of these and of what is left as of the first matches.
pub record IsPartWay (o n : Switch) (first left : List Match) (classes : List Class) (steps : ℕ) : Type 0 where
  pub alike : List Match
  pub right : All (IsRight o n) classes
  pub same : All (AreAlike o n) alike
  pub taken : length classes + length alike ≡ steps
  pub each : (key : List ℕ) → IsFrameKey key → holding key left + holding key (matches_of classes) + holding key alike ≡ holding key first

-- There is something left after so many steps.
pub record IsUnfinished (o n : Switch) (ports : List ℕ) (steps : ℕ) : Type 0 where
  pub left : List Match
  pub classes : List Class
  pub part_way : IsPartWay o n (map from_port ports) left classes steps
  pub more : 0 < length left

-- how many steps a comparison takes (the limit is this profile's)
abbrev pub cube_limit : ℕ
cube_limit = 2 ^ 22
