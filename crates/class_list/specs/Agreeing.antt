-- When lists of lines say the same.
use Rattle.std.specs.Prelude.{◌≡◌, ◌⊎◌, ℕ, ◌<◌, List, IsTrue}
use Rattle.spec_keys.specs.Keys.{IsKey}
use Rattle.spec_tables.specs.Rules.{Match, is_matched}
use Rattle.spec_tools.specs.Classes.{holding}
use Rattle.spec_tools.specs.Lines.{Line, said_of}

-- Of each key of a match lines say what they say of the match's own.
abbrev pub IsEven : List Line → Match → Type 0
IsEven lines m = (key : List ℕ) → IsTrue (is_matched key m) → said_of lines key ≡ said_of lines m.key

-- Both lists say the same of each key.
abbrev pub SayTheSame : List Line → List Line → Type 0
SayTheSame a b = (key : List ℕ) → IsKey key → said_of a key ≡ said_of b key

-- Of a key that some of the first matches have and none of those that are left, both lists say the same.
abbrev pub IsSettled : List Line → List Line → List Match → List Match → Type 0
IsSettled a b first left =
    (key : List ℕ) → IsKey key → 0 < holding key first → (0 < holding key left) ⊎ (said_of a key ≡ said_of b key)

-- Each key is in as many of the matches as of the others.
abbrev pub HaveTheSame : List Match → List Match → Type 0
HaveTheSame ms ns = (key : List ℕ) → IsKey key → holding key ns ≡ holding key ms
