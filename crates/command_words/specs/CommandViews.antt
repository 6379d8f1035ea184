-- The words of the command line, and what was read of them, as the definitions see it.
use Rattle.std.specs.Prelude.{◌≡◌, ◌≤◌, ℕ, List, map, Option, IfSome, String, string_bytes}
use Rattle.std.specs.Option.{option_map}
use Rattle.std.specs.Borrow.{Bor}
use Rattle.std.specs.declared.alloc.Global.{Global}
use Rattle.spec_input.specs.Words as words
use Rattle.command_words.specs.declared.ports.PortWord.{PortWord}
use Rattle.command_words.specs.declared.reading.FilesNamed.{FilesNamed}
use Rattle.command_words.specs.declared.reading.Input.{Input}
use Rattle.command_words.specs.declared.reading.Input.TheVariants.{Files, Made}
use Rattle.command_words.specs.declared.reading.Command.{Command}
use Rattle.command_words.specs.PortViews.{ports_view}

abbrev pub texts : List (String Global) → List (List ℕ)
texts words = map string_bytes words

-- the bytes of a text, where one is lent
abbrev pub text_view : Option (Bor (List ℕ)) → Option (List ℕ)
text_view text = option_map (λ (t : Bor (List ℕ)). t.now) text

abbrev pub files_view : FilesNamed → words.FilesNamed
files_view f = record {
  edits = f.edits.now;
  steps = text_view f.steps;
  mirrors = text_view f.mirrors;
  out = f.out.now;
  netflow = f.netflow;
  ports = ports_view f.ports.items;
}

abbrev pub input_view : Input → words.Input
input_view (Files f) = words.Files (files_view f)
input_view (Made number) = words.Made number

abbrev pub command_view : Command → words.Command
command_view c = record { workers = c.workers; flow_limit = c.flow_limit; input = input_view c.input }

-- This holds of the ports of files, where files are what is run.
abbrev pub IfFiles : Input → (List PortWord → Type 0) → Type 0
IfFiles (Files f) P = P f.ports.items
IfFiles (Made number) P = Unit {0}

-- This holds where steps are given.
abbrev pub IfSteps : Input → Type 0 → Type 0
IfSteps (Files f) P = IfSome f.steps (λ _. P)
IfSteps (Made number) P = Unit {0}

-- There are not too many workers, and none where steps are given.
pub record HasWorkers (c : Command) : Type 0 where
  pub few : c.workers ≤ words.most_workers
  pub alone : IfSteps c.input (c.workers ≡ 0)
