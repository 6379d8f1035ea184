-- The mirrors file: a line is a mirror, or blank. A mirror is items, with commas and white space between them:
--
--     select_src_port=PORT    select_dst_port=PORT    select_all
--
-- (ovs-vswitchd.conf.db(5), table Mirror). From `#` on a line is comment.
use Rattle.std.specs.Prelude.{ℕ, ◌+◌, ◌==◌, nat_lt, Bool, true, false, not, if◌then◌else◌, List, [], ◌∷◌, ◌++◌, length, Option, Some, None, Result, Ok, Err, codes}
use Rattle.std.specs.List.{list_any}
use Rattle.std.specs.Option.{ok_or}
use Rattle.spec_flow_text.specs.Characters.{equals_sign}
use Rattle.spec_flow_text.specs.Numbers.{split_once, decimal_upto, last_port}
use Rattle.spec_flow_text.specs.declared.fault.TextFault.{TextFault}
use Rattle.spec_flow_text.specs.declared.fault.TextFault.TheVariants.{Syntax, UnknownName, BadValue, Repeated}
use Rattle.spec_flow_text.specs.Names.{meaning_of}
use Rattle.spec_flow_text.specs.Items.{Word, column, is_separator, words, ◌>>=◌, unless, given}
use Rattle.spec_flow_text.specs.Matches.{uncommented, ascii_from}
use Rattle.spec_input.specs.declared.fault.FileFault.{FileFault}
use Rattle.spec_input.specs.declared.fault.FileFault.TheVariants.{TooManyMirrors}
use Rattle.spec_input.specs.Lines.{is_blank, in_line, and_one, said_by}
use Rattle.spec_input.specs.declared.mirrors.selector.Selector.{Selector}
use Rattle.spec_input.specs.declared.mirrors.selector.Selector.TheVariants as select

-- ---- limits

-- 64 KiB
abbrev pub most_mirrors_bytes : ℕ
most_mirrors_bytes = 65536

-- the most mirrors of a file
abbrev pub most_mirrors : ℕ
most_mirrors = 16

-- ---- mirrors

-- what is copied: all that comes in at one of the ports `src`, or at any, and all that goes out at one of `dst`
pub record Mirror : Type 0 where
  pub src : List ℕ
  pub dst : List ℕ
  pub all : Bool

-- the mirror of a line without items, which copies nothing
abbrev pub nothing_selected : Mirror
nothing_selected = record { src = []; dst = []; all = false }

-- whether a port is one of these
abbrev pub is_among : List ℕ → ℕ → Bool
is_among ports port = list_any (λ p. p == port) ports

-- ---- items

-- the names of items
abbrev pub selectors : List (List ℕ × Selector)
selectors =
    (codes "select_src_port", select.SrcPort) ∷ (codes "select_dst_port", select.DstPort) ∷ (codes "select_all", select.All) ∷ []

-- the port that a value says, which is one of the switch's
unfoldable pub port_in : List ℕ → ℕ → ℕ → List ℕ → Result ℕ TextFault
port_in ports col value_col value = do
  there ← given col value
  port ← ok_or (decimal_upto last_port value) (BadValue value_col)
  of_switch ← unless (is_among ports port) (BadValue value_col)
  Ok port

-- these ports, and the one that a value says, which isn't among them yet
unfoldable pub with_port : List ℕ → ℕ → ℕ → List ℕ → List ℕ → Result (List ℕ) TextFault
with_port ports col value_col value selected = do
  port ← port_in ports col value_col value
  fresh ← unless (not (is_among selected port)) (Repeated col)
  Ok (selected ++ port ∷ [])

-- a mirror with an item of this name and value more
unfoldable pub with_valued : List ℕ → ℕ → ℕ → Option Selector → List ℕ → Mirror → Result Mirror TextFault
with_valued ports col value_col None value m = Err (UnknownName col)
with_valued ports col value_col (Some select.All) value m = Err (Syntax col)
with_valued ports col value_col (Some select.SrcPort) value m = with_port ports col value_col value m.src >>= (λ src. Ok (record m { src = src }))
with_valued ports col value_col (Some select.DstPort) value m = with_port ports col value_col value m.dst >>= (λ dst. Ok (record m { dst = dst }))

-- and with one that is a name alone
unfoldable pub with_bare : ℕ → Option Selector → Mirror → Result Mirror TextFault
with_bare col None m = Err (UnknownName col)
with_bare col (Some select.All) m = unless (not m.all) (Repeated col) >>= (λ fresh. Ok (record m { all = true }))
with_bare col (Some select.SrcPort) m = Err (Syntax col)
with_bare col (Some select.DstPort) m = Err (Syntax col)

-- one item
abbrev pub with_cut : List ℕ → ℕ → List ℕ → Option (List ℕ × List ℕ) → Mirror → Result Mirror TextFault
with_cut ports col text None m = with_bare col (meaning_of selectors text) m
with_cut ports col text (Some parts) m = with_valued ports col (col + length parts.0 + 1) (meaning_of selectors parts.0) parts.1 m

unfoldable pub with_item : List ℕ → Word → Mirror → Result Mirror TextFault
with_item ports w m = with_cut ports (column w) w.text (split_once equals_sign w.text) m

-- the items one after the other
unfoldable pub with_items : List ℕ → List Word → Mirror → Result Mirror TextFault
with_items ports [] m = Ok m
with_items ports (w ∷ ws) m = with_item ports w m >>= with_items ports ws

-- the mirror of a line, for a switch of these ports
unfoldable pub mirror_in : List ℕ → List ℕ → Result Mirror TextFault
mirror_in ports line = ascii_from 0 (uncommented line) >>= (λ text. with_items ports (words is_separator true 0 text) nothing_selected)

-- ---- files

-- the mirrors with that of one more line; how many there are is tested before its items
unfoldable pub with_line : List ℕ → ℕ → List ℕ → List Mirror → Result (List Mirror) FileFault
with_line ports number line mirrors =
    if is_blank line then Ok mirrors
    else (if nat_lt (length mirrors) most_mirrors then and_one mirrors (in_line number (mirror_in ports line)) else Err TooManyMirrors)

-- what the bytes of a mirrors file say, for a switch of these ports
unfoldable pub mirrors_in : List ℕ → List ℕ → Result (List Mirror) FileFault
mirrors_in ports bytes = said_by (with_line ports) bytes []
