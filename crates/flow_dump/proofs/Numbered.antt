-- Megaflows by their numbers.
use Rattle.std.proofs.Common.{◌≡◌, ℕ, zero, suc, ◌<◌, ◌==◌, Bool, true, false, List, [], ◌∷◌, ◌++◌, map, length, get_or, Option, Some, None, All, refl, sym, ap, subst, ◌∙◌, arith}
use Rattle.std.specs.Prelude.{IsSome}
use Rattle.std.specs.List.{flat_map}
use Rattle.std.specs.Option.{option_map, option_map_or}
use Rattle.std.proofs.lemmas.Option.{none-some}
use Rattle.std.proofs.lemmas.List.Elements.{All-tail}
use Rattle.spec_actions.specs.declared.action.DpAction.{DpAction}
use Rattle.spec_board.specs.State.{Entry}
use Rattle.spec_case.specs.Run.{Run}
use Rattle.spec_xlate.specs.Translation.{Switch, pipe}
use Rattle.spec_keys.specs.Keys.{IsKey}
use Rattle.spec_board.specs.Results.{entry_of, numbers_of, switch_at}
use Rattle.board_laws.specs.Entries.{IsMade}
use Rattle.spec_flow_text.specs.Within.{AreWithinFields}
use Rattle.spec_run.specs.Megaflows.{megaflow_line}
use Rattle.megaflow_table.specs.declared.entry.Entry as flows
use Rattle.megaflow_table.specs.Entries as table
use Rattle.port_caches.specs.declared.lists.HeldList.{HeldList}
use Rattle.port_caches.specs.Views.{entry_view, actions_at}
use Rattle.dump_lines.specs.Views.{entry_with}
use Rattle.flow_dump.specs.Numbered.{line_of_number}

-- ---- entries, and as they are kept

pub numbers-kept : (lists : List HeldList) (kept : List flows.Entry) → table.numbers_of kept ≡ numbers_of (map (entry_view lists) kept)
numbers-kept lists [] = refl
numbers-kept lists (e ∷ kept) = ap (λ ns. e.number ∷ ns) (numbers-kept lists kept)

pub entry_of-kept : (lists : List HeldList) (number : ℕ) (kept : List flows.Entry)
    → entry_of number (map (entry_view lists) kept) ≡ option_map (entry_view lists) (table.entry_of number kept)
entry_of-kept lists number [] = refl
entry_of-kept lists number (e ∷ kept) = at (e.number == number) refl (entry_of-kept lists number kept)
  where
    at : (b : Bool) → (e.number == number) ≡ b
        → entry_of number (map (entry_view lists) kept) ≡ option_map (entry_view lists) (table.entry_of number kept)
        → entry_of number (map (entry_view lists) (e ∷ kept)) ≡ option_map (entry_view lists) (table.entry_of number (e ∷ kept))
    at true is others = rw is refl
    at false is others = rw is others

-- ---- entries that are the ones of their numbers

-- what holds of all entries holds of the one of a number
pub of_number : (P : Entry → Type 0) (number : ℕ) (es : List Entry) (e : Entry) → All P es → entry_of number es ≡ Some e → P e
of_number P number [] e all is = absurd (none-some e is)
of_number P number (x ∷ es) e all is = at (x.number == number) refl is (of_number P number es e (All-tail P x es all))
  where
    at : (b : Bool) → (x.number == number) ≡ b → entry_of number (x ∷ es) ≡ Some e → (entry_of number es ≡ Some e → P e) → P e
    at true same is others = subst P (cc (rw same at is)) (all 0 x (omega arith))
    at false same is others = others (rw same at is)

abbrev pub AreFound : List Entry → List Entry → Type 0
AreFound whole es = All (λ (e : Entry). entry_of e.number whole ≡ Some e) es

pub live_at : (whole es : List Entry) → AreFound whole es → (i : ℕ) → i < length (numbers_of es) → IsSome (entry_of (get_or (numbers_of es) i 0) whole)
live_at whole [] found i lt = absurd (omega arith)
live_at whole (e ∷ es) found zero lt = subst IsSome (sym (found 0 e (omega arith))) refl
live_at whole (e ∷ es) found (suc i) lt = live_at whole es (All-tail (λ (e : Entry). entry_of e.number whole ≡ Some e) e es found) i (omega arith)

pub lines_of_numbers : (port : ℕ) (whole es : List Entry) → AreFound whole es
    → flat_map (line_of_number port whole) (numbers_of es) ≡ flat_map (megaflow_line port) es
lines_of_numbers port whole [] found = refl
lines_of_numbers port whole (e ∷ es) found =
    ap (λ o. option_map_or (megaflow_line port) o [] ++ flat_map (line_of_number port whole) (numbers_of es)) (found 0 e (omega arith))
    ∙ ap (λ t. megaflow_line port e ++ t) (lines_of_numbers port whole es (All-tail (λ (e : Entry). entry_of e.number whole ≡ Some e) e es found))

-- the numbers, as they are lent
pub live_in : (whole : List Entry) (ns : List ℕ) → ns ≡ numbers_of whole → AreFound whole whole
    → (i : ℕ) → i < length ns → IsSome (entry_of (get_or ns i 0) whole)
live_in whole ns are found = subst (λ (ms : List ℕ). (i : ℕ) → i < length ms → IsSome (entry_of (get_or ms i 0) whole)) (sym are) (live_at whole whole found)

pub lines_in : (port : ℕ) (whole : List Entry) (ns : List ℕ) → ns ≡ numbers_of whole → AreFound whole whole
    → flat_map (line_of_number port whole) ns ≡ flat_map (megaflow_line port) whole
lines_in port whole ns are found = ap (flat_map (line_of_number port whole)) are ∙ lines_of_numbers port whole whole found

-- ---- of one entry

-- The actions of an entry can be printed, since it has those of a translation of its key.
pub printable : (run : Run) (number : ℕ) (es : List Entry) (actions : List DpAction)
    → ((sw : Switch) (key : List ℕ) → IsKey key → AreWithinFields (pipe sw key).actions)
    → All (IsMade run) es → option_map (λ (e : Entry). e.actions) (entry_of number es) ≡ Some actions → AreWithinFields actions
printable run number es actions law made has = at (entry_of number es) refl has
  where
    at : (o : Option Entry) → entry_of number es ≡ o → option_map (λ (e : Entry). e.actions) o ≡ Some actions → AreWithinFields actions
    at None is none = absurd (none-some actions none)
    at (Some e) is some =
        let m = of_number (IsMade run) number es e made is in
        let same : e.actions ≡ actions = cc in
        subst AreWithinFields (sym m.actions ∙ same) (law (switch_at run e.version) e.key m.key)

-- The entry of a number has these actions, as it is kept and as it is seen.
pub entry_with-is : (lists : List HeldList) (number : ℕ) (kept : List flows.Entry) (entries : List Entry) (e : flows.Entry) (actions : List DpAction)
    → entries ≡ map (entry_view lists) kept → table.entry_of number kept ≡ Some e
    → option_map (λ (x : Entry). x.actions) (entry_of number entries) ≡ Some actions
    → entry_of number entries ≡ Some (entry_with actions e)
entry_with-is lists number kept entries e actions viewed is has =
    let found : entry_of number entries ≡ Some (entry_view lists e) =
    ap (λ (es : List Entry). entry_of number es) viewed ∙ entry_of-kept lists number kept ∙ ap (option_map (entry_view lists)) is in
    let same : actions_at lists e.actions ≡ actions = cc (rw found at has) in
    found ∙ ap (λ (as_ : List DpAction). Some (entry_with as_ e)) same

pub none-is : (lists : List HeldList) (number : ℕ) (kept : List flows.Entry) (entries : List Entry)
    → entries ≡ map (entry_view lists) kept → table.entry_of number kept ≡ None → IsSome (entry_of number entries) → ⊥
none-is lists number kept entries viewed is live =
    let lacks : entry_of number entries ≡ None =
    ap (λ (es : List Entry). entry_of number es) viewed ∙ entry_of-kept lists number kept ∙ ap (option_map (entry_view lists)) is in
    let there : IsSome {T = Entry} None = subst IsSome lacks live in
    cc
