use Rattle.std.proofs.Common.{◌≡◌, ℕ, None, Some, sym, ap, ◌∙◌}
use Rattle.std.specs.Prelude.{IsSome, is_some}
use Rattle.std.specs.Option.{option_map}
use Rattle.table_laws.proofs.MemberLaws.{All-Among}
use Rattle.board_laws.proofs.NumberLaws.{is_among-Among}
use Rattle.spec_board.specs.Results.{entry_of}
use Rattle.spec_board.specs.Effects.{key_of_entry}
use Rattle.port_caches.specs.Views.{entry_view}
use Rattle.port_caches.proofs.Views.{entry_of-view}
use Rattle.pmd_board.specs.BoardView.{state_of}
use Rattle.board_tests.proofs.calls.key_of.Goals as goal

pub returns-in-Some : goal.returns-in-Some
returns-in-Some g c =
    let lists = c.entries.ensures.entries.0 in
    let kept = c.entries.result.now.entries in
    let here : entry_of c.args.number (state_of g.C.Case.run c.args.board.now).entries ≡ Some (entry_view lists c.in-Some.entry.now) =
    ap (entry_of c.args.number) c.entries.ensures.entries.1 ∙ entry_of-view lists c.args.number kept
    ∙ ap (option_map (entry_view lists)) (sym c.in-Some.ensures) in
    λ listed. ap key_of_entry (sym here)

-- what the sweep lists is live
pub returns-in-None : goal.returns-in-None
returns-in-None g c =
    let number = c.args.number in
    let state = state_of g.C.Case.run c.args.board.now in
    let lists = c.entries.ensures.entries.0 in
    let kept = c.entries.result.now.entries in
    let none : entry_of number state.entries ≡ None =
    ap (entry_of number) c.entries.ensures.entries.1 ∙ entry_of-view lists number kept ∙ ap (option_map (entry_view lists)) (sym c.in-None.ensures) in
    λ listed.
    let live = All-Among (λ (n : ℕ). IsSome (entry_of n state.entries)) state.listed c.entries.ensures.lawful.listed number (is_among-Among state.listed number listed) in
    absurd (cc (sym (ap is_some none) ∙ live))
