-- Each is read of its print.
use Rattle.std.proofs.Common.{◌≡◌, [], refl, ap, ◌∙◌, None, Result, Ok}
use Rattle.spec_tables.specs.declared.edit_word.EditWord.TheVariants.{Delete}
use Rattle.spec_tables.specs.Rules.{Match}
use Rattle.spec_flow_text.specs.declared.fault.TextFault.{TextFault}
use Rattle.spec_flow_text.specs.Matches.{MatchText, read_match}
use Rattle.spec_flow_text.specs.Printed.{match_printed}
use Rattle.text_laws.specs.SpelledMatches.{match_alone}
use Rattle.text_laws.proofs.round_trips.prints.prints_tell_matches_apart.Goals as goal

pub returns-clause-alike : goal.returns-clause-alike
returns-clause-alike c one other at place line text t u h k e = ap match_printed e

same_match : (m n : Match) (r : Result MatchText TextFault) → r ≡ Ok (match_alone m None) → r ≡ Ok (match_alone n None) → m ≡ n
same_match m n r h k = let same : match_alone m None ≡ match_alone n None = cc in ap (λ (x : MatchText). x.matching) same

pub returns-clause-apart : goal.returns-clause-apart
returns-clause-apart c one other at place line text t u h k e =
    let first = c.read_match_reads_back.ensures.alone one at line t h Delete [] refl refl in
    let second = c.read_match_reads_back.ensures.alone other place text u k Delete [] refl refl in
    same_match t.matching u.matching (read_match Delete 0 (match_printed t.matching)) first (ap (read_match Delete 0) e ∙ second)
