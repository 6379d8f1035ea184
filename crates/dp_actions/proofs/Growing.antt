-- Lists that grow at their end.
use Rattle.std.proofs.Common.{◌≡◌, List, ◌++◌, ap, ◌∙◌, append_assoc}
use Rattle.spec_actions.specs.declared.action.DpAction.{DpAction}
use Rattle.dp_actions.specs.Growth.{Extends}

-- one more piece at its end
pub extends_more : (old middle new more : List DpAction) → Extends old middle → new ≡ middle ++ more → Extends old new
extends_more old middle new more grown is_more = record {
  more = grown.more ++ more;
  is = is_more ∙ ap (λ xs. xs ++ more) grown.is ∙ append_assoc old grown.more more;
}
