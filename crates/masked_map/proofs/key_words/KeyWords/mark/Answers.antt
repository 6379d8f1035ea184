use Rattle.std.proofs.Common.{refl, ap₂, ◌∙◌}
use Rattle.masked_map.specs.Marks.{mixed_in, mark_of}
use Rattle.masked_map.proofs.key_words.KeyWords.mark.Goals as goal

pub returns : goal.returns
unfolding mark_of
returns c key are =
    c.mixed_in-4.ensures
    ∙ ap₂ mixed_in
    (c.mixed_in-3.ensures
    ∙ ap₂ mixed_in
    (c.mixed_in-2.ensures ∙ ap₂ mixed_in (c.mixed_in-hardware.ensures ∙ ap₂ mixed_in (c.mixed_in.ensures ∙ ap₂ mixed_in refl are.src) are.dst) are.header_is)
    are.addresses_are)
    are.ports_are
