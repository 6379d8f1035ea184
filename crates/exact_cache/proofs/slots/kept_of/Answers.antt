use Rattle.std.proofs.Common.{sym, ◌∙◌, arith}
use Rattle.std.proofs.lemmas.Bool.{cond-true, cond-false}
use Rattle.ovs_fields.specs.Packed.{numbers}
use Rattle.exact_cache.proofs.KeptSlots.{place_listed, tag_listed, place_below, kept_of-no_place, kept_of-other_tag, kept_of-read}
use Rattle.exact_cache.proofs.slots.kept_of.Goals as goal
use Rattle.exact_cache.proofs.slots.kept_of.Goals.{then-place-eq0-via-then-place-eq0, then-place-eq0-via-else-place-eq0+then-tag-tag_of}

pub returns-then-place-eq0 : goal.returns-then-place-eq0
returns-then-place-eq0 c =
    let slots = c.args.slots.now in
    let key = numbers c.args.key.key.now in
    elim c.then-place-eq0.branch [
      | then-place-eq0-via-then-place-eq0 w ↦
          sym (kept_of-no_place slots key c.args.slot (place_listed slots c.args.slot c.index.result.now c.requires.cache c.requires.within c.index.ensures ∙ w.if-place-eq0.true))
      | then-place-eq0-via-else-place-eq0+then-tag-tag_of w ↦
          sym (kept_of-other_tag slots key c.args.key.hash c.args.slot c.requires.cache c.args.key.hashed
          (λ is. w.if-tag-tag_of.true (sym (tag_listed slots c.args.slot c.index.result.now c.requires.cache c.requires.within c.index.ensures) ∙ is ∙ sym w.tag_of.ensures)))
    ]

pub index-kept-requires : goal.index-kept-requires
index-kept-requires c =
    omega (arith, place_below c.args.slots.now c.args.slot c.index.result.now c.requires.cache c.requires.within c.index.ensures (omega (arith, c.if-place-eq0.false)), c.args.slots.now.kept.ok.0)

pub returns-then-is_of : goal.returns-then-is_of
returns-then-is_of c =
    sym (kept_of-read c.args.slots.now (numbers c.args.key.key.now) c.args.slot c.index.result.now c.index-kept.result.now c.requires.cache c.requires.within c.index.ensures (omega (arith, c.if-place-eq0.false)) c.index-kept.ensures
    ∙ cond-true _ _ _ (sym c.is_of.ensures ∙ c.if-is_of.true))

pub returns-else-is_of : goal.returns-else-is_of
returns-else-is_of c =
    sym (kept_of-read c.args.slots.now (numbers c.args.key.key.now) c.args.slot c.index.result.now c.index-kept.result.now c.requires.cache c.requires.within c.index.ensures (omega (arith, c.if-place-eq0.false)) c.index-kept.ensures
    ∙ cond-false _ _ _ (sym c.is_of.ensures ∙ c.if-is_of.false))
