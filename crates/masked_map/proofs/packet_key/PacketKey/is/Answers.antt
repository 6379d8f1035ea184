use Rattle.std.proofs.Common.{◌≡◌, List, ℕ, sym, subst, ap, ◌∙◌}
use Rattle.spec_keys.specs.Keys.{masked, same, IsKey}
use Rattle.ovs_fields.specs.Packed.{numbers}
use Rattle.ovs_fields.proofs.KeyLaws.{common_bits-is_key}
use Rattle.masked_map.specs.Compact.{list_of}
use Rattle.masked_map.specs.Marks.{AreWordsOf}
use Rattle.masked_map.proofs.CompactLaws.{masked-compacted}
use Rattle.masked_map.proofs.WordLaws.{both, masked-both, fits_from_key}
use Rattle.masked_map.proofs.packet_key.PacketKey.is.Goals as goal

pub returns : goal.returns
returns c =
    let key = c.args.self.now in
    let mask = c.args.mask.now in
    let common = both key.fields mask.bits.fields in
    let under = masked (numbers key.key.now) (list_of mask.bits.fields) in
    let is : under ≡ list_of common =
    sym (masked-compacted key.key.now.fields mask.bits.fields)
    ∙ ap (λ (l : List ℕ). masked l (list_of mask.bits.fields)) (sym key.taken)
    ∙ masked-both key.fields mask.bits.fields in
    let words = subst (λ (l : List ℕ). AreWordsOf c.and.result l) is (c.and.ensures (numbers key.key.now) (list_of mask.bits.fields) key.key.now.is_key mask.bits.within key.worded mask.worded) in
    let fits = fits_from_key common (subst IsKey is (common_bits-is_key (numbers key.key.now) (list_of mask.bits.fields) key.key.now.is_key)) in
    c.are_same.ensures common c.args.own.now fits c.of.ensures.fits words c.of.ensures.words
    ∙ ap (λ (l : List ℕ). same l (list_of c.args.own.now)) (sym is)
