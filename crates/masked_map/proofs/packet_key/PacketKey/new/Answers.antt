use Rattle.std.proofs.Common.{List, ℕ, subst}
use Rattle.masked_map.specs.Marks.{AreWordsOf}
use Rattle.masked_map.proofs.packet_key.PacketKey.new.Goals as goal

pub invariant_of-result : goal.invariant_of-result
invariant_of-result c =
    let taken = c.taken_of_key-fields.ensures in
    let words = subst (λ (l : List ℕ). AreWordsOf c.of-words.result l) taken c.of-words.ensures.words in
    record {
      taken = taken;
      worded = record { src = words.src; dst = words.dst; header_is = words.header_is; addresses_are = words.addresses_are; ports_are = words.ports_are };
    }
