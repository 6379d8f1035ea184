use Rattle.trace_gen.proofs.Records.{record-joined}
use Rattle.trace_gen.proofs.packets.push_record.Goals as goal

pub returns : goal.returns
returns c =
    let packet = c.args.packet in
    record-joined c.args.time packet.source packet.c packet.d packet.e packet.port c.checksum_of-sum.result c.record_header.result
    c.header_words.result c.header_words-2.result c.args.bytes.now.items c.extend_from_slice.new.self.items
    c.extend_from_slice-2.new.self.items c.push_words.new.bytes.items c.push_words-2.new.bytes.items c.record_header.ensures
    c.header_words.ensures c.checksum_of-sum.ensures c.header_words-2.ensures c.in_ok-extend_from_slice.ensures.items
    c.in_ok-extend_from_slice-2.ensures.items c.in_ok-push_words.ensures c.in_ok-push_words-2.ensures
