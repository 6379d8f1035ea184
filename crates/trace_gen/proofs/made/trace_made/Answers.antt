use Rattle.std.proofs.Common.{◌≡◌, ◌+◌, ◌-◌, ◌*◌, ap, ◌∙◌, arith}
use Rattle.spec_pcap.specs.Pcap.{second}
use Rattle.spec_input.specs.Made.{state, subnet_draws, subnets, ports, frame_draws, millisecond}
use Rattle.trace_gen.specs.Drawn.{captured_at}
use Rattle.trace_gen.proofs.States.{state-at}
use Rattle.trace_gen.proofs.Records.{trace-begun, trace-more, frame-is}
use Rattle.trace_gen.proofs.made.trace_made.Goals as goal

pub frames-init : goal.frames-init
frames-init c =
    let first : 0 + (192 + 5 * (c.args.port - 1)) ≡ 192 + frame_draws * (ports * 0 + (c.args.port - 1)) = omega arith in
    record {
      bytes = trace-begun _ _ c.in_ok-bytes.bytes.items c.header.result c.extend_from_slice.new.self.items c.in_ok-bytes.ensures.items c.header.ensures c.in_ok-extend_from_slice.ensures.items;
      state = state-at c.args.number 0 (192 + 5 * (c.args.port - 1)) c.of-draws.result.state c.pass.new.self.state c.of-draws.ensures c.pass.ensures ∙ ap (state c.args.number) first;
    }

pub frames-preserved : goal.frames-preserved
frames-preserved c =
    let now = c.frames.invariant in
    let drawn = c.draw_packet-packet.ensures in
    let before = subnet_draws * subnets + frame_draws * (ports * c.frames.n + (c.args.port - 1)) in
    let next : before + 5 + 15 ≡ subnet_draws * subnets + frame_draws * (ports * (c.frames.n + 1) + (c.args.port - 1)) = omega arith in
    let time = ap (λ i. second + i * millisecond) c.from.ensures in
    record {
      bytes = trace-more c.args.number c.args.port c.frames.n c.frames.bytes.items c.push_record.new.bytes.items
          (captured_at (second + c.from.result * millisecond) c.draw_packet-packet.result) now.bytes c.in_ok-push_record.ensures
          (frame-is c.args.number c.args.port c.frames.n c.frames.draws.state (second + c.from.result * millisecond) c.draw_packet-packet.result now.state drawn.packet time);
      state = state-at c.args.number (before + 5) 15 c.draw_packet-packet.new.draws.state c.pass-in-frames.new.self.state
          (state-at c.args.number before 5 c.frames.draws.state c.draw_packet-packet.new.draws.state now.state drawn.state)
          c.pass-in-frames.ensures ∙ ap (state c.args.number) next;
    }
