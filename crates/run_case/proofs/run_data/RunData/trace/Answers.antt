use Rattle.std.proofs.Common.{◌<◌, length, ap, sym, ◌∙◌, arith}
use Rattle.std.proofs.lemmas.List.Elements.{All-get_or}
use Rattle.spec_pcap.specs.Pcap.{Capture}
use Rattle.run_case.specs.Places.{IsCounted}
use Rattle.run_case.proofs.blocks.PlacesOfPorts.{frames_in-position}
use Rattle.run_case.proofs.run_data.RunData.trace.Goals as goal

pub returns-clause-frames : goal.returns-clause-frames
returns-clause-frames g c =
    let run = g.C.Case.run in
    let run_data = c.args.self.now in
    let at = rw run_data.traces_are at c.index.ensures in
    let frames = frames_in-position c.args.port run.ports run.traces c.place_of.result c.index.result.now run_data.one_each c.place_of.ensures.place in
    ap (λ (t : Capture). t.frames) at ∙ sym frames

pub returns-clause-counted : goal.returns-clause-counted
returns-clause-counted g c =
    let run = g.C.Case.run in
    let run_data = c.args.self.now in
    let trace = c.index.result.now in
    let frames = frames_in-position c.args.port run.ports run.traces c.place_of.result trace run_data.one_each c.place_of.ensures.place in
    let within : c.place_of.result < length run.traces = omega (arith, c.place_of.ensures.within, run_data.one_each) in
    rw frames (All-get_or IsCounted run.traces c.place_of.result trace within run_data.counted)
