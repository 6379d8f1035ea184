use Rattle.std.proofs.Common.{◌<◌, [], false, length, ap, sym, ◌∙◌, arith}
use Rattle.std.proofs.lemmas.List.{get_or-map}
use Rattle.spec_pcap.specs.Pcap.{Capture}
use Rattle.spec_case.specs.Blocks.{ends_after}
use Rattle.run_case.specs.Places.{ends_of}
use Rattle.run_case.proofs.blocks.PlacesOfPorts.{frames_in-position}
use Rattle.run_case.proofs.run_data.RunData.of_port.Goals as goal

pub returns-clause-frames : goal.returns-clause-frames
returns-clause-frames g c =
    let run = g.C.Case.run in
    let run_data = c.args.self.now in
    let at = rw run_data.traces_are at c.index.ensures in
    let frames = frames_in-position c.args.port run.ports run.traces c.place_of-place.result c.index.result.now run_data.one_each c.place_of-place.ensures.place in
    ap (λ (t : Capture). t.frames) at ∙ sym frames

pub returns-clause-ends : goal.returns-clause-ends
returns-clause-ends g c =
    let run = g.C.Case.run in
    let run_data = c.args.self.now in
    let place = c.place_of-place.result in
    let none : Capture = record { nanos = false; frames = [] } in
    let at = rw run_data.ends_are at c.index-2.ensures in
    let within : place < length run.traces = omega (arith, c.place_of-place.ensures.within, run_data.one_each) in
    let mapped = get_or-map (ends_of run.syncs) run.traces place none c.index-2.result.now within in
    let frames = frames_in-position c.args.port run.ports run.traces place none run_data.one_each c.place_of-place.ensures.place in
    c.as_slice.ensures ∙ (at ∙ (mapped ∙ ap (ends_after 0 run.syncs) (sym frames)))
