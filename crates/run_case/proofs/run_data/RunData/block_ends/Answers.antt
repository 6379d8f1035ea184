use Rattle.std.proofs.Common.{◌<◌, [], false, length, ap, sym, ◌∙◌, arith}
use Rattle.std.proofs.lemmas.List.{get_or-map}
use Rattle.spec_pcap.specs.Pcap.{Capture}
use Rattle.spec_case.specs.Blocks.{ends_after}
use Rattle.run_case.specs.Places.{ends_of}
use Rattle.run_case.proofs.blocks.PlacesOfPorts.{frames_in-position}
use Rattle.run_case.proofs.run_data.RunData.block_ends.Goals as goal

pub returns : goal.returns
returns g c =
    let run = g.C.Case.run in
    let run_data = c.args.self.now in
    let place = c.place_of.result in
    let none : Capture = record { nanos = false; frames = [] } in
    let at = rw run_data.ends_are at c.index.ensures in
    let within : place < length run.traces = omega (arith, c.place_of.ensures.within, run_data.one_each) in
    let mapped = get_or-map (ends_of run.syncs) run.traces place none c.index.result.now within in
    let frames = frames_in-position c.args.port run.ports run.traces place none run_data.one_each c.place_of.ensures.place in
    c.as_slice.ensures ∙ (at ∙ (mapped ∙ ap (ends_after 0 run.syncs) (sym frames)))
