use Rattle.std.proofs.Common.{◌≡◌, ℕ, ◌+◌, ◌-◌, ◌≤◌, ◌<◌, Bool, Err, List, [], length, get_or, take, drop, sym, ap, ◌∙◌, arith}
use Rattle.std.specs.List.{flat_map}
use Rattle.std.proofs.lemmas.List.{drop-drop, get_or-drop, length-drop}
use Rattle.std.proofs.lemmas.Result.{err_from_is_err_and}
use Rattle.spec_pcap.specs.Pcap.{Frame, record_of}
use Rattle.spec_case.specs.Run.{frames_of}
use Rattle.edge_io.proofs.InTurn.{cut_within, more}
use Rattle.egress_capture.proofs.Batches.{around_several, one_alone, several_more}
use Rattle.egress_capture.proofs.batch.write_frames.Goals as goal

module _ (frames : List Frame) (place done : ℕ) (from : 1 ≤ place) where
  abbrev none : Frame
  none = record { time = 0; bytes = [] }

  -- the frames that are left
  left : drop done (drop (place - 1) frames) ≡ drop ((place + done) - 1) frames
  left = drop-drop done (place - 1) frames ∙ ap (λ (k : ℕ). drop k frames) (omega (arith, from))

  -- the first of them alone
  first_left : (nanos : Bool) (count : ℕ) → place + count ≤ length frames + 1 → done < count
      → record_of nanos (get_or frames ((place + done) - 1) none)
      ≡ flat_map (record_of nanos) (take 1 (drop done (drop (place - 1) frames)))
  first_left nanos count few more =
      let long = length-drop (place - 1) frames in
      let there : get_or (drop (place - 1) frames) done none ≡ get_or frames ((place + done) - 1) none =
      get_or-drop (place - 1) frames done none ∙ ap (λ (k : ℕ). get_or frames k none) (omega (arith, from)) in
      let within : done < length (drop (place - 1) frames) = omega (arith, long, from, few, more) in
      sym (one_alone (record_of nanos) (drop (place - 1) frames) done none within ∙ ap (record_of nanos) there)

pub returns-in_err-write_all-clause-writes : goal.returns-in_err-write_all-clause-writes
returns-in_err-write_all-clause-writes g c =
    let frames = frames_of g.C.Case.run c.args.first.port in
    let done = c.places.done in
    let n = c.records-written.result.0 in
    let p = err_from_is_err_and c.from_residual.result c.from_residual.ensures.1 in
    let few : done + n ≤ c.args.count = omega (arith, c.places-test.true, c.records-written.ensures.few) in
    let w = rw (c.records-written.ensures.bytes, ← left frames c.args.first.place done c.requires.first) at c.in_err-write_all.ensures in
    let all = around_several (record_of c.args.nanos) (drop (c.args.first.place - 1) frames) done n c.args.count few in
    cut_within g.S.Shelf _ _ _ _ _ _ _ all c.places.invariant.wrote _ _ (p.1 ∙ ap Err p.2) w

pub places-preserved-then-written-gt0 : goal.places-preserved-then-written-gt0
places-preserved-then-written-gt0 g c =
    let frames = frames_of g.C.Case.run c.args.first.port in
    let done = c.places.done in
    let n = c.records-written.result.0 in
    record {
      few = omega (arith, c.places-test.true, c.records-written.ensures.few);
      unit = c.places.invariant.unit;
      wrote =
          let w = rw (c.records-written.ensures.bytes, ← left frames c.args.first.place done c.requires.first) at c.in_ok-write_all.ensures in
          let all = several_more (record_of c.args.nanos) (drop (c.args.first.place - 1) frames) done n in
          more g.S.Shelf _ _ _ _ _ _ all c.places.invariant.wrote _ w;
    }

pub returns-in_err-frame-clause-writes : goal.returns-in_err-frame-clause-writes
returns-in_err-frame-clause-writes g c =
    let frames = frames_of g.C.Case.run c.args.first.port in
    let done = c.places.done in
    let p = err_from_is_err_and c.from_residual-in_err-frame.result c.from_residual-in_err-frame.ensures.1 in
    let one = first_left frames c.args.first.place done c.requires.first c.args.nanos c.args.count c.requires.last c.places-test.true in
    let w = rw (c.places.invariant.unit, c.time-time.ensures.time, c.frame.ensures.bytes, one) at c.in_err-frame.ensures.writes in
    let all = around_several (record_of c.args.nanos) (drop (c.args.first.place - 1) frames) done 1 c.args.count (omega (arith, c.places-test.true)) in
    cut_within g.S.Shelf _ _ _ _ _ _ _ all c.places.invariant.wrote _ _ (p.1 ∙ ap Err p.2) w

pub places-preserved : goal.places-preserved
places-preserved g c =
    let frames = frames_of g.C.Case.run c.args.first.port in
    let done = c.places.done in
    record {
      few = omega (arith, c.places-test.true);
      unit = c.frame-in-places.ensures.nanos ∙ c.places.invariant.unit;
      wrote =
          let one = first_left frames c.args.first.place done c.requires.first c.args.nanos c.args.count c.requires.last c.places-test.true in
          let w = rw (c.places.invariant.unit, c.time-time.ensures.time, c.frame.ensures.bytes, one) at c.in_ok-frame.ensures.writes in
          let all = several_more (record_of c.args.nanos) (drop (c.args.first.place - 1) frames) done 1 in
          more g.S.Shelf _ _ _ _ _ _ all c.places.invariant.wrote _ w;
    }
