use Rattle.std.proofs.Common.{ℕ, sym, subst}
use Rattle.std.proofs.lemmas.Result.{IfOk-weaker}
use Rattle.spec_board.specs.Steps as board
use Rattle.ovs_fields.specs.Packed.{numbers, bits}
use Rattle.pipe_model.specs.Plains.{translation_in}
use Rattle.port_caches.specs.Views.{Caches}
use Rattle.port_caches.specs.Kept.{caches_in}
use Rattle.port_caches.specs.Steps.{IsSame, IsSettled}
use Rattle.port_caches.proofs.Views.{covered_by, uncovered_by}
use Rattle.port_caches.proofs.Settles.{Fits, caches_same, settled_from, present, present_fits}
use Rattle.port_caches.proofs.Anew.{reserved_same}
use Rattle.port_caches.proofs.caches.PortCaches.settle.Goals as goal

pub credit_frame-list-requires-clause-countable : goal.credit_frame-list-requires-clause-countable
credit_frame-list-requires-clause-countable c =
    let b = c.self.inside in
    let key = numbers c.args.key.now in
    let mask = bits c.args.mask.now in
    let t = translation_in c.args.made in
    let fits : Fits key mask c.args.version t c.args.length c.args.time (caches_in b) = subst (Fits key mask c.args.version t c.args.length c.args.time) (sym c.self.view_is) c.requires.fits in
    let there = covered_by b.lists.items key b.flows.entries c.in-Some.number c.in-Some.ensures in
    present_fits key mask c.args.version t c.args.length c.args.time (caches_in b) fits there.0 there.1

pub settle_anew-requires-clause-uncovered : goal.settle_anew-requires-clause-uncovered
settle_anew-requires-clause-uncovered c = uncovered_by c.reserve_lists.new.lists.items (numbers c.args.key.now) c.self.inside.flows.entries c.in-None.ensures

pub settle_anew-requires-clause-fits : goal.settle_anew-requires-clause-fits
settle_anew-requires-clause-fits c s frame of frame_is =
    let b = c.self.inside in
    let key = numbers c.args.key.now in
    let mask = bits c.args.mask.now in
    let t = translation_in c.args.made in
    let fits : Fits key mask c.args.version t c.args.length c.args.time (caches_in b) = subst (Fits key mask c.args.version t c.args.length c.args.time) (sym c.self.view_is) c.requires.fits in
    fits s frame (caches_same (caches_in b) (caches_in (record b { lists = c.reserve_lists.new.lists })) s (reserved_same b c.reserve_lists.new.lists c.reserve_lists.ensures.items c.reserve_lists.ensures.room) of) frame_is

pub returns-in-Some-clause-settled : goal.returns-in-Some-clause-settled
returns-in-Some-clause-settled c =
    let b = c.self.inside in
    let key = numbers c.args.key.now in
    let mask = bits c.args.mask.now in
    let t = translation_in c.args.made in
    let between = caches_in (record b { lists = c.reserve_lists.new.lists }) in
    let same : IsSame c.args.self.now between = subst (λ (v : Caches). IsSame v between) c.self.view_is (reserved_same b c.reserve_lists.new.lists c.reserve_lists.ensures.items c.reserve_lists.ensures.room) in
    let there = covered_by c.reserve_lists.new.lists.items key b.flows.entries c.in-Some.number c.in-Some.ensures in
    let after = c.credit_frame-list.new.self in
    settled_from key mask c.args.version t c.args.length c.args.time c.args.self.now between after (board.Present c.in-Some.number) same
    (subst (λ (n : ℕ). IsSettled key mask c.args.version t c.args.length c.args.time between (board.Present n) after) there.2
    (present key mask c.args.version t c.args.length c.args.time between after c.credit_frame-list.result c.credit_frame-list.ensures there.0 there.1))

pub returns-in-None-clause-settled : goal.returns-in-None-clause-settled
returns-in-None-clause-settled c =
    let b = c.self.inside in
    let key = numbers c.args.key.now in
    let mask = bits c.args.mask.now in
    let t = translation_in c.args.made in
    let between = caches_in (record b { lists = c.reserve_lists.new.lists }) in
    let same : IsSame c.args.self.now between = subst (λ (v : Caches). IsSame v between) c.self.view_is (reserved_same b c.reserve_lists.new.lists c.reserve_lists.ensures.items c.reserve_lists.ensures.room) in
    IfOk-weaker c.settle_anew.result _ _ (λ r settled. settled_from key mask c.args.version t c.args.length c.args.time c.args.self.now between c.settle_anew.new.self _ same settled) c.settle_anew.ensures.settled
