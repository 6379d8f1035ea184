use Rattle.std.proofs.Common.{◌≡◌, ℕ, zero, suc, ◌+◌, ◌<◌, List, [], ◌∷◌, length, map, refl, ap, arith}
use Rattle.std.specs.List.{IsDistinct}
use Rattle.std.proofs.lemmas.List.{length-map}
use Rattle.spec_pcap.specs.Pcap.{Capture}
use Rattle.spec_tables.specs.declared.sync_point.SyncPoint.{SyncPoint}
use Rattle.spec_case.specs.Blocks.{bundles_through, AreInOrder}
use Rattle.run_case.specs.Places.{IsCounted, AreCounted}
use Rattle.board_tests.proofs.blocks.blocks_are.Goals as goal

-- sync points at these times, before which no bundles stand
abbrev syncs_at : List ℕ → List SyncPoint
syncs_at times = map (λ (time : ℕ). let s : SyncPoint = record { time = time; after = 0 } in s) times

bundles_through-syncs_at : (times : List ℕ) (block : ℕ) → bundles_through (syncs_at times) 0 block ≡ 0
bundles_through-syncs_at [] block = refl
bundles_through-syncs_at (t ∷ ts) zero = refl
bundles_through-syncs_at (t ∷ ts) (suc block) = bundles_through-syncs_at ts block

in_order-syncs_at : (times : List ℕ) → AreInOrder (syncs_at times) 0
in_order-syncs_at times block =
    rw (bundles_through-syncs_at times block, bundles_through-syncs_at times (block + 1)) (omega arith, omega arith)

both_counted : (a b : Capture) → IsCounted a → IsCounted b → AreCounted (a ∷ b ∷ [])
both_counted a b is_a is_b zero d within = is_a
both_counted a b is_a is_b (suc zero) d within = is_b
both_counted a b is_a is_b (suc (suc k)) d within = absurd (omega arith)

pub new-ports-requires-clause-distinct : goal.new-ports-requires-clause-distinct
unfolding IsDistinct
new-ports-requires-clause-distinct g c =
    rw (c.in_ok-push-2.ensures.items, c.in_ok-push.ensures.items, c.new-list.ensures.items) ((refl, tt), (tt, tt))

pub in_run-requires : goal.in_run-requires
in_run-requires g c =
    let ports : c.new-ports.result ≡ 7 ∷ 2 ∷ [] =
    rw (c.new-ports.ensures, c.in_ok-push-2.ensures.items, c.in_ok-push.ensures.items, c.new-list.ensures.items) refl in
    let traces = rw (c.push_reserved.ensures.items, c.in_ok-traces.ensures.items, c.empty.ensures) at c.push_reserved-2.ensures.items in
    let few : length c.in_ok-syncs.syncs.items < 100 = omega (arith, ap length c.in_ok-syncs.ensures, length-map {A = ℕ} {B = SyncPoint}, c.requires) in
    record {
      ports = refl;
      edits = refl;
      bundles = refl;
      bundled = record { rising = λ v lt. absurd (omega (arith, lt)); whole = refl };
      syncs = refl;
      traces = refl;
      full = rw ports refl;
      empty = rw ports refl;
      one_each = rw (traces, ports) refl;
      in_order = rw c.in_ok-syncs.ensures (in_order-syncs_at c.args.times.now);
      few = few;
      counted = rw traces (both_counted _ _ c.in_ok-full_trace.ensures (omega arith));
    }
