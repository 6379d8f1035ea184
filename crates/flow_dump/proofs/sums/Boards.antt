-- What one board counted, and what boards counted one after the other.
use Rattle.std.proofs.Common.{◌≡◌, ℕ, ◌+◌, ◌-◌, ◌*◌, ◌<◌, ◌≤◌, ◌^◌, List, [], ◌∷◌, length, take, get_or, map, refl, sym, ap, ap₂, subst, ◌∙◌, arith}
use Rattle.std.specs.Prelude.{All}
use Rattle.std.specs.List.{sum_by}
use Rattle.std.proofs.lemmas.List.{length-map, take_all, get_or_default}
use Rattle.std.proofs.Math.ListN.{get_or-map}
use Rattle.std.proofs.lemmas.List.Sums.{sum_by-cons, sum_by_more}
use Rattle.spec_pcap.specs.Pcap.{snap_length}
use Rattle.spec_tables.specs.Bundles.{edits_through, AreBundles}
use Rattle.spec_case.specs.Run.{Run, edit_count, frames_of}
use Rattle.spec_board.specs.State as states
use Rattle.spec_board.specs.State.{State, Total}
use Rattle.spec_board.specs.Counts as board
use Rattle.spec_board.specs.Texts.{Journal}
use Rattle.table_laws.proofs.Bundles.{within}
use Rattle.board_laws.specs.Counts.{HasBoundedCounts}
use Rattle.megaflow_table.specs.declared.entry.Entry.{Entry}
use Rattle.port_caches.specs.declared.lists.HeldList.{HeldList}
use Rattle.port_caches.specs.Views.{entry_view}
use Rattle.pmd_board.specs.BoardView.{BoardView, journal_view, journals_view, state_of}
use Rattle.spec_run.specs.declared.rule_counts.RuleCounts.{RuleCounts}
use Rattle.spec_run.specs.Rules.{counts_of}
use Rattle.port_caches.specs.Sums.{total_of, IsRule}
use Rattle.flow_dump.specs.Sums.{Fits, sum_view, sums_view, with_total, with_owed, owed_packets, owed_bytes}
use Rattle.flow_dump.specs.Counted.{AreCounts, IsBoundedAt, HasRoom, counts_at}
use Rattle.port_caches.proofs.stats.Credits.{same_total, total_of-rule}

sum_by-of_map : {X Y : Type 0} (f : Y → ℕ) (g : X → Y) (xs : List X) → sum_by f (map g xs) ≡ sum_by (λ x. f (g x)) xs
sum_by-of_map f g [] = refl
sum_by-of_map f g (x ∷ xs) = sum_by-cons f (g x) (map g xs) ∙ ap (λ n. f (g x) + n) (sum_by-of_map f g xs) ∙ sym (sum_by-cons (λ y. f (g y)) x xs)

-- ---- one board

-- what all frames can make of a rule, with 2^32 frames of 2^18 bytes, each of which visits it 512 times
pub bounded_at : (run : Run) (b : BoardView) → length (frames_of run b.port) + 1 < 2 ^ 32 → (rule : ℕ) → HasBoundedCounts run b.port snap_length (state_of run b) rule
    → IsBoundedAt run (journal_view b) rule
bounded_at run b few rule most = record { packets = omega (arith, most.packets, few); bytes = omega (arith, most.bytes, few) }

module _ (lists : List HeldList) (es : List Entry) (s : State) (are : s.entries ≡ map (entry_view lists) es) where
  pub owed_packets-seen : (rule : ℕ) → board.owed_packets rule s.entries ≡ owed_packets rule es
  owed_packets-seen rule =
      ap (board.owed_packets rule) are ∙ sum_by-of_map (λ (e : states.Entry). board.times_visited rule e.visits * e.owed_packets) (entry_view lists) es

  pub owed_bytes-seen : (rule : ℕ) → board.owed_bytes rule s.entries ≡ owed_bytes rule es
  owed_bytes-seen rule =
      ap (board.owed_bytes rule) are ∙ sum_by-of_map (λ (e : states.Entry). board.times_visited rule e.visits * e.owed_bytes) (entry_view lists) es

  pub visits_are_rules : (totals : List Total) (bundles : List ℕ) (edits : ℕ) → length totals ≡ edits → AreBundles bundles edits
      → All (λ (e : states.Entry). All (λ r. (1 ≤ r) × (r ≤ edits_through bundles e.version)) e.visits) s.entries
      → All (λ (e : states.Entry). e.version ≤ length bundles) s.entries
      → All (λ (e : Entry). All (IsRule totals) e.visits) es
  visits_are_rules totals bundles edits long are_bundles visits versions k d here j z lt =
      let view = entry_view lists in
      let inside : k < length (map view es) = omega (arith, here, length-map es view) in
      let P : states.Entry → Type 0 = λ e. All (λ r. (1 ≤ r) × (r ≤ edits_through bundles e.version)) e.visits in
      let Q : states.Entry → Type 0 = λ e. e.version ≤ length bundles in
      let visit = subst P (get_or-map view es k d) (subst (All P) are visits k (view d) inside) j z lt in
      let version = subst Q (get_or-map view es k d) (subst (All Q) are versions k (view d) inside) in
      record { first = visit.0; last = omega (arith, visit.1, within bundles edits are_bundles _ version, long) }

  -- both parts fit, where there is room for what the board counted
  module _ (run : Run) (b : BoardView) (state : s ≡ state_of run b) (rule : ℕ) (bounded : IsBoundedAt run (journal_view b) rule) (old : Total) (room : HasRoom old) where
    pub totals_fit : (t : Total) → t ≡ s.totals rule → Fits (with_total t old)
    totals_fit t is =
        let packets : t.packets ≡ ((state_of run b).totals rule).packets = ap (λ (x : Total). x.packets) is ∙ ap (λ (x : State). (x.totals rule).packets) state in
        let bytes : t.bytes ≡ ((state_of run b).totals rule).bytes = ap (λ (x : Total). x.bytes) is ∙ ap (λ (x : State). (x.totals rule).bytes) state in
        record { packets = omega (arith, bounded.packets, room.packets, packets); bytes = omega (arith, bounded.bytes, room.bytes, bytes) }

    -- what the board counted is its totals and what its entries owe
    pub counted_all : (t : Total) → t ≡ s.totals rule → (now : Total) → now ≡ with_owed rule es (with_total t old)
        → now ≡ with_total (counts_at run (journal_view b) rule) old
    counted_all t is now all =
        let packets : t.packets ≡ ((state_of run b).totals rule).packets = ap (λ (x : Total). x.packets) is ∙ ap (λ (x : State). (x.totals rule).packets) state in
        let bytes : t.bytes ≡ ((state_of run b).totals rule).bytes = ap (λ (x : Total). x.bytes) is ∙ ap (λ (x : State). (x.totals rule).bytes) state in
        let owed_p : board.owed_packets rule (state_of run b).entries ≡ owed_packets rule es = ap (λ (x : State). board.owed_packets rule x.entries) (sym state) ∙ owed_packets-seen rule in
        let owed_b : board.owed_bytes rule (state_of run b).entries ≡ owed_bytes rule es = ap (λ (x : State). board.owed_bytes rule x.entries) (sym state) ∙ owed_bytes-seen rule in
        all ∙ same_total _ _ (omega (arith, packets, owed_p)) (omega (arith, bytes, owed_b))

    pub owed_fits : (t : Total) → t ≡ s.totals rule → Fits (with_owed rule es (with_total t old))
    owed_fits t is =
        let all = counted_all t is (with_owed rule es (with_total t old)) refl in
        let fits : Fits (with_total (counts_at run (journal_view b) rule) old) = record {
          packets = omega (arith, bounded.packets, room.packets);
          bytes = omega (arith, bounded.bytes, room.bytes);
        } in
        subst Fits (sym all) fits

-- ---- boards, one after the other

-- what boards counted of a rule
abbrev pub counted_by : Run → List BoardView → ℕ → Total
counted_by run boards rule = record {
  packets = sum_by (λ (b : BoardView). (counts_at run (journal_view b) rule).packets) boards;
  bytes = sum_by (λ (b : BoardView). (counts_at run (journal_view b) rule).bytes) boards;
}

-- The first so many boards are counted.
pub record AreCounted (run : Run) (boards : List BoardView) (count : ℕ) (counts : List RuleCounts) : Type 0 where
  pub long : length counts ≡ edit_count run
  pub each : (rule : ℕ) → total_of (sums_view counts) rule ≡ counted_by run (take count boards) rule
  pub packets : (rule : ℕ) → (total_of (sums_view counts) rule).packets ≤ count * 2 ^ 60
  pub bytes : (rule : ℕ) → (total_of (sums_view counts) rule).bytes ≤ count * 2 ^ 60

module _ (run : Run) (boards : List BoardView) (count : ℕ) (counts : List RuleCounts) (so_far : AreCounted run boards count counts) where
  pub has_room : count < 2 ^ 64 → (rule : ℕ) → HasRoom (total_of (sums_view counts) rule)
  has_room few rule = record { packets = omega (arith, so_far.packets rule); bytes = omega (arith, so_far.bytes rule) }

  pub one_board_more : (d : BoardView) → count < length boards → (now : List RuleCounts) → length now ≡ length counts
      → ((rule : ℕ) → total_of (sums_view now) rule ≡ with_total (counts_at run (journal_view (get_or boards count d)) rule) (total_of (sums_view counts) rule))
      → ((rule : ℕ) → IsBoundedAt run (journal_view (get_or boards count d)) rule)
      → AreCounted run boards (count + 1) now
  one_board_more d lt now long more bounded = record {
    long = long ∙ so_far.long;
    each = λ rule.
        let packets = sum_by_more (λ (b : BoardView). (counts_at run (journal_view b) rule).packets) boards count d lt in
        let bytes = sum_by_more (λ (b : BoardView). (counts_at run (journal_view b) rule).bytes) boards count d lt in
        more rule ∙ ap (with_total (counts_at run (journal_view (get_or boards count d)) rule)) (so_far.each rule)
        ∙ same_total _ _ (sym packets) (sym bytes);
    packets = λ rule.
        let is = ap (λ (t : Total). t.packets) (more rule) in
        omega (arith, is, so_far.packets rule, (bounded rule).packets);
    bytes = λ rule.
        let is = ap (λ (t : Total). t.bytes) (more rule) in
        omega (arith, is, so_far.bytes rule, (bounded rule).bytes);
  }

  pub all_counted : length boards ≤ count → (journals : List Journal) → journals_view boards ≡ journals → AreCounts run journals counts
  all_counted all journals are = record {
    long = so_far.long;
    each = λ rule d first last.
        let none : RuleCounts = record { packets = 0; bytes = 0 } in
        let of_total : Total → RuleCounts = λ t. record { packets = t.packets; bytes = t.bytes } in
        let within : rule - 1 < length counts = omega (arith, so_far.long) in
        let at : total_of (sums_view counts) rule ≡ sum_view (get_or counts (rule - 1) none) = total_of-rule (sums_view counts) rule first ∙ get_or-map sum_view counts (rule - 1) none in
        let by_boards : total_of (sums_view counts) rule ≡ counted_by run boards rule = so_far.each rule ∙ ap (λ bs. counted_by run bs rule) (take_all count boards all) in
        let of_boards : of_total (counted_by run boards rule) ≡ counts_of run (journals_view boards) rule =
        ap₂ (λ p n. let c : RuleCounts = record { packets = p; bytes = n } in c)
        (sym (sum_by-of_map (λ (j : Journal). (counts_at run j rule).packets) journal_view boards))
        (sym (sum_by-of_map (λ (j : Journal). (counts_at run j rule).bytes) journal_view boards)) in
        get_or_default counts (rule - 1) d none within ∙ ap of_total (sym at ∙ by_boards) ∙ of_boards ∙ ap (λ js. counts_of run js rule) are;
  }
