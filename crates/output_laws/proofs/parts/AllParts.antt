-- What holds of two parts holds of all that a run is cut into.
use Rattle.std.proofs.Common.{◌≡◌, ℕ, ◌+◌, List, [], ◌∷◌, ◌++◌, map, drop, All, refl, sym, ap, ◌∙◌, subst, arith}
use Rattle.std.specs.Prelude.{nat_eq, slice_index_or}
use Rattle.std.specs.List.{IsDistinct, flat_map, sum_by}
use Rattle.std.proofs.lemmas.List.{append-nil, append_assoc, drop_at}
use Rattle.std.proofs.lemmas.List.Concat.{flat_map-append}
use Rattle.std.proofs.lemmas.List.Elements.{All-nil, All-cons, All-head, All-tail}
use Rattle.std.proofs.Math.Path.{fun_ext}
use Rattle.std.proofs.lemmas.List.Sums.{sum_by-cons}
use Rattle.spec_pcap.specs.Pcap.{Frame, header_length, header, record_of, file_of}
use Rattle.spec_case.specs.Run.{Run, is_nanos}
use Rattle.spec_board.specs.Texts.{Journal}
use Rattle.spec_tables.specs.Rules.{Rule}
use Rattle.spec_run.specs.declared.rule_counts.RuleCounts.{RuleCounts}
use Rattle.spec_run.specs.Rules.{packets_of, bytes_of, counts_of, in_order, rule_line_with, gone_line_with, live_rules, gone_rules}
use Rattle.spec_run.specs.Summary.{sent_count, dropped_count, frame_count}
use Rattle.spec_xlate.specs.Translation.{Translation}
use Rattle.spec_run.specs.Journals.{HasEditsApart, AreWhole}
use Rattle.spec_input.specs.Mirrors.{Mirror}
use Rattle.spec_run.specs.Mirrored.{copies}
use Rattle.spec_run.specs.Outputs.{frames_out}
use Rattle.output_laws.specs.Parts.{before, since, parts, MayBeCutAt}
use Rattle.output_laws.specs.Laws.{Part, AreParts, joined, PortsFollow, MirrorsFollow, counts_in, dump_with, CountsAddUp, SummariesAddUp}
use Rattle.output_laws.proofs.parts.Frames.{first_cut, later_cuts}
use Rattle.output_laws.proofs.parts.Apart.{apart-before, apart-since}
use Rattle.output_laws.proofs.parts.OutputsOfParts.{flat_map_alike, flat_map-map, last_frames, last_frames_split, frames_are, last_copies, last_copies_split, copies_are, nanos_before, nanos_since, header-length}
use Rattle.output_laws.proofs.parts.CountsOfParts.{over_run, over_parts, packets_at, bytes_at, packets_are, bytes_are, sent_at, dropped_at, one, sent_are, dropped_are, frames_are as all_frames_are}

-- ---- runs alone

pub all_apart : (times : List ℕ) (run : Run) → HasEditsApart run → All HasEditsApart (parts times run)
all_apart [] run apart = All-cons HasEditsApart run [] apart (All-nil HasEditsApart)
all_apart (time ∷ times) run apart =
    All-cons HasEditsApart (before time run) (parts times (since time run)) (apart-before time run apart) (all_apart times (since time run) (apart-since time run apart))

-- ports and rules are those of the whole
all_same : (P : Run → Type 0) → ((time : ℕ) (run : Run) → P run → P (before time run) × P (since time run)) → (times : List ℕ) (run : Run) → P run
    → All P (parts times run)
all_same P keeps [] run is = All-cons P run [] is (All-nil P)
all_same P keeps (time ∷ times) run is =
    let both = keeps time run is in All-cons P (before time run) (parts times (since time run)) both.0 (all_same P keeps times (since time run) both.1)

module _ {Y : Type 0} (made : Run → List Y)
    (split : (time : ℕ) (times : List ℕ) (run : Run) → MayBeCutAt (time ∷ times) run → made run ≡ made (before time run) ++ made (since time run)) where
  pub lists_follow : (times : List ℕ) (run : Run) → MayBeCutAt times run → made run ≡ flat_map made (parts times run)
  lists_follow [] run cut = sym (append-nil (made run))
  lists_follow (time ∷ times) run cut =
      split time times run cut ∙ ap (λ l. made (before time run) ++ l) (lists_follow times (since time run) (later_cuts time times run cut))

module _ (value : Run → ℕ) (split : (time : ℕ) (run : Run) → value run ≡ value (before time run) + value (since time run)) where
  pub numbers_add_up : (times : List ℕ) (run : Run) → value run ≡ sum_by value (parts times run)
  numbers_add_up [] run = let one = sum_by-cons value run [] in omega (arith, one)
  numbers_add_up (time ∷ times) run =
      let here = split time run in
      let more = sum_by-cons value (before time run) (parts times (since time run)) in
      let rest = numbers_add_up times (since time run) in
      omega (arith, here, more, rest)

-- ---- runs with their journals

sum_alike : {X : Type 0} (P : X → Type 0) (f g : X → ℕ) (xs : List X) → All P xs → ((x : X) → P x → f x ≡ g x) → sum_by f xs ≡ sum_by g xs
sum_alike P f g [] all same = refl
sum_alike P f g (x ∷ xs) all same =
    let a = sum_by-cons f x xs in
    let b = sum_by-cons g x xs in
    let here = same x (All-head P x xs all) in
    let rest = sum_alike P f g xs (All-tail P x xs all) same in
    omega (arith, a, b, here, rest)

sum_of_runs : (f : Run → ℕ) (cut : List Part) → sum_by (λ (p : Part). f p.run) cut ≡ sum_by f (map (λ (p : Part). p.run) cut)
sum_of_runs f [] = refl
sum_of_runs f (p ∷ cut) =
    let a = sum_by-cons (λ (p : Part). f p.run) p cut in
    let b = sum_by-cons f p.run (map (λ (p : Part). p.run) cut) in
    let rest = sum_of_runs f cut in
    omega (arith, a, b, rest)

all_runs : (P : Run → Type 0) (cut : List Part) → All P (map (λ (p : Part). p.run) cut) → All (λ (p : Part). P p.run) cut
all_runs P [] all = All-nil (λ (p : Part). P p.run)
all_runs P (p ∷ cut) all =
    All-cons (λ (p : Part). P p.run) p cut (All-head P p.run (map (λ (p : Part). p.run) cut) all)
    (all_runs P cut (All-tail P p.run (map (λ (p : Part). p.run) cut) all))

-- ---- the dump of rules

-- The dump of a part has the rules of the whole.
record HasRulesOf (run part : Run) : Type 0 where
  live : live_rules part ≡ live_rules run
  gone : gone_rules part ≡ gone_rules run

-- a dump goes by the rules that are live and those that are gone
lines_alike : (counts : ℕ → RuleCounts) {live live' : List Rule} {gone gone' : List ℕ} → live ≡ live' → gone ≡ gone'
    → flat_map (λ (r : Rule). rule_line_with (counts r.number) r) (in_order live) ++ flat_map (λ rule. gone_line_with (counts rule) rule) gone
    ≡ flat_map (λ (r : Rule). rule_line_with (counts r.number) r) (in_order live') ++ flat_map (λ rule. gone_line_with (counts rule) rule) gone'
lines_alike counts {live' = live'} {gone = gone} same_live same_gone =
    ap (λ l. flat_map (λ (r : Rule). rule_line_with (counts r.number) r) (in_order l) ++ flat_map (λ rule. gone_line_with (counts rule) rule) gone) same_live
    ∙ ap (λ l. flat_map (λ (r : Rule). rule_line_with (counts r.number) r) (in_order live') ++ flat_map (λ rule. gone_line_with (counts rule) rule) l) same_gone

-- ---- a run that is cut

module _ (times : List ℕ) (run : Run) (journals : List Journal) (cut : List Part) (are : AreParts times run journals cut) where
  abbrev IsWellCut : Part → Type 0
  IsWellCut p = HasEditsApart p.run × AreWhole p.run p.journals

  well_cut : All IsWellCut cut
  well_cut =
      let apart = all_runs HasEditsApart cut (subst (All HasEditsApart) (sym are.runs) (all_apart times run are.apart)) in
      λ k d within. (apart k d within, are.each k d within)

  -- a number that a run alone has, and that its journals give
  sums_of_parts : (value : Translation → Frame → ℕ) (by_journals : Run → List Journal → ℕ)
      → ((r : Run) (js : List Journal) → HasEditsApart r → AreWhole r js → by_journals r js ≡ over_run value r)
      → by_journals run journals ≡ sum_by (λ (p : Part). by_journals p.run p.journals) cut
  sums_of_parts value by_journals are_value =
      are_value run journals are.apart are.whole
      ∙ numbers_add_up (over_run value) (over_parts value) times run
      ∙ ap (sum_by (over_run value)) (sym are.runs) ∙ sym (sum_of_runs (over_run value) cut)
      ∙ sum_alike IsWellCut (λ (p : Part). over_run value p.run) (λ (p : Part). by_journals p.run p.journals) cut well_cut
      (λ p is. sym (are_value p.run p.journals is.0 is.1))

  -- the rules of a part are those of the whole
  all_rules : All (λ (p : Part). HasRulesOf run p.run) cut
  all_rules =
      all_runs (HasRulesOf run) cut
      (subst (All (HasRulesOf run)) (sym are.runs)
      (all_same (HasRulesOf run) (λ time r is. (
        record { live = is.live; gone = is.gone },
        record { live = is.live; gone = is.gone },
      )) times run (record { live = refl; gone = refl })))

  counts_are : (rule : ℕ) → counts_of run journals rule ≡ counts_in cut rule
  counts_are rule =
      let counts : ℕ → ℕ → RuleCounts = λ packets bytes. record { packets = packets; bytes = bytes } in
      ap (λ n. counts n (bytes_of run journals rule))
      (sums_of_parts (packets_at rule) (λ r js. packets_of r js rule) (λ r js apart whole. packets_are r js apart whole rule))
      ∙ ap (counts (sum_by (λ (p : Part). packets_of p.run p.journals rule) cut))
      (sums_of_parts (bytes_at rule) (λ r js. bytes_of r js rule) (λ r js apart whole. bytes_are r js apart whole rule))

  pub counts_add_up : CountsAddUp run journals cut
  counts_add_up = record {
    counts = counts_are;
    dump = ap (dump_with run) (fun_ext counts_are);
    dumps = λ k d within.
        let part = slice_index_or cut k d in
        let is = all_rules k d within in
        lines_alike (counts_of part.run part.journals) is.live is.gone;
  }

  pub summaries_add_up : SummariesAddUp run journals cut
  summaries_add_up = record {
    frames = sums_of_parts one (λ r js. frame_count r) (λ r js apart whole. all_frames_are r);
    sent = sums_of_parts sent_at sent_count sent_are;
    dropped = sums_of_parts dropped_at dropped_count dropped_are;
  }

  module _ (may : MayBeCutAt times run) where
    -- a part has the ports of the whole, and tells times as the whole does
    record IsOfRun (r : Run) : Type 0 where
      distinct : IsDistinct nat_eq r.ports
      nanos : is_nanos r ≡ is_nanos run

    all_of_run : All (λ (p : Part). IsOfRun p.run) cut
    all_of_run =
        all_runs IsOfRun cut
        (subst (All IsOfRun) (sym are.runs)
        (all_same IsOfRun (λ time r is. (
          record { distinct = is.distinct; nanos = nanos_before time r.traces ∙ is.nanos },
          record { distinct = is.distinct; nanos = nanos_since time r.traces ∙ is.nanos },
        )) times run (record { distinct = may.ports; nanos = refl })))

    abbrev IsKnown : Part → Type 0
    IsKnown p = (HasEditsApart p.run × AreWhole p.run p.journals) × IsOfRun p.run

    known : All IsKnown cut
    known = λ k d within. (well_cut k d within, all_of_run k d within)

    -- lists that a run alone makes, and those that its journals make
    pub lists_of_parts : {Y : Type 0} (made : Run → List Y) (by_journals : Run → List Journal → List Y)
        → ((time : ℕ) (later : List ℕ) (r : Run) → MayBeCutAt (time ∷ later) r → made r ≡ made (before time r) ++ made (since time r))
        → ((r : Run) (js : List Journal) → IsDistinct nat_eq r.ports → HasEditsApart r → AreWhole r js → by_journals r js ≡ made r)
        → by_journals run journals ≡ flat_map (λ (p : Part). by_journals p.run p.journals) cut
    lists_of_parts made by_journals split are_made =
        are_made run journals may.ports are.apart are.whole
        ∙ lists_follow made split times run may
        ∙ ap (flat_map made) (sym are.runs) ∙ flat_map-map (λ (p : Part). p.run) made cut
        ∙ flat_map_alike IsKnown (λ (p : Part). made p.run) (λ (p : Part). by_journals p.run p.journals) cut known
        (λ p is. sym (are_made p.run p.journals is.1.distinct is.0.0 is.0.1))

    -- ---- files

    records_of : (others : List Part) (frames : Part → List Frame) → All (λ (p : Part). IsOfRun p.run) others
        → flat_map (record_of (is_nanos run)) (flat_map frames others) ≡ flat_map (drop header_length) (map (λ (p : Part). file_of (is_nanos p.run) (frames p)) others)
    records_of [] frames all = refl
    records_of (p ∷ others) frames all =
        let nanos = is_nanos p.run in
        let same = (All-head (λ (p : Part). IsOfRun p.run) p others all).nanos in
        flat_map-append (record_of (is_nanos run)) (frames p) (flat_map frames others)
        ∙ ap (λ n. flat_map (record_of n) (frames p) ++ flat_map (record_of (is_nanos run)) (flat_map frames others)) (sym same)
        ∙ ap (λ l. l ++ flat_map (record_of (is_nanos run)) (flat_map frames others)) (sym (drop_at (header nanos) (flat_map (record_of nanos) (frames p)) header_length (header-length nanos)))
        ∙ ap (λ l. drop header_length (file_of nanos (frames p)) ++ l) (records_of others frames (All-tail (λ (p : Part). IsOfRun p.run) p others all))

    file_joined : (some : List Part) (frames : Part → List Frame) → (r : Run) × ((rs : List Run) × (map (λ (p : Part). p.run) some ≡ r ∷ rs))
        → All (λ (p : Part). IsOfRun p.run) some
        → file_of (is_nanos run) (flat_map frames some) ≡ joined (map (λ (p : Part). file_of (is_nanos p.run) (frames p)) some)
    file_joined [] frames there all = absurd (let none = there.1.1 in cc none)
    file_joined (p ∷ others) frames there all =
        let same = (All-head (λ (p : Part). IsOfRun p.run) p others all).nanos in
        ap (λ l. header (is_nanos run) ++ l)
        (flat_map-append (record_of (is_nanos run)) (frames p) (flat_map frames others)
        ∙ ap (λ l. flat_map (record_of (is_nanos run)) (frames p) ++ l) (records_of others frames (All-tail (λ (p : Part). IsOfRun p.run) p others all)))
        ∙ sym (append_assoc (header (is_nanos run)) (flat_map (record_of (is_nanos run)) (frames p)) (flat_map (drop header_length) (map (λ (p : Part). file_of (is_nanos p.run) (frames p)) others)))
        ∙ ap (λ n. file_of n (frames p) ++ flat_map (drop header_length) (map (λ (p : Part). file_of (is_nanos p.run) (frames p)) others)) (sym same)

    some_part : (times : List ℕ) (r : Run) → (first : Run) × ((rs : List Run) × (parts times r ≡ first ∷ rs))
    some_part [] r = (r, ([], refl))
    some_part (time ∷ times) r = (before time r, (parts times (since time r), refl))

    file_of_parts : (all : List Frame) (frames : Part → List Frame) → all ≡ flat_map frames cut
        → file_of (is_nanos run) all ≡ joined (map (λ (p : Part). file_of (is_nanos p.run) (frames p)) cut)
    file_of_parts all frames is =
        let first = some_part times run in
        ap (file_of (is_nanos run)) is ∙ file_joined cut frames (first.0, (first.1.0, are.runs ∙ first.1.1)) all_of_run

    pub ports_follow : PortsFollow run journals cut
    ports_follow = record {
      frames = of_port;
      files = λ out out_of port. file_of_parts (frames_out run journals port) (λ (p : Part). frames_out p.run p.journals port) (of_port port);
    }
      where
        of_port : (port : ℕ) → frames_out run journals port ≡ flat_map (λ (p : Part). frames_out p.run p.journals port) cut
        of_port port =
            lists_of_parts (λ r. last_frames r port) (λ r js. frames_out r js port) (λ time later r cuts. last_frames_split time r (first_cut time later r cuts) port)
            (λ r js distinct apart whole. frames_are r js distinct apart whole port)

    pub mirrors_follow : MirrorsFollow run journals cut
    mirrors_follow = record {
      frames = of_mirror;
      files = λ out out_of number m. file_of_parts (copies run journals m) (λ (p : Part). copies p.run p.journals m) (of_mirror m);
    }
      where
        of_mirror : (m : Mirror) → copies run journals m ≡ flat_map (λ (p : Part). copies p.run p.journals m) cut
        of_mirror m =
            lists_of_parts (λ r. last_copies r m) (λ r js. copies r js m) (λ time later r cuts. last_copies_split time r (first_cut time later r cuts) m)
            (λ r js distinct apart whole. copies_are r js distinct apart whole m)
