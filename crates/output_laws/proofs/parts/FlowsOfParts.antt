-- The packets of a class in the parts of a run are those in the whole.
use Rattle.std.proofs.Common.{◌≡◌, ℕ, ◌+◌, ◌≤◌, Bool, true, false, if◌then◌else◌, List, [], ◌∷◌, ◌++◌, length, map, refl, sym, ap, ◌∙◌, arith}
use Rattle.std.specs.List.{flat_map, sum_by, sum}
use Rattle.std.proofs.lemmas.List.{map-append, length-map}
use Rattle.std.proofs.Math.Path.{fun_ext}
use Rattle.std.proofs.lemmas.List.Concat.{length-flat_map}
use Rattle.std.proofs.lemmas.List.Elements.{filter-append}
use Rattle.std.proofs.lemmas.List.Sums.{sum_by-cons, sum_by-append, sum-map}
use Rattle.spec_pcap.specs.Pcap.{Frame}
use Rattle.spec_actions.specs.declared.action.DpAction.{DpAction}
use Rattle.spec_frames.specs.declared.layout.L3.{L3}
use Rattle.spec_frames.specs.declared.layout.L3.TheVariants as network
use Rattle.spec_frames.specs.Layout.{layout_of}
use Rattle.spec_case.specs.declared.arrival.Arrival.{Arrival}
use Rattle.spec_case.specs.Run.{Run, frame_at}
use Rattle.spec_netflow.specs.Flows.{Decided, Flow, came_in, uptime, alone, if_ipv4, packet_of, packets, is_of, of_class, flows_of, packet_sum, octet_sum}
use Rattle.spec_board.specs.Texts.{Journal}
use Rattle.spec_run.specs.Journals.{actions_for}
use Rattle.output_laws.specs.Parts.{before, since, MayBeCutAt}
use Rattle.output_laws.specs.Laws.{Part, AreParts, class_packets, class_octets, FlowsAddUp}
use Rattle.output_laws.proofs.parts.Frames.{IsCutAt, first_cut, count_before, length-before, frame_at-before, frame_at-since}
use Rattle.output_laws.proofs.parts.OutputsOfParts.{flat_map_of_parts}
use Rattle.output_laws.proofs.parts.EachOnce.{sum_alike}
use Rattle.output_laws.proofs.parts.AllParts.{lists_of_parts}

module _ (class : List ℕ) (value : Frame → Flow → ℕ)
    (alike : (frame : Frame) (a b : List DpAction) (port u v at : ℕ) → value frame (alone a port u frame.bytes at) ≡ value frame (alone b port v frame.bytes at)) where
  -- what each packet of the class has, by its frame and by what is told of it alone
  abbrev of_frame : Frame → List Flow → List ℕ
  of_frame frame flows = map (value frame) (of_class class flows)

  abbrev of_arrival : Run → Decided → Arrival → List ℕ
  of_arrival run decided a = of_frame (frame_at run a.port a.place) (packet_of run decided a)

  abbrev pub measured : Run → Decided → List ℕ
  measured run decided = flat_map (of_arrival run decided) (came_in run)

  -- it depends neither on what was decided of the frame nor on the time of the first frame
  same_header : (frame : Frame) (a b : List DpAction) (port u v : ℕ) (l3 : L3)
      → of_frame frame (if_ipv4 (alone a port u frame.bytes) l3) ≡ of_frame frame (if_ipv4 (alone b port v frame.bytes) l3)
  same_header frame a b port u v network.None = refl
  same_header frame a b port u v (network.Arp at) = refl
  same_header frame a b port u v (network.Ipv6 at) = refl
  same_header frame a b port u v (network.Ipv4 at) = by_class (is_of class (alone a port u frame.bytes at))
    where
      by_class : (t : Bool)
          → map (value frame) (if t then alone a port u frame.bytes at ∷ [] else [])
          ≡ map (value frame) (if t then alone b port v frame.bytes at ∷ [] else [])
      by_class true = ap (λ n. n ∷ []) (alike frame a b port u v at)
      by_class false = refl

  -- that of the frame that a part has, in the part and in the whole
  abbrev of_packet : Frame → List DpAction → ℕ → ℕ → List ℕ
  of_packet frame actions port first = of_frame frame (if_ipv4 (alone actions port first frame.bytes) (layout_of frame.bytes).l3)

  module _ (time : ℕ) (run : Run) (cut : IsCutAt time run) (all first second : Decided) where
    pub measured_split : measured run all ≡ measured (before time run) first ++ measured (since time run) second
    measured_split =
        flat_map_of_parts time run cut (of_arrival run all) (of_arrival (before time run) first) (of_arrival (since time run) second)
        (λ a is.
        let within : a.place ≤ count_before time run a.port = (let count = length-before time run a.port in omega (arith, is.1, count)) in
        let place = a.place in
        ap (λ f. of_packet f (all a.port place) a.port (uptime run f.time)) (sym (frame_at-before time run a.port a.place is.0 within))
        ∙ same_header (frame_at (before time run) a.port a.place) (all a.port place) (first a.port a.place) a.port _ _ (layout_of (frame_at (before time run) a.port a.place).bytes).l3)
        (λ a is.
        let place = count_before time run a.port + a.place in
        ap (λ f. of_packet f (all a.port place) a.port (uptime run f.time)) (sym (frame_at-since time run a.port a.place is.0))
        ∙ same_header (frame_at (since time run) a.port a.place) (all a.port place) (second a.port a.place) a.port _ _ (layout_of (frame_at (since time run) a.port a.place).bytes).l3)

  -- whatever was decided
  pub measured_same : (run : Run) (a b : Decided) → measured run a ≡ measured run b
  measured_same run a b =
      ap (λ (f : Arrival → List ℕ). flat_map f (came_in run))
      (fun_ext (λ x. let frame = frame_at run x.port x.place in
      same_header frame (a x.port x.place) (b x.port x.place) x.port (uptime run frame.time) (uptime run frame.time) (layout_of frame.bytes).l3))

-- ---- counts

module _ (class : List ℕ) (value : Flow → ℕ) (run : Run) (decided : Decided) where
  pub measured-packets : (came : List Arrival)
      → map value (of_class class (flat_map (packet_of run decided) came)) ≡ flat_map (λ a. map value (of_class class (packet_of run decided a))) came
  measured-packets [] = refl
  measured-packets (a ∷ came) =
      ap (map value) (filter-append (is_of class) (packet_of run decided a) (flat_map (packet_of run decided) came))
      ∙ map-append value (of_class class (packet_of run decided a)) (of_class class (flat_map (packet_of run decided) came))
      ∙ ap (λ l. map value (of_class class (packet_of run decided a)) ++ l) (measured-packets came)

-- the octets of each packet of a class
abbrev pub octets_each : Run → Decided → List ℕ → List ℕ
octets_each run decided class = measured class (λ frame (f : Flow). f.told.octets) (λ frame a b port u v at. refl) run decided

pub octets_are : (run : Run) (decided : Decided) (class : List ℕ)
    → octet_sum (of_class class (packets run decided)) ≡ sum (octets_each run decided class)
octets_are run decided class =
    sym (sum-map (λ (f : Flow). f.told.octets) (of_class class (packets run decided)))
    ∙ ap sum (measured-packets class (λ (f : Flow). f.told.octets) run decided (came_in run))

pub count_is : (run : Run) (decided : Decided) (class : List ℕ)
    → length (of_class class (packets run decided)) ≡ length (octets_each run decided class)
count_is run decided class =
    sym (length-map (of_class class (packets run decided)) (λ (f : Flow). f.told.octets))
    ∙ ap length (measured-packets class (λ (f : Flow). f.told.octets) run decided (came_in run))

abbrev nothing : Decided
nothing port place = []

-- ---- the parts together

sum-flat_map : {X : Type 0} (f : X → List ℕ) (xs : List X) → sum (flat_map f xs) ≡ sum_by (λ x. sum (f x)) xs
sum-flat_map f [] = refl
sum-flat_map f (x ∷ xs) =
    let a = sum_by-append (λ n. n) (f x) (flat_map f xs) in
    let b = sum_by-cons (λ x. sum (f x)) x xs in
    let rest = sum-flat_map f xs in
    omega (arith, a, b, rest)

module _ (times : List ℕ) (run : Run) (journals : List Journal) (cut : List Part) (are : AreParts times run journals cut) (may : MayBeCutAt times run) (class : List ℕ) where
  -- what each packet of the class has
  of_parts : (value : Frame → Flow → ℕ) (alike : (frame : Frame) (a b : List DpAction) (port u v at : ℕ) → value frame (alone a port u frame.bytes at) ≡ value frame (alone b port v frame.bytes at))
      → measured class value alike run (actions_for run journals) ≡ flat_map (λ (p : Part). measured class value alike p.run (actions_for p.run p.journals)) cut
  of_parts value alike =
      lists_of_parts times run journals cut are may (λ r. measured class value alike r nothing) (λ r js. measured class value alike r (actions_for r js))
      (λ time later r cuts. measured_split class value alike time r (first_cut time later r cuts) nothing nothing nothing)
      (λ r js distinct apart whole. measured_same class value alike r (actions_for r js) nothing)

  octets_of_parts : octets_each run (actions_for run journals) class
      ≡ flat_map (λ (p : Part). octets_each p.run (actions_for p.run p.journals) class) cut
  octets_of_parts = of_parts (λ frame (f : Flow). f.told.octets) (λ frame a b port u v at. refl)

  module _ (counted : (run : Run) (decided : Decided) (class : List ℕ) → packet_sum (of_class class (flows_of (packets run decided))) ≡ length (of_class class (packets run decided)))
      (summed : (run : Run) (decided : Decided) (class : List ℕ) → octet_sum (of_class class (flows_of (packets run decided))) ≡ octet_sum (of_class class (packets run decided))) where
    packets_by : (r : Run) (js : List Journal) → class_packets r js class ≡ length (octets_each r (actions_for r js) class)
    packets_by r js = counted r (actions_for r js) class ∙ count_is r (actions_for r js) class

    octets_by : (r : Run) (js : List Journal) → class_octets r js class ≡ sum (octets_each r (actions_for r js) class)
    octets_by r js = summed r (actions_for r js) class ∙ octets_are r (actions_for r js) class

    pub flows_add_up : FlowsAddUp run journals cut class
    flows_add_up = record {
      packet_sums =
          packets_by run journals ∙ ap length octets_of_parts
          ∙ length-flat_map (λ (p : Part). octets_each p.run (actions_for p.run p.journals) class) cut
          ∙ sum_alike (λ (p : Part). length (octets_each p.run (actions_for p.run p.journals) class)) (λ (p : Part). class_packets p.run p.journals class) cut (λ p. sym (packets_by p.run p.journals));
      octet_sums =
          octets_by run journals ∙ ap sum octets_of_parts
          ∙ sum-flat_map (λ (p : Part). octets_each p.run (actions_for p.run p.journals) class) cut
          ∙ sum_alike (λ (p : Part). sum (octets_each p.run (actions_for p.run p.journals) class)) (λ (p : Part). class_octets p.run p.journals class) cut (λ p. sym (octets_by p.run p.journals));
      times = of_parts (λ frame f. frame.time) (λ frame a b port u v at. refl);
    }
