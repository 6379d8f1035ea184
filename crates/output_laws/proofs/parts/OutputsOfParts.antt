-- What the parts of a run send and copy is together what the whole does.
use Rattle.std.proofs.Common.{◌≡◌, ℕ, ◌+◌, ◌≤◌, List, [], ◌∷◌, ◌++◌, length, map, All, Option, refl, sym, ap, ◌∙◌, arith}
use Rattle.std.specs.Prelude.{Bool, true, false, ◌==◌, ◌||◌, nat_eq, filter}
use Rattle.std.specs.List.{IsDistinct, flat_map, filter_map, cons_option, list_any}
use Rattle.std.proofs.lemmas.List.Concat.{flat_map-append}
use Rattle.std.proofs.lemmas.List.Elements.{All-head, All-tail, filter_map-append}
use Rattle.spec_pcap.specs.Pcap.{Frame, Capture, header_length, header}
use Rattle.spec_actions.specs.declared.action.DpAction.{DpAction}
use Rattle.spec_case.specs.declared.arrival.Arrival.{Arrival}
use Rattle.spec_case.specs.Run.{Run, frames_of, frame_at}
use Rattle.spec_case.specs.Arrivals.{arrivals, in_order}
use Rattle.spec_board.specs.Texts.{Journal}
use Rattle.spec_exec.specs.Sent.{Piece, sent}
use Rattle.spec_input.specs.Mirrors.{Mirror}
use Rattle.spec_run.specs.Journals.{HasEditsApart, AreWhole}
use Rattle.spec_run.specs.Mirrored.{copy_of, copied, copies}
use Rattle.spec_run.specs.Outputs.{sent_to, frames_out}
use Rattle.output_laws.specs.Parts.{trace_until, trace_since, before, since}
use Rattle.output_laws.proofs.parts.Sorted.{moved}
use Rattle.output_laws.proofs.parts.Frames.{IsCutAt, IsIn, count_before, length-before, frame_at-before, frame_at-since, arrivals_of_parts, all_in}
use Rattle.output_laws.proofs.parts.Apart.{by_last, by_last-before, by_last-since}
use Rattle.output_laws.proofs.parts.ByLast.{actions_are}

-- ---- lists made of each element

module _ {X Y : Type 0} (P : X → Type 0) where
  pub flat_map_alike : (f g : X → List Y) (xs : List X) → All P xs → ((x : X) → P x → f x ≡ g x) → flat_map f xs ≡ flat_map g xs
  flat_map_alike f g [] all same = refl
  flat_map_alike f g (x ∷ xs) all same =
      ap (λ l. l ++ flat_map f xs) (same x (All-head P x xs all)) ∙ ap (λ l. g x ++ l) (flat_map_alike f g xs (All-tail P x xs all) same)

  pub filter_map_alike : (f g : X → Option Y) (xs : List X) → All P xs → ((x : X) → P x → f x ≡ g x) → filter_map f xs ≡ filter_map g xs
  filter_map_alike f g [] all same = refl
  filter_map_alike f g (x ∷ xs) all same =
      ap (λ o. cons_option o (filter_map f xs)) (same x (All-head P x xs all))
      ∙ ap (cons_option (g x)) (filter_map_alike f g xs (All-tail P x xs all) same)

module _ {X Y Z : Type 0} (h : X → Y) where
  pub flat_map-map : (f : Y → List Z) (xs : List X) → flat_map f (map h xs) ≡ flat_map (λ x. f (h x)) xs
  flat_map-map f [] = refl
  flat_map-map f (x ∷ xs) = ap (λ l. f (h x) ++ l) (flat_map-map f xs)

  pub filter_map-map : (f : Y → Option Z) (xs : List X) → filter_map f (map h xs) ≡ filter_map (λ x. f (h x)) xs
  filter_map-map f [] = refl
  filter_map-map f (x ∷ xs) = ap (cons_option (f (h x))) (filter_map-map f xs)

-- ---- what is made of each arrival

both : {X : Type 0} (made : Frame → List DpAction → X) {f g : Frame} {a b : List DpAction} → f ≡ g → a ≡ b → made f a ≡ made g b
both made {f = f} {g = g} {a = a} {b = b} e d = ap (λ x. made x a) e ∙ ap (made g) d

-- what a frame with these actions sends at a port, and what a mirror copies of it
abbrev sent_as : ℕ → Frame → List DpAction → List Frame
sent_as port frame actions =
    map (λ (p : Piece). record { time = frame.time; bytes = p.bytes }) (filter (λ (p : Piece). p.port == port) (sent actions frame.bytes))

abbrev copied_as : Mirror → ℕ → Frame → List DpAction → Option Frame
copied_as m port frame actions = copy_of m port frame (sent actions frame.bytes)

module _ (time : ℕ) (run : Run) (cut : IsCutAt time run) where
  abbrev first_come : List Arrival
  first_come = in_order (arrivals (before time run))

  abbrev then_come : List Arrival
  then_come = in_order (arrivals (since time run))

  abbrev as_in_whole : Arrival → Arrival
  as_in_whole = moved (count_before time run)

  abbrev InFirst : Arrival → Type 0
  InFirst a = IsIn (frames_of (before time run)) a

  abbrev InSecond : Arrival → Type 0
  InSecond a = IsIn (frames_of (since time run)) a

  module _ {Y : Type 0} where
    pub flat_map_of_parts : (f first second : Arrival → List Y) → ((a : Arrival) → InFirst a → f a ≡ first a)
        → ((a : Arrival) → InSecond a → f (as_in_whole a) ≡ second a)
        → flat_map f (in_order (arrivals run)) ≡ flat_map first first_come ++ flat_map second then_come
    flat_map_of_parts f first second of_first of_second =
        ap (flat_map f) (arrivals_of_parts time run cut)
        ∙ flat_map-append f first_come (map as_in_whole then_come)
        ∙ ap (λ l. l ++ flat_map f (map as_in_whole then_come)) (flat_map_alike InFirst f first first_come (all_in (before time run) cut.ports) of_first)
        ∙ ap (λ l. flat_map first first_come ++ l)
        (flat_map-map as_in_whole f then_come ∙ flat_map_alike InSecond (λ a. f (as_in_whole a)) second then_come (all_in (since time run) cut.ports) of_second)

    pub filter_map_of_parts : (f first second : Arrival → Option Y) → ((a : Arrival) → InFirst a → f a ≡ first a)
        → ((a : Arrival) → InSecond a → f (as_in_whole a) ≡ second a)
        → filter_map f (in_order (arrivals run)) ≡ filter_map first first_come ++ filter_map second then_come
    filter_map_of_parts f first second of_first of_second =
        ap (filter_map f) (arrivals_of_parts time run cut)
        ∙ filter_map-append f first_come (map as_in_whole then_come)
        ∙ ap (λ l. l ++ filter_map f (map as_in_whole then_come)) (filter_map_alike InFirst f first first_come (all_in (before time run) cut.ports) of_first)
        ∙ ap (λ l. filter_map first first_come ++ l)
        (filter_map-map as_in_whole f then_come ∙ filter_map_alike InSecond (λ a. f (as_in_whole a)) second then_come (all_in (since time run) cut.ports) of_second)

-- ---- what goes out at a port, and what a mirror copies

-- as the last version of each block decides
abbrev last_sent : Run → ℕ → Arrival → List Frame
last_sent run port a = sent_as port (frame_at run a.port a.place) (by_last run a.port a.place).actions

abbrev pub last_frames : Run → ℕ → List Frame
last_frames run port = flat_map (last_sent run port) (in_order (arrivals run))

abbrev last_copied : Run → Mirror → Arrival → Option Frame
last_copied run m a = copied_as m a.port (frame_at run a.port a.place) (by_last run a.port a.place).actions

abbrev pub last_copies : Run → Mirror → List Frame
last_copies run m = filter_map (last_copied run m) (in_order (arrivals run))

module _ (run : Run) (journals : List Journal) (distinct : IsDistinct nat_eq run.ports) (apart : HasEditsApart run) (whole : AreWhole run journals) where
  pub frames_are : (port : ℕ) → frames_out run journals port ≡ last_frames run port
  frames_are port =
      flat_map_alike (IsIn (frames_of run)) (sent_to run journals port) (last_sent run port) (in_order (arrivals run)) (all_in run distinct)
      (λ a is. ap (sent_as port (frame_at run a.port a.place)) (actions_are run journals apart whole a.port a.place is.0 is.1))

  pub copies_are : (m : Mirror) → copies run journals m ≡ last_copies run m
  copies_are m =
      filter_map_alike (IsIn (frames_of run)) (copied run journals m) (last_copied run m) (in_order (arrivals run)) (all_in run distinct)
      (λ a is. ap (copied_as m a.port (frame_at run a.port a.place)) (actions_are run journals apart whole a.port a.place is.0 is.1))

module _ (time : ℕ) (run : Run) (cut : IsCutAt time run) where
  of_first : {X : Type 0} (made : ℕ → Frame → List DpAction → X) (a : Arrival) → IsIn (frames_of (before time run)) a
      → made a.port (frame_at run a.port a.place) (by_last run a.port a.place).actions
      ≡ made a.port (frame_at (before time run) a.port a.place) (by_last (before time run) a.port a.place).actions
  of_first made a is =
      let within : a.place ≤ count_before time run a.port = (let count = length-before time run a.port in omega (arith, is.1, count)) in
      both (made a.port) (sym (frame_at-before time run a.port a.place is.0 within)) (ap (λ t. t.actions) (sym (by_last-before time run a.port a.place is.0 within)))

  of_second : {X : Type 0} (made : ℕ → Frame → List DpAction → X) (a : Arrival) → IsIn (frames_of (since time run)) a
      → made a.port (frame_at run a.port (count_before time run a.port + a.place)) (by_last run a.port (count_before time run a.port + a.place)).actions
      ≡ made a.port (frame_at (since time run) a.port a.place) (by_last (since time run) a.port a.place).actions
  of_second made a is =
      both (made a.port) (sym (frame_at-since time run a.port a.place is.0)) (ap (λ t. t.actions) (sym (by_last-since time run a.port a.place is.0)))

  pub last_frames_split : (port : ℕ) → last_frames run port ≡ last_frames (before time run) port ++ last_frames (since time run) port
  last_frames_split port =
      flat_map_of_parts time run cut (last_sent run port) (last_sent (before time run) port) (last_sent (since time run) port)
      (of_first (λ from. sent_as port)) (of_second (λ from. sent_as port))

  pub last_copies_split : (m : Mirror) → last_copies run m ≡ last_copies (before time run) m ++ last_copies (since time run) m
  last_copies_split m =
      filter_map_of_parts time run cut (last_copied run m) (last_copied (before time run) m) (last_copied (since time run) m)
      (of_first (copied_as m)) (of_second (copied_as m))

-- ---- files

pub nanos_before : (time : ℕ) (traces : List Capture)
    → list_any (λ (t : Capture). t.nanos) (map (trace_until time) traces) ≡ list_any (λ (t : Capture). t.nanos) traces
nanos_before time [] = refl
nanos_before time (t ∷ traces) = ap (λ b. t.nanos || b) (nanos_before time traces)

pub nanos_since : (time : ℕ) (traces : List Capture)
    → list_any (λ (t : Capture). t.nanos) (map (trace_since time) traces) ≡ list_any (λ (t : Capture). t.nanos) traces
nanos_since time [] = refl
nanos_since time (t ∷ traces) = ap (λ b. t.nanos || b) (nanos_since time traces)

pub header-length : (nanos : Bool) → length (header nanos) ≡ header_length
unfolding header
header-length true = refl
header-length false = refl
