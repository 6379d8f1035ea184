-- The flows of a class begin with its first packet and end with its last one.
use Rattle.std.proofs.Common.{◌≡◌, ℕ, ◌⊎◌, Bool, true, false, ◌&&◌, if◌then◌else◌, List, [], ◌∷◌, ◌++◌, map, Option, Some, None, refl, sym, ap, ◌∙◌, inl, inr}
use Rattle.std.specs.Prelude.{fold, not, ◌||◌}
use Rattle.std.specs.List.{flat_map, list_any, last_or}
use Rattle.std.specs.Option.{option_map, option_or}
use Rattle.std.proofs.lemmas.Bool.{cases_Bool, and_parts, cond-true, cond-false, not-true}
use Rattle.std.proofs.lemmas.List.{map-append}
use Rattle.std.proofs.lemmas.List.Elements.{filter-append}
use Rattle.spec_keys.specs.Keys.{same}
use Rattle.spec_frames.specs.declared.layout.L3.{L3}
use Rattle.spec_frames.specs.declared.layout.L3.TheVariants as network
use Rattle.spec_frames.specs.Layout.{layout_of}
use Rattle.spec_case.specs.declared.arrival.Arrival.{Arrival}
use Rattle.spec_case.specs.Run.{Run, frame_at}
use Rattle.spec_netflow.specs.Flows.{Decided, Flow, came_in, uptime, alone, if_ipv4, packet_of, packets, joined, is_of, has_room, takes, with_packet, of_class}
use Rattle.ovs_fields.specs.Equality.{equal_from_same}
use Rattle.output_laws.specs.Classes.{time_in, class_times, first_of, last_of, TellTimes}

-- a flow with one more packet
abbrev more : Flow → Flow → Flow
more f p = record f { told = joined f.told p.told }

-- ---- what may be missing

or_none : {A : Type 0} (o : Option A) → option_or o None ≡ o
or_none None = refl
or_none (Some x) = refl

or_some : {A : Type 0} (o p : Option A) (x : A) → option_or (option_or o (Some x)) p ≡ option_or o (Some x)
or_some None p x = refl
or_some (Some y) p x = refl

module _ {A B : Type 0} (f : A → B) where
  first-map : (xs : List A) → first_of (map f xs) ≡ option_map f (first_of xs)
  first-map [] = refl
  first-map (x ∷ xs) = refl

  last-map : (o : Option A) (xs : List A) → last_or (option_map f o) (map f xs) ≡ option_map f (last_or o xs)
  last-map o [] = refl
  last-map o (x ∷ xs) = last-map (Some x) xs

  -- the last of more elements is the last of these, or else the first of all
  last-cons : (x : A) (xs : List A) → option_map f (last_or (Some x) xs) ≡ option_or (option_map f (last_or None xs)) (Some (f x))
  last-cons x [] = refl
  last-cons x (y ∷ xs) =
      last-cons y xs ∙ sym (or_some (option_map f (last_or None xs)) (Some (f x)) (f y)) ∙ ap (λ o. option_or o (Some (f x))) (sym (last-cons y xs))

-- ---- flows of a class

module _ (class : List ℕ) where
  abbrev these : List Flow → List Flow
  these flows = of_class class flows

  -- when the first of them begins, and the last one ends
  abbrev begin : List Flow → Option ℕ
  begin flows = option_map (λ (f : Flow). f.told.first) (first_of (these flows))

  abbrev ends : List Flow → Option ℕ
  ends flows = option_map (λ (f : Flow). f.told.last) (last_of (these flows))

  these-yes : (f : Flow) (fs : List Flow) → is_of class f ≡ true → these (f ∷ fs) ≡ f ∷ these fs
  these-yes f fs is = cond-true (is_of class f) _ _ is

  these-no : (f : Flow) (fs : List Flow) → is_of class f ≡ false → these (f ∷ fs) ≡ these fs
  these-no f fs is = cond-false (is_of class f) _ _ is

  begin-yes : (f : Flow) (fs : List Flow) → is_of class f ≡ true → begin (f ∷ fs) ≡ Some f.told.first
  begin-yes f fs is = ap (λ l. option_map (λ (f : Flow). f.told.first) (first_of l)) (these-yes f fs is)

  begin-no : (f : Flow) (fs : List Flow) → is_of class f ≡ false → begin (f ∷ fs) ≡ begin fs
  begin-no f fs is = ap (λ l. option_map (λ (f : Flow). f.told.first) (first_of l)) (these-no f fs is)

  ends-yes : (f : Flow) (fs : List Flow) → is_of class f ≡ true → ends (f ∷ fs) ≡ option_or (ends fs) (Some f.told.last)
  ends-yes f fs is =
      ap (λ l. option_map (λ (f : Flow). f.told.last) (last_of l)) (these-yes f fs is) ∙ last-cons (λ (f : Flow). f.told.last) f (these fs)

  ends-no : (f : Flow) (fs : List Flow) → is_of class f ≡ false → ends (f ∷ fs) ≡ ends fs
  ends-no f fs is = ap (λ l. option_map (λ (f : Flow). f.told.last) (last_of l)) (these-no f fs is)

  none_these : (fs : List Flow) → list_any (is_of class) fs ≡ false → these fs ≡ []
  none_these [] none = refl
  none_these (f ∷ fs) none = at (is_of class f) refl none (none_these fs)
    where
      at : (t : Bool) → is_of class f ≡ t → (t || list_any (is_of class) fs) ≡ false → (list_any (is_of class) fs ≡ false → these fs ≡ [])
          → these (f ∷ fs) ≡ []
      at true is none others = absurd (cc none)
      at false is none others = these-no f fs is ∙ others none

  module _ (p : Flow) where
    -- a packet of another class changes nothing
    others_stay : is_of class p ≡ false → (fs : List Flow) → these (with_packet fs p) ≡ these fs
    unfolding with_packet
    others_stay other [] = these-no p [] other
    others_stay other (f ∷ fs) = at (takes f fs p) refl (others_stay other fs)
      where
        taken_not : takes f fs p ≡ true → is_of class f ≡ false
        taken_not is =
            let alike : f.class ≡ p.class = equal_from_same f.class p.class (and_parts (is_of p.class f) (not (list_any (is_of p.class) fs) && has_room f p) is).0 in
            ap (λ (c : List ℕ). same c class) alike ∙ other

        at : (t : Bool) → takes f fs p ≡ t → these (with_packet fs p) ≡ these fs
            → these (if t then more f p ∷ fs else f ∷ with_packet fs p) ≡ these (f ∷ fs)
        at true is so = these-no (more f p) fs (taken_not is) ∙ sym (these-no f fs (taken_not is))
        at false is so = ap (λ l. if is_of class f then f ∷ l else l) so

    module _ (of_it : is_of class p ≡ true) where
      class_is : p.class ≡ class
      class_is = equal_from_same p.class class of_it

      -- what a flow that takes the packet is, and those after it
      taken : (f : Flow) (fs : List Flow) → takes f fs p ≡ true → (is_of class f ≡ true) × (these fs ≡ [])
      taken f fs is =
          let parts = and_parts (is_of p.class f) (not (list_any (is_of p.class) fs) && has_room f p) is in
          let newest = and_parts (not (list_any (is_of p.class) fs)) (has_room f p) parts.1 in (
            ap (same f.class) (sym class_is) ∙ parts.0,
            none_these fs (ap (λ (c : List ℕ). list_any (is_of c) fs) (sym class_is) ∙ not-true (list_any (is_of p.class) fs) newest.0),
          )

      first_more : (fs : List Flow) → begin (with_packet fs p) ≡ option_or (begin fs) (Some p.told.first)
      unfolding with_packet
      first_more [] = begin-yes p [] of_it
      first_more (f ∷ fs) = at (takes f fs p) refl (cases_Bool (is_of class f)) (first_more fs)
        where
          at : (t : Bool) → takes f fs p ≡ t → (is_of class f ≡ true) ⊎ (is_of class f ≡ false)
              → begin (with_packet fs p) ≡ option_or (begin fs) (Some p.told.first)
              → begin (if t then more f p ∷ fs else f ∷ with_packet fs p) ≡ option_or (begin (f ∷ fs)) (Some p.told.first)
          at true is cases so =
              begin-yes (more f p) fs (taken f fs is).0 ∙ ap (λ o. option_or o (Some p.told.first)) (sym (begin-yes f fs (taken f fs is).0))
          at false is (inl it) so = begin-yes f (with_packet fs p) it ∙ ap (λ o. option_or o (Some p.told.first)) (sym (begin-yes f fs it))
          at false is (inr other) so =
              begin-no f (with_packet fs p) other ∙ so ∙ ap (λ o. option_or o (Some p.told.first)) (sym (begin-no f fs other))

      last_now : (fs : List Flow) → ends (with_packet fs p) ≡ Some p.told.last
      unfolding with_packet
      last_now [] = ends-yes p [] of_it
      last_now (f ∷ fs) = at (takes f fs p) refl (cases_Bool (is_of class f)) (last_now fs)
        where
          at : (t : Bool) → takes f fs p ≡ t → (is_of class f ≡ true) ⊎ (is_of class f ≡ false) → ends (with_packet fs p) ≡ Some p.told.last
              → ends (if t then more f p ∷ fs else f ∷ with_packet fs p) ≡ Some p.told.last
          at true is cases so =
              ends-yes (more f p) fs (taken f fs is).0
              ∙ ap (λ l. option_or (option_map (λ (f : Flow). f.told.last) (last_of l)) (Some p.told.last)) (taken f fs is).1
          at false is (inl it) so = ends-yes f (with_packet fs p) it ∙ ap (λ o. option_or o (Some f.told.last)) so
          at false is (inr other) so = ends-no f (with_packet fs p) other ∙ so

  -- ---- all packets

  begin_all : (ps fs : List Flow) → begin (fold with_packet fs ps) ≡ option_or (begin fs) (begin ps)
  begin_all [] fs = sym (or_none (begin fs))
  begin_all (p ∷ ps) fs = begin_all ps (with_packet fs p) ∙ at (cases_Bool (is_of class p))
    where
      at : (is_of class p ≡ true) ⊎ (is_of class p ≡ false) → option_or (begin (with_packet fs p)) (begin ps) ≡ option_or (begin fs) (begin (p ∷ ps))
      at (inl is) =
          ap (λ o. option_or o (begin ps)) (first_more p is fs) ∙ or_some (begin fs) (begin ps) p.told.first
          ∙ ap (option_or (begin fs)) (sym (begin-yes p ps is))
      at (inr other) =
          ap (λ l. option_or (option_map (λ (f : Flow). f.told.first) (first_of l)) (begin ps)) (others_stay p other fs)
          ∙ ap (option_or (begin fs)) (sym (begin-no p ps other))

  ends_all : (ps fs : List Flow) → ends (fold with_packet fs ps) ≡ option_or (ends ps) (ends fs)
  ends_all [] fs = refl
  ends_all (p ∷ ps) fs = ends_all ps (with_packet fs p) ∙ at (cases_Bool (is_of class p))
    where
      at : (is_of class p ≡ true) ⊎ (is_of class p ≡ false) → option_or (ends ps) (ends (with_packet fs p)) ≡ option_or (ends (p ∷ ps)) (ends fs)
      at (inl is) =
          ap (option_or (ends ps)) (last_now p is fs) ∙ sym (or_some (ends ps) (ends fs) p.told.last)
          ∙ ap (λ o. option_or o (ends fs)) (sym (ends-yes p ps is))
      at (inr other) =
          ap (λ l. option_or (ends ps) (option_map (λ (f : Flow). f.told.last) (last_of l))) (others_stay p other fs)
          ∙ ap (λ o. option_or o (ends fs)) (sym (ends-no p ps other))

  -- ---- the packets of a run

  module _ (run : Run) (decided : Decided) where
    of_one : (f : Flow) (time : ℕ) → f.told.first ≡ uptime run time → f.told.last ≡ uptime run time
        → (map (λ (f : Flow). f.told.first) (these (f ∷ [])) ≡ map (uptime run) (map (λ (f : Flow). time) (these (f ∷ []))))
        × (map (λ (f : Flow). f.told.last) (these (f ∷ [])) ≡ map (uptime run) (map (λ (f : Flow). time) (these (f ∷ []))))
    of_one f time first last = at (is_of class f)
      where
        at : (t : Bool)
            → (map (λ (f : Flow). f.told.first) (if t then f ∷ [] else []) ≡ map (uptime run) (map (λ (f : Flow). time) (if t then f ∷ [] else [])))
            × (map (λ (f : Flow). f.told.last) (if t then f ∷ [] else []) ≡ map (uptime run) (map (λ (f : Flow). time) (if t then f ∷ [] else [])))
        at true = (ap (λ n. n ∷ []) first, ap (λ n. n ∷ []) last)
        at false = (refl, refl)

    abbrev of_frame : Arrival → L3 → List Flow
    of_frame a l3 =
        let frame = frame_at run a.port a.place in
        if_ipv4 (alone (decided a.port a.place) a.port (uptime run frame.time) frame.bytes) l3

    of_arrival : (a : Arrival) (l3 : L3)
        → (map (λ (f : Flow). f.told.first) (these (of_frame a l3)) ≡ map (uptime run) (map (λ (f : Flow). (frame_at run a.port a.place).time) (these (of_frame a l3))))
        × (map (λ (f : Flow). f.told.last) (these (of_frame a l3)) ≡ map (uptime run) (map (λ (f : Flow). (frame_at run a.port a.place).time) (these (of_frame a l3))))
    of_arrival a network.None = (refl, refl)
    of_arrival a (network.Arp at) = (refl, refl)
    of_arrival a (network.Ipv6 at) = (refl, refl)
    of_arrival a (network.Ipv4 at) =
        of_one (alone (decided a.port a.place) a.port (uptime run (frame_at run a.port a.place).time) (frame_at run a.port a.place).bytes at) (frame_at run a.port a.place).time refl refl

    module _ (value : Flow → ℕ)
        (same : (a : Arrival) → map value (these (packet_of run decided a)) ≡ map (uptime run) (time_in run decided class a)) where
      of_arrivals : (came : List Arrival)
          → map value (these (flat_map (packet_of run decided) came)) ≡ map (uptime run) (flat_map (time_in run decided class) came)
      of_arrivals [] = refl
      of_arrivals (a ∷ came) =
          ap (map value) (filter-append (is_of class) (packet_of run decided a) (flat_map (packet_of run decided) came))
          ∙ map-append value (these (packet_of run decided a)) (these (flat_map (packet_of run decided) came))
          ∙ ap (λ l. l ++ map value (these (flat_map (packet_of run decided) came))) (same a)
          ∙ ap (λ l. map (uptime run) (time_in run decided class a) ++ l) (of_arrivals came)
          ∙ sym (map-append (uptime run) (time_in run decided class a) (flat_map (time_in run decided class) came))

    pub tell_times : TellTimes run decided class
    tell_times = record {
      first =
          begin_all (packets run decided) []
          ∙ sym (first-map (λ (f : Flow). f.told.first) (these (packets run decided)))
          ∙ ap first_of (of_arrivals (λ (f : Flow). f.told.first) (λ a. (of_arrival a (layout_of (frame_at run a.port a.place).bytes).l3).0) (came_in run))
          ∙ first-map (uptime run) (class_times run decided class);
      last =
          ends_all (packets run decided) []
          ∙ or_none (ends (packets run decided))
          ∙ sym (last-map (λ (f : Flow). f.told.last) None (these (packets run decided)))
          ∙ ap last_of (of_arrivals (λ (f : Flow). f.told.last) (λ a. (of_arrival a (layout_of (frame_at run a.port a.place).bytes).l3).1) (came_in run))
          ∙ last-map (uptime run) None (class_times run decided class);
    }
