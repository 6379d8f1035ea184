-- The flows of a class (spec_netflow): when its packets came in, and what its flows tell of that.
use Rattle.std.specs.Prelude.{◌≡◌, ℕ, List, [], ◌∷◌, map, Option, Some, None}
use Rattle.std.specs.List.{flat_map, last_or}
use Rattle.std.specs.Option.{option_map}
use Rattle.spec_case.specs.declared.arrival.Arrival.{Arrival}
use Rattle.spec_case.specs.Run.{Run, frame_at}
use Rattle.spec_netflow.specs.Flows.{Decided, Flow, came_in, uptime, packet_of, packets, flows_of, of_class}

-- the time at which a frame came in, if it is a packet of a class
abbrev pub time_in : Run → Decided → List ℕ → Arrival → List ℕ
time_in run decided class a =
    map (λ (f : Flow). (frame_at run a.port a.place).time) (of_class class (packet_of run decided a))

-- when the packets of a class came in, in order
abbrev pub class_times : Run → Decided → List ℕ → List ℕ
class_times run decided class = flat_map (time_in run decided class) (came_in run)

abbrev pub first_of : {A : Type 0} → List A → Option A
first_of [] = None
first_of (x ∷ xs) = Some x

abbrev pub last_of : {A : Type 0} → List A → Option A
last_of xs = last_or None xs

-- The first flow of a class begins with its first packet, and the last one ends with its last.
pub record TellTimes (run : Run) (decided : Decided) (class : List ℕ) : Type 0 where
  pub first : option_map (λ (f : Flow). f.told.first) (first_of (of_class class (flows_of (packets run decided))))
      ≡ option_map (uptime run) (first_of (class_times run decided class))
  pub last : option_map (λ (f : Flow). f.told.last) (last_of (of_class class (flows_of (packets run decided))))
      ≡ option_map (uptime run) (last_of (class_times run decided class))
