-- Worked rows: a few arrivals and their order.
use Rattle.std.specs.Prelude.{◌≡◌, ℕ, [], ◌∷◌, refl}
use Rattle.spec_case.specs.declared.arrival.Arrival.{Arrival}
use Rattle.spec_base.specs.Sorting.{insert_by, sort_by}
use Rattle.spec_case.specs.Arrivals.{in_order}

abbrev at : ℕ → ℕ → ℕ → Arrival
at time port place = record { time = time; port = port; place = place }

times_rise : in_order (at 3 1 1 ∷ at 1 1 2 ∷ at 2 1 3 ∷ []) ≡ at 1 1 2 ∷ at 2 1 3 ∷ at 3 1 1 ∷ []
unfolding sort_by insert_by
times_rise = refl

ports_rise_at_equal_times : in_order (at 5 2 1 ∷ at 5 1 1 ∷ []) ≡ at 5 1 1 ∷ at 5 2 1 ∷ []
unfolding sort_by insert_by
ports_rise_at_equal_times = refl

places_rise_at_equal_times_on_one_port : in_order (at 5 1 2 ∷ at 5 1 1 ∷ []) ≡ at 5 1 1 ∷ at 5 1 2 ∷ []
unfolding sort_by insert_by
places_rise_at_equal_times_on_one_port = refl

time_outweighs_port : in_order (at 2 1 1 ∷ at 1 2 1 ∷ []) ≡ at 1 2 1 ∷ at 2 1 1 ∷ []
unfolding sort_by insert_by
time_outweighs_port = refl

port_outweighs_place : in_order (at 5 2 1 ∷ at 5 1 2 ∷ []) ≡ at 5 1 2 ∷ at 5 2 1 ∷ []
unfolding sort_by insert_by
port_outweighs_place = refl

what_is_in_order_stays : in_order (at 1 2 1 ∷ at 4 1 1 ∷ at 4 2 2 ∷ []) ≡ at 1 2 1 ∷ at 4 1 1 ∷ at 4 2 2 ∷ []
unfolding sort_by insert_by
what_is_in_order_stays = refl
