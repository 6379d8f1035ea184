-- Lists that are seen through a view.
use Rattle.std.proofs.Common.{◌≡◌, List, [], ◌∷◌, suc, length, map, refl, ap}
use Rattle.std.specs.Prelude.{nat_eq}
use Rattle.std.specs.List.{IsDistinct}
use Rattle.command_words.specs.declared.ports.PortWord.{PortWord}
use Rattle.command_words.specs.PortViews.{ports_view, ports_said}

-- the ports of words, without their view
pub ports_in_view : (ports : List PortWord) → ports_said (ports_view ports) ≡ map (λ (w : PortWord). w.port) ports
ports_in_view [] = refl
ports_in_view (w ∷ ports) = ap (λ ps. w.port ∷ ps) (ports_in_view ports)

pub four_differ : IsDistinct nat_eq (1 ∷ 2 ∷ 3 ∷ 4 ∷ [])
unfolding IsDistinct
four_differ = ((refl, (refl, (refl, tt))), ((refl, (refl, tt)), ((refl, tt), (tt, tt))))

-- how many ports there are
pub count_said : (ports : List PortWord) → length (ports_said (ports_view ports)) ≡ length ports
count_said [] = refl
count_said (w ∷ ports) = ap suc (count_said ports)
