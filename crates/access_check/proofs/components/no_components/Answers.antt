use Rattle.std.proofs.Common.{refl, [], ◌∷◌}
use Rattle.access_check.specs.States.{has_component}
use Rattle.access_check.proofs.Bits.{zeros_have_none}
use Rattle.access_check.proofs.components.no_components.Goals as goal

pub returns : goal.returns
unfolding has_component
returns c = zeros_have_none (0 ∷ 0 ∷ 0 ∷ 0 ∷ 0 ∷ 0 ∷ 0 ∷ 0 ∷ 0 ∷ 0 ∷ 0 ∷ 0 ∷ 0 ∷ 0 ∷ 0 ∷ 0 ∷ [])
    (refl, (refl, (refl, (refl, (refl, (refl, (refl, (refl, (refl, (refl, (refl, (refl, (refl, (refl, (refl, (refl, tt))))))))))))))))
