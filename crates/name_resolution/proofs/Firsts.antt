-- The first of two lists of breaches, one behind the other.
use Rattle.std.proofs.Common.{◌≡◌, List, [], ◌∷◌, ◌++◌, Option, refl}
use Rattle.name_resolution.specs.declared.breaches.Breach.{Breach}
use Rattle.name_resolution.specs.First.{earlier, least_from}

pub least_append : (f : Option Breach) (a b : List Breach) → least_from f (a ++ b) ≡ least_from (least_from f a) b
least_append f [] b = refl
least_append f (x ∷ a) b = least_append (earlier f x) a b
