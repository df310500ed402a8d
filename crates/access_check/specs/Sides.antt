-- Which operand of MIN or MAX is the target itself, as the definitions of the access rules have it.
use Rattle.kernel_model.specs.Obeys.{Own, Neither, First, Second}
use Rattle.access_check.specs.declared.sides.OwnSide.{OwnSide}
use Rattle.access_check.specs.declared.sides.OwnSide.TheVariants as side

-- which operand is the target itself
abbrev pub own_of : OwnSide → Own
own_of side.Neither = Neither
own_of (side.First which) = First which
own_of (side.Second which) = Second which
