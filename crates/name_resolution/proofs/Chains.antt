-- Chains of binary operators, outermost first, over the leftmost operand.
use Rattle.std.proofs.Common.{◌≡◌, List, [], ◌∷◌, ◌++◌, refl, ap}
use Rattle.name_resolution.specs.declared.expressions.Operation.{Operation}
use Rattle.name_resolution.specs.Numbers.{ExprFits}
use Rattle.kernel_model.specs.View.{RExprTree, Binary, rexpr_of}

abbrev pub over : List Operation → RExprTree → RExprTree
over [] r = r
over (o ∷ os) r = Binary o.op (over os r) (rexpr_of o.right.value) o.at

pub over_push : (os : List Operation) (o : Operation) (r : RExprTree) → over (os ++ o ∷ []) r ≡ over os (Binary o.op r (rexpr_of o.right.value) o.at)
over_push [] o r = refl
over_push (p ∷ os) o r = ap (λ l. Binary p.op l (rexpr_of p.right.value) p.at) (over_push os o r)

-- the numbers of the right operands are of their machine types
abbrev pub AllFit : List Operation → Type 0
AllFit [] = Unit {0}
AllFit (o ∷ os) = ExprFits (rexpr_of o.right.value) × AllFit os

pub fits_push : (os : List Operation) (o : Operation) → AllFit os → ExprFits (rexpr_of o.right.value) → AllFit (os ++ o ∷ [])
fits_push [] o h w = (w, tt)
fits_push (p ∷ os) o h w = (h.0, fits_push os o h.1 w)

pub fits_pop : (os : List Operation) (o : Operation) → AllFit (os ++ o ∷ []) → AllFit os × ExprFits (rexpr_of o.right.value)
fits_pop [] o h = (tt, h.0)
fits_pop (p ∷ os) o h = let k = fits_pop os o h.1 in ((h.0, k.0), k.1)
