-- The values that are told, as a stack.
use Rattle.std.proofs.Common.{◌≡◌, ℤ, ◌≤◌, List, [], ◌∷◌, ◌++◌, take, length, Option, Some, None, refl, sym, ap, ◌∙◌, arith, length-append}
use Rattle.std.proofs.lemmas.List.{take-take}
use Rattle.bound_program.specs.Trace.{number, one_more, after}
use Rattle.bound_program.specs.Steps.{Step, Do, Loop, Fix, Block, Choose, Repeat}
use Rattle.std.proofs.Math.Seq.{take-append_seam}

take_all : (xs : List ℤ) → take (length xs) xs ≡ xs
take_all [] = refl
take_all (x ∷ xs) = ap (λ z. x ∷ z) (take_all xs)

-- what was told before stays in front
pub record Extends (xs ys : List ℤ) : Type 0 where
  pub front : take (length xs) ys ≡ xs
  pub longer : length xs ≤ length ys

pub extends-self : (xs : List ℤ) → Extends xs xs
extends-self xs = record { front = take_all xs; longer = omega arith }

pub extends-trans : (xs ys zs : List ℤ) → Extends xs ys → Extends ys zs → Extends xs zs
extends-trans xs ys zs h k = record { front = sym (take-take (length xs) (length ys) zs h.longer) ∙ ap (take (length xs)) k.front ∙ h.front; longer = omega (arith, h.longer, k.longer) }

one_more-extends : (xs : List ℤ) (z : Option ℤ) → Extends xs (one_more xs z)
one_more-extends xs None = extends-self xs
one_more-extends xs (Some z) = record { front = take-append_seam xs (z ∷ []); longer = omega (arith, length-append xs (z ∷ [])) }

pub after-extends : (xs : List ℤ) (s : Step) → Extends xs (after xs s)
after-extends xs (Do a) = extends-self xs
after-extends xs (Loop n) = extends-self xs
after-extends xs (Fix e v) = one_more-extends xs (number xs e)
after-extends xs (Block ss) = extends-self xs
after-extends xs (Choose e s t) = extends-self xs
after-extends xs (Repeat from to s) = extends-self xs

pub pushed : (xs : List ℤ) (z : ℤ) → Extends xs (xs ++ z ∷ [])
pushed xs z = one_more-extends xs (Some z)
