-- The first of what was found in two lists, one behind the other.
use Rattle.std.proofs.Common.{◌≡◌, List, [], ◌∷◌, ◌++◌, Option, None, refl, ap, ◌∙◌}
use Rattle.bound_program.specs.declared.refusals.founds.Found.{Found}
use Rattle.bound_program.specs.Refusals.{earlier, least_from, first_of}

pub least_append : (f : Option Found) (a b : List Found) → least_from f (a ++ b) ≡ least_from (least_from f a) b
least_append f [] b = refl
least_append f (x ∷ a) b = least_append (earlier f x) a b

pub first_of_three : (a b c : List Found) → first_of (a ++ b ++ c) ≡ least_from (least_from (least_from None a) b) c
first_of_three a b c = least_append None (a ++ b) c ∙ ap (λ x. least_from x c) (least_append None a b)

pub first_of_four : (a b c d : List Found) → first_of (a ++ b ++ c ++ d) ≡ least_from (least_from (least_from (least_from None a) b) c) d
first_of_four a b c d = least_append None (a ++ b ++ c) d ∙ ap (λ x. least_from x d) (first_of_three a b c)

pub least_three : (o : Option Found) (a b c : List Found) → least_from o (a ++ b ++ c) ≡ least_from (least_from (least_from o a) b) c
least_three o a b c = least_append o (a ++ b) c ∙ ap (λ x. least_from x c) (least_append o a b)

pub least_four : (o : Option Found) (a b c d : List Found) → least_from o (a ++ b ++ c ++ d) ≡ least_from (least_from (least_from (least_from o a) b) c) d
least_four o a b c d = least_append o (a ++ b ++ c) d ∙ ap (λ x. least_from x d) (least_three o a b c)
