-- Lines and colours of 0, of 1, and so on below a number, one after another.
use Rattle.std.proofs.Common.{◌≡◌, ℕ, zero, suc, ◌<◌, refl, sym, ap, ◌∙◌, arith, List, [], ◌∷◌, ◌++◌, append-nil, length, get_or, cond, Bool, true, false}
use Rattle.std.specs.List.{flat_map}
use Rattle.std.proofs.lemmas.Grind.{flat_map-append}
use Rattle.lemmas.specs.Below.{listed}
use Rattle.op_num.specs.Lines.{line_of, text_of_lines}
use Rattle.local_mesh.specs.declared.types.RankMesh.{RankMesh}
use Rattle.bound_program.specs.Values.{BoundValue}
use Rattle.loop_plan.specs.PlanText.{Line}
use Rattle.plan_cert.specs.Awaited.{Awaited, each_below, ColourLists, FitsLine, FitLines}
use Rattle.plan_cert.specs.Certified.{all}
use Rattle.plan_cert.proofs.Reading.{all_append, fit_append}

-- those of 0, of 1, and so on below n
abbrev pub below : {X : Type 0} → (ℕ → List X) → ℕ → List X
below f zero = []
below f (suc n) = below f n ++ f n

module _ (b : BoundValue) (meshes : List RankMesh) (size : ℕ) where
  pub fits_below : (f : ℕ → List Awaited) (ls : ℕ → List (List ℕ)) (cs : ℕ → List ColourLists) (n : ℕ)
      → ((k : ℕ) → k < n → FitLines b meshes size (f k) (ls k) (cs k)) → FitLines b meshes size (each_below f n) (below ls n) (below cs n)
  fits_below f ls cs zero h = refl
  fits_below f ls cs (suc n) h = fit_append b meshes size (each_below f n) (f n) (below ls n) (ls n) (below cs n) (cs n) (fits_below f ls cs n (λ k l. h k (omega arith))) (h n (omega arith))

  pub fits_line : (x : Awaited) (l : List ℕ) (cs : List ColourLists) → FitsLine b meshes size x l cs → FitLines b meshes size (x ∷ []) (l ∷ []) cs
  fits_line x l cs f = (cs, [], sym (append-nil cs), f, refl)

pub none_below : (n : ℕ) → below {X = ColourLists} (λ k. []) n ≡ []
none_below zero = refl
none_below (suc n) = append-nil (below {X = ColourLists} (λ k. []) n) ∙ none_below n

pub below_agree : {X : Type 0} (f g : ℕ → List X) (n : ℕ) → ((k : ℕ) → k < n → f k ≡ g k) → below f n ≡ below g n
below_agree f g zero h = refl
below_agree f g (suc n) h = ap (λ z. z ++ f n) (below_agree f g n (λ k l. h k (omega arith))) ∙ ap (λ z. below g n ++ z) (h n (omega arith))

-- lists of a list's elements, one by one, are those of all
module _ {X : Type 0} (none : X) where
  ones_shifted : (x : X) (xs : List X) (n : ℕ) → below (λ k. get_or (x ∷ xs) k none ∷ []) (suc n) ≡ x ∷ below (λ k. get_or xs k none ∷ []) n
  ones_shifted x xs zero = refl
  ones_shifted x xs (suc n) = ap (λ z. z ++ get_or xs n none ∷ []) (ones_shifted x xs n)

  pub ones_are : (xs : List X) → below (λ k. get_or xs k none ∷ []) (length xs) ≡ xs
  ones_are [] = refl
  ones_are (x ∷ xs) = ones_shifted x xs (length xs) ∙ ap (λ zs. x ∷ zs) (ones_are xs)

-- what is made of the numbers that are listed, one after another
pub flat_below : {X : Type 0} (f : ℕ → List X) (t : ℕ → Bool) (n : ℕ) → flat_map f (listed n t) ≡ below (λ k. cond (t k) (f k) []) n
flat_below f t zero = refl
flat_below f t (suc n) = flat_map-append f (listed n t) (cond (t n) (n ∷ []) [])
    ∙ (ap (λ z. z ++ flat_map f (cond (t n) (n ∷ []) [])) (flat_below f t n)
    ∙ ap (λ z. below (λ k. cond (t k) (f k) []) n ++ z) (by_test (t n)))
  where
    by_test : (b : Bool) → flat_map f (cond b (n ∷ []) []) ≡ cond b (f n) []
    by_test true = append-nil (f n)
    by_test false = refl

-- the bytes of lines, one after another
pub texts_below : (f : ℕ → List Line) (ls : ℕ → List (List ℕ)) (n : ℕ) → ((k : ℕ) → k < n → text_of_lines (f k) ≡ all (ls k)) → text_of_lines (below f n) ≡ all (below ls n)
texts_below f ls zero h = refl
texts_below f ls (suc n) h =
    flat_map-append line_of (below f n) (f n)
    ∙ (ap (λ z. z ++ text_of_lines (f n)) (texts_below f ls n (λ k l. h k (omega arith)))
    ∙ (ap (λ z. all (below ls n) ++ z) (h n (omega arith)) ∙ sym (all_append (below ls n) (ls n))))

-- one line more
pub one_more : (ls : List (List ℕ)) (l : List ℕ) → all (ls ++ l ∷ []) ≡ all ls ++ l
one_more ls l = all_append ls (l ∷ []) ∙ ap (λ z. all ls ++ z) (append-nil l)
