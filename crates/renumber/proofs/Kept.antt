-- One more list of kept numbers.
use Rattle.std.proofs.Common.{◌≡◌, ℕ, ◌+◌, ◌<◌, List, [], ◌∷◌, ◌++◌, length, get_or, sym, ◌∙◌, arith, ⊎_elim}
use Rattle.std.proofs.lemmas.Bool.{cases_eq}
use Rattle.std.proofs.lemmas.List.{get_or_push, get_or_append_left}
use Rattle.mesh_decl.specs.Owners.{IsNumbering}

-- each number stands at its own place
pub number_more : (xs : List ℕ) (n : ℕ) → length xs ≡ n → ((x : ℕ) → x < n → get_or xs x 0 ≡ x) → (x : ℕ) → x < n + 1 → get_or (xs ++ n ∷ []) x 0 ≡ x
number_more xs n e h x l = ⊎_elim
    (λ (t : x ≡ n). rw t (get_or_push xs n 0 n e))
    (λ (t : x ≡ n → ⊥). let lx : x < n = omega arith in get_or_append_left xs (n ∷ []) 0 x (rw e lx) ∙ h x lx)
    (cases_eq x n)

-- kept numbers are a numbering
pub kept_numbers : (n : ℕ) (xs : List ℕ) → length xs ≡ n → ((x : ℕ) → x < n → get_or xs x 0 ≡ x) → IsNumbering n xs
kept_numbers n xs e h = record {
  length = e;
  within = λ i l. rw (h i l) l;
  distinct = λ i j l m q. sym (h i l) ∙ (q ∙ h j m);
  every = λ x l. (x, l, h x l);
}
