-- The reverse of an order of taking has each element once.
use Rattle.std.proofs.Common.{◌≡◌, ℕ, ◌<◌, Bool, List, length, reverse, ◌∙◌}
use Rattle.std.specs.List.{Contains, All}
use Rattle.std.proofs.lemmas.List.Sorted.{IsPermutation-reverse, All-permutation, Contains-permutation, length_permutation}
use Rattle.std.proofs.lemmas.List.{get_or_default}
use Rattle.mesh_decl.specs.Owners.{IsNumbering}
use Rattle.renumber.specs.Taken.{IsTaken}
use Rattle.renumber.proofs.Numbering.{numbering_from}

below : (n : ℕ) (near : ℕ → ℕ → Bool) (key : ℕ → ℕ) (xs : List ℕ) → IsTaken n near key xs → All (λ x. x < n) xs
below n near key xs taken = λ k d l. rw (get_or_default xs k d 0 l) (taken k l).within

pub reversed_numbering : (n : ℕ) (near : ℕ → ℕ → Bool) (key : ℕ → ℕ) (xs : List ℕ) → length xs ≡ n → ((y : ℕ) → y < n → Contains xs y) → IsTaken n near key xs → IsNumbering n (reverse xs)
reversed_numbering n near key xs e all taken =
    let p = IsPermutation-reverse xs in
    numbering_from n (reverse xs) (length_permutation xs (reverse xs) p ∙ e)
    (λ k l. All-permutation (λ x. x < n) xs (reverse xs) p (below n near key xs taken) k 0 l)
    (λ y l. Contains-permutation xs (reverse xs) y p (all y l))
