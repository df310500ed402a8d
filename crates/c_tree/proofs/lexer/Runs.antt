-- Runs of bytes of one class.
use Rattle.std.proofs.Common.{◌≡◌, ℕ, ◌+◌, ◌≤◌, ◌<◌, Bool, true, false, cond, List, [], ◌∷◌, ◌++◌, length, take, slice_index, refl, arith, nat_eq, zero-le}
use Rattle.std.specs.List.{list_all, prefix_len}
use Rattle.std.proofs.Math.Numerals.{one-add}
use Rattle.c_tree.specs.Spelling.{digit}
use Rattle.c_tree.specs.Front.{figure_size}
use Rattle.std.proofs.lemmas.Bool.{and_parts}

pub all_of_prefix : {X : Type 0} (p : X → Bool) (xs : List X) → list_all p (take (prefix_len p xs) xs) ≡ true
all_of_prefix p [] = refl
all_of_prefix p (x ∷ xs) = by_test (p x) refl (all_of_prefix p xs)
  where
    by_test : (t : Bool) → p x ≡ t → list_all p (take (prefix_len p xs) xs) ≡ true → list_all p (take (cond t (1 + prefix_len p xs) 0) (x ∷ xs)) ≡ true
    by_test true t h = rw (one-add (prefix_len p xs), t) h
    by_test false t h = refl

pub prefix_at_least : {X : Type 0} (p : X → Bool) (s rest : List X) → list_all p s ≡ true → length s ≤ prefix_len p (s ++ rest)
prefix_at_least p [] rest h = zero-le
prefix_at_least p (x ∷ xs) rest h =
    let r = and_parts (p x) (list_all p xs) h in
    rw r.0 (omega (arith, prefix_at_least p xs rest r.1))

pub figure_digits : (bs : List ℕ) → 0 < length bs → digit (slice_index bs 0) ≡ true → list_all digit (take (figure_size bs) bs) ≡ true
figure_digits [] h d = refl
figure_digits (b ∷ bs) h d = by_test (nat_eq b 48)
  where
    by_test : (t : Bool) → list_all digit (take (cond t 1 (prefix_len digit (b ∷ bs))) (b ∷ bs)) ≡ true
    by_test true = rw d refl
    by_test false = all_of_prefix digit (b ∷ bs)

pub ruleset figures = (figure_digits)
