-- From the ranks of one set to owners of all.
use Rattle.std.proofs.Common.{◌≡◌, ◌<◌, ℕ, zero, suc, true, false, nat_eq, List, [], ◌∷◌, ◌++◌, length, get_or, set, Option, Some, None, Vec, Ok, refl, sym, ap, subst, ◌∙◌, arith}
use Rattle.std.proofs.lemmas.List.{length-set}
use Rattle.std.specs.declared.alloc.Global.{Global}
use Rattle.std.proofs.lemmas.Grind.{common_steps}
use Rattle.mesh_decl.specs.Mesh.{MeshValue, set_count, set_size}
use Rattle.partition.specs.Derive.{AreGiven, is_given, given_in}
use Rattle.metis_text.specs.Numbers.{ranks_in}
use Rattle.metis_text.specs.Owned.{AreOneGiven}
use Rattle.metis_text.proofs.owner_text.metis.Reading.{AreRanks, are_ranks}

-- ---- one set alone is given

pub none_yet : (s : ℕ) → is_given [] s ≡ false
unfolding is_given
none_yet s = refl

pub none_more : (xs : List (Option (Vec ℕ Global))) → ((s : ℕ) → is_given xs s ≡ false) → (s : ℕ) → is_given (xs ++ None ∷ []) s ≡ false
unfolding is_given
none_more [] h zero = refl
none_more [] h (suc s) = refl
none_more (x ∷ xs) h zero = h 0
none_more (x ∷ xs) h (suc s) = none_more xs (λ k. h (suc k)) s

later_is : (s : ℕ) → nat_eq (suc s) 0 ≡ false
later_is s = grind (arith, common_steps)

first_is : (n : ℕ) → nat_eq 0 (suc n) ≡ false
first_is n = grind (arith, common_steps)

next_is : (s n : ℕ) → nat_eq s n ≡ nat_eq (suc s) (suc n)
next_is s n = grind (arith, common_steps)

one_is : (xs : List (Option (Vec ℕ Global))) (n : ℕ) (v : Vec ℕ Global) → n < length xs → ((s : ℕ) → is_given xs s ≡ false)
    → (s : ℕ) → is_given (set xs n (Some v)) s ≡ nat_eq s n
unfolding is_given
one_is [] n v lt h s = absurd (omega (arith, lt))
one_is (x ∷ xs) zero v lt h zero = refl
one_is (x ∷ xs) zero v lt h (suc s) = h (suc s) ∙ sym (later_is s)
one_is (x ∷ xs) (suc n) v lt h zero = h 0 ∙ sym (first_is n)
one_is (x ∷ xs) (suc n) v lt h (suc s) = one_is xs n v (omega (arith, lt)) (λ k. h (suc k)) s ∙ next_is s n

one_has : (xs : List (Option (Vec ℕ Global))) (n : ℕ) (v : Vec ℕ Global) → n < length xs → given_in (set xs n (Some v)) n ≡ v.items
unfolding given_in
one_has [] n v lt = absurd (omega (arith, lt))
one_has (x ∷ xs) zero v lt = refl
one_has (x ∷ xs) (suc n) v lt = one_has xs n v (omega (arith, lt))

pub one_given : (sets : ℕ) (xs : List (Option (Vec ℕ Global))) (n : ℕ) (v : Vec ℕ Global) → length xs ≡ sets → n < sets
    → ((s : ℕ) → is_given xs s ≡ false)
    → AreOneGiven sets n v.items (set xs n (Some v))
one_given sets xs n v count lt h = record {
  count = length-set xs n (Some v) ∙ count;
  is = λ s ls. one_is xs n v (omega (arith, count, lt)) h s;
  owners_of = one_has xs n v (omega (arith, count, lt));
}

-- ---- owners

equal : (a b : ℕ) → nat_eq a b ≡ true → a ≡ b
equal a b e = grind (arith, common_steps, e)

module _ (g : MeshValue) (ranks set : ℕ) (bytes owners : List ℕ) (given : List (Option (Vec ℕ Global)))
    (read : ranks_in ranks (set_size g set) bytes ≡ Ok owners) (one : AreOneGiven (set_count g) set owners given) where
  is_set : (s : ℕ) → s < set_count g → is_given given s ≡ true → s ≡ set
  is_set s lt e = equal s set (sym (one.is s lt) ∙ e)

  known : AreRanks ranks (set_size g set) owners
  known = are_ranks ranks (set_size g set) 1 _ owners read

  pub given_fits : AreGiven g ranks given
  given_fits = record {
    sets = one.count;
    lengths = λ s lt e. subst (λ k. length (given_in given k) ≡ set_size g k) (sym (is_set s lt e)) (ap length one.owners_of ∙ known.count);
    below = λ s x lt e lx.
        subst (λ k. get_or (given_in given k) x 0 < ranks) (sym (is_set s lt e))
        (subst (λ l. get_or l x 0 < ranks) (sym one.owners_of)
        (known.below x (let n = known.count in let low : x < set_size g set = subst (λ k. x < set_size g k) (is_set s lt e) lx in omega (arith, n, low))));
  }
