-- The set of a name.
use Rattle.std.proofs.Common.{◌≡◌, ℕ, zero, suc, ◌<◌, Bool, true, false, cond, inl, inr, nat_eq, List, Some, refl, ap, subst, arith}
use Rattle.std.specs.Str.{bytes_eq}
use Rattle.std.proofs.lemmas.Bool.Decides.{nat_tests}
use Rattle.mesh_decl.specs.Mesh.{MeshValue, set_count, set_name}
use Rattle.partition.specs.Spelling.{IsNamed}
use Rattle.partition.specs.Reading.{set_below, set_of}
use Rattle.lemmas.proofs.Lists.{bytes_eq_from, bytes_eq_same}
use Rattle.lemmas.proofs.Truth.{cond_cases}

-- the same of the sets below n
record IsBelow (g : MeshValue) (name : List ℕ) (n k : ℕ) : Type 0 where
  within : k < n
  name_of : set_name g k ≡ name
  last : (j : ℕ) → k < j → j < n → set_name g j ≡ name → ⊥

module _ (g : MeshValue) (name : List ℕ) where
  found_next : (n k : ℕ) → set_name g n ≡ name → n ≡ k → IsBelow g name (suc n) k
  found_next n k e s = record { within = omega arith; name_of = subst (λ m. set_name g m ≡ name) s e; last = λ j a b c. absurd (omega arith) }

  found_before : (n k : ℕ) → bytes_eq (set_name g n) name ≡ false → IsBelow g name n k → IsBelow g name (suc n) k
  found_before n k other r = record { within = (let h = r.within in omega arith); name_of = r.name_of; last = λ j a b c. go j (nat_eq j n) refl a b c }
    where
      go : (j : ℕ) (t : Bool) → nat_eq j n ≡ t → k < j → j < suc n → set_name g j ≡ name → ⊥
      go j true t a b c =
          let same : j ≡ n = grind (arith, nat_tests) in
          let yes : bytes_eq (set_name g n) name ≡ true = bytes_eq_from (set_name g n) name (subst (λ m. set_name g m ≡ name) same c) in
          cc (yes, other)
      go j false t a b c = let low : j < n = grind (arith, nat_tests) in r.last j a low c

  below_is : (n k : ℕ) → set_below g name n ≡ Some k → IsBelow g name n k
  below_is zero k h = cc
  below_is (suc n) k h = elim (cond_cases (bytes_eq (set_name g n) name) (Some n) (set_below g name n) (Some k) h) [
    | inl a ↦ let e : n ≡ k = cc (a.1) in found_next n k (bytes_eq_same (set_name g n) name a.0) e
    | inr a ↦ found_before n k a.0 (below_is n k a.1)
  ]

  is_below : (n k : ℕ) → IsBelow g name n k → set_below g name n ≡ Some k
  is_below zero k b = absurd (let h = b.within in omega arith)
  is_below (suc n) k b = go (bytes_eq (set_name g n) name) refl (nat_eq k n) refl (λ low. is_below n k (record { within = low; name_of = b.name_of; last = λ j x y z. b.last j x (omega arith) z }))
    where
      go : (t : Bool) → bytes_eq (set_name g n) name ≡ t → (s : Bool) → nat_eq k n ≡ s → (k < n → set_below g name n ≡ Some k) → cond t (Some n) (set_below g name n) ≡ Some k
      go true t true s rest = let same : n ≡ k = grind (arith, nat_tests) in ap Some same
      go false t true s rest =
          let same : k ≡ n = grind (arith, nat_tests) in
          let yes : bytes_eq (set_name g n) name ≡ true = bytes_eq_from (set_name g n) name (subst (λ m. set_name g m ≡ name) same b.name_of) in
          absurd (cc (yes, t))
      go true t false s rest =
          let h = b.within in
          let low : k < n = grind (arith, nat_tests) in
          absurd (b.last n low (omega arith) (bytes_eq_same (set_name g n) name t))
      go false t false s rest = let h = b.within in let low : k < n = grind (arith, nat_tests) in rest low

  pub set_is : (k : ℕ) → set_of g name ≡ Some k → IsNamed g name k
  unfolding set_of
  set_is k h = let b = below_is (set_count g) k h in record { within = b.within; name_of = b.name_of; last = b.last }

  pub is_set : (k : ℕ) → IsNamed g name k → set_of g name ≡ Some k
  unfolding set_of
  is_set k i = is_below (set_count g) k (record { within = i.within; name_of = i.name_of; last = i.last })
