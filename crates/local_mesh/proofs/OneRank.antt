-- The one rank has each element, in order of new numbers.
use Rattle.std.proofs.Common.{◌≡◌, ℕ, zero, suc, ◌^◌, ◌<◌, ◌≤◌, Bool, true, false, List, [], ◌∷◌, ◌++◌, length, get_or, take, ◌+◌, refl, sym, ◌∙◌, arith, subst, add-one}
use Rattle.std.proofs.lemmas.Bool.{eq-eqb}
use Rattle.std.proofs.lemmas.List.{append-nil, take_more, take_all}
use Rattle.mesh_decl.specs.declared.owners.Owners.{Owners}
use Rattle.mesh_decl.specs.declared.owners.Perms.{Perms}
use Rattle.mesh_decl.specs.Mesh.{MeshValue, set_count, set_size}
use Rattle.mesh_decl.specs.Owners.{AreOwners, IsNumbering, owner_of, perm_in}
use Rattle.local_mesh.specs.declared.halo_lists.types.SetHalo.{SetHalo}
use Rattle.local_mesh.specs.Halo.{owns, imports_execute, imports_nonexecute}
use Rattle.local_mesh.specs.Halos.{IsSetHalo}
use Rattle.local_mesh.specs.declared.types.LocalSet.{LocalSet}
use Rattle.local_mesh.specs.Local.{ordered}
use Rattle.local_mesh.specs.Lookup.{Rises}
use Rattle.local_mesh.specs.Parts.{by_new, IsKept, AreParts, AreSorted, IsJoined}
use Rattle.local_mesh.specs.LocalMesh.{IsLocalSet}
use Rattle.local_mesh.proofs.Joining.{local_set_is}
use Rattle.local_mesh.proofs.Numbered.{groups_apart}
use Rattle.local_mesh.proofs.Stands.{contains_at}

-- a list behind which nothing is joined
pub alone : (xs : List ℕ) → xs ++ [] ++ [] ≡ xs
alone xs = append-nil (xs ++ []) ∙ append-nil xs

-- a numbering has different numbers below the bound
pub numbering_parts : (n : ℕ) (order : List ℕ) → IsNumbering n order → n < 2 ^ 32 → AreParts n (order ++ [] ++ [])
numbering_parts n order h l = subst (λ (z : List ℕ). AreParts n z) (sym (alone order)) (record {
  few = rw h.length l;
  within = λ k lk. h.within k (omega (arith, h.length));
  apart = λ j k lj lk e. (let q : j ≡ k = h.distinct j k (omega (arith, h.length)) (omega (arith, h.length)) e in omega arith);
})

-- all numbers below the bound are those of a numbering in increasing order
pub numbering_sorted : (n : ℕ) (order copies : List ℕ) → IsNumbering n order → length copies ≡ n → IsKept n (λ k. get_or copies k 0) → AreSorted (order ++ [] ++ []) copies
numbering_sorted n order copies h c kept = subst (λ (z : List ℕ). AreSorted z copies) (sym (alone order)) (record {
  rising = λ i j le l. (let a = kept i (omega (arith, c)) in let b = kept j (omega (arith, c)) in omega arith);
  all = λ k lk. (let w = h.within k (omega (arith, h.length)) in contains_at copies (get_or order k 0) (get_or order k 0) (omega (arith, c)) (kept (get_or order k 0) w));
  found = λ k lk. (
      let e = kept k (omega (arith, c)) in
      let w = h.every (get_or copies k 0) (omega (arith, c)) in
      contains_at order w.0 (get_or copies k 0) (omega (arith, h.length, w.1)) w.2);
})

-- numbers that are kept rise
pub kept_rises : (xs : List ℕ) → IsKept (length xs) (λ k. get_or xs k 0) → Rises xs
kept_rises xs h = λ i j le l. (let a = h i (omega arith) in let b = h j l in omega arith)

ordered_all : (n : ℕ) (xs : List ℕ) (p : ℕ → Bool) → n ≤ length xs → ((j : ℕ) → j < n → p (get_or xs j 0) ≡ true) → ordered n (λ j. get_or xs j 0) p ≡ take n xs
ordered_all zero xs p l h = refl
ordered_all (suc n) xs p l h =
    let t : take (n + 1) xs ≡ take n xs ++ get_or xs n 0 ∷ [] = take_more xs n 0 (omega arith) in
    let u : take (suc n) xs ≡ take n xs ++ get_or xs n 0 ∷ [] = rw add-one at t in
    rw (ordered_all n xs p (omega arith) (λ j m. h j (omega arith)), h n (omega arith)) (sym u)

ordered_none : (n : ℕ) (order : ℕ → ℕ) (p : ℕ → Bool) → ((j : ℕ) → j < n → p (order j) ≡ false) → ordered n order p ≡ []
ordered_none zero order p h = refl
ordered_none (suc n) order p h = rw (ordered_none n order p (λ j l. h j (omega arith)), h n (omega arith)) refl

module _ (g : MeshValue) (o : Owners) (p : Perms) (s : ℕ) (own : AreOwners g o) (one : o.ranks ≡ 1) (ls : s < set_count g) (perms : IsNumbering (set_size g s) (perm_in p s)) where
  owned : (j : ℕ) → j < set_size g s → owns o s (by_new p s j) 0 ≡ true
  unfolding owns
  owned j l = let b = own.below s (by_new p s j) ls (perms.within j l) in eq-eqb (owner_of o s (by_new p s j)) 0 (omega (arith, one))

  all_own : perm_in p s ≡ ordered (set_size g s) (by_new p s) (λ x. owns o s x 0)
  all_own = let e = perms.length in
      sym (ordered_all (set_size g s) (perm_in p s) (λ x. owns o s x 0) (omega (arith, e)) owned ∙ take_all (set_size g s) (perm_in p s) (omega (arith, e)))

  none_executes : [] ≡ ordered (set_size g s) (by_new p s) (λ x. imports_execute g o s x 0)
  none_executes = sym (ordered_none (set_size g s) (by_new p s) (λ x. imports_execute g o s x 0) (λ j l. (groups_apart g o s 0).own_exec (by_new p s j) (owned j l)))

  none_reads : [] ≡ ordered (set_size g s) (by_new p s) (λ x. imports_nonexecute g o s x 0)
  none_reads = sym (ordered_none (set_size g s) (by_new p s) (λ x. imports_nonexecute g o s x 0) (λ j l. (groups_apart g o s 0).own_nonexec (by_new p s j) (owned j l)))

  -- the set of the one rank
  pub whole_is : (h : SetHalo) (order : List ℕ) (core : List Bool) (l : LocalSet) → IsSetHalo g o s h → order ≡ perm_in p s → core ≡ h.core.items → IsJoined order [] [] core l → IsLocalSet g o p s 0 l
  whole_is h order core l halo eo ec j =
      local_set_is g o p s 0 order [] [] (eo ∙ all_own) none_executes none_reads perms h l halo (subst (λ (z : List Bool). IsJoined order [] [] z l) ec j)
