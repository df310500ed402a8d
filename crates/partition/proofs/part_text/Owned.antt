-- Each element of each set has a rank.
use Rattle.std.proofs.Common.{◌≡◌, ℕ, zero, suc, ◌<◌, ◌≤◌, Bool, true, false, nat_eq, get_or, List, [], ◌∷◌, length, map, slice_set, Option, Some, None, Result, Ok, Err, IfOk, refl, sym, ap, subst, ◌∙◌, arith}
use Rattle.std.proofs.lemmas.Bool.Decides.{nat_tests}
use Rattle.std.proofs.lemmas.List.{length-set, length-map, length-replicate, get_or-set_same, get_or-set_other, get_or-replicate}
use Rattle.mesh_decl.specs.declared.owners.Owners.{Owners}
use Rattle.mesh_decl.specs.Mesh.{MeshValue, set_count, set_size}
use Rattle.mesh_decl.specs.Owners.{AreOwners, owners_in, owner_of}
use Rattle.partition.specs.declared.part_text.refusals.PartRefusal.{PartRefusal}
use Rattle.partition.specs.Spelling.{Table, Given, no_ranks, AreRanks, IsSet, AreSets, Spells}

-- as many ranks as elements, each below the number of ranks
record IsOwned (size ranks : ℕ) (rs : List ℕ) : Type 0 where
  count : length rs ≡ size
  below : (i : ℕ) → i < length rs → get_or rs i 0 < ranks

ranks_below : (ranks : ℕ) (ts : List (List ℕ)) (rs : List ℕ) → AreRanks ranks ts rs → (i : ℕ) → i < length rs → get_or rs i 0 < ranks
ranks_below ranks [] rs a i l = let none : length rs ≡ 0 = ap length a in absurd (omega arith)
ranks_below ranks (t ∷ ts) rs a i l = subst (λ xs. get_or xs i 0 < ranks) (sym a.2) (go i (ranks_below ranks ts a.1 a.5) (subst (λ xs. i < length xs) a.2 l))
  where
    go : (j : ℕ) → ((k : ℕ) → k < length a.1 → get_or a.1 k 0 < ranks) → j < length (a.0 ∷ a.1) → get_or (a.0 ∷ a.1) j 0 < ranks
    go zero rest m = a.4
    go (suc j) rest m = let k : j < length a.1 = omega arith in rest j k

some_at : (owners : List (List ℕ)) (s : ℕ) → s < length owners → get_or (map (λ rs. Some rs) owners) s None ≡ Some (get_or owners s [])
some_at [] s l = absurd (omega arith)
some_at (rs ∷ owners) zero l = refl
some_at (rs ∷ owners) (suc s) l = let k : s < length owners = omega arith in some_at owners s k

module _ (g : MeshValue) (ranks : ℕ) where
  -- a table of the mesh's sets, where each set that has ranks has one for each element
  record IsTable (t : Table) : Type 0 where
    sets : length t ≡ set_count g
    each : (k : ℕ) (rs : List ℕ) → k < length t → get_or t k None ≡ Some rs → IsOwned (set_size g k) ranks rs

  no_ranks_table : IsTable (no_ranks g)
  no_ranks_table = record {
    sets = length-replicate (set_count g) None;
    each = λ k rs l e. let n : k < set_count g = subst (λ m. k < m) (length-replicate (set_count g) None) l in let none =
        get_or-replicate {A = Option (List ℕ)} (set_count g) k None None n in absurd (cc (none, e));
  }

  set_owned : (ts : List (List ℕ)) (k : ℕ) (rs : List ℕ) → IsSet g ranks ts k rs → IsOwned (set_size g k) ranks rs
  set_owned ts k rs i = record { count = i.6; below = ranks_below ranks i.2 rs i.7 }

  more_table : (t : Table) (k : ℕ) (rs : List ℕ) → IsTable t → IsOwned (set_size g k) ranks rs → IsTable (slice_set t k (Some rs))
  more_table t k rs h o = record {
    sets = length-set t k (Some rs) ∙ h.sets;
    each = λ j xs l e. go j xs (nat_eq j k) refl (subst (λ m. j < m) (length-set t k (Some rs)) l) e;
  }
    where
      go : (j : ℕ) (xs : List ℕ) (b : Bool) → nat_eq j k ≡ b → j < length t → get_or (slice_set t k (Some rs)) j None ≡ Some xs → IsOwned (set_size g j) ranks xs
      go j xs true b l e =
          let same : j ≡ k = grind (arith, nat_tests) in
          let within : k < length t = subst (λ m. m < length t) same l in
          let at : get_or (slice_set t k (Some rs)) k None ≡ Some xs = subst (λ m. get_or (slice_set t k (Some rs)) m None ≡ Some xs) same e in
          let is : Some rs ≡ Some xs = sym (get_or-set_same t k (Some rs) None within) ∙ at in
          let eq : rs ≡ xs = cc (is) in
          subst (λ m. IsOwned (set_size g m) ranks xs) (sym same) (subst (IsOwned (set_size g k) ranks) eq o)
      go j xs false b l e =
          let other : j ≡ k → ⊥ = λ q. grind (arith, nat_tests) in
          h.each j xs l (sym (get_or-set_other t k j (Some rs) None other) ∙ e)

  sets_table : (ts : List (List ℕ)) (ss : List Given) (before after : Table) → AreSets g ranks ts ss before after → IsTable before → IsTable after
  sets_table ts [] before after a h = subst IsTable a.1 h
  sets_table ts (s ∷ ss) before after a h = sets_table a.1 ss (slice_set before s.0 (Some s.1)) after a.5 (more_table before s.0 s.1 h (set_owned a.0 s.0 s.1 a.3))

  spelled_table : (bytes : List ℕ) (owners : List (List ℕ)) → Spells g ranks bytes owners → IsTable (map (λ rs. Some rs) owners)
  spelled_table bytes owners s = sets_table s.2.0 s.2.1 (no_ranks g) (map (λ rs. Some rs) owners) s.2.3 no_ranks_table

  -- so what a text spells are owners
  pub spelled-owners : (bytes : List ℕ) (o : Owners) → Spells g ranks bytes o.sets.items → o.ranks ≡ ranks → 0 < ranks → ranks ≤ 64 → AreOwners g o
  unfolding owners_in owner_of
  spelled-owners bytes o s r some few =
      let t = spelled_table bytes o.sets.items s in
      let size : length (map (λ rs. Some rs) o.sets.items) ≡ length o.sets.items = length-map o.sets.items (λ rs. Some rs) in
      let count : length o.sets.items ≡ set_count g = sym size ∙ t.sets in
      record {
        some_rank = subst (λ n. 0 < n) (sym r) some;
        few_ranks = subst (λ n. n ≤ 64) (sym r) few;
        sets = count;
        lengths = λ k l. (owned t size count k l).count;
        below = λ k x l m. subst (λ n. get_or (get_or o.sets.items k []) x 0 < n) (sym r) ((owned t size count k l).below x (subst (λ n. x < n) (sym (owned t size count k l).count) m));
      }
    where
      owned : IsTable (map (λ rs. Some rs) o.sets.items) → length (map (λ rs. Some rs) o.sets.items) ≡ length o.sets.items
          → length o.sets.items ≡ set_count g → (k : ℕ) → k < set_count g → IsOwned (set_size g k) ranks (get_or o.sets.items k [])
      owned t size count k l =
          let within : k < length o.sets.items = subst (λ n. k < n) (sym count) l in
          t.each k (get_or o.sets.items k []) (subst (λ n. k < n) (sym size) within) (some_at o.sets.items k within)

  pub owners-given : (bytes : List ℕ) (r : Result Owners PartRefusal) → IfOk r (λ o. Spells g ranks bytes o.sets.items) → IfOk r (λ o. o.ranks ≡ ranks) → 0 < ranks → ranks ≤ 64 → IfOk r (AreOwners g)
  owners-given bytes (Ok o) s r some few = spelled-owners bytes o s r some few
  owners-given bytes (Err e) s r some few = tt
