-- The sets of a rank have the targets of what it executes.
use Rattle.std.proofs.Common.{◌≡◌, ◌≢◌, ℕ, ◌+◌, ◌^◌, ◌<◌, ◌≤◌, true, List, [], length, get_or, arith}
use Rattle.std.specs.List.{Contains}
use Rattle.std.proofs.lemmas.List.{get_or-map}
use Rattle.mesh_decl.specs.declared.owners.Owners.{Owners}
use Rattle.mesh_decl.specs.declared.owners.Perms.{Perms}
use Rattle.mesh_decl.specs.Mesh.{MeshValue, IsMapAt, set_count, map_count, set_size, map_from, map_to, map_dim, target}
use Rattle.mesh_decl.proofs.Public.{some_in}
use Rattle.mesh_decl.specs.Owners.{ArePerms, perm_in}
use Rattle.local_mesh.specs.Halo.{owns, imports_execute, imports_nonexecute, has_copy, executes}
use Rattle.local_mesh.specs.declared.types.LocalSet.{LocalSet}
use Rattle.local_mesh.specs.LocalMesh.{IsLocalSet, originals_in, executed_in, AreClosed}
use Rattle.local_mesh.proofs.Numbered.{groups_apart, number_few, number_below, number_apart, number_contains, copy_executed}

pub originals_at : (sets : List LocalSet) (s : ℕ) (d : LocalSet) → s < length sets → originals_in sets s ≡ (get_or sets s d).original
unfolding originals_in
originals_at sets s d l = get_or-map (λ (l : LocalSet). l.original) sets s d [] l

pub executed_at : (sets : List LocalSet) (s : ℕ) (d : LocalSet) → s < length sets → executed_in sets s ≡ (get_or sets s d).own + (get_or sets s d).exec
unfolding executed_in
executed_at sets s d l = get_or-map (λ (l : LocalSet). l.own + l.exec) sets s d 0 l

module _ (g : MeshValue) (o : Owners) (p : Perms) (r : ℕ) (sets : List LocalSet) (count : length sets ≡ set_count g) (perms : ArePerms g p)
    (is : (s : ℕ) (d : LocalSet) → s < set_count g → IsLocalSet g o p s r (get_or sets s d)) where
  any : (s : ℕ) → s < set_count g → LocalSet
  any s l = some_in sets s (rw count l)

  at : (s : ℕ) (l : s < set_count g) → originals_in sets s ≡ (get_or sets s (any s l)).original
  at s l = originals_at sets s (any s l) (rw count l)

  few : (s : ℕ) → s < set_count g → length (originals_in sets s) ≤ set_size g s
  few s l = rw (at s l) (number_few (set_size g s) (perm_in p s) (λ x. owns o s x r) (λ x. imports_execute g o s x r)
      (λ x. imports_nonexecute g o s x r) (get_or sets s (any s l)).original (perms.numbers s l) (is s (any s l) l).inverse
      (groups_apart g o s r))

  below : (s k : ℕ) → s < set_count g → k < length (originals_in sets s) → get_or (originals_in sets s) k 0 < set_size g s
  below s k l = rw (at s l) (number_below (set_size g s) (perm_in p s) (λ x. owns o s x r) (λ x. imports_execute g o s x r)
      (λ x. imports_nonexecute g o s x r) (get_or sets s (any s l)).original (perms.numbers s l) (is s (any s l) l).inverse k)

  apart : (s j k : ℕ) → s < set_count g → j < k → k < length (originals_in sets s) → get_or (originals_in sets s) j 0 ≢ get_or (originals_in sets s) k 0
  apart s j k l = rw (at s l) (number_apart (set_size g s) (perm_in p s) (λ x. owns o s x r) (λ x. imports_execute g o s x r)
      (λ x. imports_nonexecute g o s x r) (get_or sets s (any s l)).original (perms.numbers s l) (is s (any s l) l).inverse j k)

  executed : (s : ℕ) → s < set_count g → executed_in sets s ≤ length (originals_in sets s)
  executed s l =
      let i = is s (any s l) l in
      let e = executed_at sets s (any s l) (rw count l) in
      rw (at s l) (omega (arith, i.own, i.exec, i.inverse.count))

  executes_here : (s k : ℕ) → s < set_count g → k < executed_in sets s → executes g o s (get_or (originals_in sets s) k 0) r ≡ true
  unfolding executes
  executes_here s k l lk =
      let i = is s (any s l) l in
      let e = executed_at sets s (any s l) (rw count l) in
      let b : k < length (get_or sets s (any s l)).original = omega (arith, i.own, i.exec, i.inverse.count) in
      rw (at s l) (copy_executed (set_size g s) (perm_in p s) (λ x. owns o s x r) (λ x. imports_execute g o s x r)
      (λ x. imports_nonexecute g o s x r) (get_or sets s (any s l)).original (perms.numbers s l) i.inverse k
      (omega (arith, i.own, i.exec)) b)

  had : (s x : ℕ) → s < set_count g → x < set_size g s → has_copy g o s x r ≡ true → Contains (originals_in sets s) x
  had s x l = rw (at s l) (number_contains (set_size g s) (perm_in p s) (λ x. owns o s x r) (λ x. imports_execute g o s x r)
      (λ x. imports_nonexecute g o s x r) (get_or sets s (any s l)).original (perms.numbers s l) (is s (any s l) l).inverse x)

  pub sets_closed : ((s : ℕ) → set_size g s < 2 ^ 32) → ((m : ℕ) → m < map_count g → IsMapAt g m)
      → ((m x i : ℕ) → m < map_count g → x < set_size g (map_from g m) → executes g o (map_from g m) x r ≡ true → i < map_dim g m
      → has_copy g o (map_to g m) (target g m x i) r ≡ true) → AreClosed g sets
  sets_closed sizes maps copied = record {
    count = count;
    few = λ s l. (let a = few s l in let b = sizes s in omega arith);
    executed = executed;
    within = below;
    apart = apart;
    targets = λ m k i lm lk li. (
        let x : ℕ = get_or (originals_in sets (map_from g m)) k 0 in
        let f : map_from g m < set_count g = (maps m lm).from in
        let lx : x < set_size g (map_from g m) = below (map_from g m) k f (let q = executed (map_from g m) f in omega arith) in
        had (map_to g m) (target g m x i) (maps m lm).to ((maps m lm).within x i lx li)
        (copied m x i lm lx (executes_here (map_from g m) k f lk) li));
  }
