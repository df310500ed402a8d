-- What a rank has of a set, by number.
use Rattle.std.proofs.Common.{◌≡◌, ◌≤◌, ◌<◌, ◌^◌, ℕ, Bool, false, ◌&&◌, nat_lt, List, ◌++◌, length, get_or, refl, ap, ◌∙◌, arith}
use Rattle.mesh_decl.specs.declared.owners.Owners.{Owners}
use Rattle.mesh_decl.specs.declared.owners.Perms.{Perms}
use Rattle.mesh_decl.specs.Mesh.{MeshValue, set_count, set_size}
use Rattle.mesh_decl.specs.Owners.{ArePerms, perm_in}
use Rattle.local_mesh.specs.Halo.{owns, imports_execute, imports_nonexecute, is_core}
use Rattle.local_mesh.specs.declared.types.LocalSet.{LocalSet}
use Rattle.local_mesh.specs.Local.{ordered, earlier, AreInverse}
use Rattle.local_mesh.specs.Parts.{by_new}
use Rattle.local_mesh.specs.LocalMesh.{IsLocalSet}
use Rattle.local_mesh.proofs.Public.{inverse, groups_apart, number_few}
use Rattle.loop_plan.proofs.plan_exists.Built.{table, length_table, table_at, vec_of, items_are}

module _ (g : MeshValue) (o : Owners) (p : Perms) (r : ℕ) where
  -- the original numbers, by local number
  pub originals : ℕ → List ℕ
  originals s =
      ordered (set_size g s) (by_new p s) (λ x. owns o s x r)
      ++ ordered (set_size g s) (by_new p s) (λ x. imports_execute g o s x r)
      ++ ordered (set_size g s) (by_new p s) (λ x. imports_nonexecute g o s x r)

  own_count : ℕ → ℕ
  own_count s = earlier (by_new p s) (λ x. owns o s x r) (set_size g s)

  core_at : ℕ → ℕ → Bool
  core_at s k = nat_lt k (own_count s) && is_core g o s (get_or (originals s) k 0)

  pub local_set : ℕ → LocalSet
  local_set s = record {
    own = own_count s;
    exec = earlier (by_new p s) (λ x. imports_execute g o s x r) (set_size g s);
    nonexec = earlier (by_new p s) (λ x. imports_nonexecute g o s x r) (set_size g s);
    original = originals s;
    core = vec_of (table (length (originals s)) (core_at s));
  }

  pub originals_are : (s : ℕ) → (local_set s).original ≡ originals s
  unfolding local_set
  originals_are s = refl

  module _ (sizes : (s : ℕ) → set_size g s < 2 ^ 32) (perms : ArePerms g p) where
    inverse_are : (s : ℕ) → AreInverse (set_size g s) (by_new p s) (λ x. owns o s x r) (λ x. imports_execute g o s x r) (λ x. imports_nonexecute g o s x r) (originals s)
    unfolding originals
    inverse_are s = inverse (set_size g s) (by_new p s) (λ x. owns o s x r) (λ x. imports_execute g o s x r) (λ x. imports_nonexecute g o s x r) (originals s) (groups_apart g o s r) refl

    pub few_originals : (s : ℕ) → s < set_count g → length (originals s) ≤ set_size g s
    few_originals s l = number_few (set_size g s) (perm_in p s) (λ x. owns o s x r) (λ x. imports_execute g o s x r)
        (λ x. imports_nonexecute g o s x r) (originals s) (perms.numbers s l) (inverse_are s) (groups_apart g o s r)

    core_items : (s : ℕ) → s < set_count g → (vec_of (table (length (originals s)) (core_at s))).items ≡ table (length (originals s)) (core_at s)
    core_items s l = items_are (table (length (originals s)) (core_at s)) (let e = length_table (length (originals s)) (core_at s) in let f = few_originals s l in let b = sizes s in omega arith)

    pub local_set_is : (s : ℕ) → s < set_count g → IsLocalSet g o p s r (local_set s)
    unfolding local_set own_count core_at
    local_set_is s l = record {
      own = refl;
      exec = refl;
      nonexec = refl;
      inverse = inverse_are s;
      core_count = ap length (core_items s l) ∙ length_table (length (originals s)) (core_at s);
      core = λ k lk. ap (λ z. get_or z k false) (core_items s l) ∙ table_at (length (originals s)) (core_at s) k false lk;
    }
