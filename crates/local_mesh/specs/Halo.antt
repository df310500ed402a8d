-- Import execute, import non-execute, exports and core, as conditions on owners and targets. (The halos of OP2: Mudalige and others, "OP2:
-- An active library framework for solving unstructured mesh-based applications on multi-core and many-core architectures", 2012.)
use Rattle.std.specs.Prelude.{ℕ, Bool, ◌&&◌, ◌||◌, not, nat_eq}
use Rattle.lemmas.specs.Below.{any_below}
use Rattle.mesh_decl.specs.declared.owners.Owners.{Owners}
use Rattle.mesh_decl.specs.Mesh.{MeshValue, map_count, set_size, map_from, map_to, map_dim, target}
use Rattle.mesh_decl.specs.Owners.{owner_of}

-- by map m, element x has a target that rank r owns
abbrev pub reaches_by : MeshValue → Owners → ℕ → ℕ → ℕ → Bool
reaches_by g o m x r = any_below (map_dim g m) (λ i. nat_eq (owner_of o (map_to g m) (target g m x i)) r)

-- by some map, element x of set s has a target that rank r owns
unfoldable pub reaches : MeshValue → Owners → ℕ → ℕ → ℕ → Bool
reaches g o s x r = any_below (map_count g) (λ m. nat_eq (map_from g m) s && reaches_by g o m x r)

-- r is the owner of element x of set s
unfoldable pub owns : Owners → ℕ → ℕ → ℕ → Bool
owns o s x r = nat_eq (owner_of o s x) r

-- import execute: not r's own, with a target of r's
unfoldable pub imports_execute : MeshValue → Owners → ℕ → ℕ → ℕ → Bool
imports_execute g o s x r = not (owns o s x r) && reaches g o s x r

-- owned by r, or in its import execute halo
unfoldable pub executes : MeshValue → Owners → ℕ → ℕ → ℕ → Bool
executes g o s x r = owns o s x r || imports_execute g o s x r

-- by map m, an element of those in e for r has target y
abbrev pub named_by : MeshValue → (ℕ → ℕ → Bool) → ℕ → ℕ → ℕ → Bool
named_by g e m y r = any_below (set_size g (map_from g m)) (λ x. e x r && any_below (map_dim g m) (λ i. nat_eq (target g m x i) y))

-- by some map, an element of those in e for r has target y of set s
unfoldable pub named_from : MeshValue → (ℕ → ℕ → ℕ → Bool) → ℕ → ℕ → ℕ → Bool
named_from g e s y r = any_below (map_count g) (λ m. nat_eq (map_to g m) s && named_by g (e (map_from g m)) m y r)

-- by some map, an element that r executes has target y of set s
abbrev pub named : MeshValue → Owners → ℕ → ℕ → ℕ → Bool
named g o s y r = named_from g (executes g o) s y r

-- import non-execute: a target of what r executes that r doesn't execute
unfoldable pub imports_nonexecute : MeshValue → Owners → ℕ → ℕ → ℕ → Bool
imports_nonexecute g o s y r = named g o s y r && not (executes g o s y r)

-- imported by r, to execute or to read
unfoldable pub imports : MeshValue → Owners → ℕ → ℕ → ℕ → Bool
imports g o s x r = imports_execute g o s x r || imports_nonexecute g o s x r

-- r owns it or imports it
abbrev pub has_copy : MeshValue → Owners → ℕ → ℕ → ℕ → Bool
has_copy g o s x r = owns o s x r || (imports_execute g o s x r || imports_nonexecute g o s x r)

-- all targets by all maps are the owner's
unfoldable pub is_core : MeshValue → Owners → ℕ → ℕ → Bool
is_core g o s x = not (any_below (map_count g) (λ m. nat_eq (map_from g m) s
    && any_below (map_dim g m) (λ i. not (nat_eq (owner_of o (map_to g m) (target g m x i)) (owner_of o s x)))))
