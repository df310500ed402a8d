-- The lists of targets of narrow maps are short.
use Rattle.std.proofs.Common.{◌<◌, ◌≤◌, ◌*◌, ◌^◌, ℕ, sym, subst, arith, mul-le-mul}
use Rattle.std.specs.List.{All}
use Rattle.std.proofs.lemmas.List.{get_or-map}
use Rattle.mesh_decl.specs.declared.decl.MapDecl.{MapDecl}
use Rattle.mesh_decl.specs.Mesh.{MeshValue, IsMesh, IsMapAt, map_count, set_size, map_from, map_dim}
use Rattle.mesh_decl.proofs.Public.{sizes_fit, some_in}
use Rattle.bound_program.specs.Limits.{max_dim}
use Rattle.loop_plan.specs.Laws.{FitsMemory}

dim_few : (g : MeshValue) → All (λ (d : MapDecl). d.dim ≤ max_dim) g.maps → (m : ℕ) → m < map_count g → map_dim g m ≤ 64
unfolding map_dim
dim_few g h m l =
    let d : MapDecl = some_in g.maps m l in
    subst (λ z. z ≤ 64) (sym (get_or-map (λ (d : MapDecl). d.dim) g.maps m d 0 l)) (h m d l)

pub fits_memory : ((g : MeshValue) → IsMesh g → (m : ℕ) → m < map_count g → IsMapAt g m) → (g : MeshValue) → IsMesh g → All (λ (d : MapDecl). d.dim ≤ max_dim) g.maps → FitsMemory g
fits_memory maps g mesh narrow m l =
    let e = (maps g mesh m l).length in
    let s : set_size g (map_from g m) < 2 ^ 32 = sizes_fit g mesh (map_from g m) in
    let d = dim_few g narrow m l in
    let t : set_size g (map_from g m) ≤ 4294967296 = omega arith in
    let p : set_size g (map_from g m) * map_dim g m ≤ 4294967296 * 64 = mul-le-mul t d in
    omega arith
