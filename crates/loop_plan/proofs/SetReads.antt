-- One rank's sets and maps, read from the local meshes.
use Rattle.std.proofs.Common.{◌≡◌, ◌+◌, ◌<◌, ◌≤◌, ℕ, zero, suc, List, [], ◌∷◌, length, get_or, sym, ap, ◌∙◌, arith}
use Rattle.std.proofs.lemmas.List.{get_or-map}
use Rattle.local_mesh.specs.declared.types.LocalSet.{LocalSet}
use Rattle.local_mesh.specs.declared.types.RankMesh.{RankMesh}
use Rattle.local_mesh.specs.LocalMesh.{originals_in, executed_in}
use Rattle.loop_plan.specs.Pairs.{sets_of, own_in}
use Rattle.loop_plan.specs.Places.{maps_of}

pub sets_at : (meshes : List RankMesh) (r : ℕ) (m : RankMesh) → r < length meshes → (get_or meshes r m).sets.items ≡ sets_of meshes r
unfolding sets_of
sets_at meshes r m l = sym (get_or-map (λ (x : RankMesh). x.sets.items) meshes r m [] l)

pub maps_at : (meshes : List RankMesh) (r : ℕ) (m : RankMesh) → r < length meshes → (get_or meshes r m).maps.items ≡ maps_of meshes r
unfolding maps_of
maps_at meshes r m l = sym (get_or-map (λ (x : RankMesh). x.maps.items) meshes r m [] l)

pub own_read : (sets : List LocalSet) (t : ℕ) (s : LocalSet) → t < length sets → s ≡ get_or sets t s → s.own ≡ own_in sets t
unfolding own_in
own_read sets t s l e = ap (λ (x : LocalSet). x.own) e ∙ sym (get_or-map (λ (x : LocalSet). x.own) sets t s 0 l)

pub executed_read : (sets : List LocalSet) (t : ℕ) (s : LocalSet)
    → t < length sets
    → s ≡ get_or sets t s
    → s.own + s.exec ≡ executed_in sets t
unfolding executed_in
executed_read sets t s l e = ap (λ (x : LocalSet). x.own + x.exec) e ∙ sym (get_or-map (λ (x : LocalSet). x.own + x.exec) sets t s 0 l)

-- what is owned is executed
pub own_within : (sets : List LocalSet) (t : ℕ) → own_in sets t ≤ executed_in sets t
unfolding own_in executed_in
own_within [] t = omega arith
own_within (x ∷ xs) zero = omega arith
own_within (x ∷ xs) (suc t) = own_within xs t

pub originals_read : (sets : List LocalSet) (t : ℕ) (s : LocalSet) → t < length sets → s ≡ get_or sets t s → s.original ≡ originals_in sets t
unfolding originals_in
originals_read sets t s l e = ap (λ (x : LocalSet). x.original) e ∙ sym (get_or-map (λ (x : LocalSet). x.original) sets t s [] l)
