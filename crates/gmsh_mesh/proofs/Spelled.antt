-- The text of a mesh is read again.
use Rattle.std.proofs.Common.{◌≡◌, ℕ, ◌+◌, ◌^◌, ◌<◌, ◌≤◌, refl, sym, subst, arith, pos, List, length, map, Result, Ok, Err, IfOk}
use Rattle.std.proofs.lemmas.List.{length-map}
use Rattle.mesh_decl.specs.declared.text.entry.TheConstants.{MESH_VALUES}
use Rattle.mesh_decl.specs.Spelling.{Named, Spells, total}
use Rattle.mesh_decl.specs.Canonical.{CanBeSpelled}
use Rattle.gmsh_mesh.specs.Mesh.{Arrays}
use Rattle.gmsh_mesh.specs.Entries.{entries}

-- how many values a mesh has
pub total-is : (m : Arrays)
    → total (entries m)
    ≡ 4 + (length m.x + length m.cell) + (length m.faces.face + length m.faces.fcell) + (length m.faces.bface + length m.faces.bcell) + length m.btag
total-is m =
    let a = length-map m.cell pos in
    let b = length-map m.faces.face pos in
    let c = length-map m.faces.fcell pos in
    let d = length-map m.faces.bface pos in
    let e = length-map m.faces.bcell pos in
    omega (arith, a, b, c, d, e)

few : (n k : ℕ) → n ≤ k → k ≤ MESH_VALUES → n < 2 ^ 31
few n k l lk = omega arith

-- the names are C names, and the arrays have counts
pub can-be-spelled : (m : Arrays) → total (entries m) ≤ MESH_VALUES → CanBeSpelled (entries m)
can-be-spelled m l =
    let t = total-is m in
    let x : length m.x < 2 ^ 31 = few (length m.x) (total (entries m)) (omega (arith, t)) l in
    let a : length (map pos m.cell) < 2 ^ 31 = few (length (map pos m.cell)) (total (entries m)) (omega (arith, t, length-map m.cell pos)) l in
    let b : length (map pos m.faces.face) < 2 ^ 31 = few (length (map pos m.faces.face)) (total (entries m)) (omega (arith, t, length-map m.faces.face pos)) l in
    let c : length (map pos m.faces.fcell) < 2 ^ 31 = few (length (map pos m.faces.fcell)) (total (entries m)) (omega (arith, t, length-map m.faces.fcell pos)) l in
    let d : length (map pos m.faces.bface) < 2 ^ 31 = few (length (map pos m.faces.bface)) (total (entries m)) (omega (arith, t, length-map m.faces.bface pos)) l in
    let e : length (map pos m.faces.bcell) < 2 ^ 31 = few (length (map pos m.faces.bcell)) (total (entries m)) (omega (arith, t, length-map m.faces.bcell pos)) l in
    let y : length m.btag < 2 ^ 31 = few (length m.btag) (total (entries m)) (omega (arith, t)) l in
    (refl, tt, (refl, tt, (refl, tt, (refl, tt, (refl, x, (refl, a, (refl, b, (refl, c, (refl, d, (refl, e, (refl, y, tt)))))))))))

-- what is written spells the entries of the mesh, where these are the ones that were put
pub if-spelled : {V E : Type 0} (items : V → List ℕ) (r : Result V E) (es fs : List Named) → es ≡ fs → CanBeSpelled fs
    → IfOk r (λ v. CanBeSpelled es → Spells (items v) es)
    → IfOk r (λ v. Spells (items v) fs)
if-spelled items (Ok v) es fs is can h = subst (λ z. Spells (items v) z) is (h (subst CanBeSpelled (sym is) can))
if-spelled items (Err e) es fs is can h = tt
