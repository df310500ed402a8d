-- The first target that is no element, looked for value by value.
use Rattle.std.proofs.Common.{◌≡◌, ℕ, ℤ, ◌+◌, ◌<◌, Bool, true, false, List, drop, length, get_or, Some, refl, sym, ap, ◌∙◌, arith}
use Rattle.std.proofs.lemmas.List.{get_or_default}
use Rattle.mesh_decl.specs.Mesh.{is_element}
use Rattle.main_declarations.specs.Declarations.{first_stray}
use Rattle.lemmas.proofs.Lists.{drop_here}

pub stray_go : (size i : ℕ) (zs : List ℤ) (k : ℕ) (z : ℤ) → k < length zs → z ≡ get_or zs k z → is_element size z ≡ true → first_stray size (i + 1) (drop (k + 1) zs) ≡ first_stray size i (drop k zs)
stray_go size i zs k z h g t = rw (drop_here zs k z h g, t) (ap (λ n. first_stray size n (drop (k + 1) zs)) (omega arith))

pub stray_stops : (size i : ℕ) (zs : List ℤ) (k : ℕ) (z : ℤ) → k < length zs → z ≡ get_or zs k z → is_element size z ≡ false → first_stray size i (drop k zs) ≡ Some i
stray_stops size i zs k z h g t = rw (drop_here zs k z h g, t) refl

pub stray_next : (size i : ℕ) (zs : List ℤ) (k : ℕ) (d : ℤ) (b : Bool) → k < length zs → b ≡ is_element size (get_or zs k d) → b ≡ true
    → first_stray size (i + 1) (drop (k + 1) zs) ≡ first_stray size i (drop k zs)
stray_next size i zs k d b h e t = stray_go size i zs k (get_or zs k d) h (get_or_default zs k d (get_or zs k d) h) (sym e ∙ t)
