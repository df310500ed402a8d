-- Coordinates as integers.
use Rattle.std.specs.Prelude.{◌≡◌, ◌^◌, ◌-◌, ◌⊎◌, ℕ, zero, suc, ℤ, pos, List, [], ◌∷◌, ◌++◌, Option, Result, Ok, Err, if◌then◌else◌}
use Rattle.std.specs.Ordering.{int_eq}
use Rattle.op_num.specs.Cut.{Word}
use Rattle.op_num.specs.Automaton.{after, onto}
use Rattle.gmsh_text.specs.Decimal.{Decimal, decimal_of}
use Rattle.gmsh_text.specs.Nearest.{fits_at, judged}
use Rattle.gmsh_text.specs.declared.decimals.reading.DecimalRefusal.{DecimalRefusal}
use Rattle.gmsh_text.specs.declared.nodes.Point.{Point}
use Rattle.gmsh_mesh.specs.declared.choice.Dimension.{Dimension}
use Rattle.gmsh_mesh.specs.declared.choice.Dimension.TheVariants.{Two, Three}
use Rattle.gmsh_mesh.specs.declared.refusal.GmshRefusal.{GmshRefusal}
use Rattle.gmsh_mesh.specs.declared.refusal.GmshRefusal.TheVariants.{Coordinate, NotPlane, OutOfMemory}

-- the largest scale up to this one at which the decimal is an integer of 32 bits; 0 where it is one at none
unfoldable pub largest_upto : Option Decimal → ℕ → ℕ
largest_upto d zero = 0
largest_upto d (suc k) = if fits_at d (suc k) then suc k else largest_upto d k

-- the same of all scales
abbrev pub largest : Word → ℕ
largest w = largest_upto (decimal_of w.text) (2 ^ 32 - 1)

-- the integer, or the refusal of this coordinate
abbrev pub coordinate_read : Word → Result ℤ DecimalRefusal → Result ℤ GmshRefusal
coordinate_read w (Ok z) = Ok z
coordinate_read w (Err e) = Err (Coordinate w.line (largest w))

-- a coordinate: the integer nearest to the decimal times the scale, ties away from zero
abbrev pub coordinate : ℕ → Word → Result ℤ GmshRefusal
coordinate scale w = coordinate_read w (judged (decimal_of w.text) scale)

-- nothing, where the integer is 0
abbrev pub plane_read : Word → Result ℤ DecimalRefusal → Result (Unit {0}) GmshRefusal
plane_read w (Ok z) = if int_eq z (pos 0) then Ok tt else Err (NotPlane w.line)
plane_read w (Err e) = Err (NotPlane w.line)

-- the third coordinate of a plane mesh
abbrev pub plane_word : ℕ → Word → Result (Unit {0}) GmshRefusal
plane_word scale w = plane_read w (judged (decimal_of w.text) scale)

-- the coordinates of a node; in a plane mesh the third is 0, and left out
unfoldable pub place : Dimension → ℕ → Point → Result (List ℤ) GmshRefusal
place Two scale p = after (coordinate scale p.x) (λ x. after (coordinate scale p.y) (λ y. onto (plane_word scale p.z) (λ _. x ∷ y ∷ [])))
place Three scale p =
    after (coordinate scale p.x) (λ x. after (coordinate scale p.y) (λ y. onto (coordinate scale p.z) (λ z. x ∷ y ∷ z ∷ [])))

-- the coordinates of all nodes behind others, or the first refusal
unfoldable pub places_behind : Dimension → ℕ → List ℤ → List Point → Result (List ℤ) GmshRefusal
places_behind dim scale front [] = Ok front
places_behind dim scale front (p ∷ ps) = after (place dim scale p) (λ xs. places_behind dim scale (front ++ xs) ps)

-- unless memory ran out, this is the list that was made, or the refusal
abbrev pub IsPlaced : {A : Type 0} → Result A GmshRefusal → List ℤ → Result (List ℤ) GmshRefusal → Type 0
IsPlaced (Ok x) zs r = r ≡ Ok zs
IsPlaced (Err e) zs r = (e ≡ OutOfMemory) ⊎ (r ≡ Err e)
