-- What colours say of places in conflict.
use Rattle.std.specs.Prelude.{◌≡◌, ◌≢◌, ℕ, ◌<◌, ◌⊎◌, true, List, Vec, slice_index, Contains}
use Rattle.std.specs.declared.alloc.Global.{Global}
use Rattle.mesh_decl.specs.Mesh.{MeshValue, IsDatAt, dat_count}
use Rattle.mesh_decl.specs.declared.owners.Owners.{Owners}
use Rattle.mesh_decl.specs.declared.owners.Perms.{Perms}
use Rattle.mesh_decl.specs.Owners.{ArePerms}
use Rattle.local_mesh.specs.declared.types.RankMesh.{RankMesh}
use Rattle.local_mesh.specs.LocalMesh.{IsRankMesh, originals_in}
use Rattle.schedule_steps.specs.Outline.{Outline, by_colour}
use Rattle.colouring.specs.Outlined.{IsOutlined}
use Rattle.colouring.specs.declared.types.IncArg.{IncArg}
use Rattle.colouring.specs.declared.types.Colours.{Colours}
use Rattle.colouring.specs.Colours.{Conflict, BlocksConflict, AreArgs, AreColours, goes_before, reached_by}

-- of two places in conflict, one goes before the other by the colours
abbrev pub PlacesAreOrdered : Type 0
PlacesAreOrdered =
    (g : MeshValue) (maps : List (Vec ℕ Global)) (args : List IncArg) (places size : ℕ) (c : Colours)
    → 0 < size
    → AreColours g maps args places size c
    → (p q : ℕ) → p < places → q < places → p ≢ q
    → Conflict g maps args p q
    → (goes_before c size p q ≡ true) ⊎ (goes_before c size q p ≡ true)

-- two blocks with places in conflict have different colours
abbrev pub BlocksDiffer : Type 0
BlocksDiffer =
    (g : MeshValue) (maps : List (Vec ℕ Global)) (args : List IncArg) (places size : ℕ) (c : Colours)
    → AreColours g maps args places size c
    → (a b : ℕ) → a ≢ b
    → BlocksConflict g maps args places size a b
    → slice_index c.blocks.items a ≢ slice_index c.blocks.items b

-- of two elements that a rank executes and that reduce into one element of a dat, one goes before the other by an outline
-- with these colours; elements have their original numbers
abbrev pub TargetsAreOrdered : MeshValue → Type 0
TargetsAreOrdered g =
    (o : Owners) (p : Perms) (r : ℕ) (m : RankMesh) (args : List IncArg) (places size : ℕ) (c : Colours)
    (t : Outline) (k : ℕ) (place : ℕ → ℕ)
    → 0 < size
    → ArePerms g p
    → IsRankMesh g o p r m
    → (a : AreArgs g m.sets.items places args)
    → AreColours g m.maps.items args places size c
    → IsOutlined t k r place size c
    → (x y : IncArg) (e f : ℕ)
    → Contains args x → Contains args y → x.dat ≡ y.dat
    → place e < places → place f < places
    → slice_index (originals_in m.sets.items a.set) (place e) ≡ e
    → slice_index (originals_in m.sets.items a.set) (place f) ≡ f
    → e ≢ f
    → reached_by g e x.via ≡ reached_by g f y.via
    → (by_colour t k r e f ≡ true) ⊎ (by_colour t k r f e ≡ true)

-- two places that a rank executes and that reduce into one element of a dat are in conflict; elements have their original numbers
abbrev pub CommonTargetsConflict : Type 0
CommonTargetsConflict =
    (g : MeshValue) (o : Owners) (p : Perms) (r : ℕ) (m : RankMesh) (args : List IncArg) (places : ℕ)
    → ((d : ℕ) → d < dat_count g → IsDatAt g d)
    → ArePerms g p
    → IsRankMesh g o p r m
    → (a : AreArgs g m.sets.items places args)
    → (x y : IncArg) (e f : ℕ)
    → Contains args x → Contains args y → x.dat ≡ y.dat
    → e < places → f < places
    → reached_by g (slice_index (originals_in m.sets.items a.set) e) x.via
    ≡ reached_by g (slice_index (originals_in m.sets.items a.set) f) y.via
    → Conflict g m.maps.items args e f
