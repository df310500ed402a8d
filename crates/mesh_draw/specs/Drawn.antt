-- When there is a picture of a mesh on ranks, or its text for VTK, and which.
use Rattle.std.specs.Prelude.{◌≡◌, ℕ, ◌<◌, ◌≤◌, ◌⊎◌, List, [], ◌++◌, Option, Some, None, length, slice_index, codes}
use Rattle.mesh_decl.specs.Mesh.{MeshValue, map_from, dat_count, dat_set, dat_dim}
use Rattle.bound_program.specs.Values.{BoundValue}
use Rattle.partition.specs.declared.distribute.types.Distribution.{Distribution}
use Rattle.loop_plan.specs.Values.{PlanValue}
use Rattle.cell_numbers.specs.declared.types.Shown.{Shown}
use Rattle.cell_numbers.specs.declared.types.Shown.TheVariants as shown
use Rattle.cell_numbers.specs.declared.types.ShownRefusal.TheVariants as unshown
use Rattle.cell_numbers.specs.Numbers.{shown_text}
use Rattle.cell_numbers.specs.Shown.{AreNumbers, IsThere, IsNotThere}
use Rattle.mesh_draw.specs.declared.shapes.shape.Shape.{Shape}
use Rattle.mesh_draw.specs.Shapes.{IsShape, IsUnshaped}
use Rattle.mesh_draw.specs.Picture.{IsPicture}
use Rattle.mesh_draw.specs.declared.vtk_texts.field.Field.{Field}
use Rattle.mesh_draw.specs.Text.{Data, whole_text}
use Rattle.mesh_draw.specs.declared.fields.refusals.FieldRefusal.{FieldRefusal}
use Rattle.mesh_draw.specs.declared.fields.refusals.FieldRefusal.TheVariants as unread
use Rattle.mesh_draw.specs.Fields.{AreFields, HaveNoFields}
use Rattle.mesh_draw.specs.declared.types.DrawRefusal.{DrawRefusal}
use Rattle.mesh_draw.specs.declared.types.DrawRefusal.TheVariants as refusal
use Rattle.mesh_draw.specs.Fills.{fills_of, labels_of}

-- the cells have this shape, in the plane
pub record IsPlaneShape (g : MeshValue) (coords cells : List ℕ) (s : Shape) : Type 0 where
  pub named : IsShape g coords cells s
  pub plane : dat_dim g s.coords ≡ 2

-- why the cells have no shape in the plane
abbrev pub IsNotPlane : MeshValue → (coords cells : List ℕ) → DrawRefusal → Type 0
IsNotPlane g coords cells (refusal.Shape r) = IsUnshaped g coords cells r
IsNotPlane g coords cells refusal.NotPlane = (s : Shape) × IsShape g coords cells s × ¬ (dat_dim g s.coords ≡ 2)
IsNotPlane g coords cells e = ⊥

-- one of the colours has a number beyond the 64
abbrev pub HasManyColours : List ℕ → Type 0
HasManyColours fills = (k : ℕ) × (k < length fills) × (64 ≤ slice_index fills k)

-- the name of the array of the cells' numbers, which no dat has
abbrev pub array_name : Shown → List ℕ
array_name shown.Owners = codes "op2-owner"
array_name (shown.Halos r) = codes "op2-halo"
array_name (shown.Colours site) = codes "op2-colour"

-- what a text for VTK says beside the grid
abbrev pub grid_data : Shown → (numbers : List ℕ) → (on_cells on_nodes : List Field) → Data
grid_data w numbers on_cells on_nodes = record {
  title = codes "op2 cells" ++ shown_text w;
  name = array_name w;
  numbers = numbers;
  on_cells = on_cells;
  on_nodes = on_nodes;
}

-- the refusal of fields as one of a picture
abbrev pub by_fields : FieldRefusal → DrawRefusal
by_fields unread.OutOfMemory = refusal.Shown unshown.OutOfMemory
by_fields e = refusal.Fields e

-- the fields on a set by the output of a run, where there is one
abbrev pub AreRunFields : BoundValue → Option (List ℕ) → (set : ℕ) → List Field → Type 0
AreRunFields b None set fs = fs ≡ []
AreRunFields b (Some output) set fs = AreFields b output set (dat_count b.mesh) fs

-- the output of a run gives no fields on a set, for this cause
abbrev pub HaveNoRunFields : BoundValue → Option (List ℕ) → (set : ℕ) → FieldRefusal → Type 0
HaveNoRunFields b None set e = ⊥
HaveNoRunFields b (Some output) set e = HaveNoFields b output set e

-- the same as a refusal of a picture; want of memory alone is free
abbrev pub AreUntold : BoundValue → Option (List ℕ) → (set : ℕ) → DrawRefusal → Type 0
AreUntold b output set (refusal.Shown unshown.OutOfMemory) = Unit {0}
AreUntold b output set (refusal.Fields unread.OutOfMemory) = ⊥
AreUntold b output set (refusal.Fields e) = HaveNoRunFields b output set e
AreUntold b output set e = ⊥

module _ (b : BoundValue) (d : Distribution) (p : PlanValue) where
  -- This is the text of the picture.
  pub record IsDrawn (coords cells : List ℕ) (w : Shown) (text : List ℕ) : Type 0 where
    pub shape : Shape
    pub plane : IsPlaneShape b.mesh coords cells shape
    pub numbers : List ℕ
    pub numbered : AreNumbers b d p w (map_from b.mesh shape.cells) numbers
    pub picture : IsPicture b.mesh shape (fills_of w numbers) (cells ++ shown_text w) (labels_of w d.owners.ranks (fills_of w numbers))
        text

  -- the cells have a shape in the plane, and numbers, one of which has no colour
  pub record LacksColours (coords cells : List ℕ) (w : Shown) : Type 0 where
    pub shape : Shape
    pub plane : IsPlaneShape b.mesh coords cells shape
    pub numbers : List ℕ
    pub numbered : AreNumbers b d p w (map_from b.mesh shape.cells) numbers
    pub many : HasManyColours (fills_of w numbers)

  -- why there is no picture: the first of the causes that is so; want of memory alone is free
  abbrev pub IsUndrawn : (coords cells : List ℕ) → Shown → DrawRefusal → Type 0
  IsUndrawn coords cells w (refusal.Shown unshown.OutOfMemory) = Unit {0}
  IsUndrawn coords cells w (refusal.Shown r) =
      (s : Shape) × IsPlaneShape b.mesh coords cells s × IsNotThere b d w (map_from b.mesh s.cells) r
  IsUndrawn coords cells w refusal.ManyColours = LacksColours coords cells w
  IsUndrawn coords cells w e = IsNotPlane b.mesh coords cells e

  -- This is the text for VTK, with what the output of a run says where there is one.
  pub record IsGrid (coords cells : List ℕ) (w : Shown) (output : Option (List ℕ)) (text : List ℕ) : Type 0 where
    pub shape : Shape
    pub named : IsShape b.mesh coords cells shape
    pub numbers : List ℕ
    pub numbered : AreNumbers b d p w (map_from b.mesh shape.cells) numbers
    pub on_cells : List Field
    pub cells_told : AreRunFields b output (map_from b.mesh shape.cells) on_cells
    pub on_nodes : List Field
    pub nodes_told : AreRunFields b output (dat_set b.mesh shape.coords) on_nodes
    pub whole : text ≡ whole_text b.mesh shape (grid_data w numbers on_cells on_nodes)

  -- the cells have a shape and what is to be shown is there; the output gives no fields on the cells, or else none on the nodes
  pub record LacksFields (coords cells : List ℕ) (w : Shown) (output : Option (List ℕ)) (e : FieldRefusal) : Type 0 where
    pub shape : Shape
    pub named : IsShape b.mesh coords cells shape
    pub there : IsThere b d w (map_from b.mesh shape.cells)
    pub none : HaveNoRunFields b output (map_from b.mesh shape.cells) e
        ⊎ ((on_cells : List Field) × AreRunFields b output (map_from b.mesh shape.cells) on_cells
        × HaveNoRunFields b output (dat_set b.mesh shape.coords) e)

  -- why there is no text for VTK: the first of the causes that is so; want of memory alone is free
  abbrev pub IsNoGrid : (coords cells : List ℕ) → Shown → Option (List ℕ) → DrawRefusal → Type 0
  IsNoGrid coords cells w output (refusal.Shape r) = IsUnshaped b.mesh coords cells r
  IsNoGrid coords cells w output (refusal.Shown unshown.OutOfMemory) = Unit {0}
  IsNoGrid coords cells w output (refusal.Shown r) =
      (s : Shape) × IsShape b.mesh coords cells s × IsNotThere b d w (map_from b.mesh s.cells) r
  IsNoGrid coords cells w output (refusal.Fields unread.OutOfMemory) = ⊥
  IsNoGrid coords cells w output (refusal.Fields e) = LacksFields coords cells w output e
  IsNoGrid coords cells w output e = ⊥
