-- The bytes of a file come to one result.
use Rattle.std.proofs.Common.{◌≡◌, ℕ, subst, ℤ, List, [], length, Option, Ok}
use Rattle.gmsh_mesh.specs.declared.cell_sides.shape.Shape.{Shape}
use Rattle.gmsh_mesh.specs.Sides.{nodes, side_nodes}
use Rattle.gmsh_text.specs.declared.read.GmshText.{GmshText}
use Rattle.gmsh_text.specs.Reading.{outcome}
use Rattle.gmsh_mesh.specs.declared.choice.Dimension.{Dimension}
use Rattle.gmsh_mesh.specs.declared.choice.Choice.{Choice}
use Rattle.gmsh_mesh.specs.Stages.{given, Both}
use Rattle.gmsh_mesh.specs.Choice.{dim_count, dimension, choice, one_type, cell_table, side_table}
use Rattle.gmsh_mesh.specs.Coordinates.{places_behind}
use Rattle.gmsh_mesh.specs.Numbers.{NumbersAre}
use Rattle.gmsh_mesh.specs.Faces.{MatesAre, FaceArrays, AreFacesOf}
use Rattle.gmsh_mesh.specs.Boundary.{TagsAre}
use Rattle.gmsh_mesh.specs.Mesh.{within, size_before, NodesAre, RowsAre, ElementsAre, elements_of, TaggedAre, FacedAre, MeshIs}
use Rattle.gmsh_mesh.specs.Outcome.{told, ArraysAre, written, Comes}
use Rattle.gmsh_mesh.proofs.One.{IsOne, told-one, given-one, both-one}
use Rattle.gmsh_mesh.proofs.OneNumbers.{numbers-one}
use Rattle.gmsh_mesh.proofs.OneFaces.{same-sides, mates-one, same-faces}
use Rattle.gmsh_mesh.proofs.OneTags.{tags-one}
use Rattle.gmsh_mesh.proofs.Whole.{AfterShape, AfterSizes, AfterNodes}

module _ (t : GmshText) (dim : Dimension) (scale : ℕ) where
  tagged-one : (shape : Shape) (x : List ℤ) (cell elements : List ℕ) (f : FaceArrays) → IsOne (TaggedAre t dim shape x cell elements f)
  tagged-one shape x cell elements f =
      given-one (TagsAre (side_nodes shape) (length f.bcell) f.bface (elements_of t shape elements))
      (λ tags r. r ≡ Ok (record { dim = dim_count dim; shape = shape; x = x; cell = cell; faces = f; btag = tags }))
      (tags-one (side_nodes shape) (length f.bcell) f.bface (elements_of t shape elements))
      (λ tags. told-one (Ok (record { dim = dim_count dim; shape = shape; x = x; cell = cell; faces = f; btag = tags })))

  faced-one : (shape : Shape) (x : List ℤ) (cell elements : List ℕ) → IsOne (FacedAre t dim shape x cell elements)
  faced-one shape x cell elements a b (p, h, i) (q, k, j) =
      let lines = (cell_table shape t.elements).lines in
      let same : p ≡ q = same-sides shape (length lines) cell p q h k in
      given-one (MatesAre shape lines q)
      (λ mates r. (f : FaceArrays) × AreFacesOf shape (length lines) q mates f × TaggedAre t dim shape x cell elements f r)
      (mates-one shape lines q)
      (λ mates c d u v. tagged-one shape x cell elements v.0 c d
      (subst (λ f. TaggedAre t dim shape x cell elements f c) (same-faces shape (length lines) q mates u.0 v.0 u.1 v.1) u.2) v.2)
      a b
      (subst (λ z. given (MatesAre shape lines z)
      (λ mates r. (f : FaceArrays) × AreFacesOf shape (length lines) z mates f × TaggedAre t dim shape x cell elements f r) a) same i)
      j

  elements-one : (c : Choice) → IsOne (ElementsAre t c)
  elements-one c =
      let cells = RowsAre t (cell_table c.shape t.elements) (nodes c.shape) in
      let likes = RowsAre t (side_table c.shape t.elements) (side_nodes c.shape) in
      both-one (λ r. r ≡ one_type c.other) (Both cells likes) (told-one (one_type c.other))
      (both-one cells likes
      (numbers-one t.nodes.tags (cell_table c.shape t.elements).nodes (cell_table c.shape t.elements).lines (nodes c.shape))
      (numbers-one t.nodes.tags (side_table c.shape t.elements).nodes (side_table c.shape t.elements).lines (side_nodes c.shape)))

  nodes-one : IsOne (NodesAre t dim scale)
  nodes-one =
      both-one (NumbersAre t.nodes.tags [] [] 1) (λ x. x ≡ places_behind dim scale [] t.nodes.points)
      (numbers-one t.nodes.tags [] [] 1) (told-one (places_behind dim scale [] t.nodes.points))

  pub mesh-one : IsOne (MeshIs t dim scale)
  mesh-one =
      given-one (λ r. r ≡ choice dim t.elements) (AfterShape t dim scale) (told-one (choice dim t.elements)) (λ c.
      given-one (λ r. r ≡ within (size_before t dim c.shape)) (λ _. AfterSizes t dim scale c) (told-one (within (size_before t dim c.shape))) (λ _.
      given-one (NodesAre t dim scale) (AfterNodes t dim c) nodes-one (λ n.
      given-one (ElementsAre t c) (λ e. FacedAre t dim c.shape n.1 e.1.0 e.1.1) (elements-one c) (λ e. faced-one c.shape n.1 e.1.0 e.1.1))))

pub arrays-one : (bytes : List ℕ) (dim : Option Dimension) (scale : ℕ) → IsOne (ArraysAre bytes dim scale)
arrays-one bytes dim scale =
    given-one (λ r. r ≡ told (outcome bytes)) (λ t. MeshIs t (dimension dim t.elements) scale) (told-one (told (outcome bytes)))
    (λ t. mesh-one t (dimension dim t.elements) scale)

pub comes-one : (bytes : List ℕ) (dim : Option Dimension) (scale : ℕ) → IsOne (Comes bytes dim scale)
comes-one bytes dim scale =
    given-one (ArraysAre bytes dim scale) (λ m r. r ≡ written m) (arrays-one bytes dim scale) (λ m. told-one (written m))
