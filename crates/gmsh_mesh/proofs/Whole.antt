-- Sizes of what a mesh is made of.
use Rattle.std.proofs.Common.{◌≡◌, inl, inr, ℕ, ◌+◌, ◌*◌, ◌≤◌, ◌∙◌, refl, sym, ap, subst, arith, ℤ, List, [], ◌∷◌, length, Option, Result, Ok, Err, mul_assoc, mul_right_comm}
use Rattle.std.proofs.lemmas.List.{length-map}
use Rattle.gmsh_mesh.specs.declared.cell_sides.shape.Shape.{Shape}
use Rattle.gmsh_mesh.specs.declared.cell_sides.shape.Shape.TheVariants.{Triangle, Quadrangle, Tetrahedron, Hexahedron}
use Rattle.gmsh_mesh.specs.Sides.{nodes, sides, side_nodes}
use Rattle.gmsh_mesh.specs.SideMates.{AreSideMates}
use Rattle.gmsh_mesh.specs.FaceLists.{AreFaces}
use Rattle.gmsh_mesh.specs.Arrays.{cell_of, pairs_of}
use Rattle.gmsh_mesh.specs.Sums.{AreMutual}
use Rattle.gmsh_text.specs.declared.table.Elements.{Elements}
use Rattle.gmsh_text.specs.declared.refusal.TextRefusal.{TextRefusal}
use Rattle.gmsh_text.specs.declared.read.GmshText.{GmshText}
use Rattle.gmsh_text.specs.Reading.{outcome}
use Rattle.gmsh_text.specs.Whole.{AreWhole}
use Rattle.gmsh_mesh.specs.declared.refusal.GmshRefusal.{GmshRefusal}
use Rattle.gmsh_mesh.specs.declared.choice.Dimension.{Dimension}
use Rattle.gmsh_mesh.specs.declared.choice.Choice.{Choice}
use Rattle.gmsh_mesh.specs.Stages.{Judgement, given, Both}
use Rattle.gmsh_mesh.specs.Choice.{dim_count, dimension, choice, one_type, cell_table, side_table}
use Rattle.gmsh_mesh.specs.Faces.{MatesAre, FaceArrays, AreFacesOf}
use Rattle.gmsh_mesh.specs.Boundary.{TagsAre}
use Rattle.gmsh_mesh.specs.Mesh.{Arrays, within, size_before, NodesAre, RowsAre, ElementsAre, elements_of, TaggedAre, FacedAre, MeshIs}
use Rattle.gmsh_mesh.specs.Outcome.{told, ArraysAre}
use Rattle.gmsh_mesh.proofs.Facing.{are-mutual}

pub cells-whole : (shape : Shape) (es : Elements) → AreWhole es → length (cell_table shape es).nodes ≡ length (cell_table shape es).lines * nodes shape
cells-whole Triangle es w = w.triangles.nodes
cells-whole Quadrangle es w = w.quadrangles.nodes
cells-whole Tetrahedron es w = w.tetrahedra.nodes
cells-whole Hexahedron es w = w.hexahedra.nodes

pub sides-whole : (shape : Shape) (es : Elements) → AreWhole es → length (side_table shape es).nodes ≡ length (side_table shape es).lines * side_nodes shape
sides-whole Triangle es w = w.lines.nodes
sides-whole Quadrangle es w = w.lines.nodes
sides-whole Tetrahedron es w = w.triangles.nodes
sides-whole Hexahedron es w = w.quadrangles.nodes

-- a shape has some nodes and sides, and few of them
pub record IsFew (shape : Shape) : Type 0 where
  pub some_nodes : 3 ≤ nodes shape
  pub few_nodes : nodes shape ≤ 8
  pub some_sides : 3 ≤ sides shape
  pub few_sides : sides shape ≤ 6
  pub some_corners : 2 ≤ side_nodes shape
  pub few_corners : side_nodes shape ≤ 4

pub few : (shape : Shape) → IsFew shape
few Triangle = record { some_nodes = omega arith; few_nodes = omega arith; some_sides = omega arith; few_sides = omega arith; some_corners = omega arith; few_corners = omega arith }
few Quadrangle = record { some_nodes = omega arith; few_nodes = omega arith; some_sides = omega arith; few_sides = omega arith; some_corners = omega arith; few_corners = omega arith }
few Tetrahedron = record { some_nodes = omega arith; few_nodes = omega arith; some_sides = omega arith; few_sides = omega arith; some_corners = omega arith; few_corners = omega arith }
few Hexahedron = record { some_nodes = omega arith; few_nodes = omega arith; some_sides = omega arith; few_sides = omega arith; some_corners = omega arith; few_corners = omega arith }

-- what is so of two judgements that give values
pub both-ok : {A B : Type 0} (one : Judgement A) (other : Judgement B) (p : A × B) → Both one other (Ok p) → one (Ok p.0) × other (Ok p.1)
both-ok one other p (Ok a, Ok b, h, k, is) = let e : (a, b) ≡ p = cc in subst (λ q. one (Ok q.0) × other (Ok q.1)) e (h, k)
both-ok one other p (Ok a, Err f, h, k, is) = absurd (let f : ⊥ = cc in f)
both-ok one other p (Err e, Ok b, h, k, is) = absurd (let f : ⊥ = cc in f)
both-ok one other p (Err e, Err f, h, k, is) = absurd (let f : ⊥ = cc in f)

pub told-ok : (bytes : List ℕ) (t : GmshText) → ◌≡◌ {A = Result GmshText GmshRefusal} (Ok t) (told (outcome bytes)) → outcome bytes ≡ Ok t
told-ok bytes t = by (outcome bytes)
  where
    by : (r : Result GmshText TextRefusal) → ◌≡◌ {A = Result GmshText GmshRefusal} (Ok t) (told r) → r ≡ Ok t
    by (Ok u) h = cc
    by (Err e) h = cc

pairs-length : (mates : List ℕ) (s : ℕ) (places : List ℕ) → length (pairs_of mates s places) ≡ 2 * length places
pairs-length mates s [] = refl
pairs-length mates s (p ∷ ps) = let h = pairs-length mates s ps in omega (arith, h)

module _ (law : (mates firsts alone : List ℕ) (n : ℕ) → AreMutual mates n → AreFaces mates n firsts alone → 2 * length firsts + length alone ≡ n) where
  pub faces-count : (shape : Shape) (count : ℕ) (all mates : List ℕ) (f : FaceArrays) → length all ≡ count * sides shape * side_nodes shape
      → AreSideMates all (side_nodes shape) (count * sides shape) mates
      → AreFacesOf shape count all mates f
      → length f.fcell + length f.bcell ≡ count * sides shape
  faces-count shape count all mates f table m a =
      let l = law mates a.inner a.outer (count * sides shape) (are-mutual all mates (side_nodes shape) (count * sides shape) 1 table m) a.faces in
      let p = ap length a.fcell ∙ pairs-length mates (sides shape) a.inner in
      let c = ap length a.bcell ∙ length-map a.outer (cell_of (sides shape)) in
      omega (arith, l, p, c)

-- what is so of two judgements one after another that give a value
pub given-ok : {A B : Type 0} (judged : Judgement A) (rest : A → Judgement B) (m : B) → given judged rest (Ok m) → (x : A) × judged (Ok x) × rest x (Ok m)
given-ok judged rest m (inl h) = absurd (let f : ⊥ = cc in f)
given-ok judged rest m (inr h) = h

-- a mesh of its parts
abbrev arrays : Dimension → Shape → List ℤ → List ℕ → FaceArrays → List ℤ → Arrays
arrays dim shape x cell f tags = record { dim = dim_count dim; shape = shape; x = x; cell = cell; faces = f; btag = tags }

-- what is judged behind the shape, behind the sizes and behind the nodes
abbrev pub AfterNodes : GmshText → Dimension → Choice → (List ℕ × List ℤ) → Judgement Arrays
AfterNodes t dim c n = given (ElementsAre t c) (λ e. FacedAre t dim c.shape n.1 e.1.0 e.1.1)

abbrev pub AfterSizes : GmshText → Dimension → (scale : ℕ) → Choice → Judgement Arrays
AfterSizes t dim scale c = given (NodesAre t dim scale) (AfterNodes t dim c)

abbrev pub AfterShape : GmshText → Dimension → (scale : ℕ) → Choice → Judgement Arrays
AfterShape t dim scale c = given (λ r. r ≡ within (size_before t dim c.shape)) (λ _. AfterSizes t dim scale c)

same-ok : {A : Type 0} (a b : A) → ◌≡◌ {A = Result A GmshRefusal} (Ok a) (Ok b) → a ≡ b
same-ok a b h = cc

module _ (law : (mates firsts alone : List ℕ) (n : ℕ) → AreMutual mates n → AreFaces mates n firsts alone → 2 * length firsts + length alone ≡ n)
    (whole : (bytes : List ℕ) (t : GmshText) → outcome bytes ≡ Ok t → AreWhole t.elements) where
  counted : (t : GmshText) (dim : Dimension) (shape : Shape) (x : List ℤ) (cell elements : List ℕ) (m : Arrays) → AreWhole t.elements
      → length cell ≡ length (cell_table shape t.elements).nodes
      → FacedAre t dim shape x cell elements (Ok m)
      → (length m.faces.fcell + length m.faces.bcell) * nodes m.shape ≡ length m.cell * sides m.shape
  counted t dim shape x cell elements m w size (all, s, h) =
      let lines = (cell_table shape t.elements).lines in
      let g = given-ok (MatesAre shape lines all) (λ mates q. (f : FaceArrays) × AreFacesOf shape (length lines) all mates f × TaggedAre t dim shape x cell elements f q) m h in
      let k = given-ok (TagsAre (side_nodes shape) (length g.2.0.bcell) g.2.0.bface (elements_of t shape elements))
      (λ tags q. q ≡ Ok (arrays dim shape x cell g.2.0 tags)) m g.2.2 in
      let is : m ≡ arrays dim shape x cell g.2.0 k.0 = same-ok m (arrays dim shape x cell g.2.0 k.0) k.2 in
      let n = length lines in
      let c = cells-whole shape t.elements w in
      let table : length all ≡ n * sides shape * side_nodes shape = s.size ∙ sym (mul_assoc n (sides shape) (side_nodes shape)) in
      let f = faces-count law shape n all g.0 g.2.0 table g.1 g.2.1 in
      let e : length cell * sides shape ≡ n * sides shape * nodes shape =
      ap (λ z. z * sides shape) (size ∙ c) ∙ mul_right_comm n (nodes shape) (sides shape) in
      subst (λ z. (length z.faces.fcell + length z.faces.bcell) * nodes z.shape ≡ length z.cell * sides z.shape) (sym is)
      (ap (λ z. z * nodes shape) f ∙ sym e)

  pub all-counted : (bytes : List ℕ) (dim : Option Dimension) (scale : ℕ) (m : Arrays) → ArraysAre bytes dim scale (Ok m)
      → (length m.faces.fcell + length m.faces.bcell) * nodes m.shape ≡ length m.cell * sides m.shape
  all-counted bytes dim scale m h =
      let a = given-ok (λ r. r ≡ told (outcome bytes)) (λ t. MeshIs t (dimension dim t.elements) scale) m h in
      let t = a.0 in
      let d = dimension dim t.elements in
      let b = given-ok (λ r. r ≡ choice d t.elements) (AfterShape t d scale) m a.2 in
      let c = given-ok (λ r. r ≡ within (size_before t d b.0.shape)) (λ _. AfterSizes t d scale b.0) m b.2 in
      let n = given-ok (NodesAre t d scale) (AfterNodes t d b.0) m c.2 in
      let e = given-ok (ElementsAre t b.0) (λ e. FacedAre t d b.0.shape n.0.1 e.1.0 e.1.1) m n.2 in
      let cells = RowsAre t (cell_table b.0.shape t.elements) (nodes b.0.shape) in
      let likes = RowsAre t (side_table b.0.shape t.elements) (side_nodes b.0.shape) in
      let p = both-ok (λ r. r ≡ one_type b.0.other) (Both cells likes) e.0 e.1 in
      let q = both-ok cells likes e.0.1 p.1 in
      counted t d b.0.shape n.0.1 e.0.1.0 e.0.1.1 m (whole bytes t (told-ok bytes t a.1)) q.0.size e.2
