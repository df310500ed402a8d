-- A mesh, put together step by step.
use Rattle.std.proofs.Common.{◌≡◌, ◌⊎◌, inl, inr, ℕ, ◌*◌, ◌^◌, ◌<◌, ◌≤◌, ◌∙◌, refl, sym, ap, subst, ⊎_elim, arith, ℤ, true, List, length, Result, Ok, Err}
use Rattle.std.specs.Prelude.{nat_lt, if◌then◌else◌}
use Rattle.std.proofs.lemmas.List.{length-map}
use Rattle.std.proofs.lemmas.List.Elements.{All-from_get_or}
use Rattle.std.proofs.lemmas.Bool.{cases_lt}
use Rattle.std.proofs.lemmas.Bool.Decides.{nat_tests}
use Rattle.mesh_decl.specs.declared.text.entry.TheConstants.{MESH_VALUES}
use Rattle.gmsh_mesh.specs.declared.cell_sides.shape.Shape.{Shape}
use Rattle.gmsh_mesh.specs.Sides.{nodes, side_nodes, AreSides}
use Rattle.gmsh_mesh.specs.Places.{ArePlaces}
use Rattle.gmsh_text.specs.declared.nodes.Tag.{Tag}
use Rattle.gmsh_text.specs.declared.read.GmshText.{GmshText}
use Rattle.gmsh_text.specs.Rows.{Rows}
use Rattle.gmsh_text.specs.Whole.{AreWhole}
use Rattle.gmsh_mesh.specs.declared.choice.Dimension.{Dimension}
use Rattle.gmsh_mesh.specs.declared.choice.Dimension.TheVariants.{Two, Three}
use Rattle.gmsh_mesh.specs.declared.choice.Choice.{Choice}
use Rattle.gmsh_mesh.specs.declared.refusal.GmshRefusal.{GmshRefusal}
use Rattle.gmsh_mesh.specs.declared.refusal.GmshRefusal.TheVariants.{Limit, OutOfMemory}
use Rattle.gmsh_mesh.specs.Stages.{Judgement, Both, Gives}
use Rattle.gmsh_mesh.specs.Choice.{dim_count, choice, one_type, cell_table, side_table}
use Rattle.gmsh_mesh.specs.Numbers.{number_of_tag, numbers}
use Rattle.gmsh_mesh.specs.Faces.{MatesAre, FaceArrays, AreFacesOf}
use Rattle.gmsh_mesh.specs.Mesh.{Arrays, within, size_before, NodesAre, RowsAre, ElementsAre, TaggedAre, FacedAre, MeshIs}
use Rattle.gmsh_mesh.specs.Small.{AreSmall, ArePlacesOf}
use Rattle.gmsh_mesh.proofs.Staging.{goes}
use Rattle.gmsh_mesh.proofs.Whole.{few, cells-whole, sides-whole, both-ok, AfterNodes, AfterSizes, AfterShape}

-- a judgement of a result that is seen as it is
pub as-is : {A : Type 0} (r : Result A GmshRefusal) (judged : Judgement A) → judged r → Gives r (λ x. x) judged
as-is (Ok x) judged h = h
as-is (Err e) judged h = inr h

-- the same rows with the same width
pub rows-given : {M : Type 0} (r : Result M GmshRefusal) (view : M → List ℕ) (t : GmshText) (a b : Rows) (v w : ℕ) → a ≡ b → v ≡ w
    → Gives r view (RowsAre t a v)
    → Gives r view (RowsAre t b w)
rows-given r view t a b v w p q h =
    subst (λ z. Gives r view (RowsAre t b z)) q (subst (λ z. Gives r view (RowsAre t z v)) p h)

-- what is asked of a table of whole elements
pub is-table : (rows table : Rows) (w n : ℕ) → rows ≡ table → w ≡ n → 0 < n → length table.nodes ≡ length table.lines * n
    → length table.nodes ≤ MESH_VALUES
    → (0 < w) × (length rows.nodes ≡ length rows.lines * w) × (length rows.nodes ≤ MESH_VALUES)
is-table rows table w n p q some whole low =
    subst (λ z. (0 < z) × (length rows.nodes ≡ length rows.lines * z) × (length rows.nodes ≤ MESH_VALUES)) (sym q)
    (subst (λ (r : Rows). (0 < n) × (length r.nodes ≡ length r.lines * n) × (length r.nodes ≤ MESH_VALUES)) (sym p) (some, whole, low))

pub some-nodes : (shape : Shape) → 0 < nodes shape
some-nodes shape = let h = (few shape).some_nodes in omega (arith, h)

pub some-corners : (shape : Shape) → 0 < side_nodes shape
some-corners shape = let h = (few shape).some_corners in omega (arith, h)

module _ (t : GmshText) (dim : Dimension) (shape : Shape) (x : List ℤ) (cell elements : List ℕ) where
  module _ (all : List ℕ) (s : AreSides shape (length (cell_table shape t.elements).lines) cell all) where
    pub faced : {M : Type 0} (mates : List ℕ) → MatesAre shape (cell_table shape t.elements).lines all (Ok mates)
        → (f : FaceArrays)
        → AreFacesOf shape (length (cell_table shape t.elements).lines) all mates f
        → (r : Result M GmshRefusal) (view : M → Arrays)
        → Gives r view (TaggedAre t dim shape x cell elements f)
        → Gives r view (FacedAre t dim shape x cell elements)
    faced mates h f a (Ok m) view k = (all, s, inr (mates, h, (f, a, k)))
    faced mates h f a (Err e) view (inl k) = inl k
    faced mates h f a (Err e) view (inr k) = inr (all, s, inr (mates, h, (f, a, k)))

module _ (t : GmshText) (dim : Dimension) (scale : ℕ) where
  module _ (c : Choice) (chosen : ◌≡◌ {A = Result Choice GmshRefusal} (Ok c) (choice dim t.elements)) where
    module _ (fits : ◌≡◌ {A = Result (Unit {0}) GmshRefusal} (Ok tt) (within (size_before t dim c.shape))) where
      pub no-nodes : (e : GmshRefusal) → ((e ≡ OutOfMemory) ⊎ NodesAre t dim scale (Err e)) → (e ≡ OutOfMemory) ⊎ MeshIs t dim scale (Err e)
      no-nodes e (inl h) = inl h
      no-nodes e (inr h) = inr (inr (c, chosen, inr (tt, fits, inl (e, h, refl))))

      module _ (n : List ℕ × List ℤ) (nodes : NodesAre t dim scale (Ok n)) where
        pub no-elements : (e : GmshRefusal) → ((e ≡ OutOfMemory) ⊎ ElementsAre t c (Err e)) → (e ≡ OutOfMemory) ⊎ MeshIs t dim scale (Err e)
        no-elements e (inl h) = inl h
        no-elements e (inr h) = inr (inr (c, chosen, inr (tt, fits, inr (n, nodes, inl (e, h, refl)))))

        pub whole-mesh : {M : Type 0} (e : Unit {0} × (List ℕ × List ℕ)) → ElementsAre t c (Ok e) → (r : Result M GmshRefusal) (view : M → Arrays)
            → Gives r view (FacedAre t dim c.shape n.1 e.1.0 e.1.1)
            → Gives r view (MeshIs t dim scale)
        whole-mesh e elements r view h =
            goes (λ q. q ≡ choice dim t.elements) (AfterShape t dim scale) c chosen r view
            (goes (λ q. q ≡ within (size_before t dim c.shape)) (λ _. AfterSizes t dim scale c) tt fits r view
            (goes (NodesAre t dim scale) (AfterNodes t dim c) n nodes r view
            (goes (ElementsAre t c) (λ e. FacedAre t dim c.shape n.1 e.1.0 e.1.1) e elements r view h)))

within-low : (n : ℕ) → ◌≡◌ {A = Result (Unit {0}) GmshRefusal} (Ok tt) (within n) → n ≤ MESH_VALUES
within-low n h = ⊎_elim
    (λ (l : MESH_VALUES < n).
    let yes : nat_lt MESH_VALUES n ≡ true = grind (arith, nat_tests) in
    let no : within n ≡ Err (Limit n) = ap (λ b. if b then Err (Limit n) else Ok tt) yes in
    absurd (let f : ⊥ = cc in f))
    (λ (l : n ≤ MESH_VALUES). l)
    (cases_lt MESH_VALUES n)

no-more-than-all : (n : ℕ) (dim : Dimension) → n ≤ n * dim_count dim
no-more-than-all n Two = omega arith
no-more-than-all n Three = omega arith

-- the sizes of what is read, where the values are within the limit
pub record AreLow (t : GmshText) (shape : Shape) : Type 0 where
  pub tags : length t.nodes.tags ≤ MESH_VALUES
  pub cells : length (cell_table shape t.elements).nodes ≤ MESH_VALUES
  pub elements : length (side_table shape t.elements).nodes ≤ MESH_VALUES

pub are-low : (t : GmshText) (dim : Dimension) (shape : Shape) → ◌≡◌ {A = Result (Unit {0}) GmshRefusal} (Ok tt) (within (size_before t dim shape))
    → AreLow t shape
are-low t dim shape h =
    let l = within-low (size_before t dim shape) h in
    let m = no-more-than-all (length t.nodes.tags) dim in
    record { tags = omega (arith, l, m); cells = omega (arith, l, m); elements = omega (arith, l, m) }

small-places : (tags : List Tag) (keys of : List ℕ) → length tags ≤ MESH_VALUES → ArePlaces (numbers tags) keys of → AreSmall of
small-places tags keys of low p =
    All-from_get_or (λ n. n < 2 ^ 31) of 0 (λ i l.
    let a = (p.each i (omega (arith, l, p.size))).0 in
    let b = length-map tags number_of_tag in
    omega (arith, a, b, low))

-- the nodes of the elements by number
pub are-places : (t : GmshText) (c : Choice) (e : Unit {0} × (List ℕ × List ℕ)) → AreWhole t.elements → AreLow t c.shape → ElementsAre t c (Ok e)
    → ArePlacesOf t c.shape e.1.0 e.1.1
are-places t c e whole low h =
    let cells = RowsAre t (cell_table c.shape t.elements) (nodes c.shape) in
    let likes = RowsAre t (side_table c.shape t.elements) (side_nodes c.shape) in
    let p = both-ok (λ r. r ≡ one_type c.other) (Both cells likes) e h in
    let q = both-ok cells likes e.1 p.1 in
    record {
      cells = q.0.size ∙ cells-whole c.shape t.elements whole;
      few_cells = omega (arith, q.0.size, low.cells);
      small = small-places t.nodes.tags (cell_table c.shape t.elements).nodes e.1.0 low.tags q.0;
      sides = q.1.size ∙ sides-whole c.shape t.elements whole;
      few_sides = omega (arith, q.1.size, low.elements);
    }
