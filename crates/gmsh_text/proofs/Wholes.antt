-- What is read has tables of whole elements.
use Rattle.std.proofs.Common.{◌≡◌, ℕ, zero, suc, ◌+◌, ◌*◌, ◌++◌, ◌^◌, [], ◌∷◌, List, length, codes, Ok, Err, refl, sym, ap, subst, arith, length-append}
use Rattle.op_num.specs.Cut.{Uncut, uncut}
use Rattle.gmsh_text.specs.declared.kind.Kind.{Kind}
use Rattle.gmsh_text.specs.declared.kind.Kind.TheVariants.{Point, Line, Triangle, Quadrangle, Tetrahedron, Hexahedron}
use Rattle.gmsh_text.specs.declared.entities.Group.{Group}
use Rattle.gmsh_text.specs.declared.table.Elements.{Elements}
use Rattle.gmsh_text.specs.declared.read.GmshText.{GmshText}
use Rattle.gmsh_text.specs.declared.format.Version.{Version}
use Rattle.gmsh_text.specs.declared.format.Version.TheVariants.{Two, Four}
use Rattle.gmsh_text.specs.Rows.{Rows}
use Rattle.gmsh_text.specs.Groups.{EntityGroups}
use Rattle.gmsh_text.specs.Parsing.{Parsed, and_then, repeat}
use Rattle.gmsh_text.specs.Values.{node_count, no_elements, with_corner, with_row, corner_in, row_in}
use Rattle.gmsh_text.specs.Numbers.{number, integer, tag, word}
use Rattle.gmsh_text.specs.Sections.{format, wanted, group_of, entities_before}
use Rattle.gmsh_text.specs.Reading.{nodes, blocks, kind, element_tags, corner, corners, element_2, elements_2, element_4, element_block, elements_4, elements, body, text, value, outcome}
use Rattle.gmsh_text.specs.Whole.{IsWhole, AreWhole}

inverted : {A B : Type 0} (r : Parsed A) (k : A → Uncut → Parsed B) (y : B × Uncut) → and_then r k ≡ Ok y → (x : A × Uncut) × (r ≡ Ok x) × (k x.0 x.1 ≡ Ok y)
inverted (Ok x) k y h = (x, refl, h)
inverted (Err e) k y h = cc

abbrev given : {A : Type 0} → A → Uncut → Parsed A
given a u = Ok (a, u)

same-value : {A : Type 0} (a b : A) (u v : Uncut) → given a u ≡ given b v → a ≡ b
same-value {A = A} a b u v h = let p : ◌≡◌ {A = A × Uncut} (a, u) (b, v) = cc in ap (λ x. x.0) p

module _ {S : Type 0} (row : S → Uncut → Parsed S) (P : S → Type 0) (keeps : (s t : S) (u v : Uncut) → P s → row s u ≡ Ok (t, v) → P t) where
  kept : (n : ℕ) (s t : S) (u v : Uncut) → P s → repeat row n s u ≡ Ok (t, v) → P t
  unfolding repeat
  kept zero s t u v p h = subst P (same-value s t u v h) p
  kept (suc n) s t u v p h = let x = inverted (row s u) (repeat row n) (t, v) h in kept n x.0.0 t x.0.1 v (keeps s x.0.0 u x.0.1 p x.1) x.2

-- the table of a type has m nodes more than those of its elements
record IsOver (k : Kind) (m : ℕ) (t : Rows) : Type 0 where
  nodes : length t.nodes ≡ length t.lines * node_count k + m
  groups : length t.groups ≡ length t.lines

abbrev over-line : Kind → ℕ → ℕ
over-line Line m = m
over-line k m = 0

abbrev over-triangle : Kind → ℕ → ℕ
over-triangle Triangle m = m
over-triangle k m = 0

abbrev over-quadrangle : Kind → ℕ → ℕ
over-quadrangle Quadrangle m = m
over-quadrangle k m = 0

abbrev over-tetrahedron : Kind → ℕ → ℕ
over-tetrahedron Tetrahedron m = m
over-tetrahedron k m = 0

abbrev over-hexahedron : Kind → ℕ → ℕ
over-hexahedron Hexahedron m = m
over-hexahedron k m = 0

-- the table of this type has m nodes more than those of its elements, and the others are whole
record AreOver (k : Kind) (m : ℕ) (es : Elements) : Type 0 where
  lines : IsOver Line (over-line k m) es.lines
  triangles : IsOver Triangle (over-triangle k m) es.triangles
  quadrangles : IsOver Quadrangle (over-quadrangle k m) es.quadrangles
  tetrahedra : IsOver Tetrahedron (over-tetrahedron k m) es.tetrahedra
  hexahedra : IsOver Hexahedron (over-hexahedron k m) es.hexahedra

one-corner : (k : Kind) (m n : ℕ) (t : Rows) → IsOver k m t → IsOver k (m + 1) (with_corner n t)
one-corner k m n t o = record { nodes = omega (arith, o.nodes, length-append t.nodes (n ∷ [])); groups = o.groups }

module _ (line : ℕ) (g : Group) (t : Rows) where
  longer : length (t.lines ++ line ∷ []) ≡ length t.lines + 1
  longer = length-append t.lines (line ∷ [])

  more : length (t.groups ++ g ∷ []) ≡ length t.groups + 1
  more = length-append t.groups (g ∷ [])

  row-line : IsOver Line 2 t → IsOver Line 0 (with_row line g t)
  row-line o = record { nodes = omega (arith, o.nodes, longer); groups = omega (arith, o.groups, longer, more) }

  row-triangle : IsOver Triangle 3 t → IsOver Triangle 0 (with_row line g t)
  row-triangle o = record { nodes = omega (arith, o.nodes, longer); groups = omega (arith, o.groups, longer, more) }

  row-quadrangle : IsOver Quadrangle 4 t → IsOver Quadrangle 0 (with_row line g t)
  row-quadrangle o = record { nodes = omega (arith, o.nodes, longer); groups = omega (arith, o.groups, longer, more) }

  row-tetrahedron : IsOver Tetrahedron 4 t → IsOver Tetrahedron 0 (with_row line g t)
  row-tetrahedron o = record { nodes = omega (arith, o.nodes, longer); groups = omega (arith, o.groups, longer, more) }

  row-hexahedron : IsOver Hexahedron 8 t → IsOver Hexahedron 0 (with_row line g t)
  row-hexahedron o = record { nodes = omega (arith, o.nodes, longer); groups = omega (arith, o.groups, longer, more) }

corner-over : (k : Kind) (m n : ℕ) (es : Elements) → AreOver k m es → AreOver k (m + 1) (corner_in k n es)
corner-over Point m n es o = record { lines = o.lines; triangles = o.triangles; quadrangles = o.quadrangles; tetrahedra = o.tetrahedra; hexahedra = o.hexahedra }
corner-over Line m n es o = record { lines = one-corner Line m n es.lines o.lines; triangles = o.triangles; quadrangles = o.quadrangles; tetrahedra = o.tetrahedra; hexahedra = o.hexahedra }
corner-over Triangle m n es o = record {
  lines = o.lines;
  triangles = one-corner Triangle m n es.triangles o.triangles;
  quadrangles = o.quadrangles;
  tetrahedra = o.tetrahedra;
  hexahedra = o.hexahedra;
}
corner-over Quadrangle m n es o = record {
  lines = o.lines;
  triangles = o.triangles;
  quadrangles = one-corner Quadrangle m n es.quadrangles o.quadrangles;
  tetrahedra =
      o.tetrahedra;
  hexahedra = o.hexahedra;
}
corner-over Tetrahedron m n es o = record {
  lines = o.lines;
  triangles = o.triangles;
  quadrangles = o.quadrangles;
  tetrahedra =
      one-corner Tetrahedron m n es.tetrahedra o.tetrahedra;
  hexahedra = o.hexahedra;
}
corner-over Hexahedron m n es o = record {
  lines = o.lines;
  triangles = o.triangles;
  quadrangles = o.quadrangles;
  tetrahedra = o.tetrahedra;
  hexahedra =
      one-corner Hexahedron m n es.hexahedra o.hexahedra;
}

row-over : (k : Kind) (line : ℕ) (g : Group) (es : Elements) → AreOver k (node_count k) es → AreOver k 0 (row_in k line g es)
row-over Point line g es o = record { lines = o.lines; triangles = o.triangles; quadrangles = o.quadrangles; tetrahedra = o.tetrahedra; hexahedra = o.hexahedra }
row-over Line line g es o = record { lines = row-line line g es.lines o.lines; triangles = o.triangles; quadrangles = o.quadrangles; tetrahedra = o.tetrahedra; hexahedra = o.hexahedra }
row-over Triangle line g es o = record { lines = o.lines; triangles = row-triangle line g es.triangles o.triangles; quadrangles = o.quadrangles; tetrahedra = o.tetrahedra; hexahedra = o.hexahedra }
row-over Quadrangle line g es o = record {
  lines = o.lines;
  triangles = o.triangles;
  quadrangles = row-quadrangle line g es.quadrangles o.quadrangles;
  tetrahedra = o.tetrahedra;
  hexahedra = o.hexahedra;
}
row-over Tetrahedron line g es o = record {
  lines = o.lines;
  triangles = o.triangles;
  quadrangles = o.quadrangles;
  tetrahedra = row-tetrahedron line g es.tetrahedra o.tetrahedra;
  hexahedra = o.hexahedra;
}
row-over Hexahedron line g es o = record {
  lines = o.lines;
  triangles = o.triangles;
  quadrangles = o.quadrangles;
  tetrahedra = o.tetrahedra;
  hexahedra =
      row-hexahedron line g es.hexahedra o.hexahedra;
}

whole : (k : Kind) (t : Rows) → IsOver k 0 t → IsWhole k t
whole k t o = record { nodes = omega (arith, o.nodes); groups = o.groups }

over : (k : Kind) (t : Rows) → IsWhole k t → IsOver k 0 t
over k t w = record { nodes = omega (arith, w.nodes); groups = w.groups }

none : (k : Kind) → (over-line k 0 ≡ 0) × (over-triangle k 0 ≡ 0) × (over-quadrangle k 0 ≡ 0) × (over-tetrahedron k 0 ≡ 0) × (over-hexahedron k 0 ≡ 0)
none Point = (refl, refl, refl, refl, refl)
none Line = (refl, refl, refl, refl, refl)
none Triangle = (refl, refl, refl, refl, refl)
none Quadrangle = (refl, refl, refl, refl, refl)
none Tetrahedron = (refl, refl, refl, refl, refl)
none Hexahedron = (refl, refl, refl, refl, refl)

to-whole : (k : Kind) (es : Elements) → AreOver k 0 es → AreWhole es
to-whole k es o = record {
  lines = whole Line es.lines (subst (λ m. IsOver Line m es.lines) (none k).0 o.lines);
  triangles = whole Triangle es.triangles (subst (λ m. IsOver Triangle m es.triangles) (none k).1 o.triangles);
  quadrangles = whole Quadrangle es.quadrangles (subst (λ m. IsOver Quadrangle m es.quadrangles) (none k).2 o.quadrangles);
  tetrahedra = whole Tetrahedron es.tetrahedra (subst (λ m. IsOver Tetrahedron m es.tetrahedra) (none k).3 o.tetrahedra);
  hexahedra = whole Hexahedron es.hexahedra (subst (λ m. IsOver Hexahedron m es.hexahedra) (none k).4 o.hexahedra);
}

from-whole : (k : Kind) (es : Elements) → AreWhole es → AreOver k 0 es
from-whole k es w = record {
  lines = subst (λ m. IsOver Line m es.lines) (sym (none k).0) (over Line es.lines w.lines);
  triangles = subst (λ m. IsOver Triangle m es.triangles) (sym (none k).1) (over Triangle es.triangles w.triangles);
  quadrangles = subst (λ m. IsOver Quadrangle m es.quadrangles) (sym (none k).2) (over Quadrangle es.quadrangles w.quadrangles);
  tetrahedra = subst (λ m. IsOver Tetrahedron m es.tetrahedra) (sym (none k).3) (over Tetrahedron es.tetrahedra w.tetrahedra);
  hexahedra = subst (λ m. IsOver Hexahedron m es.hexahedra) (sym (none k).4) (over Hexahedron es.hexahedra w.hexahedra);
}

corner-keeps : (k : Kind) (m : ℕ) (es fs : Elements) (u v : Uncut) → AreOver k m es → corner k es u ≡ Ok (fs, v) → AreOver k (m + 1) fs
unfolding corner
corner-keeps k m es fs u v o h =
    let x = inverted (number (2 ^ 32) u) (λ n w. Ok (corner_in k n es, w)) (fs, v) h in
    subst (AreOver k (m + 1)) (same-value (corner_in k x.0.0 es) fs x.0.1 v x.2) (corner-over k m x.0.0 es o)

corners-over : (k : Kind) (n m : ℕ) (es fs : Elements) (u v : Uncut) → AreOver k m es → repeat (corner k) n es u ≡ Ok (fs, v) → AreOver k (m + n) fs
unfolding repeat
corners-over k zero m es fs u v o h =
    let e : m ≡ m + 0 = omega arith in subst (λ i. AreOver k i fs) e (subst (AreOver k m) (same-value es fs u v h) o)
corners-over k (suc n) m es fs u v o h =
    let x = inverted (corner k es u) (repeat (corner k) n) (fs, v) h in
    let e : m + 1 + n ≡ m + suc n = omega arith in
    subst (λ i. AreOver k i fs) e (corners-over k n (m + 1) x.0.0 fs x.0.1 v (corner-keeps k m es x.0.0 u x.0.1 o x.1) x.2)

corners-keep : (k : Kind) (line : ℕ) (g : Group) (es fs : Elements) (u v : Uncut) → AreWhole es → corners k line g es u ≡ Ok (fs, v) → AreWhole fs
unfolding corners
corners-keep k line g es fs u v w h =
    let x = inverted (repeat (corner k) (node_count k) es u) (λ xs w. Ok (row_in k line g xs, w)) (fs, v) h in
    let o = corners-over k (node_count k) 0 es x.0.0 u x.0.1 (from-whole k es w) x.1 in
    let e : 0 + node_count k ≡ node_count k = omega arith in
    subst AreWhole (same-value (row_in k line g x.0.0) fs x.0.1 v x.2) (to-whole k (row_in k line g x.0.0) (row-over k line g x.0.0 (subst (λ i. AreOver k i x.0.0) e o)))

element_2-keeps : (es fs : Elements) (u v : Uncut) → AreWhole es → element_2 es u ≡ Ok (fs, v) → AreWhole fs
unfolding element_2
element_2-keeps es fs u v w h =
    let a = inverted (tag u) (λ t p. and_then (kind p) (λ k q. and_then (number (2 ^ 32) q) (λ n r. and_then (element_tags n r) (λ g s. corners k t.line g es s)))) (fs, v) h in
    let b = inverted (kind a.0.1) (λ k q. and_then (number (2 ^ 32) q) (λ n r. and_then (element_tags n r) (λ g s. corners k a.0.0.line g es s))) (fs, v) a.2 in
    let c = inverted (number (2 ^ 32) b.0.1) (λ n r. and_then (element_tags n r) (λ g s. corners b.0.0 a.0.0.line g es s)) (fs, v) b.2 in
    let d = inverted (element_tags c.0.0 c.0.1) (λ g s. corners b.0.0 a.0.0.line g es s) (fs, v) c.2 in
    corners-keep b.0.0 a.0.0.line d.0.0 es fs d.0.1 v w d.2

element_4-keeps : (k : Kind) (g : Group) (es fs : Elements) (u v : Uncut) → AreWhole es → element_4 k g es u ≡ Ok (fs, v) → AreWhole fs
unfolding element_4
element_4-keeps k g es fs u v w h = let a = inverted (tag u) (λ t p. corners k t.line g es p) (fs, v) h in corners-keep k a.0.0.line g es fs a.0.1 v w a.2

element_block-keeps : (groups : EntityGroups) (es fs : Elements) (u v : Uncut) → AreWhole es → element_block groups es u ≡ Ok (fs, v) → AreWhole fs
unfolding element_block
element_block-keeps groups es fs u v w h =
    let a = inverted (number 4 u) (λ dim p. and_then (integer p)
    (λ e q. and_then (kind q) (λ k r. and_then (number (2 ^ 32) r) (λ n s. repeat (element_4 k (group_of groups dim e)) n es s))))
    (fs, v) h in
    let b = inverted (integer a.0.1) (λ e q. and_then (kind q) (λ k r. and_then (number (2 ^ 32) r) (λ n s. repeat (element_4 k (group_of groups a.0.0 e)) n es s))) (fs, v) a.2 in
    let c = inverted (kind b.0.1) (λ k r. and_then (number (2 ^ 32) r) (λ n s. repeat (element_4 k (group_of groups a.0.0 b.0.0)) n es s)) (fs, v) b.2 in
    let d = inverted (number (2 ^ 32) c.0.1) (λ n s. repeat (element_4 c.0.0 (group_of groups a.0.0 b.0.0)) n es s) (fs, v) c.2 in
    kept (element_4 c.0.0 (group_of groups a.0.0 b.0.0)) AreWhole (element_4-keeps c.0.0 (group_of groups a.0.0 b.0.0)) d.0.0 es fs d.0.1 v w d.2

empty : AreWhole no_elements
empty = record {
  lines = record { nodes = refl; groups = refl };
  triangles = record { nodes = refl; groups = refl };
  quadrangles = record { nodes = refl; groups = refl };
  tetrahedra = record { nodes = refl; groups = refl };
  hexahedra = record { nodes = refl; groups = refl };
}

elements_2-whole : (fs : Elements) (u v : Uncut) → elements_2 u ≡ Ok (fs, v) → AreWhole fs
unfolding elements_2
elements_2-whole fs u v h =
    let a = inverted (number (2 ^ 32) u) (λ n p. repeat element_2 n no_elements p) (fs, v) h in
    kept element_2 AreWhole element_2-keeps a.0.0 no_elements fs a.0.1 v empty a.2

elements_4-whole : (groups : EntityGroups) (fs : Elements) (u v : Uncut) → elements_4 groups u ≡ Ok (fs, v) → AreWhole fs
unfolding elements_4
elements_4-whole groups fs u v h =
    let a = inverted (blocks u) (λ n p. repeat (element_block groups) n no_elements p) (fs, v) h in
    kept (element_block groups) AreWhole (element_block-keeps groups) a.0.0 no_elements fs a.0.1 v empty a.2

elements-whole : (version : Version) (groups : EntityGroups) (fs : Elements) (u v : Uncut) → elements version groups u ≡ Ok (fs, v) → AreWhole fs
unfolding elements
elements-whole Two groups fs u v h = elements_2-whole fs u v h
elements-whole Four groups fs u v h = elements_4-whole groups fs u v h

body-whole : (version : Version) (groups : EntityGroups) (t : GmshText) (u v : Uncut) → body version groups u ≡ Ok (t, v) → AreWhole t.elements
unfolding body
body-whole version groups t u v h =
    let a = inverted (nodes version u)
    (λ ns p. and_then (word (codes "$EndNodes") p)
    (λ _ q. and_then (wanted q) (λ _ r. and_then (elements version groups r)
    (λ es s. and_then (word (codes "$EndElements") s) (λ _ w. Ok (record { nodes = ns; elements = es }, w)))))) (t, v) h in
    let b = inverted (word (codes "$EndNodes") a.0.1)
    (λ _ q. and_then (wanted q) (λ _ r. and_then (elements version groups r)
    (λ es s. and_then (word (codes "$EndElements") s) (λ _ w. Ok (record { nodes = a.0.0; elements = es }, w))))) (t, v) a.2 in
    let c = inverted (wanted b.0.1)
    (λ _ r. and_then (elements version groups r)
    (λ es s. and_then (word (codes "$EndElements") s) (λ _ w. Ok (record { nodes = a.0.0; elements = es }, w)))) (t, v) b.2 in
    let d = inverted (elements version groups c.0.1) (λ es s. and_then (word (codes "$EndElements") s) (λ _ w. Ok (record { nodes = a.0.0; elements = es }, w))) (t, v) c.2 in
    let e = inverted (word (codes "$EndElements") d.0.1) (λ _ w. Ok (record { nodes = a.0.0; elements = d.0.0 }, w)) (t, v) d.2 in
    subst (λ x. AreWhole x.elements) (same-value (record { nodes = a.0.0; elements = d.0.0 }) t e.0.1 v e.2) (elements-whole version groups d.0.0 c.0.1 d.0.1 d.1)

text-whole : (t : GmshText) (u v : Uncut) → text u ≡ Ok (t, v) → AreWhole t.elements
unfolding text
text-whole t u v h =
    let a = inverted (format u) (λ w p. and_then (entities_before p) (λ groups q. body w groups q)) (t, v) h in
    let b = inverted (entities_before a.0.1) (λ groups q. body a.0.0 groups q) (t, v) a.2 in
    body-whole a.0.0 b.0.0 t b.0.1 v b.2

pub outcome-whole : (bytes : List ℕ) (t : GmshText) → outcome bytes ≡ Ok t → AreWhole t.elements
outcome-whole bytes t h = go (text (uncut bytes)) refl h
  where
    go : (r : Parsed GmshText) → text (uncut bytes) ≡ r → value r ≡ Ok t → AreWhole t.elements
    go (Ok x) e k = let q : x.0 ≡ t = cc in subst (λ y. AreWhole y.elements) q (text-whole x.0 (uncut bytes) x.1 e)
    go (Err x) e k = cc
