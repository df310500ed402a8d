-- Tags of classes are tags of faces.
use Rattle.std.proofs.Common.{◌≡◌, ◌⊎◌, inl, inr, ℕ, ◌+◌, ◌*◌, ◌<◌, ◌≤◌, ℤ, pos, Bool, ◌∙◌, ◌++◌, refl, sym, ap, subst, ⊎_elim, arith, List, length, get_or, take, drop, add-mul, mul-le-mul_right, Option, Some, None, Result, Ok, Err}
use Rattle.std.proofs.lemmas.List.{length-drop, take-append-le, drop-append-le}
use Rattle.std.proofs.Math.Seq.{drop-append-add}
use Rattle.gmsh_mesh.specs.Nodes.{row, IsSameNodes}
use Rattle.gmsh_mesh.specs.SideMates.{IsSameSide, AreSideClasses}
use Rattle.gmsh_text.specs.declared.entities.Group.{Group}
use Rattle.gmsh_text.specs.declared.entities.Group.TheVariants.{Ungrouped, One, Several}
use Rattle.gmsh_mesh.specs.declared.refusal.GmshRefusal.{GmshRefusal}
use Rattle.gmsh_mesh.specs.declared.refusal.GmshRefusal.TheVariants as refusal
use Rattle.gmsh_mesh.specs.Stages.{Gives}
use Rattle.gmsh_mesh.specs.Boundary.{TagsAre, SideElements, IsOnFace, IsFaceTag, AreFaceTags, IsOther, IsFirstOther}
use Rattle.gmsh_mesh.specs.Classes.{tag_or, AreMarks, IsClassTag, AreClassTags, IsClassOther, IsClassRefused, AreTagsOf}

front-room : (w count r : ℕ) → r < count → r * w + w ≤ count * w
front-room w count r l =
    let a : (r + 1) * w ≤ count * w = mul-le-mul_right w (omega arith) in
    omega (arith, a)

module _ (w count : ℕ) (front back : List ℕ) (table : length front ≡ count * w) where
  pub row-front : (r : ℕ) → r < count → row (front ++ back) w r ≡ row front w r
  row-front r l =
      let room = front-room w count r l in
      ap (take w) (drop-append-le (r * w) front back (omega (arith, table, room)))
      ∙ take-append-le w (drop (r * w) front) back (omega (arith, length-drop (r * w) front, table, room))

  pub row-back : (r : ℕ) → row (front ++ back) w (count + r) ≡ row back w r
  row-back r =
      let at : (count + r) * w ≡ length front + r * w = add-mul count r w ∙ ap (λ n. n + r * w) (sym table) in
      ap (λ n. take w (drop n (front ++ back))) at ∙ ap (take w) (drop-append-add front back (r * w))

free-or-in : (g : Group) (t : ℤ) → (g ≡ Ungrouped) ⊎ (g ≡ One t) → g ≡ Several → ⊥
free-or-in g t (inl h) s = cc
free-or-in g t (inr h) s = cc

same-tag : (g : Group) (s t : ℤ) → (g ≡ Ungrouped) ⊎ (g ≡ One t) → g ≡ One s → s ≡ t
same-tag g s t (inl h) k = cc
same-tag g s t (inr h) k = cc

module _ (w count : ℕ) (bface : List ℕ) (es : SideElements) (classes : List ℕ) (table : length bface ≡ count * w)
    (c : AreSideClasses (bface ++ es.nodes) w (count + length es.groups) classes) where
  -- a face and an element are of one class where they have the same nodes
  to-face : (f e : ℕ) → f < count → e < length es.groups → get_or classes f 0 ≡ get_or classes (count + e) 0 → IsOnFace w bface es.nodes f e
  to-face f e lf le h =
      let s : IsSameSide (bface ++ es.nodes) w f (count + e) = (c.same f (count + e) (omega arith) (omega arith)).0 h in
      subst (λ x. IsSameNodes x (row es.nodes w e)) (row-front w count bface es.nodes table f lf)
      (subst (λ x. IsSameNodes (row (bface ++ es.nodes) w f) x) (row-back w count bface es.nodes table e) s)

  to-class : (f e : ℕ) → f < count → e < length es.groups → IsOnFace w bface es.nodes f e → get_or classes f 0 ≡ get_or classes (count + e) 0
  to-class f e lf le h =
      (c.same f (count + e) (omega arith) (omega arith)).1
      (subst (λ x. IsSameNodes x (row (bface ++ es.nodes) w (count + e))) (sym (row-front w count bface es.nodes table f lf))
      (subst (λ x. IsSameNodes (row bface w f) x) (sym (row-back w count bface es.nodes table e)) h))

  -- the tag of its class is that of a face
  face-tag : (f : ℕ) → f < count → (o : Option ℤ) → IsClassTag classes count es.groups (length es.groups) (get_or classes f 0) o → IsFaceTag w bface es f (tag_or o)
  face-tag f lf None h = inl (refl, λ e le on. h e le (sym (to-class f e lf le on)))
  face-tag f lf (Some t) h = inr ((h.0.0, h.0.1, to-face f h.0.0 lf h.0.1 (sym h.0.2), h.0.3), λ e le on. h.1 e le (sym (to-class f e lf le on)))

  module _ (marks : List Bool) (m : AreMarks classes count marks) where
    small : (f : ℕ) → f < count → get_or classes f 0 < length classes
    small f lf = omega (arith, c.small f (omega arith), c.size)

    pub face-tags : (tags : List (Option ℤ)) (all : List ℤ) → AreClassTags classes count es.groups (length es.groups) marks tags → length all ≡ count
        → ((i : ℕ) → i < count → get_or all i (pos 0) ≡ tag_or (get_or tags (get_or classes i 0) None))
        → AreFaceTags w count bface es all
    face-tags tags all t size each = record {
      size = size;
      each = λ f lf. subst (IsFaceTag w bface es f) (sym (each f lf)) (face-tag f lf _ (t.each (get_or classes f 0) (small f lf) (m.marked f lf)));
    }

    none : (o : Option ℤ) (e f k : ℕ) → e < length es.groups → f < count → k < e → IsClassTag classes count es.groups e (get_or classes f 0) o → IsOther w bface es f k → ⊥
    none None e f k le lf lk h (on, inl s) = let free = h k lk (sym (to-class f k lf (omega arith) on)) in cc
    none (Some u) e f k le lf lk h (on, inl s) = free-or-in _ u (h.1 k lk (sym (to-class f k lf (omega arith) on))) s
    none None e f k le lf lk h (on, inr (t, b, s, is, lb, onb, isb, ne)) = let free = h k lk (sym (to-class f k lf (omega arith) on)) in cc
    none (Some u) e f k le lf lk h (on, inr (t, b, s, is, lb, onb, isb, ne)) =
        ne (same-tag _ s u (h.1 b (omega arith) (sym (to-class f b lf (omega arith) onb))) isb
        ∙ sym (same-tag _ t u (h.1 k lk (sym (to-class f k lf (omega arith) on))) is))

    pub first-other : (e : ℕ) → IsClassOther classes count marks es e → IsFirstOther w count bface es e
    first-other e o =
        let le : e < length es.groups = o.within in
        let lc : get_or classes (count + e) 0 < length classes = omega (arith, c.small (count + e) (omega arith), c.size) in
        let f = m.only (get_or classes (count + e) 0) lc o.marked in
        let on : IsOnFace w bface es.nodes f.0 e = to-face f.0 e f.1 le f.2 in
        record {
          face = f.0;
          within = f.1;
          element = le;
          other = (
            on,
            ⊎_elim inl
                (λ x. inr (x.0, x.1, x.2, x.3, x.4, to-face f.0 x.1 f.1 (omega (arith, x.4)) (f.2 ∙ sym x.5), x.6, x.7)) o.other,
          );
          none_before = λ g k lg lk x.
              let b = o.one_before (get_or classes g 0) (small g lg) (m.marked g lg) in
              none b.0 e g k le lg lk b.1 x;
        }

    -- a class that is refused, or want of memory
    pub refused-tags : (x : GmshRefusal) → IsClassRefused classes count marks es x → (x ≡ refusal.OutOfMemory) ⊎ TagsAre w count bface es (Err x)
    refused-tags (refusal.TwoGroups line) h = inr (h.0, first-other h.0 h.1, h.2)
    refused-tags refusal.OutOfMemory h = inl h
    refused-tags (refusal.Text cause) h = inl h
    refused-tags refusal.NoCells h = inl h
    refused-tags (refusal.TwoTypes line) h = inl h
    refused-tags (refusal.DuplicateTag line) h = inl h
    refused-tags (refusal.UnknownTag line) h = inl h
    refused-tags (refusal.Coordinate line largest) h = inl h
    refused-tags (refusal.NotPlane line) h = inl h
    refused-tags (refusal.ThirdCell line) h = inl h
    refused-tags (refusal.Limit size) h = inl h
    refused-tags (refusal.Bytes size) h = inl h

    -- the tags of all faces
    pub given-tags : {M : Type 0} (tags : List (Option ℤ)) (r : Result M GmshRefusal) (view : M → List ℤ)
        → AreClassTags classes count es.groups (length es.groups) marks tags
        → Gives r view (AreTagsOf classes count tags)
        → Gives r view (TagsAre w count bface es)
    given-tags tags (Ok m) view t h = face-tags tags (view m) t h.0 h.1
    given-tags tags (Err e) view t (inl h) = inl h
    given-tags tags (Err e) view t (inr h) = absurd h
