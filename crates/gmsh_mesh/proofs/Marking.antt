-- Classes that are marked.
use Rattle.std.proofs.Common.{◌≡◌, ℕ, ◌+◌, ◌<◌, Bool, true, false, ◌∙◌, refl, sym, ap, subst, ⊎_elim, arith, ℤ, List, length, get_or, set, Option, None, Ok}
use Rattle.std.proofs.lemmas.Bool.{cases_eq}
use Rattle.std.proofs.lemmas.List.{length-set, get_or-set_same, get_or-set_other}
use Rattle.gmsh_text.specs.declared.entities.Group.TheVariants.{Ungrouped}
use Rattle.gmsh_mesh.specs.Boundary.{SideElements}
use Rattle.gmsh_mesh.specs.Classes.{joined_tag, IsClassTag, AreClassTags}
use Rattle.gmsh_mesh.proofs.Taking.{not-of, more}

module _ (classes : List ℕ) (count : ℕ) (marks : List Bool) (es : SideElements) (e : ℕ) (tags : List (Option ℤ)) (t : AreClassTags classes count es.groups e marks tags)
    (le : e < length es.groups) (small : get_or classes (count + e) 0 < length classes) where
  -- the element's class is not marked
  pub class-skipped : get_or marks (get_or classes (count + e) 0) false ≡ false → AreClassTags classes count es.groups (e + 1) marks tags
  class-skipped unmarked = record {
    size = t.size;
    each = λ class lc m. not-of classes count es.groups e class (get_or tags class None) (t.each class lc m)
        (λ (is : get_or classes (count + e) 0 ≡ class). let k : get_or marks class false ≡ false = ap (λ x. get_or marks x false) (sym is) ∙ unmarked in let f : ⊥ = cc in f);
  }

  module _ (so : get_or marks (get_or classes (count + e) 0) false ≡ true) (line : ℕ) where
    -- it is marked, and has this tag then
    pub class-taken : (p : Option ℤ) → joined_tag (get_or tags (get_or classes (count + e) 0) None) (get_or es.groups e Ungrouped) line ≡ Ok p
        → AreClassTags classes count es.groups (e + 1) marks (set tags (get_or classes (count + e) 0) p)
    class-taken p j = record {
      size = length-set tags (get_or classes (count + e) 0) p ∙ t.size;
      each = λ class lc m. ⊎_elim
          (λ (is : get_or classes (count + e) 0 ≡ class).
          let here : get_or (set tags (get_or classes (count + e) 0) p) (get_or classes (count + e) 0) None ≡ p =
          get_or-set_same tags (get_or classes (count + e) 0) p None (omega (arith, t.size, small)) in
          let tag : IsClassTag classes count es.groups (e + 1) (get_or classes (count + e) 0) p =
          more classes count es.groups e (get_or classes (count + e) 0) (get_or tags (get_or classes (count + e) 0) None) p (get_or es.groups e Ungrouped) line refl refl
          (t.each (get_or classes (count + e) 0) small so) j in
          subst (λ x. IsClassTag classes count es.groups (e + 1) x (get_or (set tags (get_or classes (count + e) 0) p) x None)) is
          (subst (IsClassTag classes count es.groups (e + 1) (get_or classes (count + e) 0)) (sym here) tag))
          (λ (is : get_or classes (count + e) 0 ≡ class → ⊥).
          subst (IsClassTag classes count es.groups (e + 1) class) (sym (get_or-set_other tags (get_or classes (count + e) 0) class p None (λ x. is (sym x))))
          (not-of classes count es.groups e class (get_or tags class None) (t.each class lc m) is))
          (cases_eq (get_or classes (count + e) 0) class);
    }
