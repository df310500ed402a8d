-- The tags of the boundary have one result.
use Rattle.std.proofs.Common.{◌≡◌, ◌⊎◌, inl, inr, ℕ, ◌<◌, ◌≤◌, ℤ, pos, ◌∙◌, refl, sym, ap, ⊎_elim, arith, List, length, get_or, Result, Ok, Err}
use Rattle.std.proofs.lemmas.Bool.{cases_lt}
use Rattle.std.proofs.lemmas.List.{ext_get_or}
use Rattle.gmsh_text.specs.declared.entities.Group.{Group}
use Rattle.gmsh_text.specs.declared.entities.Group.TheVariants.{Ungrouped, One, Several}
use Rattle.gmsh_mesh.specs.declared.refusal.GmshRefusal.{GmshRefusal}
use Rattle.gmsh_mesh.specs.declared.refusal.GmshRefusal.TheVariants as refusal
use Rattle.gmsh_mesh.specs.Boundary.{SideElements, IsFaceTag, AreFaceTags, IsOther, IsFirstOther, TagsAre}
use Rattle.gmsh_mesh.proofs.One.{IsOne}

free-or-in : (g : Group) (s t : ℤ) → (g ≡ Ungrouped) ⊎ (g ≡ One t) → g ≡ One s → s ≡ t
free-or-in g s t (inl h) k = cc
free-or-in g s t (inr h) k = cc

not-several : (g : Group) (t : ℤ) → (g ≡ Ungrouped) ⊎ (g ≡ One t) → g ≡ Several → ⊥
not-several g t (inl h) k = cc
not-several g t (inr h) k = cc

module _ (w : ℕ) (bface : List ℕ) (es : SideElements) (f : ℕ) where
  same-tag : (s t : ℤ) → IsFaceTag w bface es f s → IsFaceTag w bface es f t → s ≡ t
  same-tag s t (inl h) (inl k) = h.0 ∙ sym k.0
  same-tag s t (inl h) (inr k) = let free = h.1 k.0.0 k.0.1 k.0.2 in let is = k.0.3 in cc
  same-tag s t (inr h) (inl k) = let free = k.1 h.0.0 h.0.1 h.0.2 in let is = h.0.3 in cc
  same-tag s t (inr h) (inr k) = free-or-in _ s t (k.1 h.0.0 h.0.1 h.0.2) h.0.3

  tag-or-other : (s : ℤ) (e : ℕ) → e < length es.groups → IsFaceTag w bface es f s → IsOther w bface es f e → ⊥
  tag-or-other s e le (inl h) (on, inl k) = let free = h.1 e le on in cc
  tag-or-other s e le (inr h) (on, inl k) = not-several _ s (h.1 e le on) k
  tag-or-other s e le (inl h) (on, inr (t, b, u, is, lb, onb, isb, ne)) = let free = h.1 e le on in cc
  tag-or-other s e le (inr h) (on, inr (t, b, u, is, lb, onb, isb, ne)) =
      ne (free-or-in _ u s (h.1 b (omega arith) onb) isb ∙ sym (free-or-in _ t s (h.1 e le on) is))

module _ (w count : ℕ) (bface : List ℕ) (es : SideElements) where
  same-tags : (a b : List ℤ) → AreFaceTags w count bface es a → AreFaceTags w count bface es b → a ≡ b
  same-tags a b h k = ext_get_or (pos 0) a b (h.size ∙ sym k.size) (λ f l.
      let lf : f < count = omega (arith, h.size) in
      same-tag w bface es f (get_or a f (pos 0)) (get_or b f (pos 0)) (h.each f lf) (k.each f lf))

  same-other : (a b : ℕ) → IsFirstOther w count bface es a → IsFirstOther w count bface es b → a ≡ b
  same-other a b h k = ⊎_elim
      (λ (l : a < b). absurd (k.none_before h.face a h.within l h.other))
      (λ (l : b ≤ a). ⊎_elim (λ (m : b < a). absurd (h.none_before k.face b k.within m k.other)) (λ (m : a ≤ b). omega arith) (cases_lt b a))
      (cases_lt a b)

  tags-or-other : (a : List ℤ) (e : ℕ) → AreFaceTags w count bface es a → IsFirstOther w count bface es e → ⊥
  tags-or-other a e h k = tag-or-other w bface es k.face (get_or a k.face (pos 0)) e k.element (h.each k.face k.within) k.other

  abbrev Seen : Result (List ℤ) GmshRefusal → Type 0
  Seen r =
      ((tags : List ℤ) × (r ≡ Ok tags) × AreFaceTags w count bface es tags)
      ⊎ ((e : ℕ) × (r ≡ Err (refusal.TwoGroups (get_or es.lines e 0))) × IsFirstOther w count bface es e)

  see : (r : Result (List ℤ) GmshRefusal) → TagsAre w count bface es r → Seen r
  see (Ok tags) h = inl (tags, refl, h)
  see (Err (refusal.TwoGroups line)) h = inr (h.0, ap (λ l. Err (refusal.TwoGroups l)) h.2, h.1)
  see (Err refusal.OutOfMemory) h = absurd h
  see (Err (refusal.Text cause)) h = absurd h
  see (Err refusal.NoCells) h = absurd h
  see (Err (refusal.TwoTypes line)) h = absurd h
  see (Err (refusal.DuplicateTag line)) h = absurd h
  see (Err (refusal.UnknownTag line)) h = absurd h
  see (Err (refusal.Coordinate line largest)) h = absurd h
  see (Err (refusal.NotPlane line)) h = absurd h
  see (Err (refusal.ThirdCell line)) h = absurd h
  see (Err (refusal.Limit size)) h = absurd h
  see (Err (refusal.Bytes size)) h = absurd h

  same : (a b : Result (List ℤ) GmshRefusal) → Seen a → Seen b → a ≡ b
  same a b (inl (x, is, h)) (inl (y, it, k)) = is ∙ ap Ok (same-tags x y h k) ∙ sym it
  same a b (inl (x, is, h)) (inr (e, it, k)) = absurd (tags-or-other x e h k)
  same a b (inr (e, is, h)) (inl (y, it, k)) = absurd (tags-or-other y e k h)
  same a b (inr (e, is, h)) (inr (f, it, k)) = is ∙ ap (λ i. Err (refusal.TwoGroups (get_or es.lines i 0))) (same-other e f h k) ∙ sym it

  pub tags-one : IsOne (TagsAre w count bface es)
  tags-one a b h k = same a b (see a h) (see b k)
