-- Nodes by number have one result.
use Rattle.std.proofs.Common.{◌≡◌, ◌⊎◌, inl, inr, ℕ, ◌/◌, ◌<◌, ◌≤◌, ◌∙◌, refl, sym, ap, ⊎_elim, arith, List, length, map, get_or, Result, Ok, Err}
use Rattle.std.proofs.lemmas.Bool.{cases_lt}
use Rattle.std.proofs.lemmas.List.{ext_get_or}
use Rattle.gmsh_mesh.specs.Places.{IsDoubled, AreDistinct, IsPlace, IsUnknown, ArePlaces, IsFirstDoubled, IsFirstUnknown}
use Rattle.gmsh_text.specs.declared.nodes.Tag.{Tag}
use Rattle.gmsh_mesh.specs.declared.refusal.GmshRefusal.{GmshRefusal}
use Rattle.gmsh_mesh.specs.declared.refusal.GmshRefusal.TheVariants as refusal
use Rattle.gmsh_mesh.specs.Numbers.{line_of_tag, numbers, NumbersAre}
use Rattle.gmsh_mesh.proofs.One.{IsOne, first-one}

module _ (tags : List ℕ) (distinct : AreDistinct tags) where
  same-place : (key i j : ℕ) → IsPlace tags key i → IsPlace tags key j → i ≡ j
  same-place key i j a b = ⊎_elim
      (λ (l : i < j). absurd (distinct j (record { first = i; before = l; within = b.0; same = a.1 ∙ sym b.1 })))
      (λ (l : j ≤ i). ⊎_elim
      (λ (m : j < i). absurd (distinct i (record { first = j; before = m; within = a.0; same = b.1 ∙ sym a.1 })))
      (λ (m : i ≤ j). omega arith) (cases_lt j i))
      (cases_lt i j)

pub same-places : (tags keys a b : List ℕ) → ArePlaces tags keys a → ArePlaces tags keys b → a ≡ b
same-places tags keys a b h k = ext_get_or 0 a b (h.size ∙ sym k.size) (λ i l.
    let li : i < length keys = omega (arith, h.size) in
    same-place tags h.distinct (get_or keys i 0) (get_or a i 0) (get_or b i 0) (h.each i li) (k.each i li))

pub same-doubled : (tags : List ℕ) (a b : ℕ) → IsFirstDoubled tags a → IsFirstDoubled tags b → a ≡ b
same-doubled tags a b h k = first-one (IsDoubled tags) a b h.doubled k.doubled h.none_before k.none_before

pub same-unknown : (tags keys : List ℕ) (a b : ℕ) → IsFirstUnknown tags keys a → IsFirstUnknown tags keys b → a ≡ b
same-unknown tags keys a b h k =
    first-one (λ i. IsUnknown tags (get_or keys i 0)) a b h.unknown k.unknown h.known_before k.known_before

known-or-not : (tags keys of : List ℕ) (place : ℕ) → ArePlaces tags keys of → IsFirstUnknown tags keys place → ⊥
known-or-not tags keys of place h k = let p = h.each place k.within in k.unknown (get_or of place 0) p.0 p.1

module _ (tags : List Tag) (keys lines : List ℕ) (width : ℕ) where
  -- the three results that there may be
  abbrev Seen : Result (List ℕ) GmshRefusal → Type 0
  Seen r =
      ((of : List ℕ) × (r ≡ Ok of) × ArePlaces (numbers tags) keys of)
      ⊎ (((place : ℕ) × (r ≡ Err (refusal.DuplicateTag (get_or (map line_of_tag tags) place 0))) × IsFirstDoubled (numbers tags) place)
      ⊎ ((place : ℕ) × (r ≡ Err (refusal.UnknownTag (get_or lines (place / width) 0))) × IsFirstUnknown (numbers tags) keys place))

  see : (r : Result (List ℕ) GmshRefusal) → NumbersAre tags keys lines width r → Seen r
  see (Ok of) h = inl (of, refl, h)
  see (Err (refusal.DuplicateTag line)) h = inr (inl (h.0, ap (λ l. Err (refusal.DuplicateTag l)) h.2, h.1))
  see (Err (refusal.UnknownTag line)) h = inr (inr (h.0, ap (λ l. Err (refusal.UnknownTag l)) h.2, h.1))
  see (Err refusal.OutOfMemory) h = absurd h
  see (Err (refusal.Text cause)) h = absurd h
  see (Err refusal.NoCells) h = absurd h
  see (Err (refusal.TwoTypes line)) h = absurd h
  see (Err (refusal.Coordinate line largest)) h = absurd h
  see (Err (refusal.NotPlane line)) h = absurd h
  see (Err (refusal.ThirdCell line)) h = absurd h
  see (Err (refusal.TwoGroups line)) h = absurd h
  see (Err (refusal.Limit size)) h = absurd h
  see (Err (refusal.Bytes size)) h = absurd h

  same : (a b : Result (List ℕ) GmshRefusal) → Seen a → Seen b → a ≡ b
  same a b (inl (x, is, h)) (inl (y, it, k)) = is ∙ ap Ok (same-places (numbers tags) keys x y h k) ∙ sym it
  same a b (inl (x, is, h)) (inr (inl (p, it, k))) = absurd (h.distinct p k.doubled)
  same a b (inl (x, is, h)) (inr (inr (p, it, k))) = absurd (known-or-not (numbers tags) keys x p h k)
  same a b (inr (inl (p, is, h))) (inl (y, it, k)) = absurd (k.distinct p h.doubled)
  same a b (inr (inl (p, is, h))) (inr (inl (q, it, k))) =
      is ∙ ap (λ i. Err (refusal.DuplicateTag (get_or (map line_of_tag tags) i 0))) (same-doubled (numbers tags) p q h k) ∙ sym it
  same a b (inr (inl (p, is, h))) (inr (inr (q, it, k))) = absurd (k.distinct p h.doubled)
  same a b (inr (inr (p, is, h))) (inl (y, it, k)) = absurd (known-or-not (numbers tags) keys y p k h)
  same a b (inr (inr (p, is, h))) (inr (inl (q, it, k))) = absurd (h.distinct q k.doubled)
  same a b (inr (inr (p, is, h))) (inr (inr (q, it, k))) =
      is ∙ ap (λ i. Err (refusal.UnknownTag (get_or lines (i / width) 0))) (same-unknown (numbers tags) keys p q h k) ∙ sym it

  pub numbers-one : IsOne (NumbersAre tags keys lines width)
  numbers-one a b h k = same a b (see a h) (see b k)
