-- A row of neighbours, and rows behind rows.
use Rattle.std.proofs.Common.{◌≡◌, ℕ, ◌+◌, ◌<◌, ◌≤◌, Bool, true, false, nat_lt, List, [], ◌∷◌, ◌++◌, length, get_or, refl, sym, ap, subst, ◌∙◌, arith, eqb, length-append}
use Rattle.std.proofs.lemmas.Grind.{common_steps}
use Rattle.std.proofs.lemmas.List.{get_or-append-add, flat_map_more}
use Rattle.std.proofs.Math.ListN.{get_or-append}
use Rattle.std.proofs.lemmas.List.Kept.{Contains-dedup_nat, Contains-from_dedup}
use Rattle.std.proofs.lemmas.List.Sums.{sum_by_push}
use Rattle.std.proofs.lemmas.Map.Keys.{IsStrictlyIncreasing-dedup}
use Rattle.std.specs.Prelude.{slice_index, slice_index_or}
use Rattle.std.specs.List.{dedup}
use Rattle.std.specs.List.Sorted.{IsSorted}
use Rattle.std.specs.Ordering.{nat_cmp, is_lt}
use Rattle.mesh_decl.specs.Mesh.{MeshValue}
use Rattle.renumber.specs.Keys.{keyed}
use Rattle.renumber.specs.Neighbours.{are_neighbours}
use Rattle.renumber.specs.Taken.{Rises}
use Rattle.renumber.specs.Unseen.{AreUnseen}
use Rattle.metis_text.specs.Graph.{graph_line, AreNeighbours, AreRows}
use Rattle.metis_text.specs.Parts.{HasLines}
use Rattle.lemmas.proofs.Lists.{get_or_any}

-- ---- one row

unkeyed : (x : ℕ) → keyed [] x ≡ x
unfolding keyed
unkeyed x = omega arith

not_less : (a b : ℕ) → b ≤ a → is_lt (nat_cmp a b) ≡ false
not_less a b le = grind (arith, common_steps, le)

sorted : (xs : List ℕ) → Rises (keyed []) xs → IsSorted nat_cmp xs
sorted xs rises k d low lt =
    let up = rises k (k + 1) (omega arith) lt in
    let first = get_or_any xs k d 0 (omega arith) in
    let second = get_or_any xs (k + 1) d 0 lt in
    let a = unkeyed (slice_index xs k) in
    let b = unkeyed (slice_index xs (k + 1)) in
    not_less (slice_index_or xs (k + 1) d) (slice_index_or xs k d) (omega arith)

pub near_row : (g : MeshValue) (m x : ℕ) (seen : List Bool) (xs ys : List ℕ) → AreUnseen g m x seen [] xs → ((y : ℕ) → slice_index_or seen y false ≡ false)
    → ys ≡ dedup eqb xs
    → AreNeighbours g m x ys
near_row g m x seen xs ys u none e = subst (AreNeighbours g m x) (sym e) (record {
  near = λ y c. (
      let f = Contains-from_dedup eqb xs y c in
      subst (λ z. are_neighbours g m x z ≡ true) (get_or_any xs f.0 0 y f.1 ∙ f.2) (u.near f.0 f.1));
  all = λ y h. Contains-dedup_nat xs y (u.all y h (none y));
  rises = IsStrictlyIncreasing-dedup xs (sorted xs u.rises);
})

-- ---- a row behind rows

rows_on : (g : MeshValue) (m n : ℕ) (rows : List (List ℕ)) (ys : List ℕ) → AreRows g m n rows → AreNeighbours g m n ys → AreRows g m (n + 1) (rows ++ ys ∷ [])
rows_on g m n rows ys are own = record {
  count = length-append rows (ys ∷ []) ∙ ap (λ k. k + 1) are.count;
  each = λ x lt. each x lt (nat_lt x n) refl;
}
  where
    last : (x : ℕ) → x ≡ n → AreNeighbours g m x (slice_index_or (rows ++ ys ∷ []) x [])
    last x e =
        let here : get_or (rows ++ ys ∷ []) (length rows + 0) [] ≡ ys = get_or-append-add rows (ys ∷ []) 0 [] in
        let count = are.count in
        let place : length rows + 0 ≡ n = omega arith in
        subst (λ k. AreNeighbours g m k (slice_index_or (rows ++ ys ∷ []) k [])) (sym e)
        (subst (λ l. AreNeighbours g m n l) (sym (ap (λ k. get_or (rows ++ ys ∷ []) k []) (sym place) ∙ here)) own)

    each : (x : ℕ) → x < n + 1 → (t : Bool) → nat_lt x n ≡ t → AreNeighbours g m x (slice_index_or (rows ++ ys ∷ []) x [])
    each x lt true t =
        let count = are.count in
        let below : x < n = grind (arith, common_steps, t) in
        subst (λ l. AreNeighbours g m x l) (sym (get_or-append rows (ys ∷ []) [] x (omega arith))) (are.each x below)
    each x lt false t =
        let above : n ≤ x = grind (arith, common_steps, t) in
        last x (omega arith)

pub lines_on : (g : MeshValue) (m n : ℕ) (old mid new : List ℕ) (total more : ℕ) (ys : List ℕ) → HasLines g m n old mid total → AreNeighbours g m n ys
    → new ≡ mid ++ graph_line ys
    → more ≡ total + length ys
    → HasLines g m (n + 1) old new more
lines_on g m n old mid new total more ys h own text count = record {
  rows = h.rows ++ ys ∷ [];
  are = rows_on g m n h.rows ys h.are own;
  text = text ∙ ap (λ z. z ++ graph_line ys) h.text ∙ flat_map_more graph_line old h.rows ys;
  count = count ∙ ap (λ k. k + length ys) h.count ∙ sym (sum_by_push length h.rows ys);
}
