-- The values of a dat, element by element.
use Rattle.std.proofs.Common.{◌≡◌, ◌<◌, ◌+◌, ℕ, ℤ, pos, List, [], ◌∷◌, ◌++◌, flat_map, map, length, get_or, sym, ap, ◌∙◌, arith}
use Rattle.std.proofs.lemmas.List.{append-nil, map-id, map-append, length-map, ext_get_or}
use Rattle.std.proofs.lemmas.Simd.{map-map}
use Rattle.std.proofs.lemmas.List.Concat.{flat_map-append}
use Rattle.std.proofs.lemmas.List.FromFn.{map-range_with_len_more, length-map-range_with_len, get_or-map-range_with_len}
use Rattle.mesh_decl.specs.declared.owners.Owners.{Owners}
use Rattle.mesh_decl.specs.Mesh.{dat_count, dat_set, dat_dim, set_size}
use Rattle.mesh_decl.specs.Owners.{owner_of}
use Rattle.schedule_model.specs.Cells.{Cell, Data, Store}
use Rattle.bound_program.specs.Values.{BoundValue}
use Rattle.run_model.specs.Windows.{numbers, Element, cell_in}
use Rattle.run_model.proofs.Public.{has_dat}
use Rattle.deep_halo.specs.Places.{in_block}
use Rattle.deep_halo.proofs.chain_memory.chain_stores.Writing.{block_follow}
use Rattle.deep_halo.specs.Orders.{OwnersStand}

-- the cells of an element of a dat
abbrev pub row_cells : BoundValue → ℕ → ℕ → List Cell
row_cells b d x = map (λ i. Data (record { dat = d; element = x; component = i })) (numbers (dat_dim b.mesh d))

numbers_more : (n : ℕ) → numbers (n + 1) ≡ numbers n ++ n ∷ []
numbers_more n = sym (map-id (numbers (n + 1))) ∙ map-range_with_len_more (λ (x : ℕ). x) 0 n n (omega arith) ∙ ap (λ z. z ++ n ∷ []) (map-id (numbers n))

pub row_more : (s : Store) (f : ℕ → List Cell) (n : ℕ) (now new row : List ℤ) → now ≡ map s (flat_map f (numbers n)) → row ≡ map s (f n) → new ≡ now ++ row → new ≡ map s (flat_map f (numbers (n + 1)))
row_more s f n now new row is here more =
    more ∙ ap (λ z. z ++ row) is ∙ ap (λ z. map s (flat_map f (numbers n)) ++ z) here ∙ sym (map-append s (flat_map f (numbers n)) (f n))
    ∙ ap (map s) (ap (λ z. flat_map f (numbers n) ++ z) (sym (append-nil (f n))) ∙ sym (flat_map-append f (numbers n) (n ∷ [])) ∙ ap (flat_map f) (sym (numbers_more n)))

-- an owner's cells are those of the store
pub row_is : (b : BoundValue) (o : Owners) (memory : List ℤ) (s : Store) → OwnersStand b o memory s → (d y r from dim : ℕ) → d < dat_count b.mesh → y < set_size b.mesh (dat_set b.mesh d)
    → r ≡ owner_of o (dat_set b.mesh d) y → from ≡ in_block b r (cell_in (Element d y) 0) → dim ≡ dat_dim b.mesh d
    → (values : List ℤ) → length values ≡ dim → ((i : ℕ) → i < dim → get_or values i (pos 0) ≡ get_or memory (from + i) (pos 0)) → values ≡ map s (row_cells b d y)
row_is b o memory s stand d y r from dim ld ly own at wide values count each =
    ext_get_or (pos 0) values (map s (row_cells b d y))
    (count ∙ wide ∙ sym (length-map (row_cells b d y) s
    ∙ length-map-range_with_len (λ i. Data (record { dat = d; element = y; component = i })) 0 (dat_dim b.mesh d)))
    (λ i li.
    let l : i < dat_dim b.mesh d = omega (arith, li, count, wide) in
    each i (omega (arith, li, count)) ∙ ap (λ k. get_or memory (k + i) (pos 0)) at ∙ ap (λ k. get_or memory k (pos 0)) (sym (block_follow b r (Element d y) i))
    ∙ ap (λ q. get_or memory (in_block b q (cell_in (Element d y) i)) (pos 0)) own
    ∙ stand.cells (cell_in (Element d y) i) (has_dat b d y i ld ly l)
    ∙ sym (ap (λ l. get_or l i (pos 0)) (map-map s (λ j. Data (record { dat = d; element = y; component = j })) (numbers (dat_dim b.mesh d)))
    ∙ get_or-map-range_with_len (λ j. s (Data (record { dat = d; element = y; component = j }))) 0 (dat_dim b.mesh d) i i (pos 0) l (omega arith)))
