-- The cells of messages.
use Rattle.std.proofs.Common.{◌≡◌, ◌<◌, ◌≤◌, ◌+◌, ◌*◌, ℕ, zero, suc, List, [], ◌∷◌, ◌++◌, All, map, flat_map, length, get_or, refl, sym, ap, ap₂, ◌∙◌, arith, append_assoc}
use Rattle.std.specs.List.{range_with_len}
use Rattle.mesh_decl.specs.Mesh.{dat_dim}
use Rattle.local_mesh.specs.Lists.{IsLocal}
use Rattle.schedule_model.specs.Cells.{Cell, Data, DatCell}
use Rattle.bound_program.specs.Values.{BoundValue}
use Rattle.run_model.specs.Windows.{Element, cell_in, cells_in}
use Rattle.rank_state.specs.declared.spans.Span.{Span}
use Rattle.rank_state.specs.Spans.{Within}
use Rattle.rank_state.specs.Windows.{cells_from, span_cells}
use Rattle.rank_layout.specs.Messages.{element_span}

-- the cells of an element that stand side by side
from_run : (d x j n at : ℕ) (cell_at : ℕ → DatCell)
    → ((i : ℕ) → i < n → cell_at (at + i) ≡ record { dat = d; element = x; component = j + i })
    → cells_from cell_at at n ≡ map (cell_in (Element d x)) (range_with_len j n)
from_run d x j zero at cell_at h = refl
from_run d x j (suc n) at cell_at h =
    ap₂ (λ c cs. c ∷ cs)
    (ap Data (ap cell_at (let e : at ≡ at + 0 = omega arith in e) ∙ h 0 (omega arith) ∙ ap (λ i. record { dat = d; element = x; component = i }) (let e : j + 0 ≡ j = omega arith in e)))
    (from_run d x (j + 1) n (suc at) cell_at
    (λ i lt. ap cell_at (let e : suc at + i ≡ at + suc i = omega arith in e) ∙ h (suc i) (omega arith)
    ∙ ap (λ m. record { dat = d; element = x; component = m }) (let e : j + suc i ≡ j + 1 + i = omega arith in e)))

module _ (b : BoundValue) (d base : ℕ) (original : List ℕ) (cell_at : ℕ → DatCell)
    (values : (k i : ℕ) → k < length original → i < dat_dim b.mesh d
    → cell_at (base + k * dat_dim b.mesh d + i) ≡ record { dat = d; element = get_or original k 0; component = i }) where
  pub one_element : (k x : ℕ) → IsLocal original x k → cells_from cell_at (base + k * dat_dim b.mesh d) (dat_dim b.mesh d) ≡ cells_in b (Element d x)
  one_element k x is = from_run d x 0 (dat_dim b.mesh d) (base + k * dat_dim b.mesh d) cell_at
      (λ i lt. values k i is.0 lt ∙ ap₂ (λ e m. record { dat = d; element = e; component = m }) is.1 (let e : i ≡ 0 + i = omega arith in e))

  -- the spans of elements have the cells of these
  pub elements_cells : (elements locals : List ℕ) → length locals ≡ length elements
      → ((k : ℕ) → k < length elements → IsLocal original (get_or elements k 0) (get_or locals k 0))
      → span_cells cell_at (map (element_span base (dat_dim b.mesh d)) locals) ≡ flat_map (λ x. cells_in b (Element d x)) elements
  elements_cells [] [] same each = refl
  elements_cells [] (y ∷ ys) same each = absurd (let e : suc (length ys) ≡ 0 = same in omega arith)
  elements_cells (x ∷ xs) [] same each = absurd (let e : 0 ≡ suc (length xs) = same in omega arith)
  elements_cells (x ∷ xs) (y ∷ ys) same each =
      ap₂ (λ cs ds. cs ++ ds) (one_element y x (each 0 (omega arith)))
      (elements_cells xs ys (let e : suc (length ys) ≡ suc (length xs) = same in omega arith) (λ k lt. each (suc k) (omega arith)))

pub span_cells_append : (cell_at : ℕ → DatCell) (xs ys : List Span) → span_cells cell_at (xs ++ ys) ≡ span_cells cell_at xs ++ span_cells cell_at ys
span_cells_append cell_at [] ys = refl
span_cells_append cell_at (x ∷ xs) ys =
    ap (λ z. cells_from cell_at x.at x.dim ++ z) (span_cells_append cell_at xs ys)
    ∙ sym (append_assoc (cells_from cell_at x.at x.dim) (span_cells cell_at xs) (span_cells cell_at ys))

-- dat by dat
pub dats_cells : (cell_at : ℕ → DatCell) (spans : ℕ → List Span) (cells : ℕ → List Cell) (dats : List ℕ)
    → All (λ d. span_cells cell_at (spans d) ≡ cells d) dats
    → span_cells cell_at (flat_map spans dats) ≡ flat_map cells dats
dats_cells cell_at spans cells [] h = refl
dats_cells cell_at spans cells (d ∷ ds) h =
    span_cells_append cell_at (spans d) (flat_map spans ds)
    ∙ ap₂ (λ x y. x ++ y) (h 0 0 (omega arith)) (dats_cells cell_at spans cells ds (λ i e lt. h (suc i) e (omega arith)))

pub within_append : (n : ℕ) (xs ys : List Span) → Within n xs → Within n ys → Within n (xs ++ ys)
within_append n [] ys h g = g
within_append n (x ∷ xs) ys h g = (h.0, within_append n xs ys h.1 g)

pub elements_within : (n base dim : ℕ) (locals : List ℕ) → All (λ k. base + k * dim + dim ≤ n) locals → Within n (map (element_span base dim) locals)
elements_within n base dim [] h = tt
elements_within n base dim (k ∷ ks) h = (h 0 0 (omega arith), elements_within n base dim ks (λ i d lt. h (suc i) d (omega arith)))

pub dats_within : (n : ℕ) (spans : ℕ → List Span) (dats : List ℕ) → All (λ d. Within n (spans d)) dats → Within n (flat_map spans dats)
dats_within n spans [] h = tt
dats_within n spans (d ∷ ds) h =
    within_append n (spans d) (flat_map spans ds) (h 0 0 (omega arith)) (dats_within n spans ds (λ i e lt. h (suc i) e (omega arith)))
