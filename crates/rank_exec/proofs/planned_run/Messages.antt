-- The messages of a plan, and how many cells they have.
use Rattle.std.proofs.Common.{◌≡◌, ◌<◌, ◌≤◌, ◌+◌, ◌-◌, ℕ, zero, suc, Bool, true, false, cond, refl, ap, ◌∙◌, arith, ⊎_elim, List, [], ◌∷◌, ◌++◌, length, get_or}
use Rattle.std.proofs.lemmas.Bool.{cases_lt}
use Rattle.std.proofs.lemmas.List.{get_or_append_left, get_or-append_right, length-append}
use Rattle.schedule_steps.specs.Outline.{Outline}
use Rattle.schedule_steps.specs.declared.step.Step.{Step}
use Rattle.schedule_steps.specs.Steps.{IsStep, Accepted}
use Rattle.schedule_steps.specs.Members.{split_at}
use Rattle.schedule_steps.specs.Drawn.{numbers}
use Rattle.schedule_model.specs.Cells.{DatCell}
use Rattle.rank_state.specs.declared.spans.Span.{Span}
use Rattle.rank_state.specs.Spans.{total}
use Rattle.rank_state.specs.Windows.{cells_from, span_cells}

-- ---- the numbers that meet a test

one_length : (b : Bool) (n i : ℕ) → i < length (cond b (n ∷ []) []) → (i ≡ 0) × (b ≡ true)
one_length true n i lt = (omega arith, refl)
one_length false n i lt = absurd (omega arith)

pub meets : (t : ℕ → Bool) (n i : ℕ) → i < length (numbers t n) → (get_or (numbers t n) i 0 < n) × (t (get_or (numbers t n) i 0) ≡ true)
meets t zero i lt = absurd (omega arith)
meets t (suc n) i lt = ⊎_elim
    (λ (l : i < length (numbers t n)).
    let rest = meets t n i l in
    let e : get_or (numbers t (suc n)) i 0 ≡ get_or (numbers t n) i 0 = get_or_append_left (numbers t n) (cond (t n) (n ∷ []) []) 0 i l in
    let below : get_or (numbers t n) i 0 < n = rest.0 in
    ((let l : get_or (numbers t (suc n)) i 0 < suc n = omega arith in l), ap t e ∙ rest.1))
    (λ (ge : length (numbers t n) ≤ i).
    let whole : length (numbers t n ++ cond (t n) (n ∷ []) []) ≡ length (numbers t n) + length (cond (t n) (n ∷ []) []) =
    length-append (numbers t n) (cond (t n) (n ∷ []) []) in
    let at : i - length (numbers t n) < length (cond (t n) (n ∷ []) []) = omega arith in
    let one = one_length (t n) n (i - length (numbers t n)) at in
    let e : get_or (numbers t (suc n)) i 0 ≡ n =
    get_or-append_right (numbers t n) (cond (t n) (n ∷ []) []) (length (numbers t n)) i 0 refl ge
    ∙ (ap (λ z. get_or (cond (t n) (n ∷ []) []) z 0) one.0 ∙ ap (λ b. get_or (cond b (n ∷ []) []) 0 0) one.1) in
    ((let l : get_or (numbers t (suc n)) i 0 < suc n = omega arith in l), ap t e ∙ one.1))
    (cases_lt i (length (numbers t n)))

-- ---- steps of outlines that accept the same

pub same_steps : (o n : Outline) (l : List Step) → Accepted o l → Accepted n l → (s : Step) → IsStep o s → IsStep n s
same_steps o n l one other s step =
    let at : (x : List Step) × (y : List Step) × (l ≡ x ++ (s ∷ y)) = split_at l s (one.whole s step) in
    other.steps at.0 s at.1 at.2

-- ---- cells of spans

cells_length : (cell_at : ℕ → DatCell) (at n : ℕ) → length (cells_from cell_at at n) ≡ n
cells_length cell_at at zero = refl
cells_length cell_at at (suc n) = ap suc (cells_length cell_at (suc at) n)

pub cells_counted : (cell_at : ℕ → DatCell) (spans : List Span) → length (span_cells cell_at spans) ≡ total spans
cells_counted cell_at [] = refl
cells_counted cell_at (s ∷ ss) =
    let first : length (cells_from cell_at s.at s.dim) ≡ s.dim = cells_length cell_at s.at s.dim in
    let rest : length (span_cells cell_at ss) ≡ total ss = cells_counted cell_at ss in
    length-append (cells_from cell_at s.at s.dim) (span_cells cell_at ss) ∙ omega arith
