-- Loops whose arguments are on no cell of a constant.
use Rattle.std.proofs.Common.{◌≡◌, ◌<◌, ◌≤◌, ◌++◌, ◌∷◌, [], ℕ, Bool, true, false, List, Vec, Global, map, length, get_or, ⊎_elim, sym, ap, subst, ◌∙◌, arith}
use Rattle.std.specs.Prelude.{slice_index_or}
use Rattle.std.proofs.lemmas.Bool.{cases_lt, cases_eq, false≢true}
use Rattle.std.proofs.lemmas.List.{get_or_append_left, length-append, get_or-map}
use Rattle.std.proofs.Math.Seq.{get_or-append_seam}
use Rattle.std.proofs.Math.ListN.{get_or-eq_default}
use Rattle.rank_layout.specs.Made.{row_of}
use Rattle.rank_program.specs.Constants.{Apart}

-- the row that stands at a place
pub row_at : (rows : List (Vec ℕ Global)) (n : ℕ) (x : Vec ℕ Global) → n < length rows → x ≡ get_or rows n x → row_of rows n ≡ x.items
unfolding row_of
row_at rows n x lt is = get_or-map (λ (v : Vec ℕ Global). v.items) rows n x [] lt ∙ ap (λ (v : Vec ℕ Global). v.items) (sym is)

-- as a further loop is judged
pub one_more : (rows : List (Vec ℕ Global)) (constants : List ℕ) (stay : List Bool) (n : ℕ) → length stay ≡ n
    → ((s : ℕ) → get_or stay s false ≡ true → Apart (row_of rows s) constants)
    → (last : Bool) → (last ≡ true → Apart (row_of rows n) constants)
    → (s : ℕ) → get_or (stay ++ last ∷ []) s false ≡ true → Apart (row_of rows s) constants
one_more rows constants stay n long each last here s flag = ⊎_elim
    (λ (lt : s < n). each s (sym (get_or_append_left stay (last ∷ []) false s (omega (arith, lt, long))) ∙ flag))
    (λ (le : n ≤ s). ⊎_elim
    (λ (e : s ≡ n). subst (λ k. Apart (row_of rows k) constants) (sym e)
    (here (sym (get_or-append_seam stay last [] false) ∙ ap (λ k. get_or (stay ++ last ∷ []) k false) (long ∙ sym e) ∙ flag)))
    (λ (ne : s ≡ n → ⊥). absurd (false≢true
    (sym (get_or-eq_default (stay ++ last ∷ []) false {n = s} (let count = length-append stay (last ∷ []) in omega (arith, count, long, le, ne))) ∙ flag)))
    (cases_eq s n))
    (cases_lt s n)
