-- Amounts that are merged into partials, row by row or column by column.
use Rattle.std.proofs.Common.{◌≡◌, ℕ, zero, suc, ℤ, pos, ◌<◌, ◌≤◌, ⊎_elim, List, [], ◌∷◌, length, get_or, set, refl, sym, ap, ◌∙◌, subst, arith, get_or-set_same}
use Rattle.std.proofs.lemmas.Bool.{cases_eq}
use Rattle.std.proofs.lemmas.List.{set-set, set-get_or, length-set}
use Rattle.op_num.specs.Reduction.{Reduction, unit_of, merged, IsCommuting}
use Rattle.op_num.specs.Access.{OpRead, OpReduce}
use Rattle.rank_state.specs.declared.scalars.Scalar.{Scalar}
use Rattle.rank_state.specs.declared.scalars.Scalar.TheVariants.{Value, Amount}
use Rattle.rank_state.specs.Windows.{operation, amount, amounts, InSlots, Merges}
use Rattle.kernel_columns.specs.Rows.{at_row, row}
use Rattle.kernel_columns.specs.Moving.{merged_at, total}
use Rattle.kernel_columns.proofs.Public.{total-zero, total-suc, one_cell, apart_two}
use Rattle.kernel_runs.specs.RowLoops.{AllowsScalar, MergeAlike, scalar_in}
use Rattle.kernel_runs.specs.Put.{total_put, totals}

-- the amounts of the first n rows, row by row
abbrev pub rows_merged : List Scalar → List (List ℤ) → ℕ → List ℤ → List ℤ
rows_merged xs cs zero p = p
rows_merged xs cs (suc n) p = amounts xs (row n cs) (rows_merged xs cs n p)

-- those of the first n rows of a column
abbrev total_in : ℕ → Scalar → List ℤ → List ℤ → List ℤ
total_in n (Value at) c p = p
total_in n (Amount at slot how) c p = set p slot (total (operation how) c n (get_or p slot (pos 0)))

abbrev all_in : ℕ → List Scalar → List (List ℤ) → List ℤ → List ℤ
all_in n [] cs p = p
all_in n (x ∷ xs) [] p = p
all_in n (x ∷ xs) (c ∷ cs) p = all_in n xs cs (total_in n x c p)

put_total : (n : ℕ) (x : Scalar) (c p : List ℤ) → total_put n x c p ≡ total_in n x c p
put_total n (Value at) c p = refl
put_total n (Amount at slot how) c p = refl

all_totals : (n : ℕ) (xs : List Scalar) (cs : List (List ℤ)) (p : List ℤ) → totals n xs cs p ≡ all_in n xs cs p
all_totals n [] cs p = refl
all_totals n (x ∷ xs) [] p = refl
all_totals n (x ∷ xs) (c ∷ cs) p = all_totals n xs cs (total_put n x c p) ∙ ap (all_in n xs cs) (put_total n x c p)

long_total : (n : ℕ) (x : Scalar) (c p : List ℤ) → length (total_in n x c p) ≡ length p
long_total n (Value at) c p = refl
long_total n (Amount at slot how) c p = length-set p slot (total (operation how) c n (get_or p slot (pos 0)))

all_in_as_many : (n k : ℕ) (xs : List Scalar) → n ≡ k → Merges n xs → Merges k xs
all_in_as_many n k xs e s = subst (λ z. Merges z xs) e s

module _ (laws : (r : Reduction) → IsCommuting (unit_of r) (merged r)) where
  swap : (x z : Scalar) (v w : ℤ) (p : List ℤ) → MergeAlike x z → amount x v (amount z w p) ≡ amount z w (amount x v p)
  swap (Value at) z v w p alike = refl
  swap (Amount at slot how) (Value at') v w p alike = refl
  swap (Amount at slot how) (Amount at' slot' how') v w p alike = ⊎_elim
      (λ (e : slot ≡ slot').
      subst (λ q. merged_at (operation how) slot v (merged_at (operation q) slot' w p) ≡ merged_at (operation q) slot' w (merged_at (operation how) slot v p)) (alike e)
      (subst (λ t. merged_at (operation how) slot v (merged_at (operation how) t w p) ≡ merged_at (operation how) t w (merged_at (operation how) slot v p)) e
      (one_cell laws (operation how) slot v w p)))
      (λ (ne : slot ≡ slot' → ⊥). apart_two (operation how) (operation how') slot slot' v w p ne)
      (cases_eq slot slot')

  past_amounts : (x : Scalar) (v : ℤ) (xs : List Scalar) (ws p : List ℤ) → ((j : ℕ) → j < length xs → MergeAlike x (scalar_in xs j))
      → amount x v (amounts xs ws p) ≡ amounts xs ws (amount x v p)
  past_amounts x v [] ws p alike = refl
  past_amounts x v (z ∷ xs) [] p alike = refl
  past_amounts x v (z ∷ xs) (w ∷ ws) p alike =
      past_amounts x v xs ws (amount z w p) (λ j lt. alike (suc j) (omega arith))
      ∙ ap (amounts xs ws) (swap x z v w p (alike 0 (omega arith)))

  past_rows : (x : Scalar) (v : ℤ) (xs : List Scalar) (cs : List (List ℤ)) (n : ℕ) (p : List ℤ)
      → ((j : ℕ) → j < length xs → MergeAlike x (scalar_in xs j))
      → amount x v (rows_merged xs cs n p) ≡ rows_merged xs cs n (amount x v p)
  past_rows x v xs cs zero p alike = refl
  past_rows x v xs cs (suc n) p alike =
      past_amounts x v xs (row n cs) (rows_merged xs cs n p) alike ∙ ap (amounts xs (row n cs)) (past_rows x v xs cs n p alike)

  none_in : (x : Scalar) (c p : List ℤ) → total_in 0 x c p ≡ p
  none_in (Value at) c p = refl
  none_in (Amount at slot how) c p =
      ap (set p slot) (total-zero (operation how) c (get_or p slot (pos 0))) ∙ set-get_or p slot (pos 0)

  one_more : (n : ℕ) (x : Scalar) (c p : List ℤ) → InSlots (length p) x → total_in (suc n) x c p ≡ amount x (at_row n c) (total_in n x c p)
  one_more n (Value at) c p inside = refl
  one_more n (Amount at slot how) c p inside =
      let r = operation how in
      let t = total r c n (get_or p slot (pos 0)) in
      ap (set p slot) (total-suc r c n (get_or p slot (pos 0)))
      ∙ sym (set-set p slot t (merged r (get_or (set p slot t) slot (pos 0)) (at_row n c))
      ∙ ap (λ k. set p slot (merged r k (at_row n c))) (get_or-set_same p slot t (pos 0) inside))

  module _ (x : Scalar) (xs : List Scalar) (c : List ℤ) (cs : List (List ℤ)) (p : List ℤ) (alike : (j : ℕ) → j < length xs → MergeAlike x (scalar_in xs j)) (inside : InSlots (length p) x) where
    column_first : (n : ℕ) → rows_merged xs cs n (total_in n x c p) ≡ rows_merged (x ∷ xs) (c ∷ cs) n p
    column_first zero = none_in x c p
    column_first (suc n) =
        ap (λ q. amounts xs (row n cs) (rows_merged xs cs n q)) (one_more n x c p inside)
        ∙ ap (amounts xs (row n cs)) (sym (past_rows x (at_row n c) xs cs n (total_in n x c p) alike))
        ∙ ap (λ q. amounts xs (row n cs) (amount x (at_row n c) q)) (column_first n)

  no_scalars : (cs : List (List ℤ)) (n : ℕ) (p : List ℤ) → rows_merged [] cs n p ≡ p
  no_scalars cs zero p = refl
  no_scalars cs (suc n) p = no_scalars cs n p

  no_columns : (x : Scalar) (xs : List Scalar) (n : ℕ) (p : List ℤ) → rows_merged (x ∷ xs) [] n p ≡ p
  no_columns x xs zero p = refl
  no_columns x xs (suc n) p = no_columns x xs n p

  by_columns : (n : ℕ) (xs : List Scalar) (cs : List (List ℤ)) (p : List ℤ)
      → ((i j : ℕ) → i < length xs → j < length xs → MergeAlike (scalar_in xs i) (scalar_in xs j)) → Merges (length p) xs
      → all_in n xs cs p ≡ rows_merged xs cs n p
  by_columns n [] cs p alike inside = sym (no_scalars cs n p)
  by_columns n (x ∷ xs) [] p alike inside = sym (no_columns x xs n p)
  by_columns n (x ∷ xs) (c ∷ cs) p alike inside =
      by_columns n xs cs (total_in n x c p) (λ i j i_lt j_lt. alike (suc i) (suc j) (omega arith) (omega arith))
      (all_in_as_many (length p) (length (total_in n x c p)) xs (sym (long_total n x c p)) inside.1)
      ∙ column_first x xs c cs p (λ j lt. alike 0 (suc j) (omega arith) (omega arith)) inside.0 n

  pub totals_by_rows : (n : ℕ) (xs : List Scalar) (cs : List (List ℤ)) (p : List ℤ)
      → ((i j : ℕ) → i < length xs → j < length xs → MergeAlike (scalar_in xs i) (scalar_in xs j)) → Merges (length p) xs
      → totals n xs cs p ≡ rows_merged xs cs n p
  totals_by_rows n xs cs p alike inside = all_totals n xs cs p ∙ by_columns n xs cs p alike inside

-- amounts from two lists that agree where scalars are amounts
pub amounts_agree : (xs : List Scalar) (ws us p : List ℤ) → length xs ≤ length ws → length xs ≤ length us
    → ((j : ℕ) → j < length xs → (AllowsScalar (scalar_in xs j) OpRead → ⊥) → get_or ws j (pos 0) ≡ get_or us j (pos 0))
    → amounts xs ws p ≡ amounts xs us p
amounts_agree [] ws us p a b same = refl
amounts_agree (x ∷ xs) [] us p a b same = absurd (omega arith)
amounts_agree (x ∷ xs) (w ∷ ws) [] p a b same = absurd (omega arith)
amounts_agree (x ∷ xs) (w ∷ ws) (u ∷ us) p a b same =
    amounts_agree xs ws us (amount x w p) (omega arith) (omega arith) (λ j lt changes. same (suc j) (omega arith) changes)
    ∙ ap (amounts xs us) (one x (same 0 (omega arith)))
  where
    one : (z : Scalar) → ((AllowsScalar z OpRead → ⊥) → w ≡ u) → amount z w p ≡ amount z u p
    one (Value at) e = refl
    one (Amount at slot how) e = ap (λ k. set p slot (merged (operation how) (get_or p slot (pos 0)) k)) (e (λ (q : OpRead ≡ OpReduce (operation how)). cc))
