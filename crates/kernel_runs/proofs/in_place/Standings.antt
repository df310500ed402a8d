-- Where the gathered cells stand.
use Rattle.std.proofs.Common.{◌≡◌, ℕ, ℤ, pos, ◌+◌, ◌-◌, ◌<◌, ◌≤◌, false, cond, ◌⊎◌, inl, inr, ⊎_elim, List, [], ◌∷◌, ◌++◌, length, get_or, take, drop, refl, sym, ap, subst, ◌∙◌, arith}
use Rattle.std.proofs.lemmas.Bool.{lt-ltb, le-ltb, cases_lt}
use Rattle.std.proofs.lemmas.List.{get_or_append_left, get_or-append-add, get_or-append_right, get_or-take, get_or-drop, length-take-le, length-append}
use Rattle.rank_state.specs.declared.spans.Span.{Span}
use Rattle.rank_state.specs.Spans.{Within, total, with_window, cells_at, gathered}
use Rattle.kernel_runs.specs.Standing.{stands_at, is_written, IsUnwritten}
use Rattle.std.proofs.lemmas.Grind.{common_steps}

abbrev pub at : List ℤ → ℕ → ℤ
at m i = get_or m i (pos 0)

pub cells_length : (from dim : ℕ) (m : List ℤ) → from + dim ≤ length m → length (cells_at from dim m) ≡ dim
cells_length from dim m h = grind (arith, common_steps)

pub window_length : (from : ℕ) (w m : List ℤ) → from + length w ≤ length m → length (with_window from w m) ≡ length m
window_length from w m h = grind (arith, common_steps)

-- ---- in the first span, and behind it

module _ (s : Span) (ss : List Span) where
  pub in_first : (j : ℕ) → j < s.dim → stands_at (s ∷ ss) j ≡ s.at + j
  in_first j lt = ap (λ b. cond b (s.at + j) (stands_at ss (j - s.dim))) (lt-ltb j s.dim lt)

  pub in_rest : (j : ℕ) → stands_at (s ∷ ss) (s.dim + j) ≡ stands_at ss j
  in_rest j =
      let e : s.dim + j - s.dim ≡ j = omega arith in
      ap (λ b. cond b (s.at + (s.dim + j)) (stands_at ss (s.dim + j - s.dim))) (le-ltb (s.dim + j) s.dim (omega arith)) ∙ ap (stands_at ss) e

  pub first_written : (j : ℕ) → j < s.dim → is_written (s ∷ ss) j ≡ s.writes
  first_written j lt = ap (λ b. cond b s.writes (is_written ss (j - s.dim))) (lt-ltb j s.dim lt)

  pub rest_written : (j : ℕ) → is_written (s ∷ ss) (s.dim + j) ≡ is_written ss j
  rest_written j =
      let e : s.dim + j - s.dim ≡ j = omega arith in
      ap (λ b. cond b s.writes (is_written ss (s.dim + j - s.dim))) (le-ltb (s.dim + j) s.dim (omega arith)) ∙ ap (is_written ss) e

  -- a cell is one of the first span's, or of those behind it
  pub by_span : (P : ℕ → Type 0) (j : ℕ) → j < s.dim + total ss → ((i : ℕ) → i < s.dim → P i) → ((i : ℕ) → i < total ss → P (s.dim + i)) → P j
  by_span P j lt f g = ⊎_elim (λ (l : j < s.dim). f j l)
      (λ (l : s.dim ≤ j).
      let e : s.dim + (j - s.dim) ≡ j = omega arith in
      let i : j - s.dim < total ss = omega arith in
      subst P e (g (j - s.dim) i))
      (cases_lt j s.dim)

  -- what the spans behind don't write, and the first doesn't, is unwritten
  pub unwritten_more : (i : ℕ) → IsUnwritten ss i → ((j : ℕ) → j < s.dim → s.at + j ≡ i → s.writes ≡ false) → IsUnwritten (s ∷ ss) i
  unwritten_more i rest first j lt = by_span (λ n. stands_at (s ∷ ss) n ≡ i → is_written (s ∷ ss) n ≡ false) j lt
      (λ n l e. first_written n l ∙ first n l (sym (in_first n l) ∙ e))
      (λ n l e. rest_written n ∙ rest n l (sym (in_rest n) ∙ e))

-- within the memory
pub stands_within : (n : ℕ) (ss : List Span) → Within n ss → (j : ℕ) → j < total ss → stands_at ss j < n
stands_within n [] within j lt = absurd (omega arith)
stands_within n (s ∷ ss) within j lt = by_span s ss (λ i. stands_at (s ∷ ss) i < n) j lt
    (λ i l. let e : stands_at (s ∷ ss) i ≡ s.at + i = in_first s ss i l in omega (arith, within.0))
    (λ i l. let e : stands_at (s ∷ ss) (s.dim + i) ≡ stands_at ss i = in_rest s ss i in let h : stands_at ss i < n = stands_within n ss within.1 i l in omega arith)

-- ---- gathered cells

pub gathered_length : (m : List ℤ) (ss : List Span) → Within (length m) ss → length (gathered m ss) ≡ total ss
gathered_length m [] within = omega arith
gathered_length m (s ∷ ss) within =
    let h : length (gathered m ss) ≡ total ss = gathered_length m ss within.1 in
    let c : length (cells_at s.at s.dim m) ≡ s.dim = cells_length s.at s.dim m within.0 in
    omega (arith, length-append (cells_at s.at s.dim m) (gathered m ss))

pub gathered_at : (m : List ℤ) (ss : List Span) → Within (length m) ss → (j : ℕ) → j < total ss → at (gathered m ss) j ≡ at m (stands_at ss j)
gathered_at m [] within j lt = absurd (omega arith)
gathered_at m (s ∷ ss) within j lt =
    let c : length (cells_at s.at s.dim m) ≡ s.dim = cells_length s.at s.dim m within.0 in
    by_span s ss (λ i. at (cells_at s.at s.dim m ++ gathered m ss) i ≡ at m (stands_at (s ∷ ss) i)) j lt
    (λ i l. get_or_append_left (cells_at s.at s.dim m) (gathered m ss) (pos 0) i (omega arith)
    ∙ get_or-take s.dim (drop s.at m) i (pos 0) l ∙ get_or-drop s.at m i (pos 0) ∙ ap (at m) (sym (in_first s ss i l)))
    (λ i l. ap (λ n. at (cells_at s.at s.dim m ++ gathered m ss) (n + i)) (sym c)
    ∙ get_or-append-add (cells_at s.at s.dim m) (gathered m ss) i (pos 0) ∙ gathered_at m ss within.1 i l ∙ ap (at m) (sym (in_rest s ss i)))

-- ---- a window that was put into a list

pub in_window : (from : ℕ) (w m : List ℤ) → from + length w ≤ length m → (j : ℕ) → j < length w → at (with_window from w m) (from + j) ≡ at w j
in_window from w m fit j lt =
    ap (λ n. at (with_window from w m) (n + j)) (sym (length-take-le from m (omega arith)))
    ∙ get_or-append-add (take from m) (w ++ drop (from + length w) m) j (pos 0)
    ∙ get_or_append_left w (drop (from + length w) m) (pos 0) j lt

pub off_window : (from : ℕ) (w m : List ℤ) → from + length w ≤ length m → (i : ℕ) → (i < from) ⊎ (from + length w ≤ i) → at (with_window from w m) i ≡ at m i
off_window from w m fit i (inl lt) =
    let e : length (take from m) ≡ from = length-take-le from m (omega arith) in
    get_or_append_left (take from m) (w ++ drop (from + length w) m) (pos 0) i (omega arith) ∙ get_or-take from m i (pos 0) lt
off_window from w m fit i (inr le) =
    let e : length (take from m) ≡ from = length-take-le from m (omega arith) in
    let k : from + length w + (i - from - length w) ≡ i = omega arith in
    get_or-append_right (take from m) (w ++ drop (from + length w) m) from i (pos 0) e (omega arith)
    ∙ get_or-append_right w (drop (from + length w) m) (length w) (i - from) (pos 0) refl (omega arith)
    ∙ get_or-drop (from + length w) m (i - from - length w) (pos 0) ∙ ap (at m) k

-- the cell is in the window, or beside it
pub by_window : (from k : ℕ) (P : ℕ → Type 0) (i : ℕ) → ((j : ℕ) → j < k → P (from + j)) → ((i < from) ⊎ (from + k ≤ i) → P i) → P i
by_window from k P i f g = ⊎_elim
    (λ (l : i < from). g (inl l))
    (λ (l : from ≤ i). ⊎_elim
    (λ (u : i < from + k).
    let e : from + (i - from) ≡ i = omega arith in
    let j : i - from < k = omega arith in
    subst P e (f (i - from) j))
    (λ (u : from + k ≤ i). g (inr u))
    (cases_lt i (from + k)))
    (cases_lt i from)
