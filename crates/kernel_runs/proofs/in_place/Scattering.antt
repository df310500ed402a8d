-- What a memory is whose written spans were replaced, and what was saved of them.
use Rattle.std.proofs.Common.{◌≡◌, ℕ, ℤ, pos, ◌+◌, ◌<◌, ◌≤◌, Bool, true, false, cond, ◌⊎◌, inl, inr, List, [], ◌∷◌, length, drop, refl, sym, ap, subst, ◌∙◌, arith}
use Rattle.std.proofs.lemmas.Bool.{false≢true}
use Rattle.std.proofs.lemmas.List.{get_or-take, get_or-drop, ext_get_or}
use Rattle.rank_state.specs.declared.spans.Span.{Span}
use Rattle.rank_state.specs.Spans.{Within, total, with_window, cells_at, scattered}
use Rattle.kernel_runs.specs.Standing.{stands_at, is_written, IsUnwritten}
use Rattle.kernel_runs.specs.Saving.{AreKept, AreSaved}
use Rattle.kernel_runs.proofs.in_place.Standings.{at, cells_length, window_length, in_first, in_rest, first_written, rest_written, by_span, unwritten_more, in_window, off_window, by_window}

cell_of : (from dim : ℕ) (f : List ℤ) (j : ℕ) → j < dim → at (cells_at from dim f) j ≡ at f (from + j)
cell_of from dim f j lt = get_or-take dim (drop from f) j (pos 0) lt ∙ get_or-drop from f j (pos 0)

-- some cells of a list replaced by those of another, or not
abbrev pub replaced : Bool → (from dim to : ℕ) (f m : List ℤ) → List ℤ
replaced b from dim to f m = cond b (with_window to (cells_at from dim f) m) m

pub replaced_length : (b : Bool) (from dim to : ℕ) (f m : List ℤ) → from + dim ≤ length f → to + dim ≤ length m → length (replaced b from dim to f m) ≡ length m
replaced_length true from dim to f m h k =
    let e : length (cells_at from dim f) ≡ dim = cells_length from dim f h in
    window_length to (cells_at from dim f) m (omega arith)
replaced_length false from dim to f m h k = refl

replaced_in : (b : Bool) (from dim to : ℕ) (f m : List ℤ) → from + dim ≤ length f → to + dim ≤ length m → b ≡ true → (j : ℕ) → j < dim → at (replaced b from dim to f m) (to + j) ≡ at f (from + j)
replaced_in true from dim to f m h k t j lt =
    let e : length (cells_at from dim f) ≡ dim = cells_length from dim f h in
    in_window to (cells_at from dim f) m (omega arith) j (omega arith) ∙ cell_of from dim f j lt
replaced_in false from dim to f m h k t j lt = absurd (false≢true t)

replaced_off : (b : Bool) (from dim to : ℕ) (f m : List ℤ) → from + dim ≤ length f → to + dim ≤ length m → (i : ℕ) → (i < to) ⊎ (to + dim ≤ i) → at (replaced b from dim to f m) i ≡ at m i
replaced_off true from dim to f m h k i (inl l) =
    let e : length (cells_at from dim f) ≡ dim = cells_length from dim f h in
    off_window to (cells_at from dim f) m (omega arith) i (inl l)
replaced_off true from dim to f m h k i (inr l) =
    let e : length (cells_at from dim f) ≡ dim = cells_length from dim f h in
    let u : to + length (cells_at from dim f) ≤ i = omega arith in
    off_window to (cells_at from dim f) m (omega arith) i (inr u)
replaced_off false from dim to f m h k i l = refl

-- ---- written back

-- a memory that has the list's cells where written spans stand, and those of another memory elsewhere, is the other one with
-- the written spans replaced
pub scattered_is : (ss : List Span) (from : ℕ) (f base goal : List ℤ) → length goal ≡ length base → Within (length base) ss → from + total ss ≤ length f
    → ((j : ℕ) → j < total ss → is_written ss j ≡ true → at goal (stands_at ss j) ≡ at f (from + j))
    → ((i : ℕ) → IsUnwritten ss i → at goal i ≡ at base i)
    → scattered from f ss base ≡ goal
scattered_is [] from f base goal len within room written others =
    ext_get_or (pos 0) base goal (sym len) (λ i lt. sym (others i (λ j l e. absurd (omega arith))))
scattered_is (s ∷ ss) from f base goal len within room written others =
    let here : from + s.dim ≤ length f = omega arith in
    let e : length (replaced s.writes from s.dim s.at f base) ≡ length base = replaced_length s.writes from s.dim s.at f base here within.0 in
    scattered_is ss (from + s.dim) f (replaced s.writes from s.dim s.at f base) goal (len ∙ sym e) (subst (λ n. Within n ss) (sym e) within.1) (omega arith)
    (λ j lt w.
    let k : from + (s.dim + j) ≡ from + s.dim + j = omega arith in
    ap (at goal) (sym (in_rest s ss j)) ∙ written (s.dim + j) (omega arith) (rest_written s ss j ∙ w) ∙ ap (at f) k)
    (λ i rest. other i rest)
  where
    inner : (b : Bool) → s.writes ≡ b → (i : ℕ) → IsUnwritten ss i → (j : ℕ) → j < s.dim → s.at + j ≡ i → at goal i ≡ at (replaced s.writes from s.dim s.at f base) i
    inner true t i rest j lt e =
        ap (at goal) (sym e) ∙ ap (at goal) (sym (in_first s ss j lt)) ∙ written j (omega arith) (first_written s ss j lt ∙ t)
        ∙ sym (replaced_in s.writes from s.dim s.at f base (omega arith) within.0 t j lt) ∙ ap (at (replaced s.writes from s.dim s.at f base)) e
    inner false t i rest j lt e =
        others i (unwritten_more s ss i rest (λ n l k. t))
        ∙ ap (λ b. at (replaced b from s.dim s.at f base) i) (sym t)

    other : (i : ℕ) → IsUnwritten ss i → at goal i ≡ at (replaced s.writes from s.dim s.at f base) i
    other i = by_window s.at s.dim (λ n. IsUnwritten ss n → at goal n ≡ at (replaced s.writes from s.dim s.at f base) n) i
        (λ j lt rest. inner s.writes refl (s.at + j) rest j lt refl)
        (λ off rest. others i (unwritten_more s ss i rest (λ j l e. absurd (apart off j l e))) ∙ sym (replaced_off s.writes from s.dim s.at f base (omega arith) within.0 i off))
      where
        apart : (i < s.at) ⊎ (s.at + s.dim ≤ i) → (j : ℕ) → j < s.dim → s.at + j ≡ i → ⊥
        apart (inl l) j lt e = omega arith
        apart (inr l) j lt e = omega arith

-- ---- saved

-- the written spans' cells of a memory put into a list, from a place on
abbrev pub saved_from : ℕ → List ℤ → List Span → List ℤ → List ℤ
saved_from from m [] f = f
saved_from from m (s ∷ ss) f = saved_from (from + s.dim) m ss (replaced s.writes s.at s.dim from m f)

pub saved_before : (ss : List Span) (from : ℕ) (m f : List ℤ) → Within (length m) ss → from + total ss ≤ length f → (i : ℕ) → i < from → at (saved_from from m ss f) i ≡ at f i
saved_before [] from m f within room i lt = refl
saved_before (s ∷ ss) from m f within room i lt =
    let e : length (replaced s.writes s.at s.dim from m f) ≡ length f = replaced_length s.writes s.at s.dim from m f within.0 (omega arith) in
    saved_before ss (from + s.dim) m (replaced s.writes s.at s.dim from m f) within.1 (omega arith) i (omega arith)
    ∙ replaced_off s.writes s.at s.dim from m f within.0 (omega arith) i (inl lt)

pub saved_at : (ss : List Span) (from : ℕ) (m f : List ℤ) → Within (length m) ss → from + total ss ≤ length f → (j : ℕ) → j < total ss
    → is_written ss j ≡ true → at (saved_from from m ss f) (from + j) ≡ at m (stands_at ss j)
saved_at [] from m f within room j lt = absurd (omega arith)
saved_at (s ∷ ss) from m f within room j lt =
    let e : length (replaced s.writes s.at s.dim from m f) ≡ length f = replaced_length s.writes s.at s.dim from m f within.0 (omega arith) in
    by_span s ss (λ i. is_written (s ∷ ss) i ≡ true → at (saved_from (from + s.dim) m ss (replaced s.writes s.at s.dim from m f)) (from + i) ≡ at m (stands_at (s ∷ ss) i)) j lt
    (λ i l w. saved_before ss (from + s.dim) m (replaced s.writes s.at s.dim from m f) within.1 (omega arith) (from + i) (omega arith)
    ∙ replaced_in s.writes s.at s.dim from m f within.0 (omega arith) (sym (first_written s ss i l) ∙ w) i l ∙ ap (at m) (sym (in_first s ss i l)))
    (λ i l w.
    let k : from + (s.dim + i) ≡ from + s.dim + i = omega arith in
    ap (at (saved_from (from + s.dim) m ss (replaced s.writes s.at s.dim from m f))) k
    ∙ saved_at ss (from + s.dim) m (replaced s.writes s.at s.dim from m f) within.1 (omega arith) i l (sym (rest_written s ss i) ∙ w)
    ∙ ap (at m) (sym (in_rest s ss i)))

pub are_saved : (ss : List Span) (m f : List ℤ) → Within (length m) ss → total ss ≤ length f → AreSaved ss m (saved_from 0 m ss f)
are_saved ss m f within room j lt w =
    let e : 0 + j ≡ j = omega arith in
    ap (at (saved_from 0 m ss f)) (sym e) ∙ saved_at ss 0 m f within (omega arith) j lt w

-- saved cells that are put back make the memory what it was
pub put_back_is : (ss : List Span) (saved first spoiled : List ℤ) → Within (length spoiled) ss → total ss ≤ length saved
    → AreSaved ss first saved → AreKept ss first spoiled → scattered 0 saved ss spoiled ≡ first
put_back_is ss saved first spoiled within room are kept =
    scattered_is ss 0 saved spoiled first (sym kept.count) within (omega arith)
    (λ j lt w. let e : 0 + j ≡ j = omega arith in sym (are j lt w) ∙ ap (at saved) (sym e))
    (λ i un. sym (kept.cells i un))
