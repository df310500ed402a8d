-- A run on a memory's own cells ends as that on the windows which are gathered from it.
use Rattle.std.proofs.Common.{◌≡◌, ℕ, zero, suc, ℤ, ◌+◌, ◌-◌, ◌<◌, ◌≤◌, false, ◌⊎◌, inl, inr, ⊎_elim, List, [], ◌∷◌, length, refl, sym, ap, subst, ◌∙◌, arith}
use Rattle.std.specs.Prelude.{slice_index_or}
use Rattle.std.proofs.lemmas.Bool.{cases_lt, cases_eq}
use Rattle.kernel_model.specs.declared.types.kernels.RKernel.{RKernel}
use Rattle.kernel_model.specs.Meaning.{Store, cell, Target, target_at, Ran, Finished, Stopped, kernel_meaning}
use Rattle.kernel_model.specs.Independence.{store_after, Fits, IsReached, OthersStay, ReadsStay, ShapeStays, IsCopy, SameEnd, Transport}
use Rattle.kernel_model.specs.StoredThrough.{UnstoredStay}
use Rattle.rank_state.specs.declared.spans.Span.{Span}
use Rattle.rank_state.specs.Spans.{Within, total, gathered}
use Rattle.kernel_runs.specs.Standing.{stands_at, is_written, Apart, IsUnwritten}
use Rattle.kernel_runs.specs.InPlace.{NameTheSame, LeavesUnwritten, IsSpared, EndsInPlace, RunsInPlace}
use Rattle.kernel_runs.specs.Leaving.{InWindows, ObeyingLeave, UnstoringLeave}
use Rattle.kernel_runs.proofs.OneArray.{one_array, read_first}
use Rattle.kernel_runs.proofs.in_place.Standings.{at, stands_within, gathered_length, gathered_at}
use Rattle.kernel_runs.proofs.in_place.Scattering.{scattered_is}
use Rattle.lemmas.proofs.Numbers.{eq_both}

-- ---- which cells are reached

abbrev Reaches : Target → ℕ → ℕ → Type 0
Reaches t x j = (i : ℕ) × (i < t.count) × (t.array ≡ x) × (t.from + i ≡ j)

reaches : (t : Target) (x j : ℕ) → Reaches t x j ⊎ (Reaches t x j → ⊥)
reaches t x j = ⊎_elim
    (λ (e : t.array ≡ x). ⊎_elim
    (λ (l : j < t.from). inr (λ (r : Reaches t x j). omega (arith, r.1, r.3)))
    (λ (l : t.from ≤ j). ⊎_elim
    (λ (u : j < t.from + t.count).
    let i : j - t.from < t.count = omega arith in
    let k : t.from + (j - t.from) ≡ j = omega arith in
    inl (j - t.from, i, e, k))
    (λ (u : t.from + t.count ≤ j). inr (λ (r : Reaches t x j). omega (arith, r.1, r.3)))
    (cases_lt j (t.from + t.count)))
    (cases_lt j t.from))
    (λ (n : t.array ≡ x → ⊥). inr (λ (r : Reaches t x j). n r.2))
    (cases_eq t.array x)

none_reaches : (t : Target) (ts : List Target) (x j : ℕ) → (Reaches t x j → ⊥) → (IsReached ts x j → ⊥) → (a i : ℕ)
    → i < (target_at (t ∷ ts) a).count → (target_at (t ∷ ts) a).array ≡ x → (target_at (t ∷ ts) a).from + i ≡ j → ⊥
none_reaches t ts x j n m zero i lt e f = n (i, lt, e, f)
none_reaches t ts x j n m (suc a) i lt e f = m (a, i, lt, e, f)

reached : (ts : List Target) (x j : ℕ) → IsReached ts x j ⊎ (IsReached ts x j → ⊥)
reached [] x j = inr (λ (r : IsReached [] x j). omega (arith, r.2))
reached (t ∷ ts) x j = ⊎_elim
    (λ (h : Reaches t x j). inl (0, h.0, h.1, h.2, h.3))
    (λ (n : Reaches t x j → ⊥). ⊎_elim
    (λ (r : IsReached ts x j). inl (suc r.0, r.1, r.2, r.3, r.4))
    (λ (m : IsReached ts x j → ⊥). inr (λ (r : IsReached (t ∷ ts) x j). none_reaches t ts x j n m r.0 r.1 r.2 r.3 r.4))
    (reached ts x j))
    (reaches t x j)

-- ---- targets in windows

fits_windows : (spans : List Span) (ts : List Target) → InWindows spans ts → (ws : List ℤ) → length ws ≡ total spans → Fits ts (ws ∷ [])
fits_windows spans ts inside ws long = record {
  arrays = λ a i lt. subst (λ x. x < 1) (sym (inside a i lt).0) (omega arith);
  cells = λ a i lt.
      subst (λ x. (target_at ts a).from + i < length (slice_index_or (ws ∷ []) x [])) (sym (inside a i lt).0)
      (subst (λ n. (target_at ts a).from + i < n) (sym long) (inside a i lt).1);
}

only_array : (s : Store) → length s ≡ 1 → s ≡ slice_index_or s 0 [] ∷ []
only_array [] e = absurd (omega arith)
only_array (x ∷ []) e = refl
only_array (x ∷ y ∷ zs) e = absurd (omega arith)

-- ---- the runs

module _ (k : RKernel) (consts m : List ℤ) (spans : List Span) (ts us : List Target) (within : Within (length m) spans) (apart : Apart spans) (same : NameTheSame spans ts us) where
  in_ts : (a i : ℕ) → i < (target_at us a).count → i < (target_at ts a).count
  in_ts a i lt = subst (λ n. i < n) (sym (same.counts a)) lt

  in_memory : Fits us (m ∷ [])
  in_memory = record {
    arrays = λ a i lt. subst (λ x. x < 1) (sym (same.in_memory a)) (omega arith);
    cells = λ a i lt.
        let l : i < (target_at ts a).count = in_ts a i lt in
        subst (λ x. (target_at us a).from + i < length (slice_index_or (m ∷ []) x [])) (sym (same.in_memory a))
        (subst (λ x. x < length m) (same.cells a i l) (stands_within (length m) spans within ((target_at ts a).from + i) (same.inside a i l)));
  }

  gathered_long : length (gathered m spans) ≡ total spans
  gathered_long = gathered_length m spans within

  in_windows : Fits ts (gathered m spans ∷ [])
  in_windows = fits_windows spans ts (λ a i lt. (same.in_windows a, same.inside a i lt)) (gathered m spans) gathered_long

  copy : IsCopy us ts (m ∷ []) (gathered m spans ∷ [])
  copy = record {
    counts = λ a. sym (same.counts a);
    aliases = λ a i b j lt mt.
        let li : i < (target_at ts a).count = in_ts a i lt in
        let lj : j < (target_at ts b).count = in_ts b j mt in
        one_array us same.in_memory a i b j
        ∙ eq_both ((target_at us a).from + i) ((target_at us b).from + j) ((target_at ts a).from + i) ((target_at ts b).from + j)
        (λ e. apart ((target_at ts a).from + i) ((target_at ts b).from + j) (same.inside a i li) (same.inside b j lj) (same.cells a i li ∙ e ∙ sym (same.cells b j lj)))
        (λ e. sym (same.cells a i li) ∙ ap (stands_at spans) e ∙ same.cells b j lj)
        ∙ sym (one_array ts same.in_windows a i b j);
    cells = λ a i lt.
        let li : i < (target_at ts a).count = in_ts a i lt in
        read_first us same.in_memory (m ∷ []) a i
        ∙ ap (at m) (sym (same.cells a i li)) ∙ sym (gathered_at m spans within ((target_at ts a).from + i) (same.inside a i li))
        ∙ sym (read_first ts same.in_windows (gathered m spans ∷ []) a i);
  }

  abbrev memory_after : Store
  memory_after = store_after (kernel_meaning us consts k (m ∷ []))

  abbrev windows_after : Store
  windows_after = store_after (kernel_meaning ts consts k (gathered m spans ∷ []))

  module _ (transport : Transport) (others : OthersStay) where
    both : SameEnd (kernel_meaning us consts k (m ∷ [])) (kernel_meaning ts consts k (gathered m spans ∷ [])) × IsCopy us ts memory_after windows_after
    both = transport k consts us ts (m ∷ []) (gathered m spans ∷ []) in_memory in_windows copy

    -- each gathered cell is in both what the run leaves
    same_after : (j : ℕ) → j < total spans → cell memory_after 0 (stands_at spans j) ≡ cell windows_after 0 j
    same_after j lt = ⊎_elim
        (λ (r : IsReached ts 0 j).
        let e : stands_at spans j ≡ (target_at us r.0).from + r.1 = ap (stands_at spans) (sym r.4) ∙ same.cells r.0 r.1 r.2 in
        ap (cell memory_after 0) e
        ∙ sym (read_first us same.in_memory memory_after r.0 r.1)
        ∙ both.1.cells r.0 r.1 (subst (λ n. r.1 < n) (same.counts r.0) r.2)
        ∙ read_first ts same.in_windows windows_after r.0 r.1
        ∙ ap (cell windows_after 0) r.4)
        (λ (n : IsReached ts 0 j → ⊥).
        others k us consts (m ∷ []) 0 (stands_at spans j) in_memory
        (λ (r : IsReached us 0 (stands_at spans j)).
        let l : r.1 < (target_at ts r.0).count = in_ts r.0 r.1 r.2 in
        n (r.0, r.1, l, same.in_windows r.0, apart ((target_at ts r.0).from + r.1) j (same.inside r.0 r.1 l) lt (same.cells r.0 r.1 l ∙ r.4)))
        ∙ sym (gathered_at m spans within j lt)
        ∙ sym (others k ts consts (gathered m spans ∷ []) 0 j in_windows n))
        (reached ts 0 j)

    -- what no argument in a written span reaches stays
    spared_after : LeavesUnwritten spans ts consts k → (i : ℕ) → IsSpared spans ts us i → cell memory_after 0 i ≡ at m i
    spared_after leaves i spared = ⊎_elim
        (λ (r : IsReached us 0 i).
        let l : r.1 < (target_at ts r.0).count = in_ts r.0 r.1 r.2 in
        let in_it : (target_at ts r.0).from + r.1 < total spans = same.inside r.0 r.1 l in
        let e : stands_at spans ((target_at ts r.0).from + r.1) ≡ i = same.cells r.0 r.1 l ∙ r.4 in
        ap (cell memory_after 0) (sym e)
        ∙ same_after ((target_at ts r.0).from + r.1) in_it
        ∙ leaves (gathered m spans) ((target_at ts r.0).from + r.1) gathered_long in_it (spared r.0 r.1 l r.4)
        ∙ gathered_at m spans within ((target_at ts r.0).from + r.1) in_it
        ∙ ap (at m) e)
        (λ (n : IsReached us 0 i → ⊥). others k us consts (m ∷ []) 0 i in_memory n)
        (reached us 0 i)

  -- what no written span has is spared
  unwritten_spared : (i : ℕ) → IsUnwritten spans i → IsSpared spans ts us i
  unwritten_spared i un a n lt e = un ((target_at ts a).from + n) (same.inside a n lt) (same.cells a n lt ∙ e)

  ends : (x y : Ran) → SameEnd x y → length (store_after x) ≡ 1 → length (slice_index_or (store_after x) 0 []) ≡ length m → length (slice_index_or (store_after y) 0 []) ≡ total spans
      → ((j : ℕ) → j < total spans → cell (store_after x) 0 (stands_at spans j) ≡ cell (store_after y) 0 j)
      → ((i : ℕ) → IsSpared spans ts us i → cell (store_after x) 0 i ≡ at m i)
      → EndsInPlace spans ts us m x y
  ends (Finished s) (Finished t) end one long wide reach stay =
      only_array s one
      ∙ ap (λ z. z ∷ []) (sym (scattered_is spans 0 (slice_index_or t 0 []) m (slice_index_or s 0 []) long within (omega arith)
      (λ j lt w. let e : 0 + j ≡ j = omega arith in reach j lt ∙ ap (at (slice_index_or t 0 [])) (sym e))
      (λ i un. stay i (unwritten_spared i un))))
  ends (Stopped s f) (Stopped t g) end one long wide reach stay = (end, record { count = long; cells = stay })
  ends (Finished s) (Stopped t g) end one long wide reach stay = absurd end
  ends (Stopped s f) (Finished t) end one long wide reach stay = absurd end

pub in_place : Transport → OthersStay → ShapeStays → RunsInPlace
in_place transport others shape k consts m spans ts us within apart same leaves =
    let fits = in_memory k consts m spans ts us within apart same in
    let fits_windows = in_windows k consts m spans ts us within apart same in
    ends k consts m spans ts us within apart same (kernel_meaning us consts k (m ∷ [])) (kernel_meaning ts consts k (gathered m spans ∷ []))
    (both k consts m spans ts us within apart same transport others).0
    (shape k us consts (m ∷ []) fits).0
    ((shape k us consts (m ∷ []) fits).1 0)
    ((shape k ts consts (gathered m spans ∷ []) fits_windows).1 0 ∙ gathered_length m spans within)
    (same_after k consts m spans ts us within apart same transport others)
    (spared_after k consts m spans ts us within apart same transport others leaves)

-- ---- kernels that leave the cells of spans that aren't written

pub obeying_leave : ReadsStay → ObeyingLeave
obeying_leave reads k modes consts spans ts inside obeys only ws j long lt un =
    reads k modes ts consts (ws ∷ []) 0 j obeys (fits_windows spans ts inside ws long)
    (λ a i l e f. only a i l (subst (λ n. is_written spans n ≡ false) (sym f) un))

pub unstoring_leave : UnstoredStay → UnstoringLeave
unstoring_leave unstored k consts spans ts inside none ws j long lt un =
    unstored k ts consts (ws ∷ []) 0 j (fits_windows spans ts inside ws long)
    (λ a i l e f. none a i l (subst (λ n. is_written spans n ≡ false) (sym f) un))
