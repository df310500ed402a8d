-- A row that was written keeps its length.
use Rattle.std.proofs.Common.{◌≡◌, ℕ, ℤ, ◌+◌, ◌<◌, ◌≤◌, List, [], ◌∷◌, ◌++◌, length, take, get_or, set, append_assoc, sym, ap, ◌∙◌, arith, ⊎_elim, length-set}
use Rattle.std.proofs.lemmas.Bool.{cases_eq}
use Rattle.std.proofs.lemmas.List.{get_or-set_same, get_or-set_other}
use Rattle.std.proofs.lemmas.Grind.{common_steps}
use Rattle.rank_state.specs.Spans.{with_window, cells_at}
use Rattle.rank_state.specs.declared.owned.Owned.{Owned}
use Rattle.rank_state.specs.Ordered.{Within_all, total_all, gathered_all, scattered_all}
use Rattle.rank_state.proofs.rank_memory.Gathering.{window_front}

window_length : (at : ℕ) (w m : List ℤ) → at + length w ≤ length m → length (with_window at w m) ≡ length m
window_length at w m h = grind (arith, common_steps)

cells_length : (from dim : ℕ) (f : List ℤ) → from + dim ≤ length f → length (cells_at from dim f) ≡ dim
cells_length from dim f h = grind (arith, common_steps)

within_kept : (ms ns : List (List ℤ)) (ss : List Owned) → length ns ≡ length ms → ((i : ℕ) → length (get_or ns i []) ≡ length (get_or ms i [])) → Within_all ms ss → Within_all ns ss
within_kept ms ns [] a b h = tt
within_kept ms ns (s ∷ ss) a b h = (omega (arith, h.0), omega (arith, b s.rank, h.1), within_kept ms ns ss a b h.2)

rows_kept : (r at : ℕ) (w : List ℤ) (ms : List (List ℤ)) → at + length w ≤ length (get_or ms r []) → r < length ms → (i : ℕ)
    → length (get_or (set ms r (with_window at w (get_or ms r []))) i []) ≡ length (get_or ms i [])
rows_kept r at w ms h k i = ⊎_elim
    (λ (e : i ≡ r). ap (λ j. length (get_or (set ms r (with_window at w (get_or ms r []))) j [])) e
    ∙ ap length (get_or-set_same ms r (with_window at w (get_or ms r [])) [] k) ∙ window_length at w (get_or ms r []) h
    ∙ ap (λ j. length (get_or ms j [])) (sym e))
    (λ (e : i ≡ r → ⊥). ap length (get_or-set_other ms r i (with_window at w (get_or ms r [])) [] e))
    (cases_eq i r)

-- one more span is put back
pub next_put : (from : ℕ) (f : List ℤ) (s : Owned) (ss : List Owned) (ms ns : List (List ℤ)) → Within_all ms (s ∷ ss)
    → from + total_all (s ∷ ss) ≤ length f → ns ≡ set ms s.rank (with_window s.at (cells_at from s.dim f) (get_or ms s.rank []))
    → Within_all ns ss × (scattered_all (from + s.dim) f ss ns ≡ scattered_all from f (s ∷ ss) ms)
next_put from f s ss ms ns h k e =
    let w : length (cells_at from s.dim f) ≡ s.dim = cells_length from s.dim f (omega arith) in
    let r = rows_kept s.rank s.at (cells_at from s.dim f) ms (omega (arith, h.1)) h.0 in
    let n = length-set ms s.rank (with_window s.at (cells_at from s.dim f) (get_or ms s.rank [])) in (
      within_kept ms ns ss (ap length e ∙ n) (λ i. ap (λ (xs : List (List ℤ)). length (get_or xs i [])) e ∙ r i) h.2,
      ap (scattered_all (from + s.dim) f ss) e,
    )

-- one more span is copied into the frame
pub next_gathered : (from : ℕ) (f new : List ℤ) (s : Owned) (ss all : List Owned) (ms : List (List ℤ)) → Within_all ms (s ∷ ss)
    → from + (s.dim + total_all ss) ≤ length f → take from f ++ gathered_all ms (s ∷ ss) ≡ gathered_all ms all
    → new ≡ with_window from (cells_at s.at s.dim (get_or ms s.rank [])) f → take (from + s.dim) new ++ gathered_all ms ss ≡ gathered_all ms all
next_gathered from f new s ss all ms h room done e =
    let w : length (cells_at s.at s.dim (get_or ms s.rank [])) ≡ s.dim = cells_length s.at s.dim (get_or ms s.rank []) h.1 in
    ap (λ z. take (from + s.dim) z ++ gathered_all ms ss) e
    ∙ (ap (λ n. take (from + n) (with_window from (cells_at s.at s.dim (get_or ms s.rank [])) f) ++ gathered_all ms ss) (sym w)
    ∙ (ap (λ z. z ++ gathered_all ms ss) (window_front from (cells_at s.at s.dim (get_or ms s.rank [])) f (omega arith))
    ∙ (append_assoc (take from f) (cells_at s.at s.dim (get_or ms s.rank [])) (gathered_all ms ss) ∙ done)))
