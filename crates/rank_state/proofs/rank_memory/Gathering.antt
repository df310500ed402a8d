-- Cells that were copied into a frame.
use Rattle.std.proofs.Common.{◌≡◌, ℕ, ℤ, ◌+◌, ◌≤◌, List, [], ◌∷◌, ◌++◌, length, take, drop, sym, ap, ap₂, ◌∙◌, arith, append_assoc, add-zero, append-nil}
use Rattle.std.proofs.lemmas.Grind.{common_steps}
use Rattle.std.proofs.Math.Seq.{take-append_seam}
use Rattle.rank_state.specs.declared.spans.Span.{Span}
use Rattle.rank_state.specs.Spans.{Within, total, with_window, cells_at, gathered, filled}

pub cells_length : (at dim : ℕ) (m : List ℤ) → at + dim ≤ length m → length (cells_at at dim m) ≡ dim
cells_length at dim m h = grind (arith, common_steps)

pub window_length : (at : ℕ) (w m : List ℤ) → at + length w ≤ length m → length (with_window at w m) ≡ length m
window_length at w m h = grind (arith, common_steps)

-- the front of what has a window set, up to the window's end
pub window_front : (at : ℕ) (w m : List ℤ) → at + length w ≤ length m → take (at + length w) (with_window at w m) ≡ take at m ++ w
window_front at w m h =
    let e : at + length w ≡ length (take at m ++ w) = grind (arith, common_steps) in
    ap₂ take e (sym (append_assoc (take at m) w (drop (at + length w) m))) ∙ take-append_seam (take at m ++ w) (drop (at + length w) m)

pub filled_front : (from : ℕ) (m : List ℤ) (ss : List Span) (f : List ℤ) → from + total ss ≤ length f → Within (length m) ss
    → take (from + total ss) (filled from m ss f) ≡ take from f ++ gathered m ss
filled_front from m [] f h k = rw (add-zero) (sym (append-nil (take from f)))
filled_front from m (s ∷ ss) f h k =
    let w = cells_at s.at s.dim m in
    let lw : length (cells_at s.at s.dim m) ≡ s.dim = cells_length s.at s.dim m k.0 in
    let ih : take ((from + s.dim) + total ss) (filled (from + s.dim) m ss (with_window from (cells_at s.at s.dim m) f)) ≡ take
    (from + s.dim) (with_window from (cells_at s.at s.dim m) f) ++ gathered m ss =
    filled_front (from + s.dim) m ss (with_window from (cells_at s.at s.dim m) f) (omega (arith, window_length from (cells_at s.at s.dim m) f (omega arith))) k.1 in
    let e : from + (s.dim + total ss) ≡ (from + s.dim) + total ss = omega arith in
    let front : take (from + s.dim) (with_window from (cells_at s.at s.dim m) f) ≡ take from f ++ cells_at s.at s.dim m =
    ap (λ n. take (from + n) (with_window from (cells_at s.at s.dim m) f)) (sym lw) ∙ window_front from (cells_at s.at s.dim m) f (omega arith) in
    ap (λ n. take n (filled (from + s.dim) m ss (with_window from (cells_at s.at s.dim m) f))) e ∙ ih ∙ ap (λ x. x ++ gathered m ss) front
    ∙ append_assoc (take from f) (cells_at s.at s.dim m) (gathered m ss)
