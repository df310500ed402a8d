-- What spans gather from a buffer with a tail, and what they put back there.
use Rattle.std.proofs.Common.{◌≡◌, ◌≤◌, ◌+◌, ℕ, zero, suc, ℤ, Bool, true, false, List, [], ◌∷◌, ◌++◌, length, take, drop, cond, refl, sym, ap, ap₂, ◌∙◌, subst, arith}
use Rattle.std.proofs.lemmas.List.{append_assoc, take-append-le, drop-append-le, length-append, length-drop, take_all}
use Rattle.std.proofs.Math.Seq.{drop-append-add, drop-append_seam}
use Rattle.rank_state.specs.declared.spans.Span.{Span}
use Rattle.rank_state.specs.declared.scalars.Scalar.{Scalar}
use Rattle.rank_state.specs.Spans.{Within, total, with_window, cells_at, gathered, scattered}
use Rattle.rank_state.specs.Frames.{Pane, Shut, Broken, Holds, closed}
use Rattle.rank_state.proofs.Public.{window_length, scattered_length}

-- a span of one cell for each scalar, from an index on
abbrev pub scalar_spans : ℕ → List Scalar → List Span
scalar_spans at [] = []
scalar_spans at (x ∷ xs) = record { at = at; dim = 1; writes = true } ∷ scalar_spans (suc at) xs

gathered_append : (m : List ℤ) (ss ts : List Span) → gathered m (ss ++ ts) ≡ gathered m ss ++ gathered m ts
gathered_append m [] ts = refl
gathered_append m (s ∷ ss) ts = ap (λ z. cells_at s.at s.dim m ++ z) (gathered_append m ss ts) ∙ sym (append_assoc (cells_at s.at s.dim m) (gathered m ss) (gathered m ts))

cells_front : (at n : ℕ) (c t : List ℤ) → at + n ≤ length c → cells_at at n (c ++ t) ≡ cells_at at n c
cells_front at n c t le =
    let long = length-drop at c in
    ap (take n) (drop-append-le at c t (omega (arith, le))) ∙ take-append-le n (drop at c) t (omega (arith, le, long))

gathered_front : (c t : List ℤ) (ss : List Span) → Within (length c) ss → gathered (c ++ t) ss ≡ gathered c ss
gathered_front c t [] h = refl
gathered_front c t (s ∷ ss) h = ap₂ (λ a b. a ++ b) (cells_front s.at s.dim c t h.0) (gathered_front c t ss h.1)

-- one cell of the tail
cell_behind : (c : List ℤ) (v : ℤ) (t : List ℤ) → cells_at (length c) 1 (c ++ v ∷ t) ≡ v ∷ []
cell_behind c v t = ap (take 1) (drop-append_seam c (v ∷ t))

gathered_tail : (c t : List ℤ) (at : ℕ) (xs : List Scalar) → at ≡ length c → length t ≡ length xs → gathered (c ++ t) (scalar_spans at xs) ≡ t
gathered_tail c [] at [] e n = refl
gathered_tail c [] at (x ∷ xs) e n = absurd (omega (arith, n))
gathered_tail c (v ∷ t) at [] e n = absurd (omega (arith, n))
gathered_tail c (v ∷ t) at (x ∷ xs) e n =
    let longer = length-append c (v ∷ []) in
    ap₂ (λ a b. a ++ b)
    (subst (λ z. cells_at z 1 (c ++ v ∷ t) ≡ v ∷ []) (sym e) (cell_behind c v t))
    (subst (λ m. gathered m (scalar_spans (suc at) xs) ≡ t) (append_assoc c (v ∷ []) t)
    (gathered_tail (c ++ v ∷ []) t (suc at) xs (omega (arith, e, longer)) (omega (arith, n))))

-- put back
scattered_append : (from : ℕ) (ws : List ℤ) (ss ts : List Span) (m : List ℤ) → scattered from ws (ss ++ ts) m ≡ scattered (from + total ss) ws ts (scattered from ws ss m)
scattered_append from ws [] ts m = let e : from ≡ from + 0 = omega arith in ap (λ z. scattered z ws ts m) e
scattered_append from ws (s ∷ ss) ts m =
    let e : from + s.dim + total ss ≡ from + (s.dim + total ss) = omega arith in
    scattered_append (from + s.dim) ws ss ts (cond s.writes (with_window s.at (cells_at from s.dim ws) m) m)
    ∙ ap (λ z. scattered z ws ts (scattered (from + s.dim) ws ss (cond s.writes (with_window s.at (cells_at from s.dim ws) m) m))) e

window_front : (at : ℕ) (w c t : List ℤ) → at + length w ≤ length c → with_window at w (c ++ t) ≡ with_window at w c ++ t
window_front at w c t le =
    ap₂ (λ a b. a ++ (w ++ b)) (take-append-le at c t (omega (arith, le))) (drop-append-le (at + length w) c t le)
    ∙ ap (λ z. take at c ++ z) (sym (append_assoc w (drop (at + length w) c) t))
    ∙ sym (append_assoc (take at c) (w ++ drop (at + length w) c) t)

pub cells_length : (from n : ℕ) (ws : List ℤ) → from + n ≤ length ws → length (cells_at from n ws) ≡ n
cells_length from n ws le = Rattle.std.proofs.lemmas.List.length-take-le n (drop from ws) (let long = length-drop from ws in omega (arith, le, long))

put_front : (b : Bool) (at : ℕ) (w c t : List ℤ) → at + length w ≤ length c → cond b (with_window at w (c ++ t)) (c ++ t) ≡ cond b (with_window at w c) c ++ t
put_front false at w c t le = refl
put_front true at w c t le = window_front at w c t le

put_length : (b : Bool) (at : ℕ) (w c : List ℤ) → at + length w ≤ length c → length (cond b (with_window at w c) c) ≡ length c
put_length false at w c le = refl
put_length true at w c le = window_length at w c le

scattered_front : (from : ℕ) (ws : List ℤ) (ss : List Span) (c t : List ℤ) → Within (length c) ss → from + total ss ≤ length ws
    → scattered from ws ss (c ++ t) ≡ scattered from ws ss c ++ t
scattered_front from ws [] c t h le = refl
scattered_front from ws (s ∷ ss) c t h le =
    let w = cells_at from s.dim ws in
    let count : length w ≡ s.dim = cells_length from s.dim ws (omega (arith, le)) in
    let room : s.at + length w ≤ length c = (let fits = h.0 in omega (arith, fits, count)) in
    ap (scattered (from + s.dim) ws ss) (put_front s.writes s.at w c t room)
    ∙ scattered_front (from + s.dim) ws ss (cond s.writes (with_window s.at w c) c) t
    (subst (λ n. Within n ss) (sym (put_length s.writes s.at w c room)) h.1) (omega (arith, le))

window_behind : (c : List ℤ) (v w : ℤ) (t : List ℤ) → with_window (length c) (w ∷ []) (c ++ v ∷ t) ≡ c ++ w ∷ t
window_behind c v w t =
    ap₂ (λ a b. a ++ (w ∷ b)) (Rattle.std.proofs.Math.Seq.take-append_seam c (v ∷ t)) (drop-append-add c (v ∷ t) 1)

first_of : (from : ℕ) (ws : List ℤ) → from + 1 ≤ length ws → (w : ℤ) × (cells_at from 1 ws ≡ w ∷ []) × (drop from ws ≡ w ∷ drop (from + 1) ws)
first_of from [] le = absurd (omega (arith, le))
first_of zero (w ∷ ws) le = (w, refl, refl)
first_of (suc from) (w ∷ ws) le =
    let rest = first_of from ws (omega (arith, le)) in
    let next : suc (from + 1) ≡ suc from + 1 = omega arith in
    (rest.0, rest.1, rest.2 ∙ ap (λ n. rest.0 ∷ drop n (w ∷ ws)) next)

scattered_tail : (from : ℕ) (ws : List ℤ) (at : ℕ) (xs : List Scalar) (c t : List ℤ) → at ≡ length c → length t ≡ length xs → from + length xs ≤ length ws
    → scattered from ws (scalar_spans at xs) (c ++ t) ≡ c ++ take (length xs) (drop from ws)
scattered_tail from ws at [] c [] e n le = refl
scattered_tail from ws at [] c (v ∷ t) e n le = absurd (omega (arith, n))
scattered_tail from ws at (x ∷ xs) c [] e n le = absurd (omega (arith, n))
scattered_tail from ws at (x ∷ xs) c (v ∷ t) e n le =
    let one = first_of from ws (omega (arith, le)) in
    let w = one.0 in
    let longer = length-append c (w ∷ []) in
    ap (λ z. scattered (from + 1) ws (scalar_spans (suc at) xs) z)
    (subst (λ z. with_window z (cells_at from 1 ws) (c ++ v ∷ t) ≡ c ++ w ∷ t) (sym e) (ap (λ z. with_window (length c) z (c ++ v ∷ t)) one.1 ∙ window_behind c v w t))
    ∙ subst (λ m. scattered (from + 1) ws (scalar_spans (suc at) xs) m ≡ c ++ w ∷ take (length xs) (drop (from + 1) ws)) (append_assoc c (w ∷ []) t)
    (scattered_tail (from + 1) ws (suc at) xs (c ++ w ∷ []) t (omega (arith, e, longer)) (omega (arith, n)) (omega (arith, le))
    ∙ append_assoc c (w ∷ []) (take (length xs) (drop (from + 1) ws)))
    ∙ ap (λ z. c ++ take (suc (length xs)) z) (sym one.2)

-- ---- a run on a buffer with a tail

pub gathered_all : (c fs : List ℤ) (ss : List Span) (xs : List Scalar) → Within (length c) ss → length fs ≡ length xs
    → gathered (c ++ fs) (ss ++ scalar_spans (length c) xs) ≡ gathered c ss ++ fs
gathered_all c fs ss xs h n =
    gathered_append (c ++ fs) ss (scalar_spans (length c) xs)
    ∙ ap₂ (λ a b. a ++ b) (gathered_front c fs ss h) (gathered_tail c fs (length c) xs refl n)

-- what a run leaves behind the buffer's own cells: the last cells of its windows, or what was there where it faulted
abbrev pub tail_after : ℕ → Pane → List ℤ → List ℤ
tail_after n Shut fs = fs
tail_after n (Broken k) fs = fs
tail_after n (Holds k ws) fs = drop n ws

-- a pane that holds windows holds so many cells
abbrev pub HasCells : ℕ → Pane → Type 0
HasCells n Shut = Unit {0}
HasCells n (Broken k) = Unit {0}
HasCells n (Holds k ws) = length ws ≡ n

pub closed_all : (c fs : List ℤ) (ss : List Span) (xs : List Scalar) (p : Pane) → Within (length c) ss → length fs ≡ length xs → HasCells (total ss + length xs) p
    → closed (ss ++ scalar_spans (length c) xs) p (c ++ fs) ≡ closed ss p c ++ tail_after (total ss) p fs
closed_all c fs ss xs Shut h n e = refl
closed_all c fs ss xs (Broken k) h n e = refl
closed_all c fs ss xs (Holds k ws) h n e =
    let long = length-drop (total ss) ws in
    let same : length (scattered 0 ws ss c) ≡ length c = scattered_length 0 ws ss c h (omega (arith, e)) in
    scattered_append 0 ws ss (scalar_spans (length c) xs) (c ++ fs)
    ∙ ap (scattered (0 + total ss) ws (scalar_spans (length c) xs)) (scattered_front 0 ws ss c fs h (omega (arith, e)))
    ∙ (let zero_front : 0 + total ss ≡ total ss = omega arith in ap (λ z. scattered z ws (scalar_spans (length c) xs) (scattered 0 ws ss c ++ fs)) zero_front)
    ∙ scattered_tail (total ss) ws (length c) xs (scattered 0 ws ss c) fs (sym same) n (omega (arith, e))
    ∙ ap (λ z. scattered 0 ws ss c ++ z) (take_all (length xs) (drop (total ss) ws) (omega (arith, long, e)))
